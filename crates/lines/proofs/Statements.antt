-- Statement lines: how long they are, read and written.
use Rattle.std.proofs.Common.{◌≡◌, ℕ, suc, ◌-◌, ◌*◌, ◌≤◌, min, List, [], ◌∷◌, ◌++◌, length, get_or, take, drop, decimal, Result, Ok, MatchResult, IsErrAnd, sym, refl, ap, ◌∙◌, subst, append-nil, arith}
use Rattle.std.specs.List.{AllByRecursion}
use Rattle.std.proofs.lemmas.List.{length-append, take_all}
use Rattle.lines.specs.Kinds.{Short}
use Rattle.lines.specs.Lines.{fields_text, statement_line, StatementText, IsStatement, LongestStart}
use Rattle.lines.specs.Grammar.{ten_numbers, Writes, shape, feed, Stuck, Done}
use Rattle.lines.specs.declared.read.Faulty.{Faulty}
use Rattle.lines.specs.declared.statement.StatementLine.{StatementLine}
use Rattle.lines.specs.Statements.{values_of, ReadsStatement}
use Rattle.lines.proofs.Tops.{writes_to, writes_from, faulty, told}
use Rattle.lines.specs.Texts.{cut}
use Rattle.lines.proofs.Lengths.{len_number, start_length}
use Rattle.lines.proofs.Made.{started, ended}

len_fields_16 : (ns : List ℕ) → AllByRecursion (Short 16) ns → length (fields_text ns) ≤ 17 * length ns
len_fields_16 [] h = omega arith
len_fields_16 (n ∷ ns) h =
    let a = length-append (decimal n) (fields_text ns) in
    let b = len_number 16 n (omega arith, omega arith) h.0 in
    let e = len_fields_16 ns h.1 in
    omega arith

pub statement_length : (ns w : List ℕ) → StatementText ns w → length w ≤ 170
statement_length [] w h = absurd (omega (arith, h.ten))
statement_length (n ∷ ns) w h =
    let d = len_number 16 n (omega arith, omega arith) h.short.0 in
    let f = len_fields_16 ns h.short.1 in
    let e = ap length h.is in
    let a = length-append (decimal n) (fields_text ns ++ (10 ∷ [])) in
    let b = length-append (fields_text ns) (10 ∷ []) in
    omega (arith, h.ten)

pub statement_start : (s : List ℕ) (n : ℕ) → LongestStart IsStatement s n → n ≤ 170
statement_start s n h = start_length IsStatement 170 s n (λ w l. statement_length l.0 w l.1) h

statement_to : (ns w : List ℕ) → StatementText ns w → Writes ten_numbers ns w
statement_to [] w h = absurd (omega (arith, h.ten))
statement_to (n ∷ ns) w h =
    let nine : length ns ≡ 9 = omega (arith, h.ten) in
    let v = fields_text ns ++ (10 ∷ []) in
    let tail : Writes (shape 16 9 feed) ns v = subst (λ m. Writes (shape 16 m feed) ns v) nine (subst (λ l. Writes (shape 16 (length ns) feed) l v) (append-nil ns) (writes_to 16 ns [] feed (10 ∷ []) h.short.1 ([], refl, (refl, refl)))) in
    (n, ns, v, refl, h.short.0, h.is, tail)

statement_from : (ns w : List ℕ) → Writes ten_numbers ns w → StatementText ns w
statement_from ns w h =
    let p = writes_from 16 9 feed h.1 h.2 h.6 in
    let q = p.7 in
    let rest : p.2 ≡ 10 ∷ [] = q.1 ∙ ap (λ l. 10 ∷ l) q.2.1 in
    let same : h.1 ≡ p.0 = p.5 ∙ ap (λ l. p.0 ++ l) q.2.0 ∙ append-nil p.0 in
    let all : ns ≡ h.0 ∷ p.0 = h.3 ∙ ap (λ l. h.0 ∷ l) same in
    subst (λ l. StatementText l w) (sym all)
    (record {
      ten = ap suc p.3;
      short = (h.4, p.4);
      is = h.5 ∙ ap (λ l. decimal h.0 ++ l) (p.6 ∙ ap (λ l. fields_text p.0 ++ l) rest);
    })

pub statement_faulty : (s : List ℕ) (left : ℕ) → Stuck (Writes ten_numbers) s left → LongestStart IsStatement s (length s - left)
statement_faulty s left st = faulty IsStatement (Writes ten_numbers) s left _ (λ ms w h. (ms, statement_from ms w h)) (λ w l. (l.0, statement_to l.0 w l.1)) st refl

-- ten numbers, or the start of the fault
pub statement_told : (w : List ℕ) (r : Result (List ℕ) ℕ) (q : Result (List ℕ) Faulty) (G : ℕ → Faulty → Type 0) → MatchResult r (Done (Writes ten_numbers) w) (Stuck (Writes ten_numbers) w) → MatchResult r (λ ns. q ≡ Ok ns) (λ e. IsErrAnd q (G e)) → ((e : ℕ) (f : Faulty) → G e f → f.start ≡ min (length w - e) 170) → MatchResult q (Done (Writes ten_numbers) w) (λ f. LongestStart IsStatement w f.start × (f.start ≤ 170))
statement_told w r q G h at by = told IsStatement 170 w r q (Done (Writes ten_numbers) w) (Stuck (Writes ten_numbers) w) G h at (statement_faulty w) (statement_start w) (omega arith) by

pub statement_read : (w ns : List ℕ) (s : StatementLine) → Done (Writes ten_numbers) w ns → values_of s ≡ ns → ReadsStatement w s
statement_read w ns s h e = record {
  is = subst (λ l. StatementText l w) (sym e) (statement_from ns w h.is);
  only = λ ms t. h.only ms (statement_to ms w t) ∙ sym e;
}

pub statement_made : (all new t u v : List ℕ) → length all ≡ 10 → AllByRecursion (Short 16) all → new ≡ [] → t ≡ cut (new ++ decimal (get_or all 0 0)) → u ≡ cut (t ++ fields_text (take 9 (drop 1 all))) → v ≡ cut (u ++ (10 ∷ [])) → StatementText all v
statement_made [] new t u v ten short e f g h = absurd (omega arith)
statement_made (n ∷ ns) new t u v ten short e f g h =
    let l = statement_length (n ∷ ns) (statement_line (n ∷ ns)) (record { ten = ten; short = short; is = refl }) in
    record { ten = ten; short = short; is = ended n u v (fields_text ns) (10 ∷ []) l (started n new t u (fields_text ns) e f (g ∙ ap (λ l. cut (t ++ fields_text l)) (take_all 9 ns (omega arith)))) h }
