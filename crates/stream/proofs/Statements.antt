-- The statement lines behind a filled line, one after another.
use Rattle.std.proofs.Common.{◌≡◌, ℕ, zero, suc, ◌+◌, ◌<◌, ◌≤◌, List, [], ◌∷◌, ◌++◌, length, take, get_or, ap, sym, ◌∙◌, refl, subst, append_assoc, append-nil, arith, add-one, ⊎_elim}
use Rattle.std.proofs.Math.Seq.{take-suc}
use Rattle.std.proofs.lemmas.Bool.{cases_lt}
use Rattle.std.proofs.lemmas.List.{get_or-take, take_all}
use Rattle.settlement.specs.declared.line.Line.{Line}
use Rattle.lines.specs.Lines.{StatementText, statement_line}
use Rattle.host.specs.Places.{empty_line, line_numbers, numbers_at}
use Rattle.archive.specs.Archive.{AreWritten}
use Rattle.stream.specs.Outputs.{Out, Puts, Fails}
use Rattle.stream.specs.Streams.{joined, statements_text}
use Rattle.stream.proofs.Putting.{puts_more, puts_fail, fails_more}

joined_append : (ts us : List (List ℕ)) → joined (ts ++ us) ≡ joined ts ++ joined us
joined_append [] us = refl
joined_append (t ∷ ts) us = ap (λ l. t ++ l) (joined_append ts us) ∙ sym (append_assoc t (joined ts) (joined us))

written_at : (ls : List Line) (ts : List (List ℕ)) (i : ℕ) → AreWritten ls ts → i < length ts → StatementText (line_numbers (get_or ls i empty_line)) (get_or ts i [])
written_at [] [] i h lt = absurd (omega arith)
written_at [] (t ∷ ts) i h lt = absurd h
written_at (l ∷ ls) [] i h lt = absurd h
written_at (l ∷ ls) (t ∷ ts) zero h lt = h.0
written_at (l ∷ ls) (t ∷ ts) (suc i) h lt = written_at ls ts i h.1 (omega arith)

module _ (places : List Line) (n : ℕ) (texts : List (List ℕ)) (size : length texts ≡ n) (are : AreWritten (take n places) texts) where
  text_at : (i : ℕ) → i < n → get_or texts i [] ≡ statement_line (numbers_at places i)
  text_at i lt =
      (written_at (take n places) texts i are (omega (arith, size))).is ∙ ap (λ (l : Line). statement_line (line_numbers l)) (get_or-take n places i empty_line lt)

  first_texts : (i : ℕ) → i ≤ n → joined (take i texts) ≡ statements_text places i
  first_texts zero le = refl
  first_texts (suc i) le =
      ap joined (take-suc texts i [] (omega (arith, size))) ∙ joined_append (take i texts) (get_or texts i [] ∷ [])
      ∙ ap (λ l. joined (take i texts) ++ l) (append-nil (get_or texts i [])) ∙ ap (λ l. l ++ get_or texts i []) (first_texts i (omega arith))
      ∙ ap (λ l. statements_text places i ++ l) (text_at i (omega arith))

  -- the texts of statement lines are the lines at the places
  pub texts_joined : joined texts ≡ statements_text places n
  texts_joined = ap joined (sym (take_all n texts (omega (arith, size)))) ∙ first_texts n (omega arith)

-- one statement line more
pub puts_statement : (old mid new : Out) (places : List Line) (i : ℕ) (text : List ℕ) → Puts old (statements_text places i) mid → text ≡ statement_line (numbers_at places i) → Puts mid text new
    → Puts old (statements_text places (i + 1)) new
puts_statement old mid new places i text p e q =
    subst (λ (n : ℕ). Puts old (statements_text places n) new) (sym (add-one i))
    (subst (λ (l : List ℕ). Puts old (statements_text places i ++ l) new) e (puts_more old mid new (statements_text places i) text p q))

fails_within : (old new : Out) (places : List Line) (i n : ℕ) → i ≤ n → Fails old (statements_text places i) new → Fails old (statements_text places n) new
fails_within old new places i zero le f =
    let e : i ≡ 0 = omega arith in
    subst (λ (k : ℕ). Fails old (statements_text places k) new) e f
fails_within old new places i (suc n) le f =
    ⊎_elim
    (λ lt. fails_more old new (statements_text places n) (statement_line (numbers_at places n)) (fails_within old new places i n (omega arith) f))
    (λ ge.
    let e : i ≡ suc n = omega arith in
    subst (λ (k : ℕ). Fails old (statements_text places k) new) e f)
    (cases_lt i (suc n))

pub statement_fails : (old mid new : Out) (places : List Line) (i n : ℕ) (text : List ℕ) → i < n → Puts old (statements_text places i) mid → text ≡ statement_line (numbers_at places i) → Fails mid text new
    → Fails old (statements_text places n) new
statement_fails old mid new places i n text lt p e q =
    fails_within old new places (suc i) n (omega arith)
    (subst (λ (l : List ℕ). Fails old (statements_text places i ++ l) new) e (puts_fail old mid new (statements_text places i) text p q))
