-- The texts of an exchange tell one thing.
use Rattle.std.proofs.Common.{◌≡◌, ℕ, List, [], ◌∷◌, length, Some, None, Option, sym, refl, ap, ◌∙◌, arith}
use Rattle.draws.specs.declared.Reply.{Reply}
use Rattle.settlement.specs.declared.line.Line.{Line}
use Rattle.settlement.specs.declared.line.Role.{Role}
use Rattle.settlement.specs.declared.line.Role.TheVariants.{Exerciser, Assignee}
use Rattle.settlement.specs.declared.line.Method.{Method}
use Rattle.settlement.specs.declared.line.Method.TheVariants.{Covered, Other}
use Rattle.settlement.specs.Lines.{role_code, method_code}
use Rattle.lines.specs.declared.line.Line.{Line as ReadLine}
use Rattle.lines.specs.Kinds.{arity, kinds}
use Rattle.lines.specs.Parts.{kind_of, parts_of, kind_in, numbers_in}
use Rattle.lines.proofs.Tables.{line_known}
use Rattle.host.specs.declared.instruction.Instruction.{Instruction}
use Rattle.host.specs.Places.{line_numbers}
use Rattle.host.proofs.ByKind.{same_instruction}
use Rattle.archive.specs.Archive.{asked_by, FilledWith, AreWritten, TextsTell}
use Rattle.archive.proofs.Once.{filled_once, statement_once}

-- ── the filled line ──

-- no input line has the kind of a faulty one
not_faulty : (l : ReadLine) → kind_of l ≡ 99 → ⊥
not_faulty l e = let z : ◌≡◌ {A = Option ℕ} None (Some (length (parts_of l))) = ap (arity kinds) (sym e) ∙ line_known l in cc z

same_asked : (l m : Option ReadLine) → kind_in l ≡ kind_in m → numbers_in l ≡ numbers_in m → asked_by l ≡ asked_by m
same_asked None None k n = refl
same_asked None (Some m) k n = absurd (not_faulty m (sym k))
same_asked (Some l) None k n = absurd (not_faulty l k)
same_asked (Some l) (Some m) k n = ap Some (same_instruction l m (sym k) (sym n))

asked_once : (i j : Option Instruction) (r q : Reply) (text : List ℕ) → FilledWith i r text → FilledWith j q text → (i ≡ j) × (r ≡ q)
asked_once i j r q text g h =
    let o = filled_once (kind_in g.0) (kind_in h.0) (numbers_in g.0) (numbers_in h.0) r.number r.result q.number q.result text g.2 h.2 in
    let number : r.number ≡ q.number = o.2 in
    let result : r.result ≡ q.result = o.3 in
    let reply : r ≡ q = ap (λ n. record { number = n; result = r.result }) number ∙ ap (λ n. record { number = q.number; result = n }) result in
    (sym g.1 ∙ same_asked g.0 h.0 o.0 o.1 ∙ h.1, reply)

-- ── the statement lines ──

role_once : (r q : Role) → role_code r ≡ role_code q → r ≡ q
role_once Exerciser Exerciser e = refl
role_once Exerciser Assignee e = absurd (omega arith)
role_once Assignee Exerciser e = absurd (omega arith)
role_once Assignee Assignee e = refl

method_once : (m n : Method) → method_code m ≡ method_code n → m ≡ n
method_once Covered Covered e = refl
method_once Covered Other e = absurd (omega arith)
method_once Other Covered e = absurd (omega arith)
method_once Other Other e = refl

made : ℕ → ℕ → Role → Method → ℕ → ℕ → ℕ → ℕ → ℕ → ℕ → Line
made a b r m c d e f g h = record { series = a; account = b; role = r; method = m; contracts = c; shares_received = d; shares_delivered = e; money_paid = f; money_received = g; settlement_day = h }

made_is : (l : Line) → made l.series l.account l.role l.method l.contracts l.shares_received l.shares_delivered l.money_paid l.money_received l.settlement_day ≡ l
unfolding made
made_is l = refl

line_once : (l k : Line) → line_numbers l ≡ line_numbers k → l ≡ k
line_once l k e =
    let a : l.series ≡ k.series = cc e in
    let b : l.account ≡ k.account = cc e in
    let rc : role_code l.role ≡ role_code k.role = cc e in
    let mc : method_code l.method ≡ method_code k.method = cc e in
    let c : l.contracts ≡ k.contracts = cc e in
    let d : l.shares_received ≡ k.shares_received = cc e in
    let f : l.shares_delivered ≡ k.shares_delivered = cc e in
    let g : l.money_paid ≡ k.money_paid = cc e in
    let h : l.money_received ≡ k.money_received = cc e in
    let i : l.settlement_day ≡ k.settlement_day = cc e in
    let r = role_once l.role k.role rc in
    let m = method_once l.method k.method mc in
    let p = made_is l in
    let q = made_is k in
    cc (p, q, a, b, r, m, c, d, f, g, h, i)

lines_once : (ls ks : List Line) (ts : List (List ℕ)) → AreWritten ls ts → AreWritten ks ts → ls ≡ ks
lines_once [] [] [] g h = refl
lines_once [] [] (t ∷ ts) g h = absurd g
lines_once [] (k ∷ ks) [] g h = absurd h
lines_once [] (k ∷ ks) (t ∷ ts) g h = absurd g
lines_once (l ∷ ls) [] [] g h = absurd g
lines_once (l ∷ ls) [] (t ∷ ts) g h = absurd h
lines_once (l ∷ ls) (k ∷ ks) [] g h = absurd g
lines_once (l ∷ ls) (k ∷ ks) (t ∷ ts) g h =
    ap (λ x. x ∷ ls) (line_once l k (statement_once (line_numbers l) (line_numbers k) t g.0 h.0)) ∙ ap (λ x. k ∷ x) (lines_once ls ks ts g.1 h.1)

-- ── both ──

pub texts_tell : TextsTell
texts_tell x w v p q =
    let f = asked_once w.asked v.asked w.reply v.reply x.filled p.filled q.filled in
    let asked : w.asked ≡ v.asked = f.0 in
    let reply : w.reply ≡ v.reply = f.1 in
    let lines : w.lines ≡ v.lines = lines_once w.lines v.lines x.behind p.lines q.lines in
    ap (λ (i : Option Instruction). record { asked = i; reply = w.reply; lines = w.lines }) asked
    ∙ ap (λ (r : Reply). record { asked = v.asked; reply = r; lines = w.lines }) reply
    ∙ ap (λ (ls : List Line). record { asked = v.asked; reply = v.reply; lines = ls }) lines
