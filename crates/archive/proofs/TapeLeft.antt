-- The tape behind an assignment is the tape of the numbers that are left.
use Rattle.std.proofs.Common.{◌≡◌, ℕ, zero, suc, ◌+◌, ◌-◌, ◌%◌, List, [], ◌∷◌, length, get_or, drop, sum_by, sym, ap, ◌∙◌, add-zero, arith, length-drop}
use std.Path.{fun_ext}
use Rattle.std.proofs.lemmas.List.{get_or-drop}
use Rattle.std.proofs.lemmas.List.Sums.{sum_by-cons}
use Rattle.draws.specs.Meaning.{Meaning, behind, behind_all}
use Rattle.draws.specs.Sources.{tape}
use Rattle.allocation.specs.Assigned.{bounds}
use Rattle.settlement.specs.Assignment.{draws_for, series_outcome}
use Rattle.ledger.specs.declared.state.Series.{Series}
use Rattle.ledger.specs.declared.state.State.{State}
use Rattle.ledger.specs.declared.state.Terms.{Terms}
use Rattle.ledger.specs.Lookups.{expires}
use Rattle.positions.specs.Rows.{total_shorts}
use Rattle.dayend.specs.Assignment.{needed, assigned_rows, assigning}

-- a tape is told by its supply and its answers
is_tape : (ys : List ℕ) (j : ℕ) (m : Meaning) → m.supply ≡ length ys - j → ((earlier : List ℕ) (last : ℕ) → m.answer earlier last ≡ get_or ys (j + length earlier) 0 % last) → m ≡ tape ys j
is_tape ys j m e f =
    ap (λ (n : ℕ). record { supply = n; answer = m.answer }) e
    ∙ ap (λ (g : List ℕ → ℕ → ℕ). record { supply = length ys - j; answer = g }) (fun_ext (λ earlier. fun_ext (λ last. f earlier last)))

next : (n : ℕ) (xs : List ℕ) (i : ℕ) → behind n (tape xs i) ≡ tape xs (i + 1)
next n xs i =
    is_tape xs (i + 1) (behind n (tape xs i)) (omega arith)
    (λ earlier last. let e : i + suc (length earlier) ≡ i + 1 + length earlier = omega arith in ap (λ k. get_or xs k 0 % last) e)

-- the draws of an allocation
drawn : (q total block : ℕ) (xs : List ℕ) (i : ℕ) → behind_all (bounds q total block) (tape xs i) ≡ tape xs (i + q)
drawn zero total block xs i = ap (tape xs) (sym (add-zero i))
drawn (suc q) total block xs i =
    let e : i + 1 + q ≡ i + suc q = omega arith in
    ap (behind_all (bounds q (total - block) block)) (next total xs i) ∙ drawn q (total - block) block xs (i + 1) ∙ ap (tape xs) e

-- of one series after another
rows_drawn : (t : Terms) (previous day : ℕ) (xs : List ℕ) (i : ℕ) (collateral : List ℕ) (rows : List Series) → (assigned_rows t previous day (tape xs i) collateral rows).source ≡ tape xs (i + sum_by (λ r. draws_for r.cells t.block) rows)
rows_drawn t previous day xs i collateral [] = ap (tape xs) (sym (add-zero i))
rows_drawn t previous day xs i collateral (r ∷ rs) =
    let o = series_outcome (tape xs i) r.cells collateral r.contract.right t.size t.block (expires r.contract previous day) in
    let d = draws_for r.cells t.block in
    let f = λ (r : Series). draws_for r.cells t.block in
    let e : i + d + sum_by f rs ≡ i + sum_by f (r ∷ rs) = omega (arith, sum_by-cons f r rs) in
    ap (λ (m : Meaning). (assigned_rows t previous day m o.collateral rs).source) (drawn d (total_shorts r.cells) t.block xs i)
    ∙ rows_drawn t previous day xs (i + d) o.collateral rs ∙ ap (tape xs) e

-- a tape from a place on is the tape of the numbers from there on
dropped : (xs : List ℕ) (n : ℕ) → tape xs n ≡ tape (drop n xs) 0
dropped xs n =
    is_tape (drop n xs) 0 (tape xs n) (omega (arith, length-drop n xs))
    (λ earlier last.
    let e : n + length earlier ≡ n + (0 + length earlier) = omega arith in
    ap (λ k. k % last) (ap (λ k. get_or xs k 0) e ∙ sym (get_or-drop n xs (0 + length earlier) 0)))

pub assigned_tape : (s : State) (u : List ℕ) → (assigning s (tape u 0)).source ≡ tape (drop (needed s) u) 0
assigned_tape s u =
    let e : 0 + needed s ≡ needed s = omega arith in
    rows_drawn s.terms s.previous s.day u 0 _ s.series.rows ∙ ap (tape u) e ∙ dropped u (needed s)
