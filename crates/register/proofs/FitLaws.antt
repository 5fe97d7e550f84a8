-- Every number of a statement line has at most 16 digits.
use Rattle.std.proofs.Common.{ℕ, zero, suc, ◌+◌, ◌-◌, ◌<◌, ◌≤◌, eqb, List, [], ◌∷◌, ◌++◌, length, get_or, Some, None, mul-le-mul, arith}
use Rattle.std.specs.List.{range_with_len, flat_map, AllByRecursion}
use Rattle.std.proofs.lemmas.Bool.{cond_both}
use Rattle.draws.specs.Meaning.{Meaning}
use Rattle.positions.specs.declared.cell.Cell.{Cell}
use Rattle.positions.specs.Cells.{no_cell}
use Rattle.settlement.specs.declared.line.Line.{Line}
use Rattle.settlement.specs.declared.line.SeriesTerms.{SeriesTerms}
use Rattle.settlement.specs.declared.line.Role.{Role}
use Rattle.settlement.specs.declared.line.Method.{Method}
use Rattle.settlement.specs.Lines.{takes, shares_for, money_for, line, exercised_line, covered_line, uncovered_line, if_any, cell_lines, series_lines, Countable}
use Rattle.ledger.specs.declared.state.State.{State}
use Rattle.ledger.specs.Tables.{cells_of}
use Rattle.ledger.specs.Sound.{Facts}
use Rattle.dayend.specs.Statement.{terms_at, lines_at, statement_lines}
use Rattle.dayend.proofs.StatementLaws.{countable}
use Rattle.book.specs.declared.pass.Pass.{Pass}
use Rattle.book.specs.declared.pass.Pass.TheVariants.{ForInput, ForCut, ForAssigned}
use Rattle.book.specs.declared.pass.AssignedPass.{AssignedPass}
use Rattle.book.specs.Stages.{kept_or, statement_refusal, lines_written}
use Rattle.register.specs.declared.calls.Call.{Call}
use Rattle.register.specs.declared.calls.Call.TheVariants.{Open, OfInput, OfExercise, CutOff, Assign, GiveStatement, BeginDay}
use Rattle.register.specs.Register.{answer, Fits}

-- what the lines of a series share, within the ranges of a book
record Ranged (t : SeriesTerms) : Type 0 where
  series : t.series ≤ 32
  size : t.size ≤ 10_000
  strike : t.strike ≤ 1_000_000
  day : t.settlement_day ≤ 100_001

module _ (t : SeriesTerms) (r : Ranged t) where
  line_fits : (account : ℕ) (role : Role) (method : Method) (k : ℕ) → account ≤ 32 → k ≤ 100_000 → Fits (line t account role method k)
  line_fits account role method k a c =
      let shares : shares_for t k ≤ 1_000_000_000 = mul-le-mul c r.size in
      let money : money_for t k ≤ 1_000_000_000_000_000 = mul-le-mul shares r.strike in
      let b = takes t.right role in
      let P : ℕ → Type 0 = λ n. n < 10_000_000_000_000_000 in
      record {
        series = omega (arith, r.series);
        account = omega arith;
        contracts = omega arith;
        received = cond_both b (shares_for t k) 0 P (λ e. omega arith) (λ e. omega arith);
        delivered = cond_both b 0 (shares_for t k) P (λ e. omega arith) (λ e. omega arith);
        paid = cond_both b (money_for t k) 0 P (λ e. omega arith) (λ e. omega arith);
        earned = cond_both b 0 (money_for t k) P (λ e. omega arith) (λ e. omega arith);
        day = omega (arith, r.day);
      }

any_fits : (l : Line) → Fits l → AllByRecursion Fits (if_any l)
any_fits l f = cond_both (eqb l.contracts 0) [] (l ∷ []) (λ (xs : List Line). AllByRecursion Fits xs) (λ e. tt) (λ e. (f, tt))

both_fit : (xs ys : List Line) → AllByRecursion Fits xs → AllByRecursion Fits ys → AllByRecursion Fits (xs ++ ys)
both_fit [] ys p q = q
both_fit (x ∷ xs) ys p q = (p.0, both_fit xs ys p.1 q)

joined_fit : (f : ℕ → List Line) (a n : ℕ) → ((i : ℕ) → i < a + n → AllByRecursion Fits (f i)) → AllByRecursion Fits (flat_map f (range_with_len a n))
joined_fit f a zero h = tt
joined_fit f a (suc n) h = both_fit (f a) (flat_map f (range_with_len (a + 1) n)) (h a (omega arith)) (joined_fit f (a + 1) n (λ i lt. h i (omega arith)))

cell_fits : (t : SeriesTerms) (account : ℕ) (c : Cell) → Ranged t → account ≤ 32 → Countable c → AllByRecursion Fits (cell_lines t account c)
cell_fits t account c r a k =
    both_fit (if_any (exercised_line t account c)) (if_any (covered_line t account c) ++ if_any (uncovered_line t account c))
    (any_fits (exercised_line t account c) (line_fits t r account _ _ c.exercised a k.exercised))
    (both_fit (if_any (covered_line t account c)) (if_any (uncovered_line t account c))
    (any_fits (covered_line t account c) (line_fits t r account _ _ c.covered a (omega (arith, k.covered, k.assigned))))
    (any_fits (uncovered_line t account c) (line_fits t r account _ _ (c.assigned - c.covered) a (omega (arith, k.assigned)))))

series_fits : (t : SeriesTerms) (cells : List Cell) → Ranged t → length cells ≤ 32 → ((j : ℕ) → Countable (get_or cells j no_cell)) → AllByRecursion Fits (series_lines t cells)
series_fits t cells r n k = joined_fit (λ i. cell_lines t (i + 1) (get_or cells i no_cell)) 0 (length cells) (λ i lt. cell_fits t (i + 1) (get_or cells i no_cell) r (omega arith) (k i))

module _ (s : State) (f : Facts s) where
  statement_fits : AllByRecursion Fits (statement_lines s)
  statement_fits =
      joined_fit (lines_at s.terms.size s.day s.series.rows) 0 32
      (λ i lt.
      let t = terms_at s.terms.size s.day s.series.rows i in
      let r : Ranged t = record { series = omega arith; size = f.ranges.0.1; strike = f.strikes i; day = omega (arith, f.ranges.2) } in
      series_fits t (cells_of s i) r (omega (arith, (f.balanced i (omega arith)).0)) (λ j. countable s f i j (omega arith)))

  written_fits : (room : ℕ) (p : AssignedPass) → AllByRecursion Fits (lines_written s p room)
  written_fits room p = elim (statement_refusal s p room) as (λ o. AllByRecursion Fits (kept_or o [] (statement_lines s))) [ None ↦ statement_fits | Some r ↦ tt ]

  pub answer_fits : (m : Meaning) (room : ℕ) (p : Pass) (c : Call) → AllByRecursion Fits (answer s m room p c).lines
  answer_fits m room (ForInput p) (Open o) = tt
  answer_fits m room (ForInput p) (OfInput c) = tt
  answer_fits m room (ForInput p) (OfExercise c) = tt
  answer_fits m room (ForInput p) CutOff = tt
  answer_fits m room (ForInput p) Assign = tt
  answer_fits m room (ForInput p) GiveStatement = tt
  answer_fits m room (ForInput p) (BeginDay day) = tt
  answer_fits m room (ForCut p) (Open o) = tt
  answer_fits m room (ForCut p) (OfInput c) = tt
  answer_fits m room (ForCut p) (OfExercise c) = tt
  answer_fits m room (ForCut p) CutOff = tt
  answer_fits m room (ForCut p) Assign = tt
  answer_fits m room (ForCut p) GiveStatement = tt
  answer_fits m room (ForCut p) (BeginDay day) = tt
  answer_fits m room (ForAssigned p) (Open o) = tt
  answer_fits m room (ForAssigned p) (OfInput c) = tt
  answer_fits m room (ForAssigned p) (OfExercise c) = tt
  answer_fits m room (ForAssigned p) CutOff = tt
  answer_fits m room (ForAssigned p) Assign = tt
  answer_fits m room (ForAssigned p) GiveStatement = written_fits room p
  answer_fits m room (ForAssigned p) (BeginDay day) = tt
