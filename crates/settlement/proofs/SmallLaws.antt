-- How large the amounts of a series' lines are.
use Rattle.std.proofs.Common.{ℕ, zero, suc, ◌+◌, ◌-◌, ◌≤◌, Bool, true, false, cond, eqb, List, [], ◌∷◌, ◌++◌, length, get_or, mul-le-mul, add-one, arith}
use Rattle.std.specs.List.{AllByRecursion}
use Rattle.std.proofs.ByRecursion.{All-append}
use Rattle.positions.specs.declared.cell.Cell.{Cell}
use Rattle.positions.specs.Cells.{no_cell}
use Rattle.settlement.specs.declared.line.Line.{Line}
use Rattle.settlement.specs.declared.line.Role.{Role}
use Rattle.settlement.specs.declared.line.Role.TheVariants.{Exerciser, Assignee}
use Rattle.settlement.specs.declared.line.Method.{Method}
use Rattle.settlement.specs.declared.line.Method.TheVariants.{Covered, Other}
use Rattle.settlement.specs.declared.line.SeriesTerms.{SeriesTerms}
use Rattle.settlement.specs.Lines.{takes, shares_for, money_for, line, exercised_line, covered_line, uncovered_line, if_any, cell_lines, lines_of_first, Countable}
use Rattle.settlement.specs.Laws.{SmallLine, LinesSmall}
use Rattle.settlement.proofs.LineLaws.{first_more}

either : (b : Bool) (n m : ℕ) → n ≤ m → (cond b n 0 ≤ m) × (cond b 0 n ≤ m)
either true n m h = (h, omega arith)
either false n m h = (omega arith, h)

any : (P : Line → Type 0) (b : Bool) (l : Line) → P l → AllByRecursion P (cond b [] (l ∷ []))
any P true l p = tt
any P false l p = (p, tt)

module _ (t : SeriesTerms) (sized : t.size ≤ 10_000) (struck : t.strike ≤ 1_000_000) where
  line_small : (account : ℕ) (role : Role) (method : Method) (n : ℕ) → n ≤ 100_000 → SmallLine (line t account role method n)
  line_small account role method n h =
      let shares : shares_for t n ≤ 1_000_000_000 = mul-le-mul h sized in
      let money : money_for t n ≤ 1_000_000_000_000_000 = mul-le-mul shares struck in
      let b = takes t.right role in
      let s = either b (shares_for t n) 1_000_000_000 shares in
      let m = either b (money_for t n) 1_000_000_000_000_000 money in
      record { shares_received = s.0; shares_delivered = s.1; money_paid = m.0; money_received = m.1 }

  cell_small : (account : ℕ) (c : Cell) → Countable c → AllByRecursion SmallLine (cell_lines t account c)
  cell_small account c k =
      let one : (l : Line) → SmallLine l → AllByRecursion SmallLine (if_any l) = λ l. any SmallLine (eqb l.contracts 0) l in
      let xs = if_any (exercised_line t account c) in
      let ys = if_any (covered_line t account c) in
      let zs = if_any (uncovered_line t account c) in
      All-append SmallLine xs (ys ++ zs) (one (exercised_line t account c) (line_small account Exerciser Other c.exercised k.exercised))
      (All-append SmallLine ys zs (one (covered_line t account c) (line_small account Assignee Covered c.covered (omega (arith, k.covered, k.assigned)))) (one (uncovered_line t account c) (line_small account Assignee Other (c.assigned - c.covered) (omega (arith, k.assigned)))))

  first_small : (cells : List Cell) → ((j : ℕ) → Countable (get_or cells j no_cell)) → (n : ℕ) → AllByRecursion SmallLine (lines_of_first n t cells)
  first_small cells k zero = tt
  first_small cells k (suc n) =
      let go : AllByRecursion SmallLine (lines_of_first (n + 1) t cells) = rw (first_more t cells n) at (All-append SmallLine (lines_of_first n t cells) (cell_lines t (n + 1) (get_or cells n no_cell)) (first_small cells k n) (cell_small (n + 1) (get_or cells n no_cell) (k n))) in
      rw (add-one n) at go

pub lines_small : LinesSmall
lines_small t cells sized struck k = first_small t sized struck cells k (length cells)
