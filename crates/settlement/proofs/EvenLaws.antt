-- What the amounts of a series' lines sum to.
use Rattle.std.proofs.Common.{◌≡◌, ℕ, zero, suc, ◌+◌, ◌-◌, ◌*◌, ◌≤◌, cond, eqb, List, [], ◌∷◌, ◌++◌, length, get_or, take, sum_by, sym, refl, ap, ◌∙◌, ⊎_elim, mul_assoc, add-mul, mul-zero, zero-mul, add-one, arith}
use Rattle.std.proofs.lemmas.List.{take_all}
use Rattle.std.proofs.lemmas.List.Sums.{sum_by-cons, sum_by-append, sum_by_more}
use Rattle.std.proofs.lemmas.Bool.{cond-true, cond-false, eq-eqb, ne_eqb, cases_eq}
use Rattle.positions.specs.declared.cell.Cell.{Cell}
use Rattle.positions.specs.declared.kinds.Right.{Right}
use Rattle.positions.specs.declared.kinds.Right.TheVariants.{Call, Put}
use Rattle.positions.specs.Cells.{no_cell}
use Rattle.settlement.specs.declared.line.Line.{Line}
use Rattle.settlement.specs.declared.line.Role.{Role}
use Rattle.settlement.specs.declared.line.Role.TheVariants.{Exerciser, Assignee}
use Rattle.settlement.specs.declared.line.Method.{Method}
use Rattle.settlement.specs.declared.line.Method.TheVariants.{Covered, Other}
use Rattle.settlement.specs.declared.line.SeriesTerms.{SeriesTerms}
use Rattle.settlement.specs.Lines.{takes, line, exercised_line, covered_line, uncovered_line, if_any, cell_lines, lines_of_first, series_lines}
use Rattle.settlement.specs.Laws.{LinesEven, WorkedLines}
use Rattle.settlement.proofs.LineLaws.{first_more}

-- an amount of which a line has w for each contract, summed over no line or one
any : (f : Line → ℕ) (w : ℕ) (l : Line) → f l ≡ l.contracts * w → sum_by f (if_any l) ≡ l.contracts * w
any f w l e =
    let n = l.contracts in
    ⊎_elim
    (λ (z : n ≡ 0). ap (sum_by f) (cond-true (eqb n 0) [] (l ∷ []) (eq-eqb n 0 z)) ∙ sym (ap (λ (k : ℕ). k * w) z ∙ zero-mul w))
    (λ (o : n ≡ 0 → ⊥). ap (sum_by f) (cond-false (eqb n 0) [] (l ∷ []) (ne_eqb n 0 o)) ∙ (let k = sum_by-cons f l [] in omega (arith, k, e)))
    (cases_eq n 0)

-- an amount of which exercised lines have u for each contract and assigned ones v, covered or not
module _ (t : SeriesTerms) (f : Line → ℕ) (u v : ℕ) (ex : (account n : ℕ) → f (line t account Exerciser Other n) ≡ n * u) (asg : (account n : ℕ) (method : Method) → f (line t account Assignee method n) ≡ n * v) (cells : List Cell) (part : (j : ℕ) → (get_or cells j no_cell).covered ≤ (get_or cells j no_cell).assigned) where
  cell_total : (account : ℕ) (c : Cell) → c.covered ≤ c.assigned → sum_by f (cell_lines t account c) ≡ c.exercised * u + c.assigned * v
  cell_total account c le =
      let e = exercised_line t account c in
      let y = covered_line t account c in
      let z = uncovered_line t account c in
      let whole : c.covered + (c.assigned - c.covered) ≡ c.assigned = omega arith in
      let split = sym (add-mul c.covered (c.assigned - c.covered) v) ∙ ap (λ (k : ℕ). k * v) whole in
      omega (arith, split, sum_by-append f (if_any e) (if_any y ++ if_any z), sum_by-append f (if_any y) (if_any z), any f u e (ex account c.exercised), any f v y (asg account c.covered Covered), any f v z (asg account (c.assigned - c.covered) Other))

  first_total : (n : ℕ) → n ≤ length cells → sum_by f (lines_of_first n t cells) ≡ sum_by (λ (c : Cell). c.exercised) (take n cells) * u + sum_by (λ (c : Cell). c.assigned) (take n cells) * v
  first_total zero h = omega (arith, zero-mul u, zero-mul v)
  first_total (suc n) h =
      let c = get_or cells n no_cell in
      let done-e = sum_by (λ (c : Cell). c.exercised) (take n cells) in
      let done-a = sum_by (λ (c : Cell). c.assigned) (take n cells) in
      let more = ap (sum_by f) (sym (first_more t cells n)) ∙ sum_by-append f (lines_of_first n t cells) (cell_lines t (n + 1) c) in
      let e = ap (λ (k : ℕ). k * u) (sum_by_more (λ (c : Cell). c.exercised) cells n no_cell (omega arith)) ∙ add-mul done-e c.exercised u in
      let g = ap (λ (k : ℕ). k * v) (sum_by_more (λ (c : Cell). c.assigned) cells n no_cell (omega arith)) ∙ add-mul done-a c.assigned v in
      let go : sum_by f (lines_of_first (n + 1) t cells) ≡ sum_by (λ (c : Cell). c.exercised) (take (n + 1) cells) * u + sum_by (λ (c : Cell). c.assigned) (take (n + 1) cells) * v =
      omega (arith, more, e, g, first_total n (omega arith), cell_total (n + 1) c (part n)) in
      rw (add-one n) at go

  pub series_total : sum_by f (series_lines t cells) ≡ sum_by (λ (c : Cell). c.exercised) cells * u + sum_by (λ (c : Cell). c.assigned) cells * v
  series_total = rw (take_all (length cells) cells (omega arith)) at (first_total (length cells) (omega arith))

-- an amount on the side that takes the shares, and one on the side that delivers them
module _ (t : SeriesTerms) (cells : List Cell) (part : (j : ℕ) → (get_or cells j no_cell).covered ≤ (get_or cells j no_cell).assigned) (same : sum_by (λ (c : Cell). c.exercised) cells ≡ sum_by (λ (c : Cell). c.assigned) cells) (f g : Line → ℕ) (w : ℕ) where
  abbrev Taken : Right → Type 0
  Taken right = (account n : ℕ) (role : Role) (method : Method) → f (line t account role method n) ≡ cond (takes right role) (n * w) 0

  abbrev Given : Right → Type 0
  Given right = (account n : ℕ) (role : Role) (method : Method) → g (line t account role method n) ≡ cond (takes right role) 0 (n * w)

  amounts_even : (right : Right) → Taken right → Given right → sum_by f (series_lines t cells) ≡ sum_by g (series_lines t cells)
  amounts_even Call p q =
      let a = series_total t f w 0 (λ account n. p account n Exerciser Other) (λ account n method. p account n Assignee method ∙ sym (mul-zero n)) cells part in
      let b = series_total t g 0 w (λ account n. q account n Exerciser Other ∙ sym (mul-zero n)) (λ account n method. q account n Assignee method) cells part in
      omega (arith, a, b, ap (λ (k : ℕ). k * w) same)
  amounts_even Put p q =
      let a = series_total t f 0 w (λ account n. p account n Exerciser Other ∙ sym (mul-zero n)) (λ account n method. p account n Assignee method) cells part in
      let b = series_total t g w 0 (λ account n. q account n Exerciser Other) (λ account n method. q account n Assignee method ∙ sym (mul-zero n)) cells part in
      omega (arith, a, b, ap (λ (k : ℕ). k * w) same)

pub lines_even : LinesEven
lines_even t cells part same = record {
  shares = amounts_even t cells part same (λ (l : Line). l.shares_received) (λ (l : Line). l.shares_delivered) t.size t.right (λ account n role method. refl) (λ account n role method. refl);
  money = amounts_even t cells part same (λ (l : Line). l.money_paid) (λ (l : Line). l.money_received) (t.size * t.strike) t.right (λ account n role method. ap (λ (k : ℕ). cond (takes t.right role) k 0) (mul_assoc n t.size t.strike)) (λ account n role method. ap (λ (k : ℕ). cond (takes t.right role) 0 k) (mul_assoc n t.size t.strike));
}

pub worked_lines : WorkedLines
worked_lines = (refl, refl)
