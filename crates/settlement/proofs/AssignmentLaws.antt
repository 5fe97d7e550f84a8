-- What the assignment of a series comes to.
use Rattle.std.proofs.Common.{◌≡◌, ℕ, zero, suc, ◌+◌, ◌-◌, ◌<◌, ◌≤◌, Bool, true, false, cond, List, map, length, get_or, sum_by, sum, sym, refl, ap, ◌∙◌, ⊎_elim, add-one, arith}
use Rattle.std.specs.List.{range_with_len}
use Rattle.std.proofs.lemmas.List.{get_or_past}
use Rattle.std.proofs.lemmas.List.Sums.{sum-map}
use Rattle.std.proofs.lemmas.Bool.{cases_lt, true≢false, false≢true}
use Rattle.std.proofs.lemmas.List.FromFn.{length-map-range_with_len, get_or-map-range_with_len, sum_by-map-range_with_len_more}
use Rattle.draws.specs.Meaning.{Meaning, Below}
use Rattle.allocation.specs.Stretch.{share}
use Rattle.allocation.proofs.Totals.{over, over_more}
use Rattle.positions.specs.declared.cell.Cell.{Cell}
use Rattle.positions.specs.declared.kinds.Right.{Right}
use Rattle.positions.specs.declared.kinds.Right.TheVariants.{Call, Put}
use Rattle.positions.specs.Cells.{no_cell}
use Rattle.positions.specs.Rows.{total_longs, total_shorts}
use Rattle.settlement.specs.Account.{covering, settled, at_end}
use Rattle.settlement.specs.Assignment.{total_due, draws_for, Assignable, assigned_in, cell_after, collateral_after, series_outcome}
use Rattle.settlement.specs.Laws.{CellSettled, AssignmentSettles, SeriesRestsOnAnswers, Worked}
use Rattle.settlement.proofs.Filling.{map_places}
use Rattle.settlement.proofs.Allocated.{sum_shorts, assigned_same, due_short, due_few, assigned_whole, assigned_places, assigned_within, draws_spent, below_all}

-- ── one account ──

pub covering_le : (right : Right) (size shares assigned : ℕ) → covering right size shares assigned ≤ assigned
covering_le Call size shares assigned = omega arith
covering_le Put size shares assigned = omega arith

no_cell_settled : (lapses : Bool) (assigned covered : ℕ) → assigned ≡ 0 → covered ≡ 0 → at_end lapses (settled no_cell assigned covered) ≡ no_cell
no_cell_settled true assigned covered a c = rw (a, c)
no_cell_settled false assigned covered a c = rw (a, c)

module _ (c : Cell) (assigned covered : ℕ) (held : c.due ≤ c.longs) (short : assigned ≤ c.shorts) (some : covered ≤ assigned) where
  still_empty : (lapses : Bool) → c ≡ no_cell → at_end lapses (settled c assigned covered) ≡ no_cell
  still_empty lapses e =
      let s : c.shorts ≡ 0 = ap (λ (x : Cell). x.shorts) e in
      ap (λ (x : Cell). at_end lapses (settled x assigned covered)) e ∙ no_cell_settled lapses assigned covered (omega arith) (omega arith)

  cell_settled : (lapses : Bool) → CellSettled lapses c (at_end lapses (settled c assigned covered))
  cell_settled true = record {
    exercised = refl;
    held = held;
    done = refl;
    denied = refl;
    short = short;
    covered = some;
    moved = λ e. absurd (true≢false e);
    gone = λ e. (refl, refl);
    empty = still_empty true;
  }
  cell_settled false = record {
    exercised = refl;
    held = held;
    done = refl;
    denied = refl;
    short = short;
    covered = some;
    moved = λ e. omega arith;
    gone = λ e. absurd (false≢true e);
    empty = still_empty false;
  }

past_end : (lapses : Bool) → CellSettled lapses no_cell no_cell
past_end lapses = record {
  exercised = refl;
  held = omega arith;
  done = refl;
  denied = refl;
  short = omega arith;
  covered = omega arith;
  moved = λ e. refl;
  gone = λ e. (refl, refl);
  empty = λ e. e;
}

-- ── sums by place ──

pub sum_places : {X : Type 0} (f : X → ℕ) (h : ℕ → X) (n : ℕ) → sum_by f (map h (range_with_len 0 n)) ≡ over (λ i. f (h i)) n
sum_places f h zero = refl
sum_places f h (suc n) =
    let go : sum_by f (map h (range_with_len 0 (n + 1))) ≡ over (λ i. f (h i)) (n + 1) = omega (arith, sum_by-map-range_with_len_more f h 0 n n (omega arith), over_more (λ i. f (h i)) n, sum_places f h n) in
    rw (add-one n) at go

pub over_list : {X : Type 0} (f : X → ℕ) (xs : List X) (d : X) → over (λ i. f (get_or xs i d)) (length xs) ≡ sum_by f xs
over_list f xs d = ap sum (map_places f xs d 0) ∙ sum-map f xs

-- two sums that are a third place by place
over_plus : (f g h : ℕ → ℕ) (n : ℕ) → ((i : ℕ) → f i + g i ≡ h i) → over f n + over g n ≡ over h n
over_plus f g h zero e = refl
over_plus f g h (suc n) e =
    let go : over f (n + 1) + over g (n + 1) ≡ over h (n + 1) = omega (arith, over_more f n, over_more g n, over_more h n, over_plus f g h n e, e n) in
    rw (add-one n) at go

over_none : (n : ℕ) → over (λ i. 0) n ≡ 0
over_none n = omega (arith, over_plus (λ i. 0) (λ i. 0) (λ i. 0) n (λ i. refl))

-- ── the series ──

module _ (m : Meaning) (cells : List Cell) (collateral : List ℕ) (right : Right) (size block : ℕ) (below : Below m) (a : Assignable m cells size block) where
  abbrev given : ℕ → ℕ
  given i = get_or (assigned_in m cells block) i 0

  abbrev after : Bool → ℕ → Cell
  after lapses = cell_after right size lapses cells collateral (assigned_in m cells block)

  abbrev cells_after : Bool → List Cell
  cells_after lapses = (series_outcome m cells collateral right size block lapses).cells

  each : (lapses : Bool) (j : ℕ) → CellSettled lapses (get_or cells j no_cell) (get_or (cells_after lapses) j no_cell)
  each lapses j =
      ⊎_elim
      (λ (l : j < length cells).
      rw (get_or-map-range_with_len (after lapses) 0 (length cells) j j no_cell l (omega arith))
      (cell_settled (get_or cells j no_cell) (given j) _ (a.held j) (assigned_within m cells size block a below j) (covering_le right size (get_or collateral j 0) (given j)) lapses))
      (λ (l : length cells ≤ j).
      rw (get_or_past cells j no_cell l, get_or_past (cells_after lapses) j no_cell (omega (arith, length-map-range_with_len (after lapses) 0 (length cells)))) (past_end lapses))
      (cases_lt j (length cells))

  size_after : (lapses : Bool) → length (cells_after lapses) ≡ length cells
  size_after lapses = length-map-range_with_len (after lapses) 0 (length cells)

  -- sums over the cells after the assignment
  sum_exercised : (lapses : Bool) → sum_by (λ (c : Cell). c.exercised) (cells_after lapses) ≡ total_due cells
  sum_exercised true = sum_places (λ (c : Cell). c.exercised) (after true) (length cells) ∙ over_list (λ (c : Cell). c.due) cells no_cell
  sum_exercised false = sum_places (λ (c : Cell). c.exercised) (after false) (length cells) ∙ over_list (λ (c : Cell). c.due) cells no_cell

  over_given : over given (length cells) ≡ total_due cells
  over_given =
      let xs = assigned_in m cells block in
      ap (over given) (sym (assigned_places m cells size block a below)) ∙ over_list (λ x. x) xs 0 ∙ assigned_whole m cells size block a below

  sum_assigned : (lapses : Bool) → sum_by (λ (c : Cell). c.assigned) (cells_after lapses) ≡ total_due cells
  sum_assigned true = sum_places (λ (c : Cell). c.assigned) (after true) (length cells) ∙ over_given
  sum_assigned false = sum_places (λ (c : Cell). c.assigned) (after false) (length cells) ∙ over_given

  longs_after : (lapses : Bool) → total_longs (cells_after lapses) ≡ cond lapses 0 (total_longs cells - total_due cells)
  longs_after true = sum_places (λ (c : Cell). c.longs) (after true) (length cells) ∙ over_none (length cells)
  longs_after false =
      let sum_is_lem = sum_places (λ (c : Cell). c.longs) (after false) (length cells) in
      let parts = over_plus (λ i. (get_or cells i no_cell).longs - (get_or cells i no_cell).due) (λ i. (get_or cells i no_cell).due) (λ i. (get_or cells i no_cell).longs) (length cells) (λ i. omega (arith, a.held i)) in
      omega (arith, sum_is_lem, parts, over_list (λ (c : Cell). c.longs) cells no_cell, over_list (λ (c : Cell). c.due) cells no_cell)

  shorts_after : (lapses : Bool) → total_shorts (cells_after lapses) ≡ cond lapses 0 (total_shorts cells - total_due cells)
  shorts_after true = sum_places (λ (c : Cell). c.shorts) (after true) (length cells) ∙ over_none (length cells)
  shorts_after false =
      let sum_is_lem = sum_places (λ (c : Cell). c.shorts) (after false) (length cells) in
      let parts = over_plus (λ i. (get_or cells i no_cell).shorts - given i) given (λ i. (get_or cells i no_cell).shorts) (length cells) (λ i. omega (arith, assigned_within m cells size block a below i)) in
      omega (arith, sum_is_lem, parts, over_list (λ (c : Cell). c.shorts) cells no_cell, over_given)

  even : (lapses : Bool) → total_longs (cells_after lapses) ≡ total_shorts (cells_after lapses)
  even lapses = longs_after lapses ∙ ap (λ n. cond lapses 0 (n - total_due cells)) a.even ∙ sym (shorts_after lapses)

  fewer : (lapses : Bool) → total_longs (cells_after lapses) ≤ total_longs cells
  fewer true = omega (arith, longs_after true)
  fewer false = omega (arith, longs_after false)

  lodged : (j : ℕ) → get_or (map (collateral_after right size collateral (assigned_in m cells block)) (range_with_len 0 (length cells))) j 0 ≤ get_or collateral j 0
  lodged j =
      let f : ℕ → ℕ = collateral_after right size collateral (assigned_in m cells block) in
      ⊎_elim
      (λ (l : j < length cells). omega (arith, get_or-map-range_with_len f 0 (length cells) j j 0 l (omega arith)))
      (λ (l : length cells ≤ j). omega (arith, get_or_past (map f (range_with_len 0 (length cells))) j 0 (omega (arith, length-map-range_with_len f 0 (length cells)))))
      (cases_lt j (length cells))

pub series_settled : AssignmentSettles
series_settled m cells collateral right size block lapses below a = record {
  each = each m cells collateral right size block below a lapses;
  exercised = sum_exercised m cells collateral right size block below a lapses;
  assigned = sum_assigned m cells collateral right size block below a lapses;
  few = due_few m cells size block a;
  even = even m cells collateral right size block below a lapses;
  fewer = fewer m cells collateral right size block below a lapses;
  lodged = lodged m cells collateral right size block below a;
  spent = draws_spent m cells size block a below;
  below = below_all block a.positive (draws_for cells block) m (total_due cells) (total_shorts cells) refl (due_short m cells size block a) a.few below;
  accounts = size_after m cells collateral right size block below a lapses ∙ a.accounts;
  places = length-map-range_with_len (collateral_after right size collateral (assigned_in m cells block)) 0 (length cells) ∙ a.accounts;
}

pub series_same : SeriesRestsOnAnswers
series_same m m' cells collateral right size block lapses below a agree =
    let same = assigned_same m cells size block a below m' agree in
    record {
      cells = ap (λ xs. map (cell_after right size lapses cells collateral xs) (range_with_len 0 (length cells))) same.assigned;
      collateral = ap (λ xs. map (collateral_after right size collateral xs) (range_with_len 0 (length cells))) same.assigned;
      source = rw (sum_shorts cells) at same.source;
    }

pub worked : Worked
unfolding share
worked = ((refl, refl, refl), (refl, refl, refl))
