-- An accepted position transfer.
use Rattle.std.proofs.Common.{◌≡◌, ℕ, ◌+◌, ◌-◌, ◌<◌, ◌≤◌, true, not, eqb, ◌≢◌, List, length, get_or, set, sum_by, None, sym, ◌∙◌, subst, arith, length-set}
use Rattle.std.proofs.lemmas.List.{get_or-set_other}
use Rattle.std.proofs.lemmas.List.Sums.{sum_by-set}
use Rattle.std.proofs.lemmas.Bool.{and_parts, leb-true, eqb-false, not-true}
use Rattle.draws.specs.Checks.{first_refusal}
use Rattle.draws.proofs.Passes.{all_pass}
use Rattle.positions.specs.declared.cell.Cell.{Cell}
use Rattle.positions.specs.declared.kinds.Side.{Side}
use Rattle.positions.specs.declared.kinds.Side.TheVariants.{Buy, Sell}
use Rattle.positions.specs.Kinds.{side_of_code}
use Rattle.positions.specs.Cells.{no_cell, on_side, given, received}
use Rattle.positions.specs.Rows.{total_longs, total_shorts}
use Rattle.ledger.specs.declared.state.Stage.TheVariants.{Input}
use Rattle.ledger.specs.declared.state.State.{State}
use Rattle.ledger.specs.declared.state.PositionTransfer.{PositionTransfer}
use Rattle.ledger.specs.Tables.{cells_of, cell_at}
use Rattle.ledger.specs.Lookups.{within, has_account, has_series, participant_of}
use Rattle.transfers.specs.Transfers.{position_checks, moved_cells, position_moved}
use Rattle.ledger.specs.Sound.{Balanced, Waiting, Facts}
use Rattle.ledger.proofs.FactLaws.{Placed, within_parts, account_placed, series_placed}
use Rattle.ledger.proofs.KeepLaws.{facts_cells}
use Rattle.ledger.proofs.CalmLaws.{Calm, Aside, aside_given, aside_received, calm_set, settled_set, calm_cells}

pub record Transferable (s : State) (t : PositionTransfer) : Type 0 where
  pub giver : has_account s t.from ≡ true
  pub receiver : has_account s t.to ≡ true
  pub listed : has_series s t.series ≡ true
  pub small : t.quantity ≤ 100_000
  pub apart : t.from ≢ t.to
  pub there : t.quantity ≤ on_side (side_of_code t.side) (cell_at s t.from t.series)

pub transferable : (s : State) (t : PositionTransfer) → first_refusal (position_checks s t) ≡ None → Transferable s t
transferable s t h =
    let a = all_pass (position_checks s t) h in
    let r = and_parts (within t.side 1 2) (within t.quantity 1 100_000) a.0 in
    let k = and_parts (has_account s t.from) (has_account s t.to) a.1.0 in
    let o = and_parts (not (eqb t.from t.to)) (eqb (participant_of s t.from) (participant_of s t.to)) a.1.1.1.1.0 in
    record {
      giver = k.0;
      receiver = k.1;
      listed = a.1.1.0;
      small = (within_parts t.quantity 1 100_000 r.1).1;
      apart = eqb-false t.from t.to (not-true (eqb t.from t.to) o.0);
      there = leb-true _ _ a.1.1.1.1.1.0;
    }

-- a sum over cells of which two change
moved_sum : (f : Cell → ℕ) (cells : List Cell) (from to : ℕ) (c d : Cell) → from < length cells → to < length cells → to ≢ from → sum_by f (set (set cells from c) to d) + (f (get_or cells from no_cell) + f (get_or cells to no_cell)) ≡ sum_by f cells + (f c + f d)
moved_sum f cells from to c d lf lt other =
    let one = sum_by-set f cells from c no_cell lf in
    let two = sum_by-set f (set cells from c) to d no_cell (omega (arith, length-set cells from c)) in
    omega (arith, one, rw (get_or-set_other cells from to c no_cell other) at two)

-- one side's total stays, the other is not touched
move_even : (side : Side) (cells : List Cell) (from to q : ℕ) → from < length cells → to < length cells → to ≢ from → q ≤ on_side side (get_or cells from no_cell)
    → (total_longs (set (set cells from (given (get_or cells from no_cell) side q)) to (received (get_or cells to no_cell) side q)) ≡ total_longs cells)
    × (total_shorts (set (set cells from (given (get_or cells from no_cell) side q)) to (received (get_or cells to no_cell) side q)) ≡ total_shorts cells)
move_even Buy cells from to q lf lt other h =
    let c = given (get_or cells from no_cell) Buy q in
    let d = received (get_or cells to no_cell) Buy q in
    (omega (arith, moved_sum (λ c. c.longs) cells from to c d lf lt other, h), omega (arith, moved_sum (λ c. c.shorts) cells from to c d lf lt other))
move_even Sell cells from to q lf lt other h =
    let c = given (get_or cells from no_cell) Sell q in
    let d = received (get_or cells to no_cell) Sell q in
    (omega (arith, moved_sum (λ c. c.longs) cells from to c d lf lt other), omega (arith, moved_sum (λ c. c.shorts) cells from to c d lf lt other, h))

module _ (s : State) (t : PositionTransfer) (f : Facts s) (input : s.stage ≡ Input) (a : Transferable s t) where
  abbrev cells : List Cell
  cells = cells_of s (t.series - 1)

  abbrev side : Side
  side = side_of_code t.side

  abbrev giver : Cell
  giver = given (get_or cells (t.from - 1) no_cell) side t.quantity

  abbrev receiver : Cell
  receiver = received (get_or cells (t.to - 1) no_cell) side t.quantity

  x : Placed t.from s.accounts.count
  x = account_placed s t.from f a.giver

  y : Placed t.to s.accounts.count
  y = account_placed s t.to f a.receiver

  n : Placed t.series s.series.count
  n = series_placed s t.series f a.listed

  b : Balanced cells
  b = f.balanced (t.series - 1) (omega (arith, n.from, n.row))

  from : t.from - 1 < length cells
  from = omega (arith, b.0, x.from, x.row)

  to : t.to - 1 < length cells
  to = omega (arith, b.0, y.from, y.row)

  other : t.to - 1 ≢ t.from - 1
  other e = a.apart (omega (arith, x.from, y.from))

  -- the receiver's cell is not the giver's
  pub receiver_same : get_or (set cells (t.from - 1) giver) (t.to - 1) no_cell ≡ get_or cells (t.to - 1) no_cell
  receiver_same = get_or-set_other cells (t.from - 1) (t.to - 1) giver no_cell other

  aside_receiver : Aside (get_or (set cells (t.from - 1) giver) (t.to - 1) no_cell) receiver
  aside_receiver = rw receiver_same (aside_received (get_or cells (t.to - 1) no_cell) side t.quantity)

  pub moved_balanced : Balanced (moved_cells s t)
  moved_balanced =
      let e = move_even side cells (t.from - 1) (t.to - 1) t.quantity from to other a.there in
      let u = settled_set cells (t.from - 1) giver (aside_given (get_or cells (t.from - 1) no_cell) side t.quantity) from b.2 in
      let w = settled_set (set cells (t.from - 1) giver) (t.to - 1) receiver aside_receiver (omega (arith, to, length-set cells (t.from - 1) giver)) u in
      (length-set _ _ _ ∙ length-set cells _ _ ∙ b.0, (omega (arith, e.0, e.1, b.1.0), omega (arith, e.0, b.1.1)), w)

  moved_calm : Calm (moved_cells s t)
  moved_calm =
      calm_set (set cells (t.from - 1) giver) (t.to - 1) receiver aside_receiver
      (calm_set cells (t.from - 1) giver (aside_given (get_or cells (t.from - 1) no_cell) side t.quantity) (calm_cells s (t.series - 1) f input))

  pub facts_moved : Facts (position_moved s t)
  facts_moved = facts_cells s t.series (moved_cells s t) f n.from n.to moved_balanced (λ j. subst (λ g. Waiting g (get_or (moved_cells s t) j no_cell)) (sym input) (moved_calm j))
