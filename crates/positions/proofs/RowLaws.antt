-- The cells of one series.
use Rattle.std.proofs.Common.{◌≡◌, ℕ, zero, suc, ◌+◌, ◌<◌, List, [], ◌∷◌, length, get_or, set, sum_by, arith}
use Rattle.std.proofs.lemmas.List.Sums.{sum_by-set}
use Rattle.positions.specs.declared.cell.Cell.{Cell}
use Rattle.positions.specs.declared.kinds.Side.TheVariants.{Buy, Sell}
use Rattle.positions.specs.declared.kinds.Effect.{Effect}
use Rattle.positions.specs.Cells.{no_cell, booked}
use Rattle.positions.specs.Rows.{placed, total_longs, total_shorts}
use Rattle.positions.proofs.CellLaws.{bought, sold}

-- what holds of a new element and of the old ones holds of each
pub at_set : {X : Type 0} (P : X → Type 0) (xs : List X) (at j : ℕ) (y d : X) → P y → P (get_or xs j d) → P (get_or (set xs at y) j d)
at_set P [] at j y d new old = old
at_set P (x ∷ xs) zero zero y d new old = new
at_set P (x ∷ xs) zero (suc j) y d new old = old
at_set P (x ∷ xs) (suc at) zero y d new old = old
at_set P (x ∷ xs) (suc at) (suc j) y d new old = at_set P xs at j y d new old

-- a sum that an element's replacement does not touch
pub sum_kept : (f : Cell → ℕ) (cells : List Cell) (at : ℕ) (c : Cell) → at < length cells → f c ≡ f (get_or cells at no_cell) → sum_by f (set cells at c) ≡ sum_by f cells
sum_kept f cells at c h same = omega (arith, sum_by-set f cells at c no_cell h)

-- a leg moves the series' longs less shorts by its quantity
module _ (cells : List Cell) (at : ℕ) (e : Effect) (q : ℕ) (lt : at < length cells) where
  pub placed_buy : total_longs (placed cells at Buy e q) + total_shorts cells ≡ total_longs cells + q + total_shorts (placed cells at Buy e q)
  placed_buy =
      let c = get_or cells at no_cell in
      let l = sum_by-set (λ (c : Cell). c.longs) cells at (booked c Buy e q) no_cell lt in
      let r = sum_by-set (λ (c : Cell). c.shorts) cells at (booked c Buy e q) no_cell lt in
      omega (arith, l, r, bought c e q)

  pub placed_sell : total_longs (placed cells at Sell e q) + q + total_shorts cells ≡ total_longs cells + total_shorts (placed cells at Sell e q)
  placed_sell =
      let c = get_or cells at no_cell in
      let l = sum_by-set (λ (c : Cell). c.longs) cells at (booked c Sell e q) no_cell lt in
      let r = sum_by-set (λ (c : Cell). c.shorts) cells at (booked c Sell e q) no_cell lt in
      omega (arith, l, r, sold c e q)
