-- What a leg, a transfer or a move does to one cell's longs and shorts.
use Rattle.std.proofs.Common.{◌≡◌, ℕ, ◌+◌, ◌≤◌, Bool, refl, arith}
use Rattle.positions.specs.declared.cell.Cell.{Cell}
use Rattle.positions.specs.declared.kinds.AccountType.{AccountType}
use Rattle.positions.specs.declared.kinds.AccountType.TheVariants.{House, MarketMaker, IndividualClient, OmnibusClient}
use Rattle.positions.specs.declared.kinds.Side.{Side}
use Rattle.positions.specs.declared.kinds.Side.TheVariants.{Buy, Sell}
use Rattle.positions.specs.declared.kinds.Effect.{Effect}
use Rattle.positions.specs.declared.kinds.Effect.TheVariants.{Opening, Closing}
use Rattle.positions.specs.Cells.{closing, booked, unbooked, netted, with_due}

pub closing_le : (c : Cell) (side : Side) (e : Effect) (q : ℕ) → closing c side e q ≤ q
closing_le c side Opening q = omega arith
closing_le c Buy Closing q = omega arith
closing_le c Sell Closing q = omega arith

-- a buy raises longs less shorts by its quantity, a sale lowers it
pub bought : (c : Cell) (e : Effect) (q : ℕ) → (booked c Buy e q).longs + c.shorts ≡ c.longs + q + (booked c Buy e q).shorts
bought c Opening q = omega arith
bought c Closing q = omega arith

pub sold : (c : Cell) (e : Effect) (q : ℕ) → (booked c Sell e q).longs + q + c.shorts ≡ c.longs + (booked c Sell e q).shorts
sold c Opening q = omega arith
sold c Closing q = omega arith

-- a leg's removal undoes that
pub unbought : (c : Cell) (rest closed : ℕ) → rest ≤ c.longs → (unbooked c Buy rest closed).longs + (rest + closed) + c.shorts ≡ c.longs + (unbooked c Buy rest closed).shorts
unbought c rest closed h = omega arith

pub unsold : (c : Cell) (rest closed : ℕ) → rest ≤ c.shorts → (unbooked c Sell rest closed).longs + c.shorts ≡ c.longs + (rest + closed) + (unbooked c Sell rest closed).shorts
unsold c rest closed h = omega arith

-- what the netting does to one cell
pub record Netting (c d : Cell) : Type 0 where
  pub even : d.longs + c.shorts ≡ c.longs + d.shorts
  pub longs : d.longs ≤ c.longs
  pub shorts : d.shorts ≤ c.shorts
  pub denied : d.denied ≡ c.denied
  pub exercised : d.exercised ≡ c.exercised
  pub assigned : d.assigned ≡ c.assigned
  pub covered : d.covered ≡ c.covered

pub netting : (t : AccountType) (c : Cell) → Netting c (netted t c)
netting House c = record { even = omega arith; longs = omega arith; shorts = omega arith; denied = refl; exercised = refl; assigned = refl; covered = refl }
netting MarketMaker c = record { even = omega arith; longs = omega arith; shorts = omega arith; denied = refl; exercised = refl; assigned = refl; covered = refl }
netting IndividualClient c = record { even = omega arith; longs = omega arith; shorts = omega arith; denied = refl; exercised = refl; assigned = refl; covered = refl }
netting OmnibusClient c = record { even = omega arith; longs = omega arith; shorts = omega arith; denied = refl; exercised = refl; assigned = refl; covered = refl }

pub due_le : (c : Cell) (asked : ℕ) (automatic : Bool) → (with_due c asked automatic).due ≤ c.longs
due_le c asked automatic = omega arith
