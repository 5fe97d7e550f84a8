-- One account's contracts in one series.
use Rattle.std.specs.Prelude.{ℕ, ◌+◌, ◌-◌, ◌≤◌, min, Bool, cond}
use Rattle.positions.specs.declared.kinds.Side.{Side}
use Rattle.positions.specs.declared.kinds.Side.TheVariants.{Buy, Sell}
use Rattle.positions.specs.declared.kinds.Effect.{Effect}
use Rattle.positions.specs.declared.kinds.Effect.TheVariants.{Opening, Closing}
use Rattle.positions.specs.declared.kinds.AccountType.{AccountType}
use Rattle.positions.specs.declared.cell.Cell.{Cell}
use Rattle.positions.specs.Kinds.{is_net}

-- all start at 0
abbrev pub no_cell : Cell
no_cell = record { longs = 0; shorts = 0; denied = 0; due = 0; exercised = 0; assigned = 0; covered = 0 }

abbrev pub with_sides : Cell → ℕ → ℕ → Cell
with_sides c longs shorts = record { longs = longs; shorts = shorts; denied = c.denied; due = c.due; exercised = c.exercised; assigned = c.assigned; covered = c.covered }

-- no more than m longs or shorts
abbrev pub AtMost : Cell → ℕ → Type 0
AtMost c m = (c.longs ≤ m) × (c.shorts ≤ m)

-- the contracts on a side
abbrev pub on_side : Side → Cell → ℕ
on_side Buy c = c.longs
on_side Sell c = c.shorts

-- the closed part of a leg: none of an opening; of a closing, what it can take from the other side
abbrev pub closing : Cell → Side → Effect → ℕ → ℕ
closing c side Opening q = 0
closing c Buy Closing q = min q c.shorts
closing c Sell Closing q = min q c.longs

-- the cell with a leg booked: its closed part leaves the other side, the rest joins its own
abbrev pub booked : Cell → Side → Effect → ℕ → Cell
booked c Buy e q = with_sides c (c.longs + (q - closing c Buy e q)) (c.shorts - closing c Buy e q)
booked c Sell e q = with_sides c (c.longs - closing c Sell e q) (c.shorts + (q - closing c Sell e q))

-- the cell without a leg of that open and closed part: the open part leaves its side, the closed part returns to the other
abbrev pub unbooked : Cell → Side → ℕ → ℕ → Cell
unbooked c Buy rest closed = with_sides c (c.longs - rest) (c.shorts + closed)
unbooked c Sell rest closed = with_sides c (c.longs + closed) (c.shorts - rest)

-- q contracts leave a side, or join it
abbrev pub given : Cell → Side → ℕ → Cell
given c Buy q = with_sides c (c.longs - q) c.shorts
given c Sell q = with_sides c c.longs (c.shorts - q)

abbrev pub received : Cell → Side → ℕ → Cell
received c Buy q = with_sides c (c.longs + q) c.shorts
received c Sell q = with_sides c c.longs (c.shorts + q)

-- ── exercise ──

-- so many contracts are not to be exercised without a request
abbrev pub with_denied : Cell → ℕ → Cell
with_denied c q = record { longs = c.longs; shorts = c.shorts; denied = q; due = c.due; exercised = c.exercised; assigned = c.assigned; covered = c.covered }

-- in a net account longs and shorts both fall by the smaller of the two
abbrev pub netted : AccountType → Cell → Cell
netted t c = cond (is_net t) (with_sides c (c.longs - min c.longs c.shorts) (c.shorts - min c.longs c.shorts)) c

-- the longs that are exercised without a request, in a series that is: those not denied
abbrev pub undenied : Cell → Bool → ℕ
undenied c automatic = cond automatic (c.longs - c.denied) 0

-- what is asked for and what is exercised without a request, as far as there are longs
abbrev pub with_due : Cell → ℕ → Bool → Cell
with_due c asked automatic = record { longs = c.longs; shorts = c.shorts; denied = c.denied; due = min c.longs (asked + undenied c automatic); exercised = c.exercised; assigned = c.assigned; covered = c.covered }

-- ── the next day ──

-- longs and shorts stay, the rest starts at 0
abbrev pub carried : Cell → Cell
carried c = with_sides no_cell c.longs c.shorts
