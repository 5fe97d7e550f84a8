-- A leg or a move changes a cell's longs and shorts alone.
use Rattle.std.proofs.Common.{◌≡◌, ℕ, ◌<◌, ◌≤◌, List, length, get_or, set, sum_by, refl, subst, arith}
use Rattle.positions.specs.declared.cell.Cell.{Cell}
use Rattle.positions.specs.declared.kinds.Side.{Side}
use Rattle.positions.specs.declared.kinds.Side.TheVariants.{Buy, Sell}
use Rattle.positions.specs.declared.kinds.Effect.{Effect}
use Rattle.positions.specs.Cells.{no_cell, booked, unbooked, given, received}
use Rattle.positions.proofs.RowLaws.{at_set, sum_kept}
use Rattle.ledger.specs.declared.state.Stage.TheVariants.{Input}
use Rattle.ledger.specs.declared.state.State.{State}
use Rattle.ledger.specs.Tables.{cells_of}
use Rattle.ledger.specs.Sound.{Facts, Waiting}

-- the counts that do not take part in trading
pub record Aside (c d : Cell) : Type 0 where
  pub due : d.due ≡ c.due
  pub exercised : d.exercised ≡ c.exercised
  pub assigned : d.assigned ≡ c.assigned
  pub covered : d.covered ≡ c.covered

pub aside_booked : (c : Cell) (side : Side) (e : Effect) (q : ℕ) → Aside c (booked c side e q)
aside_booked c Buy e q = record { due = refl; exercised = refl; assigned = refl; covered = refl }
aside_booked c Sell e q = record { due = refl; exercised = refl; assigned = refl; covered = refl }

pub aside_unbooked : (c : Cell) (side : Side) (rest closed : ℕ) → Aside c (unbooked c side rest closed)
aside_unbooked c Buy rest closed = record { due = refl; exercised = refl; assigned = refl; covered = refl }
aside_unbooked c Sell rest closed = record { due = refl; exercised = refl; assigned = refl; covered = refl }

pub aside_given : (c : Cell) (side : Side) (q : ℕ) → Aside c (given c side q)
aside_given c Buy q = record { due = refl; exercised = refl; assigned = refl; covered = refl }
aside_given c Sell q = record { due = refl; exercised = refl; assigned = refl; covered = refl }

pub aside_received : (c : Cell) (side : Side) (q : ℕ) → Aside c (received c side q)
aside_received c Buy q = record { due = refl; exercised = refl; assigned = refl; covered = refl }
aside_received c Sell q = record { due = refl; exercised = refl; assigned = refl; covered = refl }

abbrev pub Calm : List Cell → Type 0
Calm cells = (j : ℕ) → Waiting Input (get_or cells j no_cell)

-- in the input stage nothing is due
pub calm_cells : (s : State) (i : ℕ) → Facts s → s.stage ≡ Input → Calm (cells_of s i)
calm_cells s i f input j = subst (λ g. Waiting g (get_or (cells_of s i) j no_cell)) input (f.waiting i j)

-- the settled part of what every row keeps
abbrev pub Settled : List Cell → Type 0
Settled cells = (sum_by (λ c. c.exercised) cells ≡ sum_by (λ c. c.assigned) cells) × (sum_by (λ c. c.exercised) cells ≤ 100_000)

module _ (cells : List Cell) (at : ℕ) (c : Cell) (aside : Aside (get_or cells at no_cell) c) where
  pub calm_set : Calm cells → Calm (set cells at c)
  calm_set calm j =
      let w = calm at in
      at_set (Waiting Input) cells at j c no_cell (omega (arith, aside.due, w.0), omega (arith, aside.covered, aside.assigned, w.1)) (calm j)

  pub settled_set : at < length cells → Settled cells → Settled (set cells at c)
  settled_set lt s =
      let x = sum_kept (λ (c : Cell). c.exercised) cells at c lt aside.exercised in
      let y = sum_kept (λ (c : Cell). c.assigned) cells at c lt aside.assigned in
      (omega (arith, x, y, s.0), omega (arith, x, s.1))
