-- One leg of a trade.
use Rattle.std.specs.Prelude.{ℕ, ◌-◌}
use Rattle.positions.specs.declared.cell.Cell.{Cell}
use Rattle.positions.specs.declared.leg.Leg.{Leg}
use Rattle.positions.specs.declared.leg.LegState.{LegState}
use Rattle.positions.specs.declared.leg.LegState.TheVariants.{Free, Held}
use Rattle.positions.specs.declared.leg.LegEvent.{LegEvent}
use Rattle.positions.specs.declared.leg.LegEvent.TheVariants.{GiveUp, Confirm, Reject, Cut}
use Rattle.positions.specs.declared.kinds.Side.TheVariants.{Buy}
use Rattle.positions.specs.declared.kinds.Effect.TheVariants.{Opening}
use Rattle.positions.specs.Cells.{unbooked}

abbrev pub no_leg : Leg
no_leg = record { account = 0; series = 0; side = Buy; effect = Opening; quantity = 0; closed = 0; price = 0; state = Free }

-- a give-up holds a free leg for a participant; a confirmation, a rejection and the cut free a held one
abbrev pub next_state : LegState → LegEvent → LegState
next_state Free (GiveUp participant) = Held participant
next_state Free Confirm = Free
next_state Free Reject = Free
next_state Free Cut = Free
next_state (Held for) (GiveUp participant) = Held for
next_state (Held for) Confirm = Free
next_state (Held for) Reject = Free
next_state (Held for) Cut = Free

abbrev pub stepped : Leg → LegEvent → Leg
stepped l e = record { account = l.account; series = l.series; side = l.side; effect = l.effect; quantity = l.quantity; closed = l.closed; price = l.price; state = next_state l.state e }

-- the leg in another account, with the closed part that it has there
abbrev pub rebooked : Leg → ℕ → ℕ → Leg
rebooked l account closed = record { account = account; series = l.series; side = l.side; effect = l.effect; quantity = l.quantity; closed = closed; price = l.price; state = l.state }

abbrev pub open_part : Leg → ℕ
open_part l = l.quantity - l.closed

-- the cell that the leg leaves
abbrev pub left_by : Leg → Cell → Cell
left_by l c = unbooked c l.side (open_part l) l.closed
