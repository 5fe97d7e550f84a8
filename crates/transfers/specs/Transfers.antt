-- Trade transfers, give-ups and take-ups of legs, and transfers of positions.
use Rattle.std.specs.Prelude.{ℕ, ◌-◌, Bool, cond, not, ◌&&◌, ◌||◌, List, [], ◌∷◌, ◌==◌, nat_le, slice_index_or, slice_set}
use Rattle.positions.specs.declared.cell.Cell.{Cell}
use Rattle.positions.specs.declared.leg.Leg.{Leg}
use Rattle.positions.specs.declared.leg.LegEvent.TheVariants.{GiveUp, Confirm, Reject}
use Rattle.positions.specs.Kinds.{side_of_code}
use Rattle.positions.specs.Cells.{no_cell, on_side, closing, given, received}
use Rattle.positions.specs.Legs.{open_part, left_by}
use Rattle.positions.specs.Rows.{placed, total_longs}
use Rattle.ledger.specs.declared.refusal.Refusal.{Refusal}
use Rattle.ledger.specs.declared.refusal.Refusal.TheVariants.{OutOfRange, NoAccount, NoSeries, NoLeg, Expired, WrongAccount, LegHeld, LegFree, TooFew, TooMany}
use Rattle.ledger.specs.declared.state.PositionTransfer.{PositionTransfer}
use Rattle.ledger.specs.declared.state.State.{State}
use Rattle.ledger.specs.Tables.{cells_of, cell_at, leg_of, with_cells, with_legs, leg_rebooked, leg_stepped}
use Rattle.ledger.specs.Lookups.{within, has_account, has_series, has_leg, expired, participant_of, another_of_same, is_free, held_for}
use Rattle.transfers.specs.declared.moves.Rebooking.{Rebooking}

-- ── a leg leaves its account for another ──

-- the cells of its series without the leg
abbrev pub without_in : List Cell → Leg → List Cell
without_in cells l = slice_set cells (l.account - 1) (left_by l (slice_index_or cells (l.account - 1) no_cell))

-- the leg leaves its cell, and is booked anew in the other account under its effect
abbrev pub rebooking_in : List Cell → Leg → ℕ → Rebooking
rebooking_in cells l account = record {
  cells = placed (without_in cells l) (account - 1) l.side l.effect l.quantity;
  closed = closing (slice_index_or (without_in cells l) (account - 1) no_cell) l.side l.effect l.quantity;
}

-- the same in the cells of a book
abbrev pub rebooking_of : State → Leg → ℕ → Rebooking
rebooking_of s l account = rebooking_in (cells_of s (l.series - 1)) l account

-- its account's side still holds the leg's open part
abbrev pub still_there : State → Leg → Bool
still_there s l = nat_le (open_part l) (on_side l.side (cell_at s l.account l.series))

abbrev pub room_for : State → Leg → ℕ → Bool
room_for s l account = nat_le (total_longs (rebooking_of s l account).cells) 100_000

-- what a leg that goes to another account has to pass
abbrev pub rebooking_checks : State → Leg → ℕ → List (Bool × Refusal)
rebooking_checks s l account =
    (still_there s l, TooFew)
    ∷ (room_for s l account, TooMany)
    ∷ []

abbrev pub transferred : State → ℕ → ℕ → State
transferred s n account =
    with_legs (with_cells s ((leg_of s n).series - 1) (rebooking_of s (leg_of s n) account).cells)
    (leg_rebooked s.legs (n - 1) account (rebooking_of s (leg_of s n) account).closed)

-- ── trade transfer ──

abbrev pub transfer_checks : State → ℕ → ℕ → List (Bool × Refusal)
transfer_checks s n account =
    (has_account s account, NoAccount)
    ∷ (has_leg s n, NoLeg)
    ∷ (another_of_same s (leg_of s n).account account, WrongAccount)
    ∷ (is_free (leg_of s n).state, LegHeld)
    ∷ rebooking_checks s (leg_of s n) account

-- ── give-up ──

abbrev pub give_up_checks : State → ℕ → ℕ → List (Bool × Refusal)
give_up_checks s n participant =
    (within participant 1 99, OutOfRange)
    ∷ (has_leg s n, NoLeg)
    ∷ (not (participant_of s (leg_of s n).account == participant), WrongAccount)
    ∷ (is_free (leg_of s n).state, LegHeld)
    ∷ []

abbrev pub given_up : State → ℕ → ℕ → State
given_up s n participant = with_legs s (leg_stepped s.legs (n - 1) (GiveUp participant))

-- ── take-up: answer 1 confirms, answer 2 rejects ──

abbrev pub confirms : ℕ → Bool
confirms answer = answer == 1

-- a check that only a confirmation has to pass
abbrev pub if_confirmed : ℕ → Bool → Bool
if_confirmed answer test = not (confirms answer) || test

abbrev pub take_up_checks : State → ℕ → ℕ → ℕ → List (Bool × Refusal)
take_up_checks s n answer account =
    (within answer 1 2 && (confirms answer || account == 0), OutOfRange)
    ∷ (if_confirmed answer (has_account s account), NoAccount)
    ∷ (has_leg s n, NoLeg)
    ∷ (not (is_free (leg_of s n).state), LegFree)
    ∷ (if_confirmed answer (held_for (leg_of s n).state (participant_of s account)), WrongAccount)
    ∷ (if_confirmed answer (still_there s (leg_of s n)), TooFew)
    ∷ (if_confirmed answer (room_for s (leg_of s n) account), TooMany)
    ∷ []

abbrev pub confirmed : State → ℕ → ℕ → State
confirmed s n account = with_legs (transferred s n account) (leg_stepped (transferred s n account).legs (n - 1) Confirm)

abbrev pub rejected : State → ℕ → State
rejected s n = with_legs s (leg_stepped s.legs (n - 1) Reject)

abbrev pub taken_up : State → ℕ → ℕ → ℕ → State
taken_up s n answer account = cond (confirms answer) (confirmed s n account) (rejected s n)

-- ── position transfer ──

abbrev pub position_checks : State → PositionTransfer → List (Bool × Refusal)
position_checks s t =
    (within t.side 1 2 && within t.quantity 1 100_000, OutOfRange)
    ∷ (has_account s t.from && has_account s t.to, NoAccount)
    ∷ (has_series s t.series, NoSeries)
    ∷ (not (expired s t.series), Expired)
    ∷ (another_of_same s t.from t.to, WrongAccount)
    ∷ (nat_le t.quantity (on_side (side_of_code t.side) (cell_at s t.from t.series)), TooFew)
    ∷ []

-- the contracts leave one account's side and join the other's
abbrev pub moved_cells : State → PositionTransfer → List Cell
moved_cells s t =
    let cells = cells_of s (t.series - 1) in
    let side = side_of_code t.side in
    slice_set (slice_set cells (t.from - 1) (given (slice_index_or cells (t.from - 1) no_cell) side t.quantity)) (t.to - 1) (received (slice_index_or cells (t.to - 1) no_cell) side t.quantity)

abbrev pub position_moved : State → PositionTransfer → State
position_moved s t = with_cells s (t.series - 1) (moved_cells s t)
