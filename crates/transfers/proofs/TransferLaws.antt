-- Accepted transfers, give-ups, take-ups and position transfers.
use Rattle.std.proofs.Common.{◌≡◌, ℕ, ◌+◌, ◌-◌, ◌<◌, ◌≤◌, Bool, true, false, not, ◌||◌, List, length, get_or, set, None, sym, ◌∙◌, subst, arith, length-set}
use Rattle.std.proofs.lemmas.List.Sums.{sum_by-set}
use Rattle.std.proofs.lemmas.Bool.{leb-true, true≢false, cond_both}
use Rattle.draws.specs.Checks.{first_refusal}
use Rattle.draws.proofs.Passes.{all_pass}
use Rattle.positions.specs.declared.cell.Cell.{Cell}
use Rattle.positions.specs.declared.leg.Leg.{Leg}
use Rattle.positions.specs.declared.leg.LegEvent.{LegEvent}
use Rattle.positions.specs.declared.leg.LegEvent.TheVariants.{GiveUp, Confirm, Reject}
use Rattle.positions.specs.declared.kinds.Side.{Side}
use Rattle.positions.specs.declared.kinds.Side.TheVariants.{Buy, Sell}
use Rattle.positions.specs.declared.kinds.Effect.{Effect}
use Rattle.positions.specs.Cells.{no_cell, on_side, unbooked}
use Rattle.positions.specs.Legs.{no_leg, open_part, rebooked, stepped}
use Rattle.positions.specs.Rows.{placed, total_longs, total_shorts}
use Rattle.positions.proofs.CellLaws.{closing_le, unbought, unsold}
use Rattle.positions.proofs.RowLaws.{at_set, placed_buy, placed_sell}
use Rattle.ledger.specs.declared.state.Stage.TheVariants.{Input}
use Rattle.ledger.specs.declared.state.State.{State}
use Rattle.ledger.specs.Tables.{cells_of, leg_of, with_cells, with_legs, leg_stepped}
use Rattle.ledger.specs.Lookups.{has_account, has_leg}
use Rattle.transfers.specs.Transfers.{without_in, rebooking_of, still_there, room_for, transferred, transfer_checks, give_up_checks, given_up, confirms, take_up_checks, confirmed, rejected, taken_up}
use Rattle.ledger.specs.Sound.{Balanced, Waiting, ValidLeg, Facts}
use Rattle.ledger.proofs.FactLaws.{Placed, account_placed, leg_valid}
use Rattle.ledger.proofs.KeepLaws.{facts_cells, facts_legs}
use Rattle.ledger.proofs.CalmLaws.{Calm, aside_booked, aside_unbooked, calm_set, settled_set, calm_cells}

-- ── a leg that may be booked anew in another account ──

pub record Movable (s : State) (n account : ℕ) : Type 0 where
  pub known : has_account s account ≡ true
  pub leg : has_leg s n ≡ true
  pub there : still_there s (leg_of s n) ≡ true
  pub few : room_for s (leg_of s n) account ≡ true

pub movable : (s : State) (n account : ℕ) → first_refusal (transfer_checks s n account) ≡ None → Movable s n account
movable s n account h =
    let a = all_pass (transfer_checks s n account) h in
    record { known = a.0; leg = a.1.0; there = a.1.1.1.1.0; few = a.1.1.1.1.1.0 }

rebook_even : (side : Side) (cells : List Cell) (from to : ℕ) (e : Effect) (rest closed q : ℕ) → from < length cells → to < length cells → rest ≤ on_side side (get_or cells from no_cell) → rest + closed ≡ q
    → total_longs cells ≡ total_shorts cells
    → total_longs (placed (set cells from (unbooked (get_or cells from no_cell) side rest closed)) to side e q) ≡ total_shorts (placed (set cells from (unbooked (get_or cells from no_cell) side rest closed)) to side e q)
rebook_even Buy cells from to e rest closed q lf lt h sum b =
    let c = get_or cells from no_cell in
    let d = unbooked c Buy rest closed in
    let l = sum_by-set (λ (c : Cell). c.longs) cells from d no_cell lf in
    let r = sum_by-set (λ (c : Cell). c.shorts) cells from d no_cell lf in
    let k = placed_buy (set cells from d) to e q (omega (arith, length-set cells from d)) in
    omega (arith, l, r, unbought c rest closed h, k)
rebook_even Sell cells from to e rest closed q lf lt h sum b =
    let c = get_or cells from no_cell in
    let d = unbooked c Sell rest closed in
    let l = sum_by-set (λ (c : Cell). c.longs) cells from d no_cell lf in
    let r = sum_by-set (λ (c : Cell). c.shorts) cells from d no_cell lf in
    let k = placed_sell (set cells from d) to e q (omega (arith, length-set cells from d)) in
    omega (arith, l, r, unsold c rest closed h, k)

-- the cells of the leg's series without it
abbrev pub cells_without : State → Leg → List Cell
cells_without s l = without_in (cells_of s (l.series - 1)) l

module _ (s : State) (n account : ℕ) (f : Facts s) (input : s.stage ≡ Input) (m : Movable s n account) where
  abbrev l : Leg
  l = leg_of s n

  abbrev cells : List Cell
  cells = cells_of s (l.series - 1)

  v : ValidLeg s l
  v = leg_valid s n f m.leg

  x : Placed account s.accounts.count
  x = account_placed s account f m.known

  b : Balanced cells
  b = f.balanced (l.series - 1) (omega (arith, v.0.1.0, v.0.1.1, f.tables.0.1))

  pub enough : open_part l ≤ on_side l.side (get_or cells (l.account - 1) no_cell)
  enough = leb-true _ _ m.there

  from : l.account - 1 < length cells
  from = omega (arith, b.0, v.0.0.0, v.0.0.1, f.tables.0.0)

  size : length (cells_without s l) ≡ 32
  size = length-set cells _ _ ∙ b.0

  to : account - 1 < length (cells_without s l)
  to = omega (arith, size, x.from, x.row)

  pub rebooked_balanced : Balanced (rebooking_of s l account).cells
  rebooked_balanced =
      let u = settled_set cells (l.account - 1) _ (aside_unbooked (get_or cells (l.account - 1) no_cell) l.side (open_part l) l.closed) from b.2 in
      let w = settled_set (cells_without s l) (account - 1) _ (aside_booked (get_or (cells_without s l) (account - 1) no_cell) l.side l.effect l.quantity) to u in (
        length-set (cells_without s l) _ _ ∙ size,
        (rebook_even l.side cells (l.account - 1) (account - 1) l.effect (open_part l) l.closed l.quantity from (omega (arith, to, size, b.0)) enough (omega (arith, v.1.0)) b.1.0, leb-true _ _ m.few),
        w,
      )

  rebooked_calm : Calm (rebooking_of s l account).cells
  rebooked_calm =
      calm_set (cells_without s l) (account - 1) _ (aside_booked (get_or (cells_without s l) (account - 1) no_cell) l.side l.effect l.quantity)
      (calm_set cells (l.account - 1) _ (aside_unbooked (get_or cells (l.account - 1) no_cell) l.side (open_part l) l.closed) (calm_cells s (l.series - 1) f input))

  pub facts_transferred : Facts (transferred s n account)
  facts_transferred =
      let g = facts_cells s l.series (rebooking_of s l account).cells f v.0.1.0 v.0.1.1 rebooked_balanced (λ j. subst (λ g. Waiting g (get_or (rebooking_of s l account).cells j no_cell)) (sym input) (rebooked_calm j)) in
      let u = with_cells s (l.series - 1) (rebooking_of s l account).cells in
      facts_legs u _ g f.tables.0.2 (length-set _ _ _ ∙ f.tables.1.2)
      (λ k h. at_set (ValidLeg u) s.legs.rows (n - 1) k (rebooked l account (rebooking_of s l account).closed) no_leg
      (((x.from, x.to), v.0.1), (closing_le (get_or (cells_without s l) (account - 1) no_cell) l.side l.effect l.quantity, v.1.1)) (f.valid k h))

-- an event changes a leg's state alone
pub facts_stepped : (s : State) (n : ℕ) (e : LegEvent) → Facts s → has_leg s n ≡ true → Facts (with_legs s (leg_stepped s.legs (n - 1) e))
facts_stepped s n e f h =
    facts_legs s _ f f.tables.0.2 (length-set _ _ _ ∙ f.tables.1.2)
    (λ k l. at_set (ValidLeg s) s.legs.rows (n - 1) k (stepped (leg_of s n) e) no_leg (leg_valid s n f h) (f.valid k l))

pub give_up_leg : (s : State) (n participant : ℕ) → first_refusal (give_up_checks s n participant) ≡ None → has_leg s n ≡ true
give_up_leg s n participant h = (all_pass (give_up_checks s n participant) h).1.0

-- ── take-up ──

pub take_up_leg : (s : State) (n answer account : ℕ) → first_refusal (take_up_checks s n answer account) ≡ None → has_leg s n ≡ true
take_up_leg s n answer account h = (all_pass (take_up_checks s n answer account) h).1.1.0

must : (b t : Bool) → b ≡ true → (not b || t) ≡ true → t ≡ true
must true t on h = h
must false t on h = absurd (true≢false (sym on))

pub confirmable : (s : State) (n answer account : ℕ) → first_refusal (take_up_checks s n answer account) ≡ None → confirms answer ≡ true → Movable s n account
confirmable s n answer account h on =
    let a = all_pass (take_up_checks s n answer account) h in
    record {
      known = must (confirms answer) _ on a.1.0;
      leg = a.1.1.0;
      there = must (confirms answer) _ on a.1.1.1.1.1.0;
      few = must (confirms answer) _ on a.1.1.1.1.1.1.0;
    }

pub facts_confirmed : (s : State) (n account : ℕ) → Facts s → s.stage ≡ Input → Movable s n account → Facts (confirmed s n account)
facts_confirmed s n account f input m = facts_stepped (transferred s n account) n Confirm (facts_transferred s n account f input m) m.leg

pub facts_rejected : (s : State) (n : ℕ) → Facts s → has_leg s n ≡ true → Facts (rejected s n)
facts_rejected s n f h = facts_stepped s n Reject f h

pub facts_given_up : (s : State) (n participant : ℕ) → Facts s → has_leg s n ≡ true → Facts (given_up s n participant)
facts_given_up s n participant f h = facts_stepped s n (GiveUp participant) f h

-- what a take-up leaves, confirmed or rejected
pub facts_taken_up : (s : State) (n answer account : ℕ) → Facts s → s.stage ≡ Input → first_refusal (take_up_checks s n answer account) ≡ None → Facts (taken_up s n answer account)
facts_taken_up s n answer account f input h =
    cond_both (confirms answer) (confirmed s n account) (rejected s n) Facts
    (λ on. facts_confirmed s n account f input (confirmable s n answer account h on))
    (λ off. facts_rejected s n f (take_up_leg s n answer account h))
