-- Trades.
use Rattle.std.specs.Prelude.{ℕ, ◌+◌, ◌-◌, Bool, not, ◌&&◌, List, [], ◌∷◌, nat_le, slice_index_or}
use Rattle.positions.specs.declared.cell.Cell.{Cell}
use Rattle.positions.specs.declared.leg.Leg.{Leg}
use Rattle.positions.specs.declared.leg.LegState.TheVariants.{Free}
use Rattle.positions.specs.declared.kinds.Side.{Side}
use Rattle.positions.specs.declared.kinds.Side.TheVariants.{Buy, Sell}
use Rattle.positions.specs.declared.kinds.Effect.{Effect}
use Rattle.positions.specs.Kinds.{effect_of_code}
use Rattle.positions.specs.Cells.{no_cell, closing}
use Rattle.positions.specs.Rows.{placed, total_longs}
use Rattle.ledger.specs.declared.refusal.Refusal.{Refusal}
use Rattle.ledger.specs.declared.refusal.Refusal.TheVariants.{OutOfRange, NoAccount, NoSeries, Expired, TradingClosed, Full, TooMany}
use Rattle.ledger.specs.declared.state.State.{State}
use Rattle.ledger.specs.declared.state.Trade.{Trade}
use Rattle.ledger.specs.Tables.{cells_of, with_cells, with_legs, one_leg_more}
use Rattle.ledger.specs.Lookups.{within, has_account, has_series, expired}
use Rattle.dealing.specs.declared.trades.Fill.{Fill}

abbrev pub trade_in_range : Trade → Bool
trade_in_range t = within t.buyer_effect 1 2 && (within t.seller_effect 1 2 && (within t.quantity 1 100_000 && within t.price 1 1_000_000))

-- ── one side of a trade ──

abbrev pub account_on : Side → Trade → ℕ
account_on Buy t = t.buyer
account_on Sell t = t.seller

abbrev pub effect_on : Side → Trade → Effect
effect_on Buy t = effect_of_code t.buyer_effect
effect_on Sell t = effect_of_code t.seller_effect

-- the side's leg, with its closed part
abbrev pub leg_on : Side → Trade → ℕ → Leg
leg_on side t closed = record { account = account_on side t; series = t.series; side = side; effect = effect_on side t; quantity = t.quantity; closed = closed; price = t.price; state = Free }

-- the cells with the side's leg booked, and that leg's closed part
abbrev pub placed_on : Side → Trade → List Cell → List Cell
placed_on side t cells = placed cells (account_on side t - 1) side (effect_on side t) t.quantity

abbrev pub closed_on : Side → Trade → List Cell → ℕ
closed_on side t cells = closing (slice_index_or cells (account_on side t - 1) no_cell) side (effect_on side t) t.quantity

abbrev pub buyer_leg : Trade → ℕ → Leg
buyer_leg t closed = leg_on Buy t closed

abbrev pub seller_leg : Trade → ℕ → Leg
seller_leg t closed = leg_on Sell t closed

-- ── both sides ──

-- the cells when the buyer's leg is booked
abbrev pub bought_in : List Cell → Trade → List Cell
bought_in cells t = placed_on Buy t cells

-- the buyer's leg is booked, then the seller's
abbrev pub fill_in : List Cell → Trade → Fill
fill_in cells t = record {
  cells = placed_on Sell t (bought_in cells t);
  bought = closed_on Buy t cells;
  sold = closed_on Sell t (bought_in cells t);
}

-- the same in the cells of a book
abbrev pub fill_of : State → Trade → Fill
fill_of s t = fill_in (cells_of s (t.series - 1)) t

abbrev pub trade_checks : State → Trade → List (Bool × Refusal)
trade_checks s t =
    (trade_in_range t, OutOfRange)
    ∷ (has_account s t.buyer && has_account s t.seller, NoAccount)
    ∷ (has_series s t.series, NoSeries)
    ∷ (not (expired s t.series), Expired)
    ∷ (s.trading, TradingClosed)
    ∷ (nat_le (s.legs.count + 2) 256, Full)
    ∷ (nat_le (total_longs (fill_of s t).cells) 100_000, TooMany)
    ∷ []

-- the book with the trade: the series' cells, and two legs more
abbrev pub traded : State → Trade → State
traded s t =
    with_legs (with_cells s (t.series - 1) (fill_of s t).cells)
    (one_leg_more (one_leg_more s.legs (buyer_leg t (fill_of s t).bought)) (seller_leg t (fill_of s t).sold))
