-- An accepted trade.
use Rattle.std.proofs.Common.{◌≡◌, ◌+◌, ◌-◌, ◌≤◌, true, List, length, get_or, None, sym, ◌∙◌, subst, arith, length-set}
use Rattle.std.proofs.lemmas.Bool.{and_parts, leb-true}
use Rattle.draws.specs.Checks.{first_refusal}
use Rattle.draws.proofs.Passes.{all_pass}
use Rattle.positions.specs.declared.cell.Cell.{Cell}
use Rattle.positions.specs.declared.kinds.Side.TheVariants.{Buy, Sell}
use Rattle.positions.specs.Kinds.{effect_of_code}
use Rattle.positions.specs.Cells.{no_cell}
use Rattle.positions.specs.Legs.{no_leg}
use Rattle.positions.specs.Rows.{total_longs}
use Rattle.positions.proofs.CellLaws.{closing_le}
use Rattle.positions.proofs.RowLaws.{placed_buy, placed_sell}
use Rattle.ledger.specs.declared.state.Stage.TheVariants.{Input}
use Rattle.ledger.specs.declared.state.State.{State}
use Rattle.ledger.specs.declared.state.Trade.{Trade}
use Rattle.ledger.specs.Tables.{cells_of, with_cells}
use Rattle.ledger.specs.Lookups.{within, has_account, has_series}
use Rattle.dealing.specs.Trades.{trade_in_range, trade_checks, bought_in, fill_of, buyer_leg, seller_leg, traded}
use Rattle.ledger.specs.Sound.{Balanced, Waiting, ValidLeg, Facts}
use Rattle.ledger.proofs.FactLaws.{Placed, within_parts, account_placed, series_placed}
use Rattle.ledger.proofs.KeepLaws.{facts_cells, facts_legs, each_push}
use Rattle.ledger.proofs.CalmLaws.{Calm, aside_booked, calm_set, settled_set, calm_cells}

-- what it has passed
pub record Admitted (s : State) (t : Trade) : Type 0 where
  pub range : trade_in_range t ≡ true
  pub buyer : has_account s t.buyer ≡ true
  pub seller : has_account s t.seller ≡ true
  pub listed : has_series s t.series ≡ true
  pub room : s.legs.count + 2 ≤ 256
  pub few : total_longs (fill_of s t).cells ≤ 100_000

pub admitted : (s : State) (t : Trade) → first_refusal (trade_checks s t) ≡ None → Admitted s t
admitted s t h =
    let a = all_pass (trade_checks s t) h in
    let m = and_parts (has_account s t.buyer) (has_account s t.seller) a.1.0 in
    record {
      range = a.0;
      buyer = m.0;
      seller = m.1;
      listed = a.1.1.0;
      room = leb-true _ _ a.1.1.1.1.1.0;
      few = leb-true _ _ a.1.1.1.1.1.1.0;
    }

pub quantity_small : (t : Trade) → trade_in_range t ≡ true → t.quantity ≤ 100_000
quantity_small t h =
    let a = (and_parts (within t.buyer_effect 1 2) _ h).1 in
    let b = (and_parts (within t.seller_effect 1 2) _ a).1 in
    let q = (and_parts (within t.quantity 1 100_000) _ b).0 in
    (within_parts t.quantity 1 100_000 q).1

-- the cells of the book when the buyer's leg is booked
abbrev pub bought_cells : State → Trade → List Cell
bought_cells s t = bought_in (cells_of s (t.series - 1)) t

module _ (s : State) (t : Trade) (f : Facts s) (input : s.stage ≡ Input) (a : Admitted s t) where
  abbrev cells : List Cell
  cells = cells_of s (t.series - 1)

  x : Placed t.buyer s.accounts.count
  x = account_placed s t.buyer f a.buyer

  y : Placed t.seller s.accounts.count
  y = account_placed s t.seller f a.seller

  n : Placed t.series s.series.count
  n = series_placed s t.series f a.listed

  b : Balanced cells
  b = f.balanced (t.series - 1) (omega (arith, n.from, n.row))

  size : length (bought_cells s t) ≡ 32
  size = length-set cells _ _ ∙ b.0

  pub traded_balanced : Balanced (fill_of s t).cells
  traded_balanced =
      let p = placed_buy cells (t.buyer - 1) (effect_of_code t.buyer_effect) t.quantity (omega (arith, b.0, x.from, x.row)) in
      let r = placed_sell (bought_cells s t) (t.seller - 1) (effect_of_code t.seller_effect) t.quantity (omega (arith, size, y.from, y.row)) in
      let u = settled_set cells (t.buyer - 1) _ (aside_booked (get_or cells (t.buyer - 1) no_cell) Buy (effect_of_code t.buyer_effect) t.quantity) (omega (arith, b.0, x.from, x.row)) b.2 in
      let v = settled_set (bought_cells s t) (t.seller - 1) _ (aside_booked (get_or (bought_cells s t) (t.seller - 1) no_cell) Sell (effect_of_code t.seller_effect) t.quantity) (omega (arith, size, y.from, y.row)) u in
      (length-set (bought_cells s t) _ _ ∙ size, (omega (arith, p, r, b.1.0), a.few), v)

  traded_calm : Calm (fill_of s t).cells
  traded_calm =
      calm_set (bought_cells s t) (t.seller - 1) _ (aside_booked (get_or (bought_cells s t) (t.seller - 1) no_cell) Sell (effect_of_code t.seller_effect) t.quantity)
      (calm_set cells (t.buyer - 1) _ (aside_booked (get_or cells (t.buyer - 1) no_cell) Buy (effect_of_code t.buyer_effect) t.quantity) (calm_cells s (t.series - 1) f input))

  pub facts_traded : Facts (traded s t)
  facts_traded =
      let q = quantity_small t a.range in
      let g = facts_cells s t.series (fill_of s t).cells f n.from n.to traded_balanced (λ j. subst (λ g. Waiting g (get_or (fill_of s t).cells j no_cell)) (sym input) (traded_calm j)) in
      let u = with_cells s (t.series - 1) (fill_of s t).cells in
      facts_legs u _ g (omega (arith, a.room)) (length-set _ _ _ ∙ length-set _ _ _ ∙ f.tables.1.2)
      (each_push (ValidLeg u) _ (s.legs.count + 1) (seller_leg t (fill_of s t).sold) no_leg (omega (arith, a.room, f.tables.1.2, length-set s.legs.rows s.legs.count (buyer_leg t (fill_of s t).bought)))
      (each_push (ValidLeg u) s.legs.rows s.legs.count (buyer_leg t (fill_of s t).bought) no_leg (omega (arith, a.room, f.tables.1.2)) f.valid
      (((x.from, x.to), (n.from, n.to)), (closing_le (get_or cells (t.buyer - 1) no_cell) Buy (effect_of_code t.buyer_effect) t.quantity, q)))
      (((y.from, y.to), (n.from, n.to)), (closing_le (get_or (bought_cells s t) (t.seller - 1) no_cell) Sell (effect_of_code t.seller_effect) t.quantity, q)))
