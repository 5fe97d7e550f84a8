-- Each accepted call keeps the count of the register and the book together.
use Rattle.std.proofs.Common.{◌≡◌, ℕ, ◌+◌, ◌-◌, ◌<◌, ◌≤◌, true, List, [], ◌∷◌, ◌++◌, length, get_or, set, ℤ, pos, neg_ℤ, sym, refl, ap, ◌∙◌, subst, arith, length-set}
use Rattle.std.proofs.lemmas.List.{length_push}
use Rattle.std.proofs.lemmas.Int.{ints}
use Rattle.std.proofs.lemmas.List.Sums.{get_or-le-sum_by}
use Rattle.std.proofs.lemmas.Bool.{leb-true}
use Rattle.positions.specs.declared.cell.Cell.{Cell}
use Rattle.positions.specs.declared.leg.Leg.{Leg}
use Rattle.positions.specs.declared.leg.LegEvent.{LegEvent}
use Rattle.positions.specs.declared.kinds.Side.TheVariants.{Buy, Sell}
use Rattle.positions.specs.Kinds.{effect_of_code, side_of_code}
use Rattle.positions.specs.Cells.{no_cell, on_side, booked, given}
use Rattle.positions.specs.Legs.{open_part, left_by, rebooked, stepped}
use Rattle.ledger.specs.declared.state.Account.{Account}
use Rattle.ledger.specs.declared.state.Contract.{Contract}
use Rattle.ledger.specs.declared.state.Series.{Series}
use Rattle.ledger.specs.declared.state.Stage.TheVariants.{Input}
use Rattle.ledger.specs.declared.state.Opening.{Opening}
use Rattle.ledger.specs.declared.state.State.{State}
use Rattle.ledger.specs.declared.state.Trade.{Trade}
use Rattle.ledger.specs.declared.state.PositionTransfer.{PositionTransfer}
use Rattle.ledger.specs.Tables.{new_series, no_contract, past_series, opening, row, cells_of, cell_at, leg_of, with_accounts, with_listing, with_legs, with_cells, one_account_more, one_series_more, leg_stepped}
use Rattle.ledger.specs.Lookups.{has_leg}
use Rattle.dealing.specs.Trades.{fill_of, buyer_leg, seller_leg, traded}
use Rattle.transfers.specs.Transfers.{rebooking_of, transferred, moved_cells, position_moved}
use Rattle.ledger.specs.Sound.{Facts, ValidLeg, Balanced}
use Rattle.ledger.proofs.FactLaws.{Placed, within_parts, account_placed, series_placed, leg_valid}
use Rattle.ledger.proofs.KeepLaws.{all_same}
use Rattle.dealing.proofs.TradeLaws.{bought_cells, Admitted}
use Rattle.transfers.proofs.TransferLaws.{cells_without, Movable}
use Rattle.transfers.proofs.PositionLaws.{Transferable, receiver_same}
use Rattle.register.specs.Balance.{Listed, Count, signed, added, moved, trade_counted, leg_given, leg_counted, position_counted}
use Rattle.register.proofs.BalanceLaws.{Differs, differs_booked, differs_unbooked, differs_given, differs_received, added_else, moved_else, RowAgrees, row_added, Agrees, agrees_row, as_listed, legs_push, legs_set, legs_same, Tied}

-- ── the opening ──

pub tied_opening : (o : Opening) → Tied (record { balance = λ a i. pos 0; legs = [] }) (opening o)
tied_opening o = record {
  cells = λ i il ih a al ah.
      all_same (λ (r : Series). Differs (get_or r.cells (a - 1) no_cell) (pos 0)) 32 (new_series no_contract) past_series (i - 1)
      (all_same (λ (c : Cell). Differs c (pos 0)) 32 no_cell no_cell (a - 1) refl refl) refl;
  legs = record { number = refl; each = λ k h. absurd (omega arith) };
}

-- ── an account, a series ──

pub tied_account : (y : Count) (s : State) (a : Account) → Tied y s → Tied y (with_accounts s (one_account_more s.accounts a))
tied_account y s a d = record { cells = d.cells; legs = d.legs }

module _ (y : Count) (s : State) (k : Contract) (f : Facts s) (d : Tied y s) (lt : s.series.count < 32) where
  new_row : RowAgrees (new_series k).cells y.balance (s.series.count + 1)
  new_row a al ah =
      let n = s.series.count in
      let e : n + 1 - 1 ≡ n = omega arith in
      let old = subst (λ (k : ℕ). Differs (get_or (cells_of s k) (a - 1) no_cell) (y.balance a (n + 1))) e (d.cells (n + 1) (omega arith) (omega arith) a al ah) in
      let b = f.balanced n lt in
      let u = f.unlisted n (omega arith) lt in
      let p = get_or-le-sum_by (λ (c : Cell). c.longs) (cells_of s n) (a - 1) no_cell (omega (arith, b.0)) in
      let q = get_or-le-sum_by (λ (c : Cell). c.shorts) (cells_of s n) (a - 1) no_cell (omega (arith, b.0)) in
      let zero : Differs no_cell (y.balance a (n + 1)) = omega (arith, ints, old, p, q, u, b.1.0) in
      all_same (λ (c : Cell). Differs c (y.balance a (n + 1))) 32 no_cell no_cell (a - 1) zero zero

  pub tied_series : Tied y (with_listing s (one_series_more s.series (new_series k)))
  tied_series =
      let n = s.series.count in
      let e : n + 1 - 1 ≡ n = omega arith in
      record {
        cells = subst (λ (j : ℕ). Agrees (set s.series.rows j (new_series k)) y.balance) e (agrees_row s.series.rows y.balance y.balance (n + 1) (new_series k) (omega arith) (omega (arith, f.tables.1.1)) d.cells new_row (λ a i o. refl));
        legs = d.legs;
      }

-- ── one series' cells replaced ──

pub agrees_cells : (s : State) (n : ℕ) (cells : List Cell) (b c : ℕ → ℕ → ℤ) → Facts s → Placed n s.series.count → Agrees s.series.rows b → RowAgrees cells c n → ((a i : ℕ) → (i ≡ n → ⊥) → c a i ≡ b a i) → Agrees (with_cells s (n - 1) cells).series.rows c
agrees_cells s n cells b c f p old new rest = agrees_row s.series.rows b c n (record { contract = (row s (n - 1)).contract; cells = cells }) p.from (omega (arith, p.from, p.row, f.tables.1.1)) old new rest

-- ── trade ──

module _ (y : Count) (s : State) (t : Trade) (f : Facts s) (d : Tied y s) (ok : Admitted s t) where
  abbrev n : ℕ
  n = t.series

  abbrev tcells : List Cell
  tcells = cells_of s (n - 1)

  v : Placed n s.series.count
  v = series_placed s n f ok.listed

  buyer : Placed t.buyer s.accounts.count
  buyer = account_placed s t.buyer f ok.buyer

  seller : Placed t.seller s.accounts.count
  seller = account_placed s t.seller f ok.seller

  tb : Balanced tcells
  tb = f.balanced (n - 1) (omega (arith, v.from, v.row))

  told : RowAgrees tcells y.balance n
  told = d.cells n v.from v.row

  bought_row : RowAgrees (bought_cells s t) (added y.balance t.buyer n (signed Buy t.quantity)) n
  bought_row =
      row_added tcells y.balance t.buyer n _ (signed Buy t.quantity) buyer.from (omega (arith, buyer.from, buyer.row, tb.0)) told
      (differs_booked Buy (get_or tcells (t.buyer - 1) no_cell) (effect_of_code t.buyer_effect) t.quantity _ (told t.buyer buyer.from buyer.row))

  traded_row : RowAgrees (fill_of s t).cells (trade_counted t y).balance n
  traded_row =
      row_added (bought_cells s t) (added y.balance t.buyer n (signed Buy t.quantity)) t.seller n _ (signed Sell t.quantity) seller.from
      (omega (arith, seller.from, seller.row, tb.0, length-set tcells (t.buyer - 1) (booked (get_or tcells (t.buyer - 1) no_cell) Buy (effect_of_code t.buyer_effect) t.quantity))) bought_row
      (differs_booked Sell (get_or (bought_cells s t) (t.seller - 1) no_cell) (effect_of_code t.seller_effect) t.quantity _ (bought_row t.seller seller.from seller.row))

  abbrev first : Leg
  first = buyer_leg t (fill_of s t).bought

  abbrev second : Leg
  second = seller_leg t (fill_of s t).sold

  one : length (y.legs ++ (as_listed first ∷ [])) ≡ s.legs.count + 1
  one = length_push y.legs _ ∙ ap (λ (k : ℕ). k + 1) d.legs.number

  pub tied_traded : Tied (trade_counted t y) (traded s t)
  tied_traded = record {
    cells = agrees_cells s n (fill_of s t).cells y.balance (trade_counted t y).balance f v d.cells traded_row
        (λ a i o. added_else (added y.balance t.buyer n (signed Buy t.quantity)) t.seller n (signed Sell t.quantity) a i o ∙ added_else y.balance t.buyer n (signed Buy t.quantity) a i o);
    legs = record {
      number = length_push _ _ ∙ ap (λ (k : ℕ). k + 1) one;
      each = legs_push (y.legs ++ (as_listed first ∷ [])) (set s.legs.rows s.legs.count first) (s.legs.count + 1) second one
          (omega (arith, ok.room, f.tables.1.2, length-set s.legs.rows s.legs.count first))
          (legs_push y.legs s.legs.rows s.legs.count first d.legs.number (omega (arith, ok.room, f.tables.1.2)) d.legs.each);
    };
  }

-- ── a leg goes to another account ──

module _ (y : Count) (s : State) (k account : ℕ) (f : Facts s) (d : Tied y s) (ok : Movable s k account) where
  abbrev l : Leg
  l = leg_of s k

  abbrev q : ℤ
  q = signed l.side l.quantity

  abbrev lcells : List Cell
  lcells = cells_of s (l.series - 1)

  valid : ValidLeg s l
  valid = leg_valid s k f ok.leg

  into : Placed account s.accounts.count
  into = account_placed s account f ok.known

  place : (1 ≤ k) × (k ≤ s.legs.count)
  place = within_parts k 1 s.legs.count ok.leg

  lv : Placed l.series s.series.count
  lv = record { from = valid.0.1.0; to = valid.0.1.1; row = omega (arith, valid.0.1.1, f.tables.0.1) }

  lb : Balanced lcells
  lb = f.balanced (l.series - 1) (omega (arith, lv.from, lv.row))

  lold : RowAgrees lcells y.balance l.series
  lold = d.cells l.series lv.from lv.row

  from_row : l.account ≤ 32
  from_row = omega (arith, valid.0.0.1, f.tables.0.0)

  there : open_part l ≤ on_side l.side (get_or lcells (l.account - 1) no_cell)
  there = leb-true _ _ ok.there

  without_row : RowAgrees (cells_without s l) (added y.balance l.account l.series (neg_ℤ q)) l.series
  without_row =
      row_added lcells y.balance l.account l.series _ (neg_ℤ q) valid.0.0.0 (omega (arith, valid.0.0.0, from_row, lb.0)) lold
      (differs_unbooked l.side (cell_at s l.account l.series) (open_part l) l.closed l.quantity _ there (omega (arith, valid.1.0)) (lold l.account valid.0.0.0 from_row))

  rebooked_row : RowAgrees (rebooking_of s l account).cells (moved y.balance l.account account l.series q) l.series
  rebooked_row =
      row_added (cells_without s l) (added y.balance l.account l.series (neg_ℤ q)) account l.series _ q into.from
      (omega (arith, into.from, into.row, lb.0, length-set lcells (l.account - 1) (left_by l (cell_at s l.account l.series)))) without_row
      (differs_booked l.side (get_or (cells_without s l) (account - 1) no_cell) l.effect l.quantity _ (without_row account into.from into.row))

  abbrev anew : Leg
  anew = rebooked l account (rebooking_of s l account).closed

  tied_given : Tied (leg_given k account (as_listed l) y) (transferred s k account)
  tied_given = record {
    cells = agrees_cells s l.series (rebooking_of s l account).cells y.balance (leg_given k account (as_listed l) y).balance f lv d.cells rebooked_row
        (λ a i o. moved_else y.balance l.account account l.series q a i o);
    legs = record {
      number = length-set _ _ _ ∙ d.legs.number;
      each = legs_set y.legs s.legs.rows s.legs.count (k - 1) (as_listed anew) anew (omega (arith, place.0, place.1, d.legs.number)) (omega (arith, place.0, place.1, f.tables.0.2, f.tables.1.2)) refl d.legs.each;
    };
  }

  pub tied_transferred : Tied (leg_counted k account y) (transferred s k account)
  tied_transferred = subst (λ (x : Listed). Tied (leg_given k account x y) (transferred s k account)) (sym (d.legs.each (k - 1) (omega (arith, place.0, place.1)))) tied_given

-- ── a leg's state alone changes ──

pub tied_stepped : (y : Count) (s : State) (k : ℕ) (e : LegEvent) → Facts s → has_leg s k ≡ true → Tied y s → Tied y (with_legs s (leg_stepped s.legs (k - 1) e))
tied_stepped y s k e f h d =
    let p = within_parts k 1 s.legs.count h in
    record {
      cells = d.cells;
      legs = record {
        number = d.legs.number;
        each = legs_same y.legs s.legs.rows s.legs.count (k - 1) (stepped (leg_of s k) e) (omega (arith, p.0, p.1, f.tables.0.2, f.tables.1.2)) refl d.legs.each;
      };
    }

-- ── position transfer ──

module _ (y : Count) (s : State) (t : PositionTransfer) (f : Facts s) (input : s.stage ≡ Input) (d : Tied y s) (ok : Transferable s t) where
  abbrev w : ℤ
  w = signed (side_of_code t.side) t.quantity

  abbrev pcells : List Cell
  pcells = cells_of s (t.series - 1)

  giver : Placed t.from s.accounts.count
  giver = account_placed s t.from f ok.giver

  receiver : Placed t.to s.accounts.count
  receiver = account_placed s t.to f ok.receiver

  pv : Placed t.series s.series.count
  pv = series_placed s t.series f ok.listed

  pb : Balanced pcells
  pb = f.balanced (t.series - 1) (omega (arith, pv.from, pv.row))

  pold : RowAgrees pcells y.balance t.series
  pold = d.cells t.series pv.from pv.row

  abbrev gave : List Cell
  gave = set pcells (t.from - 1) (given (get_or pcells (t.from - 1) no_cell) (side_of_code t.side) t.quantity)

  gave_row : RowAgrees gave (added y.balance t.from t.series (neg_ℤ w)) t.series
  gave_row =
      row_added pcells y.balance t.from t.series _ (neg_ℤ w) giver.from (omega (arith, giver.from, giver.row, pb.0)) pold
      (differs_given (side_of_code t.side) (get_or pcells (t.from - 1) no_cell) t.quantity _ ok.there (pold t.from giver.from giver.row))

  moved_row : RowAgrees (moved_cells s t) (moved y.balance t.from t.to t.series w) t.series
  moved_row =
      let old = subst (λ (c : Cell). Differs c (added y.balance t.from t.series (neg_ℤ w) t.to t.series)) (receiver_same s t f input ok) (gave_row t.to receiver.from receiver.row) in
      row_added gave (added y.balance t.from t.series (neg_ℤ w)) t.to t.series _ w receiver.from
      (omega (arith, receiver.from, receiver.row, pb.0, length-set pcells (t.from - 1) (given (get_or pcells (t.from - 1) no_cell) (side_of_code t.side) t.quantity))) gave_row
      (differs_received (side_of_code t.side) (get_or pcells (t.to - 1) no_cell) t.quantity _ old)

  pub tied_moved : Tied (position_counted t y) (position_moved s t)
  tied_moved = record {
    cells = agrees_cells s t.series (moved_cells s t) y.balance (position_counted t y).balance f pv d.cells moved_row (λ a i o. moved_else y.balance t.from t.to t.series w a i o);
    legs = d.legs;
  }
