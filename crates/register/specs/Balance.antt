-- The balance of a register, counted from its entries alone, beside a list of the day's legs.
use Rattle.std.specs.Prelude.{ℕ, ◌-◌, cond, ◌&&◌, List, [], ◌∷◌, ◌++◌, ℤ, pos, ◌+ℤ◌, neg_ℤ, ◌==◌, slice_index_or, slice_set}
use Rattle.draws.specs.Replies.{is_accepted}
use Rattle.positions.specs.declared.kinds.Side.{Side}
use Rattle.positions.specs.declared.kinds.Side.TheVariants.{Buy, Sell}
use Rattle.positions.specs.Kinds.{side_of_code}
use Rattle.ledger.specs.declared.state.Trade.{Trade}
use Rattle.ledger.specs.declared.state.PositionTransfer.{PositionTransfer}
use Rattle.ledger.specs.declared.state.Opening.{Opening}
use Rattle.ledger.specs.declared.state.State.{State}
use Rattle.ledger.specs.Tables.{cell_at}
use Rattle.ledger.specs.Lookups.{expiring}
use Rattle.transfers.specs.Transfers.{confirms}
use Rattle.register.specs.declared.calls.InputCall.{InputCall}
use Rattle.register.specs.declared.calls.InputCall.TheVariants.{AddAccount, ListSeries, BookTrade, TransferTrade, GiveUpLeg, TakeUpLeg, TransferPosition}
use Rattle.register.specs.declared.calls.Call.{Call}
use Rattle.register.specs.declared.calls.Call.TheVariants.{Open, OfInput, OfExercise, CutOff, Assign, GiveStatement, BeginDay}
use Rattle.register.specs.Register.{Entry, given}

-- a leg as the register lists it
pub record Listed : Type 0 where
  pub account : ℕ
  pub series : ℕ
  pub side : Side
  pub quantity : ℕ

-- a balance for each account and series, and the day's legs in their order
pub record Count : Type 0 where
  pub balance : ℕ → ℕ → ℤ
  pub legs : List Listed

abbrev pub none_listed : Listed
none_listed = record { account = 0; series = 0; side = Buy; quantity = 0 }

-- a buy counts up, a sale down
abbrev pub signed : Side → ℕ → ℤ
signed Buy q = pos q
signed Sell q = neg_ℤ (pos q)

-- the balance with z added for one account in one series
abbrev pub added : (ℕ → ℕ → ℤ) → ℕ → ℕ → ℤ → ℕ → ℕ → ℤ
added b account series z a i = cond (a == account && i == series) (b a i +ℤ z) (b a i)

-- z leaves one account's balance for another's
abbrev pub moved : (ℕ → ℕ → ℤ) → ℕ → ℕ → ℕ → ℤ → ℕ → ℕ → ℤ
moved b from to series z = added (added b from series (neg_ℤ z)) to series z

-- a trade adds its quantity for the buyer, takes it from the seller, and lists both legs
abbrev pub trade_counted : Trade → Count → Count
trade_counted t y = record {
  balance = added (added y.balance t.buyer t.series (signed Buy t.quantity)) t.seller t.series (signed Sell t.quantity);
  legs = (y.legs ++ (record { account = t.buyer; series = t.series; side = Buy; quantity = t.quantity } ∷ [])) ++ (record { account = t.seller; series = t.series; side = Sell; quantity = t.quantity } ∷ []);
}

-- the leg l, listed as number n, goes to another account: a buy's quantity leaves the old balance for the new, a sale's
-- the reverse
abbrev pub leg_given : ℕ → ℕ → Listed → Count → Count
leg_given n account l y = record {
  balance = moved y.balance l.account account l.series (signed l.side l.quantity);
  legs = slice_set y.legs (n - 1) (record { account = account; series = l.series; side = l.side; quantity = l.quantity });
}

abbrev pub leg_counted : ℕ → ℕ → Count → Count
leg_counted n account y = leg_given n account (slice_index_or y.legs (n - 1) none_listed) y

-- longs moved leave the giver's balance for the receiver's, shorts the reverse
abbrev pub position_counted : PositionTransfer → Count → Count
position_counted t y = record { balance = moved y.balance t.from t.to t.series (signed (side_of_code t.side) t.quantity); legs = y.legs }

-- what an accepted call of the input stage changes
abbrev pub input_counted : InputCall → Count → Count
input_counted (AddAccount participant code) y = y
input_counted (ListSeries right strike expiry) y = y
input_counted (BookTrade t) y = trade_counted t y
input_counted (TransferTrade leg account) y = leg_counted leg account y
input_counted (GiveUpLeg leg participant) y = y
input_counted (TakeUpLeg leg answer account) y = cond (confirms answer) (leg_counted leg account y) y
input_counted (TransferPosition t) y = position_counted t y

-- an assignment takes off what is exercised and adds what is assigned, as the rules give them; a series that expires
-- today then goes to 0
abbrev pub assignment_counted : State → State → Count → Count
assignment_counted s t y = record {
  balance = λ a i. cond (expiring s i) (pos 0) ((y.balance a i +ℤ neg_ℤ (pos (cell_at t a i).exercised)) +ℤ pos (cell_at t a i).assigned);
  legs = y.legs;
}

-- an accepted call, with the states that the rules give before and after it; the next day empties the list of legs
abbrev pub counted : Call → State → State → Count → Count
counted (Open o) s t y = y
counted (OfInput c) s t y = input_counted c y
counted (OfExercise c) s t y = y
counted CutOff s t y = y
counted Assign s t y = assignment_counted s t y
counted GiveStatement s t y = y
counted (BeginDay day) s t y = record { balance = y.balance; legs = [] }

-- at first every balance is 0 and no leg is listed; a call turned back changes nothing
abbrev pub count : Opening → List Entry → Count
count o [] = record { balance = λ a i. pos 0; legs = [] }
count o (e ∷ r) = cond (is_accepted e.reply) (counted e.call (given o r) (given o (e ∷ r)) (count o r)) (count o r)
