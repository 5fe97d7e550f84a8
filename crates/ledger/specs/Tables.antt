-- The tables of a book, at its opening and with a row changed.
use Rattle.std.specs.Prelude.{ℕ, ◌+◌, ◌-◌, ◌≤◌, true, false, List, [], take, replicate, None, slice_index_or, slice_set}
use Rattle.positions.specs.declared.cell.Cell.{Cell}
use Rattle.positions.specs.declared.leg.Leg.{Leg}
use Rattle.positions.specs.declared.leg.LegEvent.{LegEvent}
use Rattle.positions.specs.declared.kinds.AccountType.{AccountType}
use Rattle.positions.specs.declared.kinds.AccountType.TheVariants as type
use Rattle.positions.specs.declared.kinds.Right.TheVariants.{Call}
use Rattle.positions.specs.declared.criterion.Criterion.TheVariants.{Amount}
use Rattle.positions.specs.Cells.{no_cell}
use Rattle.positions.specs.Legs.{no_leg, rebooked, stepped}
use Rattle.ledger.specs.declared.state.Stage.TheVariants as stage
use Rattle.ledger.specs.declared.state.Opening.{Opening}
use Rattle.ledger.specs.declared.state.Account.{Account}
use Rattle.ledger.specs.declared.state.Contract.{Contract}
use Rattle.ledger.specs.declared.state.Series.{Series}
use Rattle.ledger.specs.declared.state.Request.{Request}
use Rattle.ledger.specs.declared.state.State.{State}
use Rattle.ledger.specs.declared.state.Table.{Table}

-- ── the tables ──

abbrev pub Accounts : Type 0
Accounts = Table Account 32

abbrev pub Listing : Type 0
Listing = Table Series 32

abbrev pub Legs : Type 0
Legs = Table Leg 256

abbrev pub Requests : Type 0
Requests = Table Request 128

-- ── rows ──

abbrev pub new_account : ℕ → AccountType → Account
new_account participant t = record { participant = participant; account_type = t; collateral = 0; calls = None; puts = None }

abbrev pub no_account : Account
no_account = new_account 0 type.House

abbrev pub no_contract : Contract
no_contract = record { right = Call; strike = 0; expiry = 0 }

-- a series with the cells of all accounts at 0
abbrev pub new_series : Contract → Series
new_series c = record { contract = c; cells = replicate 32 no_cell }

-- what a look-up past a table's end gives
abbrev pub past_series : Series
past_series = record { contract = no_contract; cells = [] }

abbrev pub no_request : Request
no_request = record { account = 0; series = 0; quantity = 0; pending = false }

-- ── the opening ──

-- no row is in use
abbrev pub empty_table : {T : Type 0} → (size : ℕ) → T → Table T size
empty_table size r = record { rows = replicate size r; count = 0 }

abbrev pub opening : Opening → State
opening o = record {
  terms = record { number = o.number; size = o.size; block = o.block };
  day = o.day;
  previous = 0;
  stage = stage.Input;
  trading = true;
  fixing = None;
  house = record { calls = Amount 1; puts = Amount 1 };
  accounts = empty_table 32 no_account;
  series = empty_table 32 (new_series no_contract);
  legs = empty_table 256 no_leg;
  requests = empty_table 128 no_request;
}

-- ── look-ups by place, and by number ──

abbrev pub row : State → ℕ → Series
row s at = slice_index_or s.series.rows at past_series

abbrev pub cells_of : State → ℕ → List Cell
cells_of s at = (row s at).cells

-- account a's cell in series i, both by number
abbrev pub cell_at : State → ℕ → ℕ → Cell
cell_at s a i = slice_index_or (cells_of s (i - 1)) (a - 1) no_cell

-- the number of a row, counted from 1
abbrev pub RowNumber : ℕ → ℕ → Type 0
RowNumber size n = (1 ≤ n) × (n ≤ size)

-- a table's row by its number; d past the table's end
abbrev pub row_of : {T : Type 0} {size : ℕ} → Table T size → ℕ → T → T
row_of t n d = slice_index_or t.rows (n - 1) d

-- the first rows, as many as are in use
abbrev pub in_use : {T : Type 0} {size : ℕ} → Table T size → List T
in_use t = take t.count t.rows

abbrev pub account_of : State → ℕ → Account
account_of s n = row_of s.accounts n no_account

abbrev pub leg_of : State → ℕ → Leg
leg_of s n = row_of s.legs n no_leg

-- ── a state with one part changed ──

abbrev pub with_accounts : State → Accounts → State
with_accounts s t = record s { accounts = t }

abbrev pub with_listing : State → Listing → State
with_listing s t = record s { series = t }

abbrev pub with_legs : State → Legs → State
with_legs s t = record s { legs = t }

abbrev pub with_cells : State → ℕ → List Cell → State
with_cells s at cells = with_listing s (record s.series { rows = slice_set s.series.rows at (record (row s at) { cells = cells }) })

-- ── a table with one row more, or changed ──

abbrev pub one_more : {T : Type 0} {size : ℕ} → Table T size → T → Table T size
one_more t r = record { rows = slice_set t.rows t.count r; count = t.count + 1 }

abbrev pub one_account_more : Accounts → Account → Accounts
one_account_more t a = one_more t a

abbrev pub one_series_more : Listing → Series → Listing
one_series_more t r = one_more t r

abbrev pub one_leg_more : Legs → Leg → Legs
one_leg_more t l = one_more t l

abbrev pub leg_rebooked : Legs → ℕ → ℕ → ℕ → Legs
leg_rebooked t at account closed = record t { rows = slice_set t.rows at (rebooked (slice_index_or t.rows at no_leg) account closed) }

abbrev pub leg_stepped : Legs → ℕ → LegEvent → Legs
leg_stepped t at e = record t { rows = slice_set t.rows at (stepped (slice_index_or t.rows at no_leg) e) }
