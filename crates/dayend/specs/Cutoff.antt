-- The cut: positions are netted, and what is to be exercised is due.
use Rattle.std.specs.Prelude.{◌≡◌, ℕ, zero, suc, ◌+◌, ◌-◌, ◌<◌, Bool, false, cond, not, ◌&&◌, ◌||◌, List, [], ◌∷◌, is_some, Some, None, sum_by, Option, ◌==◌, slice_index, slice_index_or}
use Rattle.positions.specs.declared.cell.Cell.{Cell}
use Rattle.positions.specs.declared.criterion.Criterion.{Criterion}
use Rattle.positions.specs.declared.leg.Leg.{Leg}
use Rattle.positions.specs.declared.leg.LegEvent.TheVariants as event
use Rattle.positions.specs.Cells.{netted, with_due}
use Rattle.positions.specs.Criteria.{meets}
use Rattle.positions.specs.Legs.{stepped}
use Rattle.positions.specs.Places.{each}
use Rattle.ledger.specs.declared.refusal.Refusal.{Refusal}
use Rattle.ledger.specs.declared.refusal.Refusal.TheVariants.{NoFixingPrice}
use Rattle.ledger.specs.declared.state.Account.{Account}
use Rattle.ledger.specs.declared.state.Contract.{Contract}
use Rattle.ledger.specs.declared.state.Request.{Request}
use Rattle.ledger.specs.declared.state.Series.{Series}
use Rattle.ledger.specs.declared.state.Stage.TheVariants as stage
use Rattle.ledger.specs.declared.state.State.{State}
use Rattle.ledger.specs.Tables.{Requests, no_account, row, in_use, account_of}
use Rattle.ledger.specs.Lookups.{expiring}
use Rattle.exercise.specs.Criteria.{criterion_of}

-- one of the first n series expires today
abbrev pub any_expiring : State → ℕ → Bool
any_expiring s zero = false
any_expiring s (suc n) = expiring s (suc n) || any_expiring s n

abbrev pub cut_checks : State → List (Bool × Refusal)
cut_checks s = (not (any_expiring s s.series.count) || is_some s.fixing, NoFixingPrice) ∷ []

-- ── what is asked for, and what is exercised without a request ──

-- what a request asks of account a in series i, both by number
abbrev pub asks : ℕ → ℕ → Request → ℕ
asks a i r = cond (r.pending && (r.account == a && r.series == i)) r.quantity 0

-- of 32 accounts the request asks only of the one at place k, or of none
abbrev pub AsksAt : Request → ℕ → Option ℕ → Type 0
AsksAt r i (Some k) = (k < 32) × ((a : ℕ) → a < 32 → asks (a + 1) i r ≡ cond (a == k) r.quantity 0)
AsksAt r i None = (a : ℕ) → a < 32 → asks (a + 1) i r ≡ 0

abbrev pub asked : Requests → ℕ → ℕ → ℕ
asked t a i = sum_by (asks a i) (in_use t)

abbrev pub met_at : Option ℕ → Criterion → Contract → Bool
met_at None k c = false
met_at (Some price) k c = meets k c.right c.strike price

-- the series expires today, and meets the account's criterion at the fixing price
abbrev pub automatic : State → ℕ → ℕ → Bool
automatic s a i = expiring s i && met_at s.fixing (criterion_of s a (row s (i - 1)).contract.right) (row s (i - 1)).contract

-- ── the cut ──

-- the cell of the account at a place, by the accounts, what each wants, and whether its longs are exercised without a request
abbrev pub cut_by : List Account → List ℕ → List Bool → ℕ → Cell → Cell
cut_by accounts wanted automatic at c = with_due (netted (slice_index_or accounts at no_account).account_type c) (slice_index wanted at) (slice_index_or automatic at false)

-- account a's cell in series i, both by number
abbrev pub cut_cell : State → ℕ → ℕ → Cell → Cell
cut_cell s i a c = with_due (netted (account_of s a).account_type c) (asked s.requests a i) (automatic s a i)

abbrev pub cut_cells : State → ℕ → List Cell → List Cell
cut_cells s i cells = each (λ at c. cut_cell s i (at + 1) c) cells

-- the series at a place
abbrev pub cut_series : State → ℕ → Series → Series
cut_series s at r = record r { cells = cut_cells s (at + 1) r.cells }

-- held legs become free
abbrev pub cut_legs : List Leg → List Leg
cut_legs rows = each (λ _ l. stepped l event.Cut) rows

abbrev pub cut : State → State
cut s = record s {
  stage = stage.Cut;
  series = record s.series { rows = each (cut_series s) s.series.rows };
  legs = record s.legs { rows = cut_legs s.legs.rows };
}
