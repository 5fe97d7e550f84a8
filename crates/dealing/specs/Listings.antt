-- Opening a book, adding an account, listing a series.
use Rattle.std.specs.Prelude.{ℕ, Bool, not, ◌&&◌, List, [], ◌∷◌, ◌==◌, nat_lt}
use Rattle.std.specs.List.{list_any}
use Rattle.positions.specs.Kinds.{right_of_code, type_of_code, same_right}
use Rattle.ledger.specs.declared.refusal.Refusal.{Refusal}
use Rattle.ledger.specs.declared.refusal.Refusal.TheVariants.{OutOfRange, ListedAlready, Full}
use Rattle.ledger.specs.declared.state.Opening.{Opening}
use Rattle.ledger.specs.declared.state.Contract.{Contract}
use Rattle.ledger.specs.declared.state.Series.{Series}
use Rattle.ledger.specs.declared.state.State.{State}
use Rattle.ledger.specs.Tables.{Listing, new_account, new_series, in_use, with_accounts, with_listing, one_account_more, one_series_more}
use Rattle.ledger.specs.Lookups.{within}

-- ── opening ──

abbrev pub open_checks : Opening → List (Bool × Refusal)
open_checks o =
    (within o.number 1 9_999 && (within o.day 1 99_999 && (within o.size 1 10_000 && within o.block 1 1_000)), OutOfRange)
    ∷ []

-- ── account ──

abbrev pub account_checks : State → ℕ → ℕ → List (Bool × Refusal)
account_checks s participant code =
    (within participant 1 99 && within code 1 4, OutOfRange)
    ∷ (nat_lt s.accounts.count 32, Full)
    ∷ []

abbrev pub account_added : State → ℕ → ℕ → State
account_added s participant code = with_accounts s (one_account_more s.accounts (new_account participant (type_of_code code)))

-- ── series ──

abbrev pub contract_of : ℕ → ℕ → ℕ → Contract
contract_of right strike expiry = record { right = right_of_code right; strike = strike; expiry = expiry }

abbrev pub same_contract : Contract → Contract → Bool
same_contract a b = same_right a.right b.right && (a.strike == b.strike && a.expiry == b.expiry)

abbrev pub any_same : Contract → List Series → Bool
any_same c rows = list_any (λ r. same_contract r.contract c) rows

-- whether a listed series has that contract
abbrev pub listed : Listing → Contract → Bool
listed t c = any_same c (in_use t)

abbrev pub series_checks : State → ℕ → ℕ → ℕ → List (Bool × Refusal)
series_checks s right strike expiry =
    (within right 1 2 && (within strike 1 1_000_000 && within expiry s.day 99_999), OutOfRange)
    ∷ (not (listed s.series (contract_of right strike expiry)), ListedAlready)
    ∷ (nat_lt s.series.count 32, Full)
    ∷ []

abbrev pub series_added : State → ℕ → ℕ → ℕ → State
series_added s right strike expiry = with_listing s (one_series_more s.series (new_series (contract_of right strike expiry)))
