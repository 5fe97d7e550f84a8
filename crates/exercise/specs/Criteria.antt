-- Criteria of exercise without a request, the fixing price, the end of trading, and collateral.
use Rattle.std.specs.Prelude.{ℕ, ◌+◌, ◌-◌, Bool, false, cond, not, ◌&&◌, ◌||◌, List, [], ◌∷◌, Some, None, Option, unwrap_or, ◌==◌, nat_le, slice_set}
use Rattle.positions.specs.declared.criterion.Criterion.{Criterion}
use Rattle.positions.specs.declared.kinds.Right.{Right}
use Rattle.positions.specs.declared.kinds.Right.TheVariants.{Call, Put}
use Rattle.positions.specs.Kinds.{right_of_code}
use Rattle.positions.specs.Criteria.{criterion_of_form}
use Rattle.ledger.specs.declared.refusal.Refusal.{Refusal}
use Rattle.ledger.specs.declared.refusal.Refusal.TheVariants.{OutOfRange, NoAccount, TradingClosed, TooFew, TooMany}
use Rattle.ledger.specs.declared.state.Account.{Account}
use Rattle.ledger.specs.declared.state.House.{House}
use Rattle.ledger.specs.declared.state.State.{State}
use Rattle.ledger.specs.Tables.{account_of, with_accounts}
use Rattle.ledger.specs.Lookups.{within, has_account}

-- ── whose criterion ──

-- of a value for calls and one for puts, the one for the right
abbrev pub of_right : {T : Type 0} → Right → T → T → T
of_right Call calls puts = calls
of_right Put calls puts = puts

abbrev pub own_criterion : Account → Right → Option Criterion
own_criterion a right = of_right right a.calls a.puts

abbrev pub house_criterion : House → Right → Criterion
house_criterion h right = of_right right h.calls h.puts

-- the account's own, else the house's
abbrev pub criterion_of : State → ℕ → Right → Criterion
criterion_of s n right = unwrap_or (own_criterion (account_of s n) right) (house_criterion s.house right)

-- ── criterion ──

-- form 0 gives an account the house's criterion again, form 1 is hundredths of a percent, form 2 an amount
abbrev pub form_in_range : ℕ → ℕ → ℕ → Bool
form_in_range account form value =
    (form == 0 && (value == 0 && not (account == 0)))
    || ((form == 1 && nat_le value 10_000) || (form == 2 && nat_le value 1_000_000))

-- account 0 is the house
abbrev pub criterion_checks : State → ℕ → ℕ → ℕ → ℕ → List (Bool × Refusal)
criterion_checks s account right form value =
    (within right 1 2 && form_in_range account form value, OutOfRange)
    ∷ (account == 0 || has_account s account, NoAccount)
    ∷ (s.trading, TradingClosed)
    ∷ []

abbrev pub with_house : State → House → State
with_house s h = record s { house = h }

abbrev pub house_with : House → Right → Criterion → House
house_with h right k = record { calls = of_right right k h.calls; puts = of_right right h.puts k }

abbrev pub account_with : Account → Right → Option Criterion → Account
account_with a right k = record a { calls = of_right right k a.calls; puts = of_right right a.puts k }

abbrev pub with_account : State → ℕ → Account → State
with_account s n a = with_accounts s (record s.accounts { rows = slice_set s.accounts.rows (n - 1) a })

abbrev pub own_of_form : ℕ → ℕ → Option Criterion
own_of_form form value = cond (form == 0) None (Some (criterion_of_form form value))

abbrev pub criterion_set : State → ℕ → ℕ → ℕ → ℕ → State
criterion_set s account right form value =
    cond (account == 0)
    (with_house s (house_with s.house (right_of_code right) (criterion_of_form form value)))
    (with_account s account (account_with (account_of s account) (right_of_code right) (own_of_form form value)))

-- ── fixing price ──

abbrev pub fixing_checks : ℕ → List (Bool × Refusal)
fixing_checks price = (within price 1 1_000_000, OutOfRange) ∷ []

abbrev pub price_fixed : State → ℕ → State
price_fixed s price = record s { fixing = Some price }

-- ── end of trading ──

abbrev pub trading_closed : State → State
trading_closed s = record s { trading = false }

-- ── collateral ──

abbrev pub with_collateral : Account → ℕ → Account
with_collateral a shares = record a { collateral = shares }

abbrev pub lodge_checks : State → ℕ → ℕ → List (Bool × Refusal)
lodge_checks s account shares =
    (within shares 1 99_999_999, OutOfRange)
    ∷ (has_account s account, NoAccount)
    ∷ (nat_le ((account_of s account).collateral + shares) 99_999_999, TooMany)
    ∷ []

abbrev pub lodged : State → ℕ → ℕ → State
lodged s account shares = with_account s account (with_collateral (account_of s account) ((account_of s account).collateral + shares))

abbrev pub withdrawal_checks : State → ℕ → ℕ → List (Bool × Refusal)
withdrawal_checks s account shares =
    (within shares 1 99_999_999, OutOfRange)
    ∷ (has_account s account, NoAccount)
    ∷ (nat_le shares (account_of s account).collateral, TooFew)
    ∷ []

abbrev pub collateral_withdrawn : State → ℕ → ℕ → State
collateral_withdrawn s account shares = with_account s account (with_collateral (account_of s account) ((account_of s account).collateral - shares))
