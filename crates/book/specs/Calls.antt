-- What each call answers, and the book after it.
use Rattle.std.specs.Prelude.{ℕ, ◌+◌, Bool, true, false, ◌&&◌, List, [], ◌∷◌, Some, None, Ok, Err, Option, Result, ◌==◌}
use Rattle.draws.specs.Checks.{first_refusal}
use Rattle.ledger.specs.declared.refusal.Refusal.{Refusal}
use Rattle.ledger.specs.declared.refusal.Refusal.TheVariants.{PassMisfit}
use Rattle.ledger.specs.declared.state.Stage.{Stage}
use Rattle.ledger.specs.declared.state.Stage.TheVariants.{Input, Cut, Assigned}
use Rattle.ledger.specs.declared.state.State.{State}
use Rattle.ledger.specs.declared.state.Trade.{Trade}
use Rattle.ledger.specs.declared.state.PositionTransfer.{PositionTransfer}
use Rattle.dealing.specs.Listings.{account_checks, account_added, series_checks, series_added}
use Rattle.dealing.specs.Trades.{trade_checks, traded}
use Rattle.transfers.specs.Transfers.{transfer_checks, transferred, give_up_checks, given_up, take_up_checks, taken_up, position_checks, position_moved}
use Rattle.exercise.specs.Requests.{request_checks, request_added, rejection_checks, request_rejected, denial_checks, denial_noted}
use Rattle.exercise.specs.Criteria.{criterion_checks, criterion_set, fixing_checks, price_fixed, trading_closed, lodge_checks, lodged, withdrawal_checks, collateral_withdrawn}
use Rattle.book.specs.declared.pass.InputPass.{InputPass}

abbrev pub in_input : Stage → Bool
in_input Input = true
in_input Cut = false
in_input Assigned = false

abbrev pub in_cut : Stage → Bool
in_cut Input = false
in_cut Cut = true
in_cut Assigned = false

abbrev pub in_assigned : Stage → Bool
in_assigned Input = false
in_assigned Cut = false
in_assigned Assigned = true

abbrev pub in_stage : Stage → Stage → Bool
in_stage Input g = in_input g
in_stage Cut g = in_cut g
in_stage Assigned g = in_assigned g

-- a pass of the stage, of that book and of that day fits
abbrev pub fits : Stage → State → ℕ → ℕ → Bool
fits stage s number day = in_stage stage s.stage && (number == s.terms.number && day == s.day)

abbrev pub fits_input : State → InputPass → Bool
fits_input s p = fits Input s p.number p.day

-- the refusal of a call with these checks: that the pass fits is judged first
abbrev pub refused : State → InputPass → List (Bool × Refusal) → Option Refusal
refused s p checks = first_refusal ((fits_input s p, PassMisfit) ∷ checks)

pub record Outcome : Type 0 where
  pub reply : Result ℕ Refusal
  pub state : State

-- accepted, the result is n and the book is t; turned back, the book stays s
abbrev pub outcome : Option Refusal → State → ℕ → State → Outcome
outcome None s n t = record { reply = Ok n; state = t }
outcome (Some r) s n t = record { reply = Err r; state = s }

abbrev pub account_call : State → InputPass → ℕ → ℕ → Outcome
account_call s p participant code = outcome (refused s p (account_checks s participant code)) s (s.accounts.count + 1) (account_added s participant code)

abbrev pub series_call : State → InputPass → ℕ → ℕ → ℕ → Outcome
series_call s p right strike expiry = outcome (refused s p (series_checks s right strike expiry)) s (s.series.count + 1) (series_added s right strike expiry)

-- the result is the first leg's number
abbrev pub trade_call : State → InputPass → Trade → Outcome
trade_call s p t = outcome (refused s p (trade_checks s t)) s (s.legs.count + 1) (traded s t)

abbrev pub transfer_call : State → InputPass → ℕ → ℕ → Outcome
transfer_call s p leg account = outcome (refused s p (transfer_checks s leg account)) s 0 (transferred s leg account)

abbrev pub give_up_call : State → InputPass → ℕ → ℕ → Outcome
give_up_call s p leg participant = outcome (refused s p (give_up_checks s leg participant)) s 0 (given_up s leg participant)

abbrev pub take_up_call : State → InputPass → ℕ → ℕ → ℕ → Outcome
take_up_call s p leg answer account = outcome (refused s p (take_up_checks s leg answer account)) s 0 (taken_up s leg answer account)

abbrev pub position_call : State → InputPass → PositionTransfer → Outcome
position_call s p t = outcome (refused s p (position_checks s t)) s 0 (position_moved s t)

-- the result is the request's number
abbrev pub request_call : State → InputPass → ℕ → ℕ → ℕ → Outcome
request_call s p account series quantity = outcome (refused s p (request_checks s account series quantity)) s (s.requests.count + 1) (request_added s account series quantity)

abbrev pub rejection_call : State → InputPass → ℕ → Outcome
rejection_call s p request = outcome (refused s p (rejection_checks s request)) s 0 (request_rejected s request)

abbrev pub denial_call : State → InputPass → ℕ → ℕ → ℕ → Outcome
denial_call s p account series quantity = outcome (refused s p (denial_checks s account series quantity)) s 0 (denial_noted s account series quantity)

abbrev pub criterion_call : State → InputPass → ℕ → ℕ → ℕ → ℕ → Outcome
criterion_call s p account right form value = outcome (refused s p (criterion_checks s account right form value)) s 0 (criterion_set s account right form value)

abbrev pub fixing_call : State → InputPass → ℕ → Outcome
fixing_call s p price = outcome (refused s p (fixing_checks price)) s 0 (price_fixed s price)

abbrev pub lodge_call : State → InputPass → ℕ → ℕ → Outcome
lodge_call s p account shares = outcome (refused s p (lodge_checks s account shares)) s 0 (lodged s account shares)

abbrev pub withdrawal_call : State → InputPass → ℕ → ℕ → Outcome
withdrawal_call s p account shares = outcome (refused s p (withdrawal_checks s account shares)) s 0 (collateral_withdrawn s account shares)

abbrev pub closing_call : State → InputPass → Outcome
closing_call s p = outcome (refused s p []) s 0 (trading_closed s)
