-- Exercise requests, their rejection, and denials.
use Rattle.std.specs.Prelude.{ℕ, ◌-◌, Bool, true, false, not, ◌&&◌, List, [], ◌∷◌, nat_le, nat_lt, slice_set}
use Rattle.positions.specs.Cells.{with_denied}
use Rattle.ledger.specs.declared.refusal.Refusal.{Refusal}
use Rattle.ledger.specs.declared.refusal.Refusal.TheVariants.{OutOfRange, NoAccount, NoSeries, NoRequest, Expired, NotExpiring, Full}
use Rattle.ledger.specs.declared.state.Request.{Request}
use Rattle.ledger.specs.declared.state.State.{State}
use Rattle.ledger.specs.Tables.{Requests, one_more, row_of, cells_of, cell_at, no_request, with_cells}
use Rattle.ledger.specs.Lookups.{within, has, has_account, has_series, expired, expiring}

abbrev pub with_requests : State → Requests → State
with_requests s t = record s { requests = t }

abbrev pub request_of : State → ℕ → Request
request_of s n = row_of s.requests n no_request

-- ── request ──

abbrev pub request_checks : State → ℕ → ℕ → ℕ → List (Bool × Refusal)
request_checks s account series quantity =
    (within quantity 1 100_000, OutOfRange)
    ∷ (has_account s account, NoAccount)
    ∷ (has_series s series, NoSeries)
    ∷ (not (expired s series), Expired)
    ∷ (nat_lt s.requests.count 128, Full)
    ∷ []

abbrev pub new_request : ℕ → ℕ → ℕ → Request
new_request account series quantity = record { account = account; series = series; quantity = quantity; pending = true }

abbrev pub one_request_more : Requests → Request → Requests
one_request_more t r = one_more t r

abbrev pub request_added : State → ℕ → ℕ → ℕ → State
request_added s account series quantity = with_requests s (one_request_more s.requests (new_request account series quantity))

-- ── rejection ──

-- a request of that number, not rejected yet
abbrev pub has_pending : State → ℕ → Bool
has_pending s n = has s.requests n && (request_of s n).pending

abbrev pub rejection_checks : State → ℕ → List (Bool × Refusal)
rejection_checks s n = (has_pending s n, NoRequest) ∷ []

abbrev pub no_more_pending : Request → Request
no_more_pending r = record r { pending = false }

abbrev pub request_rejected : State → ℕ → State
request_rejected s n = with_requests s (record s.requests { rows = slice_set s.requests.rows (n - 1) (no_more_pending (request_of s n)) })

-- ── denial ──

abbrev pub denial_checks : State → ℕ → ℕ → ℕ → List (Bool × Refusal)
denial_checks s account series quantity =
    (nat_le quantity 100_000, OutOfRange)
    ∷ (has_account s account, NoAccount)
    ∷ (has_series s series, NoSeries)
    ∷ (not (expired s series), Expired)
    ∷ (expiring s series, NotExpiring)
    ∷ []

-- it replaces an earlier one
abbrev pub denial_noted : State → ℕ → ℕ → ℕ → State
denial_noted s account series quantity = with_cells s (series - 1) (slice_set (cells_of s (series - 1)) (account - 1) (with_denied (cell_at s account series) quantity))
