use Rattle.std.proofs.Common.{◌≡◌, ℕ, ◌+◌, ◌*◌, ◌<◌, ◌≤◌, get_or, take, sum_by}
use Rattle.dayend.specs.Cutoff.{asks}
use Rattle.dayend.proofs.cutoff.asked_in.Given as goal

abbrev pub invariant-loop-request : goal.invariant-loop-request
invariant-loop-request l = (a : ℕ) → a < 32 → (get_or l.wanted a 0 ≡ sum_by (asks (a + 1) l.series) (take l.request-index l.requests.rows)) × (get_or l.wanted a 0 ≤ l.request-index * 100_000)
