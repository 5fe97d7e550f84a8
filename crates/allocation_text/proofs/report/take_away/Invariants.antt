use Rattle.std.proofs.Common.{◌≡◌, ℕ, ◌-◌, ◌<◌, ◌≤◌, get_or}
use Rattle.allocation_text.proofs.report.take_away.Given as goal

-- up to i taken away, from i on as it was
abbrev pub invariant-loop-i : goal.invariant-loop-i
invariant-loop-i l = record {
  gone : (k : ℕ) → k < l.i → get_or l.remaining k 0 ≡ get_or l.initial.remaining k 0 - get_or l.taken k 0;
  kept : (k : ℕ) → l.i ≤ k → get_or l.remaining k 0 ≡ get_or l.initial.remaining k 0;
}
