use Rattle.std.proofs.Common.{◌≤◌, ◌-◌, length}
use Rattle.lines_bench.proofs.lines_bench.Given as goal

abbrev pub invariant-loop-feed : goal.invariant-loop-feed
invariant-loop-feed l = l.start ≤ length l.buffer

abbrev pub decreases-loop-feed : goal.decreases-loop-feed
decreases-loop-feed l = length l.buffer - l.start
