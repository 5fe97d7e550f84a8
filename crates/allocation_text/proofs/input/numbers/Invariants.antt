use Rattle.std.proofs.Common.{◌≤◌, vec_len}
use Rattle.allocation_text.proofs.input.numbers.Given as goal

abbrev pub invariant-loop-text : goal.invariant-loop-text
invariant-loop-text l = vec_len l.found ≤ 1_024
