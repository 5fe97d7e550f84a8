-- The worked examples, from the definitions.
use Rattle.std.proofs.Common.{refl, arith}
use Rattle.allocation.specs.Stretch.{share}
use Rattle.allocation.proofs.Laws as allocation
use Rattle.settlement.proofs.AssignmentLaws as settlement
use Rattle.register.specs.Examples.{Examples}

pub examples : Examples
unfolding share
examples = record {
  draws = refl;
  holder = refl;
  writer = refl;
  three_draws = allocation.worked;
  met = refl;
  not_met = refl;
  closing = λ c none four. (omega (arith, none, four), omega (arith, none, four));
  denied = λ c nine two. omega (arith, nine, two);
  requested = λ c five. omega (arith, five);
  covered = settlement.worked;
  nothing = allocation.nothing_exercised;
}
