use Rattle.std.proofs.Common.{get_or}
use Rattle.settlement.proofs.Filling.{Filled}
use Rattle.ledger.specs.Tables.{no_account}
use Rattle.exercise.specs.Criteria.{with_collateral}
use Rattle.dayend.proofs.assignment.put_collateral.Given as goal

abbrev pub invariant-loop-i : goal.invariant-loop-i
invariant-loop-i l = Filled (λ k. with_collateral (get_or l.initial.accounts k no_account) (get_or l.shares k 0)) no_account l.initial.accounts l.accounts l.i
