use Rattle.allocation.proofs.Going.{Going}
use Rattle.allocation.proofs.Rounds.{Round, Further}
use Rattle.allocation.proofs.assign.Given as goal

abbrev pub invariant-draws : goal.invariant-draws
invariant-draws g l =
    Going (g.S.Draws.meaning l.initial.source) (g.S.Draws.meaning l.source) l.shorts l.exercised l.block l.assigned l.remaining l.left

abbrev pub decreases-draws : goal.decreases-draws
decreases-draws g l = l.left

abbrev pub invariant-loop : goal.invariant-loop
invariant-loop g l = Round l.shorts l.initial.assigned l.start l.count l.counter 0 l.assigned l.skip l.need

abbrev pub invariant-loop-i : goal.invariant-loop-i
invariant-loop-i g l = Further l.shorts l.counter l.initial.assigned l.initial.skip l.initial.need l.i l.assigned l.skip l.need
