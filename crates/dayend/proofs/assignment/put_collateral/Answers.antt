use Rattle.std.proofs.Common.{arith}
use Rattle.settlement.proofs.Filling.{filled_all}
use Rattle.dayend.proofs.assignment.put_collateral.Goals as goal

pub returns : goal.returns
returns c = filled_all _ _ _ _ c.loop-i.i c.loop-i.invariant (omega (arith, c.told-accounts))
