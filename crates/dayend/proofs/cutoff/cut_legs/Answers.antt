use Rattle.std.proofs.Common.{◌∙◌, arith}
use Rattle.positions.specs.declared.leg.LegEvent.TheVariants.{Cut}
use Rattle.positions.specs.Legs.{no_leg, stepped}
use Rattle.positions.proofs.PlaceLaws.{first_step, first_all}
use Rattle.dayend.proofs.cutoff.cut_legs.Goals as goal

pub loop-leg-preserved : goal.loop-leg-preserved
loop-leg-preserved c = first_step (λ at x. stepped x Cut) c.loop-leg.leg-index c.args.legs.now c.loop-leg.legs _ no_leg c.loop-leg.invariant (omega arith) c.step.ensures

pub returns : goal.returns
returns c = c.loop-leg.invariant ∙ first_all (λ at x. stepped x Cut) c.loop-leg.leg-index c.args.legs.now (omega arith)
