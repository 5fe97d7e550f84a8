use Rattle.std.proofs.Common.{◌≡◌}
use Rattle.positions.specs.declared.leg.LegEvent.TheVariants.{Cut}
use Rattle.positions.specs.Legs.{stepped}
use Rattle.positions.proofs.PlaceLaws.{first}
use Rattle.dayend.proofs.cutoff.cut_legs.Given as goal

abbrev pub invariant-loop-leg : goal.invariant-loop-leg
invariant-loop-leg l = l.legs ≡ first l.leg-index (λ _ x. stepped x Cut) l.initial.legs
