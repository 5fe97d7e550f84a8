use Rattle.std.proofs.Common.{◌≡◌}
use Rattle.positions.proofs.PlaceLaws.{first}
use Rattle.dayend.specs.Cutoff.{cut_by}
use Rattle.dayend.proofs.cutoff.cut_cells.Given as goal

abbrev pub invariant-loop-a : goal.invariant-loop-a
invariant-loop-a l = l.cells ≡ first l.a (cut_by l.accounts l.wanted l.automatic) l.initial.cells
