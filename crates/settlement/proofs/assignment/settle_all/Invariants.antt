use Rattle.positions.specs.Cells.{no_cell}
use Rattle.settlement.specs.Assignment.{cell_after, collateral_after}
use Rattle.settlement.proofs.Filling.{Filled}
use Rattle.settlement.proofs.assignment.settle_all.Given as goal

abbrev pub invariant-loop-i : goal.invariant-loop-i
invariant-loop-i l =
    Filled (cell_after l.terms.right l.terms.size l.terms.lapses l.initial.cells l.initial.collateral l.assigned) no_cell l.initial.cells l.cells l.i
    × Filled (collateral_after l.terms.right l.terms.size l.initial.collateral l.assigned) 0 l.initial.collateral l.collateral l.i
