use Rattle.std.proofs.Common.{get_or}
use Rattle.positions.specs.Cells.{no_cell}
use Rattle.settlement.specs.Account.{settled, at_end}
use Rattle.settlement.proofs.Filling.{Filled}
use Rattle.settlement.proofs.assignment.settle_none.Given as goal

abbrev pub invariant-loop-cell : goal.invariant-loop-cell
invariant-loop-cell l = Filled (λ k. at_end l.lapses (settled (get_or l.initial.cells k no_cell) 0 0)) no_cell l.initial.cells l.cells l.cell-index
