use Rattle.std.proofs.Common.{◌≡◌}
use Rattle.positions.specs.Cells.{carried}
use Rattle.positions.proofs.PlaceLaws.{first}
use Rattle.dayend.proofs.new_day.carry_cells.Given as goal

abbrev pub invariant-loop-cell : goal.invariant-loop-cell
invariant-loop-cell l = l.cells ≡ first l.cell-index (λ _ x. carried x) l.initial.cells
