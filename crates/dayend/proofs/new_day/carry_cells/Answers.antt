use Rattle.std.proofs.Common.{◌∙◌, arith}
use Rattle.positions.specs.Cells.{no_cell, carried}
use Rattle.positions.proofs.PlaceLaws.{first_step, first_all}
use Rattle.dayend.proofs.new_day.carry_cells.Goals as goal

pub loop-cell-preserved : goal.loop-cell-preserved
loop-cell-preserved c = first_step (λ at x. carried x) c.loop-cell.cell-index c.args.cells.now c.loop-cell.cells _ no_cell c.loop-cell.invariant (omega arith) c.carried.ensures

pub returns : goal.returns
returns c = c.loop-cell.invariant ∙ first_all (λ at x. carried x) c.loop-cell.cell-index c.args.cells.now (omega arith)
