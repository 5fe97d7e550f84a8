use Rattle.std.proofs.Common.{◌∙◌, arith}
use Rattle.positions.specs.declared.cell.Cell.{Cell}
use Rattle.positions.specs.Cells.{no_cell}
use Rattle.settlement.specs.Account.{settled, at_end}
use Rattle.settlement.proofs.Filling.{filled_all, map_places}
use Rattle.settlement.proofs.assignment.settle_none.Goals as goal

pub returns : goal.returns
returns c =
    filled_all _ _ _ c.loop-cell.cells c.loop-cell.cell-index c.loop-cell.invariant (omega (arith, c.told-cells))
    ∙ map_places (λ (x : Cell). at_end c.args.lapses (settled x 0 0)) c.args.cells.now no_cell no_cell
