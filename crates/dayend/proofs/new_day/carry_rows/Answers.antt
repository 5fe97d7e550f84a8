use Rattle.std.proofs.Common.{List, get_or, ap, ◌∙◌, arith}
use Rattle.positions.specs.declared.cell.Cell.{Cell}
use Rattle.positions.proofs.PlaceLaws.{first_step, first_all}
use Rattle.ledger.specs.Tables.{past_series}
use Rattle.dayend.specs.NextDay.{carried_series}
use Rattle.dayend.proofs.new_day.carry_rows.Goals as goal

pub loop-row-preserved : goal.loop-row-preserved
loop-row-preserved c =
    let r = get_or c.loop-row.rows c.loop-row.row-index past_series in
    first_step (λ at x. carried_series x) c.loop-row.row-index c.args.rows.now c.loop-row.rows _ past_series
    c.loop-row.invariant (omega arith) (ap (λ (cells : List Cell). record r { cells = cells }) c.carry_cells.ensures)

pub returns : goal.returns
returns c = c.loop-row.invariant ∙ first_all (λ at x. carried_series x) c.loop-row.row-index c.args.rows.now (omega arith)
