use Rattle.std.proofs.Common.{◌+◌, [], List, get_or, length, ap, ◌∙◌, arith}
use Rattle.positions.specs.declared.cell.Cell.{Cell}
use Rattle.positions.proofs.PlaceLaws.{first_next, first_step, first_all}
use Rattle.ledger.specs.declared.state.Series.{Series}
use Rattle.ledger.specs.Tables.{past_series, with_listing}
use Rattle.dayend.specs.Cutoff.{cut_series}
use Rattle.dayend.proofs.CutSteps.{row_cut}
use Rattle.dayend.proofs.cutoff.cut_rows.Goals as goal

pub loop-i-preserved : goal.loop-i-preserved
loop-i-preserved c =
    let s = c.args.book.now in
    let i = c.loop-i.i in
    let r = get_or c.loop-i.row-items i past_series in
    let same = ap (λ (rows : List Series). length (get_or rows i past_series).cells) c.loop-i.invariant ∙ ap (λ (r : Series). length r.cells) (first_next (cut_series s) i s.series.rows past_series) in
    let size = same ∙ (c.requires.balanced i c.loop-i-test.true).0 in
    let cells = row_cut s (i + 1) r.cells c.asked_in-wanted.result (get_or c.automatic-automatic.result i []) size c.asked_in-wanted.ensures (λ a. c.automatic-automatic.ensures i a c.loop-i-test.true) in
    first_step (cut_series s) i s.series.rows c.loop-i.row-items _ past_series c.loop-i.invariant (omega (arith, c.requires.tables.1.1))
    (ap (λ (cells : List Cell). record r { cells = cells }) (c.cut_cells.ensures ∙ cells))

pub returns : goal.returns
returns c =
    let s = c.args.book.now in
    ap (λ (rows : List Series). with_listing s (record { rows = rows; count = s.series.count })) (c.loop-i.invariant ∙ first_all (cut_series s) c.loop-i.i s.series.rows (omega (arith, c.requires.tables.1.1)))
