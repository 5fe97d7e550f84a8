use Rattle.std.proofs.Common.{◌≡◌, length, ap, ◌∙◌, append-nil, arith}
use Rattle.std.specs.List.{flat_map}
use Rattle.settlement.specs.Lines.{uncovered_line, if_any, cell_lines}
use Rattle.settlement.proofs.Written.{written_piece}
use Rattle.settlement.proofs.statement.Writer.put_account.Goals as goal

pub loop-line-preserved : goal.loop-line-preserved
loop-line-preserved c =
    let w = c.args.self.now in
    let t = c.args.terms.now in
    let account = c.args.account in
    let cell = c.args.cell.now in
    let lines = c.lines_of-line-items.ensures in
    let whole : flat_map if_any c.lines_of-line-items.result ≡ cell_lines t account cell = rw lines (rw (append-nil (if_any (uncovered_line t account cell)))) in
    let step = written_piece if_any c.lines_of-line-items.result w.lines.now w.at c.loop-line.line-index _ _ _ (omega (arith, ap length lines)) c.loop-line.invariant.after c.loop-line.invariant.place (omega (arith, ap length whole, c.requires.fits)) in
    record {
      same_slice = c.put.ensures.same_slice ∙ c.loop-line.invariant.same_slice;
      place = c.put.ensures.place ∙ step.0;
      after = c.put.ensures.after ∙ step.1;
    }
