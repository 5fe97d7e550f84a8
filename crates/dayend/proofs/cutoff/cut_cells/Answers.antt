use Rattle.std.proofs.Common.{false, get_or, sym, ap, ◌∙◌, arith}
use Rattle.positions.specs.declared.cell.Cell.{Cell}
use Rattle.positions.specs.Cells.{no_cell, with_due}
use Rattle.positions.proofs.PlaceLaws.{first_step, first_all}
use Rattle.dayend.specs.Cutoff.{cut_by}
use Rattle.dayend.proofs.CutSteps.{cut_stays}
use Rattle.dayend.proofs.cutoff.cut_cells.Goals as goal

pub loop-a-preserved-then-cell-eq0-2 : goal.loop-a-preserved-then-cell-eq0-2
loop-a-preserved-then-cell-eq0-2 c =
    first_step (cut_by c.args.accounts.now c.args.wanted.now c.args.automatic.now) c.loop-a.a c.args.cells.now c.loop-a.cells _ no_cell c.loop-a.invariant (omega arith)
    (sym (cut_stays _ _ _ (get_or c.loop-a.cells c.loop-a.a no_cell) c.if-cell-eq0.true c.if-cell-eq0-2.true))

pub loop-a-preserved : goal.loop-a-preserved
loop-a-preserved c =
    first_step (cut_by c.args.accounts.now c.args.wanted.now c.args.automatic.now) c.loop-a.a c.args.cells.now c.loop-a.cells _ no_cell c.loop-a.invariant (omega arith)
    (c.with_due.ensures ∙ ap (λ (x : Cell). with_due x (get_or c.args.wanted.now c.loop-a.a 0) (get_or c.args.automatic.now c.loop-a.a false)) c.netted-netted.ensures)

pub returns : goal.returns
returns c = c.loop-a.invariant ∙ first_all (cut_by c.args.accounts.now c.args.wanted.now c.args.automatic.now) c.loop-a.a c.args.cells.now (omega arith)
