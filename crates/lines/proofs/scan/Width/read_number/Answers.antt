use Rattle.std.proofs.Common.{arith, true-eqb, false-eqb}
use Rattle.lines.proofs.Steps.{run_stuck, run_read}
use Rattle.lines.proofs.scan.Width.read_number.Goals as goal

pub returns-then-is_empty : goal.returns-then-is_empty
returns-then-is_empty c = run_stuck _ _ _ _ c.args.self.wide c.digit_run.ensures (true-eqb _ 0 c.if-is_empty.ensures)

pub returns : goal.returns
returns c = run_read _ _ _ _ c.args.self.wide c.digit_run.ensures (omega (arith, false-eqb _ 0 c.if-is_empty.ensures))
