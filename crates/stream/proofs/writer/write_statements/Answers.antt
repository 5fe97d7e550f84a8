use Rattle.std.proofs.Common.{arith}
use Rattle.host.specs.Hosts.{shown}
use Rattle.stream.proofs.Outcomes.{on_err_any}
use Rattle.stream.proofs.Putting.{puts_nothing}
use Rattle.stream.proofs.Statements.{puts_statement, statement_fails}
use Rattle.stream.proofs.writer.write_statements.Goals as goal

pub loop-i-init : goal.loop-i-init
loop-i-init g c = puts_nothing _

pub returns-in_err-push-clause-err : goal.returns-in_err-push-clause-err
returns-in_err-push-clause-err g c =
    on_err_any c.from_residual.result
    (statement_fails _ _ _ (shown c.args.host.now).places c.loop-i.i c.args.count _ c.loop-i-test.true c.loop-i.invariant (c.in-Some.ensures.here (omega arith)) c.in_err-push.ensures.err)

pub loop-i-preserved : goal.loop-i-preserved
loop-i-preserved g c =
    puts_statement _ _ _ (shown c.args.host.now).places c.loop-i.i _ c.loop-i.invariant (c.in-Some.ensures.here (omega arith)) c.in_ok-push.ensures.ok
