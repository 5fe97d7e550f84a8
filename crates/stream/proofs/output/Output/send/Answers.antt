use Rattle.std.proofs.Common.{◌≤◌, length, ap, ◌∙◌, arith}
use Rattle.few.specs.Contents.{contents}
use Rattle.stream.specs.Outputs.{out_of}
use Rattle.stream.proofs.Outcomes.{on_err_any}
use Rattle.stream.proofs.Putting.{more_sent, all_sent, stops_after}
use Rattle.stream.proofs.output.Output.send.Goals as goal

pub returns-in_err-sent-clause-err : goal.returns-in_err-sent-clause-err
returns-in_err-sent-clause-err g c =
    on_err_any c.from_residual.result (stops_after _ (out_of g.W.Write.contents c.writes.self) _ c.writes.sent c.writes.invariant.written c.in_err-sent.ensures.err)

pub writes-preserved : goal.writes-preserved
writes-preserved g c = record {
  within = omega (arith, ap length c.writes.invariant.waiting, c.in_ok-sent.ensures.ok.within);
  written = more_sent _ _ _ _ _ c.writes.sent _ c.writes.invariant.written c.writes.invariant.waiting c.in_ok-sent.ensures.ok.written;
  waiting = c.in_ok-sent.ensures.ok.waiting ∙ c.writes.invariant.waiting;
  able = c.in_ok-sent.ensures.ok.able ∙ c.writes.invariant.able;
}

pub returns-clause-ok : goal.returns-clause-ok
returns-clause-ok g c =
    let all : length (contents c.args.self.now.waiting) ≤ c.writes.sent = omega (arith, ap length c.writes.invariant.waiting, ap length c.as_slice.ensures) in
    all_sent _ _ c.writes.sent c.writes.invariant.written all c.clear.ensures c.writes.invariant.able
