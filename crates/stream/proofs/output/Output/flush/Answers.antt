use Rattle.std.proofs.Common.{[]}
use Rattle.std.proofs.lemmas.Result.{on_ok_weaker, on_err_weaker}
use Rattle.stream.proofs.Putting.{puts_more, puts_stop}
use Rattle.stream.proofs.output.Output.flush.Goals as goal

pub returns-clause-ok : goal.returns-clause-ok
returns-clause-ok g c = on_ok_weaker c.flush_inner.result (λ p. puts_more _ _ _ [] [] c.in_ok-send.ensures.ok p) c.flush_inner.ensures.ok

pub returns-clause-err : goal.returns-clause-err
returns-clause-err g c = on_err_weaker c.flush_inner.result (λ k. puts_stop _ _ _ [] c.in_ok-send.ensures.ok k) c.flush_inner.ensures.err
