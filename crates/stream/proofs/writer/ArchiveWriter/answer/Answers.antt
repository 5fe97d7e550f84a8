use Rattle.std.proofs.lemmas.Result.{on_ok_weaker, on_err_weaker}
use Rattle.stream.proofs.Outcomes.{on_err_any}
use Rattle.stream.proofs.Putting.{puts_more, puts_fail, fails_more}
use Rattle.stream.proofs.Told.{shown_answers, adds, adds_front}
use Rattle.stream.proofs.writer.ArchiveWriter.answer.Goals as goal

pub returns-in_err-push-clause-err : goal.returns-in_err-push-clause-err
returns-in_err-push-clause-err g c = λ w s.
    let a = c.answer_into-statements.ensures in
    on_err_any c.from_residual.result (adds_front _ _ w _ _ (shown_answers _ _ _ w _ _ s a.whole a.begun) (fails_more _ _ _ _ c.in_err-push.ensures.err))

pub returns-clause-ok : goal.returns-clause-ok
returns-clause-ok g c = λ w s.
    let a = c.answer_into-statements.ensures in
    on_ok_weaker c.write_statements.result (λ p. adds _ _ w _ _ (shown_answers _ _ _ w _ _ s a.whole a.begun) (puts_more _ _ _ _ _ c.in_ok-push.ensures.ok p)) c.write_statements.ensures.ok

pub returns-clause-err : goal.returns-clause-err
returns-clause-err g c = λ w s.
    let a = c.answer_into-statements.ensures in
    on_err_weaker c.write_statements.result (λ p. adds_front _ _ w _ _ (shown_answers _ _ _ w _ _ s a.whole a.begun) (puts_fail _ _ _ _ _ c.in_ok-push.ensures.ok p)) c.write_statements.ensures.err
