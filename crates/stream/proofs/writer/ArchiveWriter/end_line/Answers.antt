use Rattle.std.proofs.Common.{refl, ap, ◌∙◌}
use Rattle.lines.specs.Texts.{cut}
use Rattle.std.proofs.lemmas.Result.{on_err_weaker}
use Rattle.stream.specs.Writers.{seen}
use Rattle.stream.proofs.Outcomes.{on_err_any, on_ok_both}
use Rattle.stream.proofs.Told.{none_left, none_read, some_read}
use Rattle.stream.proofs.Streaming.{streams_going, ends_clean, ends_last, rest_broken, last_broken, last_unwritten}
use Rattle.stream.proofs.writer.ArchiveWriter.end_line.Goals as goal

pub returns-then-is_empty-clause-ok : goal.returns-then-is_empty-clause-ok
returns-then-is_empty-clause-ok g c =
    let none = none_read _ _ _ c.if-is_empty.true c.is_empty.ensures c.as_bytes.ensures in
    on_ok_both c.flush.result (λ p w before bytes start s. ends_clean before bytes start (seen g.W.Write.contents c.args.self.now) _ s (none_left _ s.rest s.kept none) refl none p w) c.flush.ensures.ok c.flush.ensures.sent

pub returns-then-is_empty-clause-err : goal.returns-then-is_empty-clause-err
returns-then-is_empty-clause-err g c =
    on_err_weaker c.flush.result (λ p before bytes start s. rest_broken before bytes start (seen g.W.Write.contents c.args.self.now) _ _ (streams_going before bytes start _ s) refl p) c.flush.ensures.err

pub returns-in_err-answer_begun-clause-err : goal.returns-in_err-answer_begun-clause-err
returns-in_err-answer_begun-clause-err g c =
    on_err_any c.from_residual.result (λ before bytes start s.
    last_broken before bytes start (seen g.W.Write.contents c.args.self.now) _ s (λ z. some_read _ _ _ c.if-is_empty.false c.is_empty.ensures c.as_bytes.ensures (s.kept ∙ ap cut z)) (c.in_err-answer_begun.ensures.err s.rest s.kept))

pub returns-clause-ok : goal.returns-clause-ok
returns-clause-ok g c =
    on_ok_both c.flush-2.result (λ p w before bytes start s.
    ends_last before bytes start (seen g.W.Write.contents c.args.self.now) _ s (seen g.W.Write.contents c.answer_begun.new.self)
    (λ z. some_read _ _ _ c.if-is_empty.false c.is_empty.ensures c.as_bytes.ensures (s.kept ∙ ap cut z)) (c.in_ok-answer_begun.ensures.ok s.rest s.kept) refl c.answer_begun.ensures.begun p w) c.flush-2.ensures.ok c.flush-2.ensures.sent

pub returns-clause-err : goal.returns-clause-err
returns-clause-err g c =
    on_err_weaker c.flush-2.result (λ p before bytes start s.
    last_unwritten before bytes start (seen g.W.Write.contents c.args.self.now) _ s (seen g.W.Write.contents c.answer_begun.new.self)
    (λ z. some_read _ _ _ c.if-is_empty.false c.is_empty.ensures c.as_bytes.ensures (s.kept ∙ ap cut z)) (c.in_ok-answer_begun.ensures.ok s.rest s.kept) refl p) c.flush-2.ensures.err
