use Rattle.std.proofs.Common.{sym, ◌∙◌, inr}
use Rattle.std.proofs.lemmas.Result.{on_ok_weaker, on_err_weaker}
use Rattle.lines.specs.Texts.{text_of}
use Rattle.stream.specs.Writers.{seen}
use Rattle.stream.proofs.Told.{adds_begun, adds_front_begun}
use Rattle.stream.proofs.writer.ArchiveWriter.answer_begun.Goals as goal

pub returns-clause-ok : goal.returns-clause-ok
returns-clause-ok g c = λ w e.
    on_ok_weaker c.answer.result (adds_begun (seen g.W.Write.contents c.args.self.now) (text_of c.clear.new.self) w _) (c.answer.ensures.ok w (inr (sym e ∙ sym c.as_bytes.ensures)))

pub returns-clause-err : goal.returns-clause-err
returns-clause-err g c = λ w e.
    on_err_weaker c.answer.result (adds_front_begun (seen g.W.Write.contents c.args.self.now) (text_of c.clear.new.self) w _) (c.answer.ensures.err w (inr (sym e ∙ sym c.as_bytes.ensures)))
