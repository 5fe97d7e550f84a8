use Rattle.std.proofs.Common.{◌++◌}
use Rattle.std.proofs.lemmas.Result.{on_ok_weaker, on_err_weaker}
use Rattle.lines.specs.Texts.{text_of}
use Rattle.stream.specs.Writers.{seen}
use Rattle.stream.proofs.Told.{adds_begun, adds_front_begun, shows_alone, begun_more, none_read}
use Rattle.stream.proofs.writer.ArchiveWriter.answer_line.Goals as goal

pub returns-then-is_empty-clause-ok : goal.returns-then-is_empty-clause-ok
returns-then-is_empty-clause-ok g c = λ rest e.
    c.answer.ensures.ok (rest ++ c.args.line.now) (shows_alone _ rest c.args.line.now e (none_read _ _ _ c.if-is_empty.true c.is_empty.ensures c.as_bytes.ensures))

pub returns-then-is_empty-clause-err : goal.returns-then-is_empty-clause-err
returns-then-is_empty-clause-err g c = λ rest e.
    c.answer.ensures.err (rest ++ c.args.line.now) (shows_alone _ rest c.args.line.now e (none_read _ _ _ c.if-is_empty.true c.is_empty.ensures c.as_bytes.ensures))

pub returns-clause-ok : goal.returns-clause-ok
returns-clause-ok g c = λ rest e.
    let w = rest ++ c.args.line.now in
    on_ok_weaker c.answer_begun.result (adds_begun (seen g.W.Write.contents c.args.self.now) (text_of c.push_all.new.self) w _) (c.answer_begun.ensures.ok w (begun_more _ rest c.args.line.now _ e c.push_all.ensures))

pub returns-clause-err : goal.returns-clause-err
returns-clause-err g c = λ rest e.
    let w = rest ++ c.args.line.now in
    on_err_weaker c.answer_begun.result (adds_front_begun (seen g.W.Write.contents c.args.self.now) (text_of c.push_all.new.self) w _) (c.answer_begun.ensures.err w (begun_more _ rest c.args.line.now _ e c.push_all.ensures))
