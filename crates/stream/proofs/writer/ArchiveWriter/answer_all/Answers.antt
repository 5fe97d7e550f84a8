use Rattle.std.proofs.Common.{inr}
use Rattle.stream.specs.Writers.{seen}
use Rattle.std.proofs.lemmas.Result.{on_ok_weaker, on_err_weaker}
use Rattle.stream.proofs.Reading.{takes_end, takes_end_break}
use Rattle.stream.proofs.writer.ArchiveWriter.answer_all.Goals as goal

pub returns-clause-ok : goal.returns-clause-ok
returns-clause-ok g c =
    on_ok_weaker c.end.result (λ p. (
      c.in_ok-take_all.ensures.ok.0,
      c.in_ok-take_all.ensures.ok.1,
      c.in_ok-take_all.ensures.ok.2,
      takes_end (seen g.W.Write.contents c.args.self.now) (seen g.W.Write.contents c.take_all.new.self) _ c.in_ok-take_all.ensures.ok.0 c.in_ok-take_all.ensures.ok.3 p,
    )) c.end.ensures.ok

pub returns-clause-err : goal.returns-clause-err
returns-clause-err g c =
    on_err_weaker c.end.result (λ p. (
      c.in_ok-take_all.ensures.ok.0,
      c.in_ok-take_all.ensures.ok.1,
      inr (takes_end_break (seen g.W.Write.contents c.args.self.now) (seen g.W.Write.contents c.take_all.new.self) _ c.in_ok-take_all.ensures.ok.0 c.in_ok-take_all.ensures.ok.3 p),
    )) c.end.ensures.err
