use Rattle.std.proofs.Common.{ℕ, List, [], refl, sym, subst, ◌∙◌, append-nil}
use Rattle.std.proofs.lemmas.Result.{on_ok_weaker, on_err_weaker}
use Rattle.stream.specs.Pieces.{IsLine}
use Rattle.stream.specs.Writers.{seen}
use Rattle.stream.proofs.Outcomes.{on_err_any, on_ok_both}
use Rattle.stream.proofs.Told.{begun_more}
use Rattle.stream.proofs.Streaming.{Going, streams_going, added_within, broken_within, rest_within, rest_breaks}
use Rattle.stream.proofs.writer.ArchiveWriter.take_lines.Goals as goal

pub loop-end-init : goal.loop-end-init
loop-end-init g c = record {
  going = λ before bytes start s. ([], refl, subst (λ (b : List ℕ). Going before b start (seen g.W.Write.contents c.args.self.now)) (sym (append-nil bytes)) (streams_going before bytes start _ s));
  able = refl;
}

pub returns-in_err-answer_line-clause-err : goal.returns-in_err-answer_line-clause-err
returns-in_err-answer_line-clause-err g c =
    on_err_any c.from_residual.result (λ before bytes start s.
    let t = c.loop-end.invariant.going before bytes start s in
    broken_within before bytes t.0 c.loop-end.rest.now c.args.piece.now start (seen g.W.Write.contents c.loop-end.self) (seen g.W.Write.contents c.answer_line.new.self) t.1 t.2
    c.split_at.result.0.now c.split_at.result.1.now c.split_at.ensures.by_index.0
    (subst IsLine (sym c.split_at.ensures.front) c.in-Some.ensures.1)
    (c.in_err-answer_line.ensures.err t.2.rest t.2.kept))

pub loop-end-preserved : goal.loop-end-preserved
loop-end-preserved g c = record {
  going = λ before bytes start s.
      let t = c.loop-end.invariant.going before bytes start s in
      added_within before bytes t.0 c.loop-end.rest.now c.args.piece.now start (seen g.W.Write.contents c.loop-end.self) (seen g.W.Write.contents c.answer_line.new.self) t.1 t.2
      c.split_at.result.0.now c.split_at.result.1.now c.split_at.ensures.by_index.0
      (subst IsLine (sym c.split_at.ensures.front) c.in-Some.ensures.1)
      (c.in_ok-answer_line.ensures.ok t.2.rest t.2.kept)
      c.answer_line.ensures.begun;
  able = c.in_ok-answer_line.ensures.able ∙ c.loop-end.invariant.able;
}

pub returns-clause-ok : goal.returns-clause-ok
returns-clause-ok g c =
    on_ok_both c.flush.result (λ p w before bytes start s.
    let t = c.loop-end.invariant.going before bytes start s in
    rest_within before bytes t.0 c.loop-end.rest.now c.args.piece.now start (seen g.W.Write.contents c.loop-end.self) _ t.1 t.2 c.in_default.ensures refl
    (begun_more _ t.2.rest c.loop-end.rest.now _ t.2.kept c.push_all.ensures) p w) c.flush.ensures.ok c.flush.ensures.sent

pub returns-clause-err : goal.returns-clause-err
returns-clause-err g c =
    on_err_weaker c.flush.result (λ p before bytes start s.
    let t = c.loop-end.invariant.going before bytes start s in
    rest_breaks before bytes t.0 c.loop-end.rest.now c.args.piece.now start (seen g.W.Write.contents c.loop-end.self) _ t.1 t.2 refl p) c.flush.ensures.err

pub returns-clause-able : goal.returns-clause-able
returns-clause-able g c = on_ok_weaker c.flush.result (λ p. p.able ∙ c.loop-end.invariant.able) c.flush.ensures.ok
