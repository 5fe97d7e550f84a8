use Rattle.std.proofs.Common.{[], ◌++◌, refl, sym, ap, ◌∙◌, inr}
use Rattle.std.proofs.KnownBytes.{Consumes-nil, Consumes-trans}
use Rattle.stream.specs.Writers.{seen}
use Rattle.stream.specs.Inputs.{In}
use Rattle.stream.proofs.Outcomes.{on_err_any, not_both}
use Rattle.stream.proofs.Reading.{takes_nothing, takes_more, takes_break}
use Rattle.stream.proofs.writer.ArchiveWriter.take_all.Goals as goal

pub pieces-init : goal.pieces-init
pieces-init g c = record {
  size = refl;
  able = sym c.in_ok-check.ensures;
  silent = λ h. (refl, refl);
  taken = ([], Consumes-nil _, takes_nothing (seen g.W.Write.contents c.args.self.now));
}

pub pieces-preserved : goal.pieces-preserved
pieces-preserved g c =
    let t = c.pieces.invariant.taken in
    record {
      size = c.read.auto.buf ∙ c.pieces.invariant.size;
      able = c.in_ok-take.ensures.failed;
      silent = λ h.
          let same = ap (λ (i : In). i.failed) (c.pieces.invariant.silent h).1 in
          absurd (not_both c.read.result c.in_ok-n.n c.in_ok-n.was (c.read.ensures.silent (same ∙ h)).0);
      taken = (t.0 ++ _, Consumes-trans _ _ _ t.0 _ t.1 c.in_ok-n.ensures.bytes.0, takes_more (seen g.W.Write.contents c.args.self.now) (seen g.W.Write.contents c.pieces.self) _ t.0 _ t.2 c.in_ok-take.ensures.ok);
    }

pub returns-in_err-take-clause-err : goal.returns-in_err-take-clause-err
returns-in_err-take-clause-err g c =
    on_err_any c.from_residual-in_err-take.result (
      c.pieces.invariant.taken.0 ++ _,
      Consumes-trans _ _ _ c.pieces.invariant.taken.0 _ c.pieces.invariant.taken.1 c.in_ok-n.ensures.bytes.0,
      inr (takes_break (seen g.W.Write.contents c.args.self.now) (seen g.W.Write.contents c.pieces.self) _ c.pieces.invariant.taken.0 _ c.pieces.invariant.taken.2 c.in_err-take.ensures.err),
    )
