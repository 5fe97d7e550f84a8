use Rattle.std.proofs.Common.{◌≡◌, ℕ, List, ◌++◌, Option, length}
use Rattle.archive.specs.Archive.{Exchange}
use Rattle.stream.specs.Streams.{Streams}
use Rattle.stream.specs.Writers.{seen}
use Rattle.stream.proofs.Streaming.{Going}
use Rattle.stream.proofs.writer.ArchiveWriter.take_lines.Given as goal

abbrev pub invariant-loop-end : goal.invariant-loop-end
invariant-loop-end g l = record {
  going : (before : List Exchange) (bytes : List ℕ) (start : Option (List ℕ)) → Streams before bytes start (seen g.W.Write.contents l.fn.self) → (done : List ℕ) × (done ++ l.rest ≡ l.fn.piece) × Going before (bytes ++ done) start (seen g.W.Write.contents l.self);
  able : (seen g.W.Write.contents l.self).out.failed ≡ (seen g.W.Write.contents l.fn.self).out.failed;
}

abbrev pub decreases-loop-end : goal.decreases-loop-end
decreases-loop-end g l = length l.rest
