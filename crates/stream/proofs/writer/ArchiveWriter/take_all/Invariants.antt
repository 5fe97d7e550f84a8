use Rattle.std.proofs.Common.{◌≡◌, ℕ, List, length, false, true}
use Rattle.std.specs.Io.KnownBytes.{Consumes}
use Rattle.stream.specs.Inputs.{in_of}
use Rattle.stream.specs.Streams.{Takes}
use Rattle.stream.specs.Writers.{seen}
use Rattle.stream.proofs.writer.ArchiveWriter.take_all.Given as goal

abbrev pub invariant-pieces : goal.invariant-pieces
invariant-pieces g l = record {
  size : length l.buf ≡ 65_536;
  able : (seen g.W.Write.contents l.self).out.failed ≡ false;
  silent : (in_of g.R.Read.remaining l.fn.input).failed ≡ true
      → (seen g.W.Write.contents l.self ≡ seen g.W.Write.contents l.fn.self) × (in_of g.R.Read.remaining l.input ≡ in_of g.R.Read.remaining l.fn.input);
  taken : (more : List ℕ)
      × Consumes (in_of g.R.Read.remaining l.fn.input).left (in_of g.R.Read.remaining l.input).left more
      × Takes (seen g.W.Write.contents l.fn.self) more (seen g.W.Write.contents l.self);
}

abbrev pub decreases-pieces : goal.decreases-pieces
decreases-pieces g l = l.input.reads_left
