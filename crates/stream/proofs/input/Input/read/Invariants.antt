use Rattle.std.proofs.Common.{◌≡◌, ◌≤◌, false}
use Rattle.std.specs.Io.KnownBytes.{Keeps}
use Rattle.stream.specs.Inputs.{in_of}
use Rattle.stream.proofs.input.Input.read.Given as goal

abbrev pub invariant-tries : goal.invariant-tries
invariant-tries g l = record {
  kept : Keeps (in_of g.R.Read.remaining l.fn.self).left (in_of g.R.Read.remaining l.self).left;
  able : l.self.failed ≡ false;
  falls : l.self.reads_left ≤ l.fn.self.reads_left;
}

abbrev pub decreases-tries : goal.decreases-tries
decreases-tries g l = l.self.reads_left
