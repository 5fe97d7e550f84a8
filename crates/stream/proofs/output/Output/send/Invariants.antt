use Rattle.std.proofs.Common.{◌≡◌, ◌-◌, ◌≤◌, length, take}
use Rattle.std.specs.Io.KnownBytes.{Appends}
use Rattle.few.specs.Contents.{contents}
use Rattle.stream.specs.Outputs.{out_of}
use Rattle.stream.proofs.output.Output.send.Given as goal

abbrev pub invariant-writes : goal.invariant-writes
invariant-writes g l = record {
  within : l.sent ≤ length (contents l.fn.self.waiting);
  written : Appends (out_of g.W.Write.contents l.fn.self).held (out_of g.W.Write.contents l.self).held (take l.sent (contents l.fn.self.waiting));
  waiting : contents l.self.waiting ≡ contents l.fn.self.waiting;
  able : l.self.failed ≡ l.fn.self.failed;
}

abbrev pub decreases-writes : goal.decreases-writes
decreases-writes g l = length (contents l.fn.self.waiting) - l.sent
