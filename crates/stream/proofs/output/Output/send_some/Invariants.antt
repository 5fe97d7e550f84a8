use Rattle.std.proofs.Common.{◌≡◌}
use Rattle.std.specs.Io.KnownBytes.{Keeps}
use Rattle.stream.specs.Outputs.{out_of}
use Rattle.stream.proofs.output.Output.send_some.Given as goal

abbrev pub invariant-tries : goal.invariant-tries
invariant-tries g l = record {
  kept : Keeps (out_of g.W.Write.contents l.fn.self).held (out_of g.W.Write.contents l.self).held;
  waiting : l.self.waiting ≡ l.fn.self.waiting;
  able : l.self.failed ≡ l.fn.self.failed;
}
