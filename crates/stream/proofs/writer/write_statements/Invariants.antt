use Rattle.host.specs.Hosts.{shown}
use Rattle.stream.specs.Outputs.{out_of, Puts}
use Rattle.stream.specs.Streams.{statements_text}
use Rattle.stream.proofs.writer.write_statements.Given as goal

abbrev pub invariant-loop-i : goal.invariant-loop-i
invariant-loop-i g l = Puts (out_of g.W.Write.contents l.fn.output) (statements_text (shown l.host).places l.i) (out_of g.W.Write.contents l.output)
