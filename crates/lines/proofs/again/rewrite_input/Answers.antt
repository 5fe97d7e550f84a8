use Rattle.lines.proofs.Rewriting.{input_rewrites}
use Rattle.lines.proofs.again.rewrite_input.Goals as goal

pub returns : goal.returns
returns c = input_rewrites _ c.in_ok-read.read _ c.in_ok-read.ensures c.kind-kind.ensures c.in-Some.ensures.1 (rw c.as_slice.ensures at c.input_text.ensures)
