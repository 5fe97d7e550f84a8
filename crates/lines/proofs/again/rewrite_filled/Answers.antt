use Rattle.std.proofs.lemmas.Option.{MatchOption-at_some}
use Rattle.lines.proofs.Rewriting.{filled_rewrites}
use Rattle.lines.proofs.again.rewrite_filled.Goals as goal

pub returns : goal.returns
returns c =
    let all = c.in-Some-Some-Some in
    let fields = (MatchOption-at_some _ _ _ all.is-0 c.numbers.ensures).1 in
    filled_rewrites _ c.in_ok-read.read _ _ _ _ _ c.in_ok-read.ensures c.kind-kind.ensures fields all.ensures.1 all.ensures'.1 c.push.ensures c.push-2.ensures (rw c.as_slice.ensures at c.filled_text-text.ensures)
