use Rattle.std.proofs.lemmas.Result.{err_from_is_err_and}
use Rattle.lines.specs.declared.kinds.Sort.TheVariants.{Filled}
use Rattle.lines.specs.Grammar.{answer}
use Rattle.lines.proofs.Steps.{stuck_after, answer_delim}
use Rattle.lines.proofs.Tops.{start_made, filled_read}
use Rattle.lines.proofs.read.scan_filled.Goals as goal

pub returns-in_err-reply : goal.returns-in_err-reply
returns-in_err-reply c =
    let p = err_from_is_err_and c.from_residual-in_err-reply.result c.from_residual-in_err-reply.ensures.1 in
    let start = c.in_ok-head.ensures in
    rw (p.1, p.2, start.split) (stuck_after _ _ _ _ _ _ (start.reached answer answer_delim) c.in_err-reply.ensures)

pub returns : goal.returns
returns c = filled_read _ _ _ (start_made Filled _ _ _ _ _ _ c.in_ok-head.ensures c.line_of.ensures) c.in_ok-reply.ensures
