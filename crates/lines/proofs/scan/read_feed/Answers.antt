use Rattle.std.proofs.Common.{[], refl, false-eqb}
use Rattle.std.proofs.lemmas.Result.{err_from_is_err_and}
use Rattle.lines.proofs.Steps.{stuck_byte_at, stuck_after_byte, stuck_end_at}
use Rattle.lines.proofs.scan.read_feed.Goals as goal

pub returns-in_err-rest : goal.returns-in_err-rest
returns-in_err-rest c =
    let p = err_from_is_err_and c.from_residual.result c.from_residual.ensures.1 in
    rw (p.1, p.2) (stuck_byte_at 10 [] _ _ c.in_err-rest.ensures.0 c.in_err-rest.ensures.1)

pub returns-else-is_empty : goal.returns-else-is_empty
returns-else-is_empty c = stuck_after_byte 10 [] _ _ _ c.in_ok-rest.ensures (stuck_end_at _ _ refl (false-eqb _ 0 c.if-is_empty.ensures))
