use Rattle.std.proofs.Common.{sym}
use Rattle.lines.proofs.Rows.{found, not_found}
use Rattle.lines.proofs.kinds.fields_of.Goals as goal

pub returns-in_err-place : goal.returns-in_err-place
returns-in_err-place c = rw c.from_residual.ensures (sym (not_found _ _ c.in_err-place.ensures))

pub returns : goal.returns
returns c = sym (found _ _ _ c.in_ok-place.ensures)
