use Rattle.std.proofs.Common.{◌∷◌}
use Rattle.std.proofs.lemmas.Result.{err_from_is_err_and, MatchResult-weaker}
use Rattle.lines.specs.Grammar.{num}
use Rattle.lines.proofs.Steps.{field_read, field_stuck, stuck_byte_at}
use Rattle.lines.proofs.scan.Width.read_field.Goals as goal

pub returns-in_err-after : goal.returns-in_err-after
returns-in_err-after c =
    let p = err_from_is_err_and c.from_residual.result c.from_residual.ensures.1 in
    rw (p.1, p.2) (λ ps d. stuck_byte_at 32 (num c.args.self.digits ∷ ps) _ _ c.in_err-after.ensures.0 c.in_err-after.ensures.1)

pub returns : goal.returns
returns c =
    MatchResult-weaker c.read_number.result c.read_number.ensures
    (λ p n. field_read _ _ _ _ _ c.in_ok-after.ensures n)
    (λ left st ps d. field_stuck _ _ _ left ps c.in_ok-after.ensures (st ps))
