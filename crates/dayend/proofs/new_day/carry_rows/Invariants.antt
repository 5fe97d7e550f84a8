use Rattle.std.proofs.Common.{◌≡◌}
use Rattle.positions.proofs.PlaceLaws.{first}
use Rattle.dayend.specs.NextDay.{carried_series}
use Rattle.dayend.proofs.new_day.carry_rows.Given as goal

abbrev pub invariant-loop-row : goal.invariant-loop-row
invariant-loop-row l = l.rows ≡ first l.row-index (λ _ r. carried_series r) l.initial.rows
