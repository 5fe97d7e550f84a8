use Rattle.std.proofs.Common.{◌≡◌, ◌-◌, ap, ◌∙◌, arith}
use Rattle.settlement.proofs.LineLaws.{one_if_any, length_cell}
use Rattle.settlement.proofs.statement.count_account.Goals as goal

pub returns : goal.returns
returns c t account =
    let cell = c.args.cell.now in
    let left : c.count_any-3.result ≡ one_if_any (cell.assigned - cell.covered) = c.count_any-3.ensures.count ∙ ap one_if_any c.saturating_sub-uncovered.ensures in
    omega (arith, c.count_any.ensures.count, c.count_any-2.ensures.count, left, length_cell t account cell)
