use Rattle.std.proofs.Common.{◌≡◌, ℕ, ◌-◌, ◌*◌, map, length, get_or, ap, ◌∙◌, arith}
use Rattle.std.specs.List.{range_with_len}
use Rattle.positions.specs.declared.cell.Cell.{Cell}
use Rattle.positions.specs.Cells.{no_cell}
use Rattle.settlement.specs.Account.{covering, settled, at_end}
use Rattle.settlement.specs.Assignment.{collateral_after}
use Rattle.settlement.proofs.Filling.{filled_more, filled_all}
use Rattle.settlement.proofs.assignment.settle_all.Goals as goal

pub loop-i-preserved : goal.loop-i-preserved
loop-i-preserved c =
    let i = c.loop-i.i in
    let assigned = get_or c.args.assigned.now i 0 in
    let cell = c.loop-i.invariant.0.rest i (omega arith) in
    let shares = c.loop-i.invariant.1.rest i (omega arith) in
    let covered = c.covered_by-covered.ensures ∙ ap (λ (s : ℕ). covering c.args.terms.now.right c.args.terms.now.size s assigned) shares in (
      filled_more _ _ _ c.loop-i.cells i c.end_day.result c.loop-i.invariant.0 (omega (arith, c.told-cells))
          (c.end_day.ensures
          ∙ ap (λ (x : Cell). at_end c.args.terms.now.lapses (settled x assigned c.covered_by-covered.result)) cell
          ∙ ap (λ (v : ℕ). at_end c.args.terms.now.lapses (settled (get_or c.args.cells.now i no_cell) assigned v)) covered),
      filled_more _ _ _ c.loop-i.collateral i c.shares_left.result c.loop-i.invariant.1 (omega (arith, c.told-collateral))
          (c.shares_left.ensures ∙ ap (λ (s : ℕ). s - c.covered_by-covered.result * c.args.terms.now.size) shares ∙ ap (λ (v : ℕ). get_or c.args.collateral.now i 0 - v * c.args.terms.now.size) covered),
    )

pub returns-clause-cells : goal.returns-clause-cells
returns-clause-cells c = filled_all _ _ _ c.loop-i.cells c.loop-i.i c.loop-i.invariant.0 (omega (arith, c.told-cells))

pub returns-clause-collateral : goal.returns-clause-collateral
returns-clause-collateral c =
    let f : ℕ → ℕ = collateral_after c.args.terms.now.right c.args.terms.now.size c.args.collateral.now c.args.assigned.now in
    let same : length c.args.collateral.now ≡ length c.args.cells.now = omega (arith, c.told-collateral, c.told-cells) in
    filled_all _ _ _ c.loop-i.collateral c.loop-i.i c.loop-i.invariant.1 (omega (arith, c.told-collateral)) ∙ ap (λ n. map f (range_with_len 0 n)) same
