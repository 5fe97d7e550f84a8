use Rattle.std.proofs.Common.{arith}
use Rattle.dayend.proofs.AssignLaws.{going_next, next_assignable}
use Rattle.dayend.proofs.assignment.assign_rows.Goals as goal

pub assign_series-requires : goal.assign_series-requires
assign_series-requires g c = next_assignable _ _ _ _ _ _ _ _ _ c.loop-row.row-index (g.S.Draws.below c.loop-row.source) c.loop-row.invariant (omega (arith, c.told-rows))

pub loop-row-preserved : goal.loop-row-preserved
loop-row-preserved g c =
    let a = c.assign_series.ensures in
    going_next _ _ _ _ _ _ _ _ _ c.loop-row.row-index (g.S.Draws.below c.loop-row.source) c.loop-row.invariant (omega (arith, c.told-rows)) c.expires.result _ _ _ c.expires.ensures a.source a.collateral a.cells
