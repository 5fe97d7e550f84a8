use Rattle.dayend.proofs.AssignLaws.{Going}
use Rattle.dayend.proofs.assignment.assign_rows.Given as goal

abbrev pub invariant-loop-row : goal.invariant-loop-row
invariant-loop-row g l = Going l.terms l.previous l.day (g.S.Draws.meaning l.initial.source) l.initial.collateral l.initial.rows (g.S.Draws.meaning l.source) l.collateral l.rows l.row-index
