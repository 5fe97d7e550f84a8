use Rattle.std.proofs.Common.{◌≡◌}
use Rattle.positions.proofs.PlaceLaws.{first}
use Rattle.dayend.specs.Cutoff.{cut_series}
use Rattle.dayend.proofs.cutoff.cut_rows.Given as goal

abbrev pub invariant-loop-i : goal.invariant-loop-i
invariant-loop-i l = l.row-items ≡ first l.i (cut_series l.fn.book) l.fn.book.series.rows
