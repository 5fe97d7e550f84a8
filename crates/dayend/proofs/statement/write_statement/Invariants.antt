use Rattle.std.proofs.Common.{◌≡◌, length}
use Rattle.settlement.specs.Lines.{written}
use Rattle.dayend.specs.Statement.{first_lines}
use Rattle.dayend.proofs.statement.write_statement.Given as goal

abbrev pub invariant-loop-i : goal.invariant-loop-i
invariant-loop-i l =
    (l.next ≡ length (first_lines l.i l.book.state.terms.size l.book.state.day l.book.state.series.rows))
    × (l.lines ≡ written l.initial.lines 0 (first_lines l.i l.book.state.terms.size l.book.state.day l.book.state.series.rows))
