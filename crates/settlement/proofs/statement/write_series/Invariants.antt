use Rattle.std.proofs.Common.{◌≡◌, ◌+◌, length}
use Rattle.settlement.specs.Lines.{lines_of_first, written}
use Rattle.settlement.proofs.statement.write_series.Given as goal

abbrev pub invariant-loop-i : goal.invariant-loop-i
invariant-loop-i l =
    record {
      same_slice : l.writer.lines.ghost_name ≡ l.initial.writer.lines.ghost_name;
      place : l.writer.at ≡ l.at + length (lines_of_first l.i l.terms l.cells);
      after : l.writer.lines.now ≡ written l.initial.writer.lines.now l.at (lines_of_first l.i l.terms l.cells);
    }
