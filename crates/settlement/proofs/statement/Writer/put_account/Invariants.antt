use Rattle.std.proofs.Common.{◌≡◌, ◌+◌, length, take}
use Rattle.std.specs.List.{flat_map}
use Rattle.settlement.specs.Lines.{if_any, written}
use Rattle.settlement.proofs.statement.Writer.put_account.Given as goal

abbrev pub invariant-loop-line : goal.invariant-loop-line
invariant-loop-line l =
    record {
      same_slice : l.self.lines.ghost_name ≡ l.initial.self.lines.ghost_name;
      place : l.self.at ≡ l.initial.self.at + length (flat_map if_any (take l.line-index l.line-items));
      after : l.self.lines.now ≡ written l.initial.self.lines.now l.initial.self.at (flat_map if_any (take l.line-index l.line-items));
    }
