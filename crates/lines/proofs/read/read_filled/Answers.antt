use Rattle.std.proofs.Common.{arith, rules}
use Rattle.lines.specs.Kinds.{filled_kinds}
use Rattle.lines.specs.Grammar.{Stuck, Lines, answer}
use Rattle.lines.specs.Lines.{IsFilled}
use Rattle.lines.specs.Reads.{ReadsFilled}
use Rattle.lines.proofs.Tops.{told, filled_faulty}
use Rattle.lines.proofs.Lengths.{filled_start}
use Rattle.lines.proofs.read.read_filled.Goals as goal

pub returns : goal.returns
returns c =
    let w = c.args.line.now in
    told IsFilled 86 w c.scan_filled.result c.map_err.result (ReadsFilled w) (Stuck (Lines filled_kinds answer) w) _ c.scan_filled.ensures c.map_err.ensures.cases (filled_faulty w) (filled_start w) (omega arith) (λ e f g. search rules)
