use Rattle.std.proofs.Common.{sym, arith}
use Rattle.lines.proofs.Heads.{two}
use Rattle.lines.proofs.write.faulty_kind.Goals as goal

pub returns : goal.returns
returns c = sym (two 99 (omega arith) (omega arith))
