use Rattle.std.proofs.Common.{arith}
use Rattle.lines.proofs.Statements.{statement_made}
use Rattle.lines.proofs.statement.short_text.Goals as goal

pub returns : goal.returns
returns c = statement_made c.args.numbers.now _ _ _ _ (omega arith) c.requires c.new-text.ensures c.push_number.ensures c.push_numbers.ensures c.push.ensures
