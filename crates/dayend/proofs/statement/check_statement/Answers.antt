use Rattle.std.proofs.Common.{arith}
use Rattle.ledger.proofs.FactLaws.{facts}
use Rattle.dayend.proofs.StatementLaws.{places_few}
use Rattle.dayend.proofs.statement.check_statement.Goals as goal

pub overflow_cast-result : goal.overflow_cast-result
overflow_cast-result c =
    let s = c.args.book.now.state in
    omega (arith, c.places_needed-needed.ensures, places_few s (facts s c.args.book.now.sound))
