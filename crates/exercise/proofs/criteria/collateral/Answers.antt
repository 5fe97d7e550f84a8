use Rattle.std.proofs.Common.{◌-◌}
use Rattle.ledger.specs.Tables.{no_account}
use Rattle.ledger.proofs.FactLaws.{facts}
use Rattle.exercise.proofs.criteria.collateral.Goals as goal

pub returns-clause-small : goal.returns-clause-small
returns-clause-small c =
    let b = c.args.book.now in
    rw (c.row.ensures no_account) ((facts b.state b.sound).collateral (c.args.account - 1))
