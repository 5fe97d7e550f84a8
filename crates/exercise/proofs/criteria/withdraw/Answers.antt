use Rattle.ledger.proofs.FactLaws.{facts}
use Rattle.exercise.proofs.CriteriaLaws.{facts_withdrawn}
use Rattle.exercise.proofs.criteria.withdraw.Goals as goal

pub invariant_of-book : goal.invariant_of-book
invariant_of-book c =
    let s = c.args.book.now.state in
    record { sound = ∣ facts_withdrawn s c.args.account c.args.shares (facts s c.args.book.now.sound) ∣₁ }
