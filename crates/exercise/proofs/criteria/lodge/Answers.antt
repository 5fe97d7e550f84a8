use Rattle.ledger.proofs.FactLaws.{facts}
use Rattle.exercise.proofs.CriteriaLaws.{facts_with_account}
use Rattle.exercise.proofs.criteria.lodge.Goals as goal

pub invariant_of-book : goal.invariant_of-book
invariant_of-book c =
    let s = c.args.book.now.state in
    record { sound = ∣ facts_with_account s c.args.account _ (facts s c.args.book.now.sound) c.requires.room ∣₁ }
