use Rattle.ledger.proofs.FactLaws.{facts}
use Rattle.exercise.proofs.RequestLaws.{facts_denied}
use Rattle.exercise.proofs.requests.deny.Goals as goal

pub invariant_of-book : goal.invariant_of-book
invariant_of-book c =
    let s = c.args.book.now.state in
    record { sound = rw c.with_denied.ensures (∣ facts_denied s c.args.account c.args.series _ (facts s c.args.book.now.sound) c.requires.known c.requires.listed ∣₁) }
