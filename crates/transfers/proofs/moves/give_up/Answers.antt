use Rattle.ledger.proofs.FactLaws.{facts}
use Rattle.transfers.proofs.TransferLaws.{facts_given_up}
use Rattle.transfers.proofs.moves.give_up.Goals as goal

pub invariant_of-book : goal.invariant_of-book
invariant_of-book c =
    let s = c.args.book.now.state in
    record { sound = rw c.step.ensures (∣ facts_given_up s c.args.leg c.args.participant (facts s c.args.book.now.sound) c.requires ∣₁) }
