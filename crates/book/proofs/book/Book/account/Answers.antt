use Rattle.ledger.proofs.FactLaws.{facts, sound_at}
use Rattle.dealing.proofs.OpenLaws.{facts_account_added}
use Rattle.book.proofs.PassLaws.{accepted}
use Rattle.book.proofs.book.Book.account.Goals as goal

pub invariant_of-self-inside : goal.invariant_of-self-inside
invariant_of-self-inside c =
    let b = c.self.inside.ledger in
    record { sound = sound_at _ _ c.add_account.ensures.after (facts_account_added b.state c.args.participant c.args.code (facts b.state b.sound) (accepted _ c.in_ok-check_account.ensures)) }
