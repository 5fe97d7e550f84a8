use Rattle.ledger.proofs.FactLaws.{facts, sound_at}
use Rattle.exercise.proofs.RequestLaws.{requestable, facts_requested}
use Rattle.book.proofs.PassLaws.{accepted}
use Rattle.book.proofs.book.Book.request.Goals as goal

pub invariant_of-self-inside : goal.invariant_of-self-inside
invariant_of-self-inside c =
    let b = c.self.inside.ledger in
    record { sound = sound_at _ _ c.add_request.ensures.after (facts_requested b.state c.args.account c.args.series c.args.quantity (facts b.state b.sound) (requestable b.state c.args.account c.args.series c.args.quantity (accepted _ c.in_ok-check_request.ensures))) }
