use Rattle.ledger.proofs.FactLaws.{facts, sound_at}
use Rattle.exercise.proofs.RequestLaws.{rejectable, request_placed, facts_request_rejected}
use Rattle.book.proofs.PassLaws.{accepted}
use Rattle.book.proofs.book.Book.reject_request.Goals as goal

pub reject_request-requires : goal.reject_request-requires
reject_request-requires c =
    let b = c.self.inside.ledger in
    let r = rejectable b.state c.args.request (accepted _ c.in_ok-check_rejection.ensures) in
    (r.from, request_placed b.state c.args.request (facts b.state b.sound) r)

pub invariant_of-self-inside : goal.invariant_of-self-inside
invariant_of-self-inside c =
    let b = c.self.inside.ledger in
    record { sound = sound_at _ _ c.reject_request.ensures (facts_request_rejected b.state c.args.request (facts b.state b.sound)) }
