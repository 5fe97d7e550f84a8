use Rattle.draws.proofs.Passes.{unless_none}
use Rattle.ledger.proofs.FactLaws.{facts, sound_at}
use Rattle.dayend.proofs.NextDayLaws.{is_later, facts_next_day}
use Rattle.book.proofs.PassLaws.{accepted}
use Rattle.book.proofs.book.Book.next_day.Goals as goal

pub invariant_of-self-inside : goal.invariant_of-self-inside
invariant_of-self-inside c =
    let b = c.self.inside.ledger in
    let later = is_later c.args.self.now.state c.args.day (unless_none _ _ _ (accepted _ c.in_default.ensures)).1 in
    record { sound = sound_at _ _ c.next_day.ensures (facts_next_day b.state c.args.day (facts b.state b.sound) (rw c.self.view_is later)) }
