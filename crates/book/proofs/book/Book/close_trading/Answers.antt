use Rattle.ledger.proofs.FactLaws.{facts, sound_at}
use Rattle.exercise.proofs.CriteriaLaws.{facts_closed}
use Rattle.book.proofs.book.Book.close_trading.Goals as goal

pub invariant_of-self-inside : goal.invariant_of-self-inside
invariant_of-self-inside c =
    let b = c.self.inside.ledger in
    record { sound = sound_at _ _ c.close_trading.ensures (facts_closed b.state (facts b.state b.sound)) }
