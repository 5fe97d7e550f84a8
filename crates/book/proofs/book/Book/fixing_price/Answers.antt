use Rattle.ledger.proofs.FactLaws.{facts, sound_at}
use Rattle.exercise.proofs.CriteriaLaws.{facts_fixed}
use Rattle.book.proofs.book.Book.fixing_price.Goals as goal

pub invariant_of-self-inside : goal.invariant_of-self-inside
invariant_of-self-inside c =
    let b = c.self.inside.ledger in
    record { sound = sound_at _ _ c.fix_price.ensures (facts_fixed b.state _ (facts b.state b.sound)) }
