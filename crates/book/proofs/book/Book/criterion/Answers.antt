use Rattle.std.proofs.Common.{rules}
use Rattle.ledger.proofs.FactLaws.{facts, sound_at}
use Rattle.exercise.proofs.CriteriaLaws.{settable, settable_placed, facts_criterion}
use Rattle.book.proofs.PassLaws.{accepted, misfit, turned_back}
use Rattle.book.proofs.book.Book.criterion.Goals as goal

pub returns-in_err-admit : goal.returns-in_err-admit
returns-in_err-admit c = let h = misfit _ _ c.in_err-admit.ensures in search rules

pub returns-in_err-check_criterion : goal.returns-in_err-check_criterion
returns-in_err-check_criterion c = let h = turned_back _ _ _ c.in_ok-admit.ensures c.in_err-check_criterion.ensures in search rules

pub set_criterion-requires : goal.set_criterion-requires
set_criterion-requires c =
    let b = c.self.inside.ledger in
    settable_placed b.state c.args.account c.args.right c.args.form c.args.value (facts b.state b.sound) (settable b.state c.args.account c.args.right c.args.form c.args.value (accepted _ c.in_ok-check_criterion.ensures))

pub invariant_of-self-inside : goal.invariant_of-self-inside
invariant_of-self-inside c =
    let b = c.self.inside.ledger in
    record { sound = sound_at _ _ c.set_criterion.ensures (facts_criterion b.state c.args.account c.args.right c.args.form c.args.value (facts b.state b.sound)) }
