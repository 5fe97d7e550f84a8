use Rattle.std.proofs.Common.{rules}
use Rattle.ledger.proofs.FactLaws.{facts, sound_at}
use Rattle.dayend.specs.Assignment.{assigned_state}
use Rattle.dayend.proofs.AssignedLaws.{facts_assigned}
use Rattle.dayend.proofs.Laws.{day_settles, assignment_rests}
use Rattle.dayend.proofs.assignment.assign.Goals as goal

pub invariant_of-book : goal.invariant_of-book
invariant_of-book g c =
    let s = c.args.book.now.state in
    let m = g.S.Draws.meaning c.args.source.now in
    record { sound = sound_at _ (assigned_state s m) (search rules) (facts_assigned s m (facts s c.args.book.now.sound) c.requires.cut (g.S.Draws.below c.args.source.now) c.requires.supplied) }

pub returns-clause-settles : goal.returns-clause-settles
returns-clause-settles g c = day_settles

pub returns-clause-rests : goal.returns-clause-rests
returns-clause-rests g c = assignment_rests
