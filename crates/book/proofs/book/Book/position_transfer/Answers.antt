use Rattle.std.proofs.Common.{rules}
use Rattle.ledger.proofs.FactLaws.{facts, sound_at}
use Rattle.transfers.proofs.PositionLaws.{transferable, facts_moved}
use Rattle.book.proofs.PassLaws.{accepted, in_input_stage, turned_back}
use Rattle.book.proofs.book.Book.position_transfer.Goals as goal

pub returns-in_err-check_position : goal.returns-in_err-check_position
returns-in_err-check_position c = let h = turned_back _ _ _ c.in_ok-admit.ensures c.in_err-check_position.ensures in search rules

pub move_position-requires-clause-sound : goal.move_position-requires-clause-sound
move_position-requires-clause-sound c = let b = c.self.inside.ledger in facts b.state b.sound

pub invariant_of-self-inside : goal.invariant_of-self-inside
invariant_of-self-inside c =
    let b = c.self.inside.ledger in
    record { sound = sound_at _ _ c.move_position.ensures (facts_moved b.state c.args.t.now (facts b.state b.sound) (in_input_stage b _ c.args.pass.now c.self.view_is c.in_ok-admit.ensures) (transferable b.state c.args.t.now (accepted _ c.in_ok-check_position.ensures))) }
