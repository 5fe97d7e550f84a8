use Rattle.std.proofs.Common.{rules}
use Rattle.ledger.proofs.FactLaws.{facts, sound_at}
use Rattle.transfers.proofs.TransferLaws.{facts_taken_up}
use Rattle.book.proofs.PassLaws.{accepted, in_input_stage, misfit, turned_back}
use Rattle.book.proofs.book.Book.take_up.Goals as goal

pub returns-in_err-admit : goal.returns-in_err-admit
returns-in_err-admit c = let h = misfit _ _ c.in_err-admit.ensures in search rules

pub returns-in_err-check_take_up : goal.returns-in_err-check_take_up
returns-in_err-check_take_up c = let h = turned_back _ _ _ c.in_ok-admit.ensures c.in_err-check_take_up.ensures in search rules

pub take_up-requires-clause-sound : goal.take_up-requires-clause-sound
take_up-requires-clause-sound c = let b = c.self.inside.ledger in facts b.state b.sound

pub invariant_of-self-inside : goal.invariant_of-self-inside
invariant_of-self-inside c =
    let b = c.self.inside.ledger in
    record { sound = sound_at _ _ c.take_up.ensures (facts_taken_up b.state c.args.leg c.args.answer c.args.account (facts b.state b.sound) (in_input_stage b _ c.args.pass.now c.self.view_is c.in_ok-admit.ensures) (accepted _ c.in_ok-check_take_up.ensures)) }
