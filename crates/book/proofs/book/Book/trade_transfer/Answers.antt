use Rattle.std.proofs.Common.{rules}
use Rattle.ledger.proofs.FactLaws.{facts, sound_at}
use Rattle.transfers.proofs.TransferLaws.{movable, facts_transferred}
use Rattle.book.proofs.PassLaws.{accepted, in_input_stage, turned_back}
use Rattle.book.proofs.book.Book.trade_transfer.Goals as goal

pub returns-in_err-check_transfer : goal.returns-in_err-check_transfer
returns-in_err-check_transfer c = let h = turned_back _ _ _ c.in_ok-admit.ensures c.in_err-check_transfer.ensures in search rules

pub transfer-requires-clause-sound : goal.transfer-requires-clause-sound
transfer-requires-clause-sound c = let b = c.self.inside.ledger in facts b.state b.sound

pub invariant_of-self-inside : goal.invariant_of-self-inside
invariant_of-self-inside c =
    let b = c.self.inside.ledger in
    record { sound = sound_at _ _ c.transfer.ensures (facts_transferred b.state c.args.leg c.args.account (facts b.state b.sound) (in_input_stage b _ c.args.pass.now c.self.view_is c.in_ok-admit.ensures) (movable b.state c.args.leg c.args.account (accepted _ c.in_ok-check_transfer.ensures))) }
