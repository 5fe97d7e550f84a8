use Rattle.std.proofs.Common.{rules}
use Rattle.ledger.proofs.FactLaws.{facts, sound_at}
use Rattle.dealing.proofs.TradeLaws.{admitted as tradable, facts_traded}
use Rattle.book.proofs.PassLaws.{accepted, in_input_stage, misfit, turned_back}
use Rattle.book.proofs.book.Book.trade.Goals as goal

pub returns-in_err-admit : goal.returns-in_err-admit
returns-in_err-admit c = let h = misfit _ _ c.in_err-admit.ensures in search rules

pub returns-in_err-check_trade : goal.returns-in_err-check_trade
returns-in_err-check_trade c = let h = turned_back _ _ _ c.in_ok-admit.ensures c.in_err-check_trade.ensures in search rules

pub book_trade-requires-clause-sound : goal.book_trade-requires-clause-sound
book_trade-requires-clause-sound c = let b = c.self.inside.ledger in facts b.state b.sound

pub invariant_of-self-inside : goal.invariant_of-self-inside
invariant_of-self-inside c =
    let b = c.self.inside.ledger in
    record { sound = sound_at _ _ c.book_trade.ensures.after (facts_traded b.state c.args.t.now (facts b.state b.sound) (in_input_stage b _ c.args.pass.now c.self.view_is c.in_ok-admit.ensures) (tradable b.state c.args.t.now (accepted _ c.in_ok-check_trade.ensures))) }
