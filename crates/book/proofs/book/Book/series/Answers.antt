use Rattle.std.proofs.Common.{rules}
use Rattle.ledger.proofs.FactLaws.{facts, sound_at}
use Rattle.dealing.proofs.OpenLaws.{facts_series_added}
use Rattle.book.proofs.PassLaws.{accepted, in_input_stage, turned_back}
use Rattle.book.proofs.book.Book.series.Goals as goal

pub check_series-requires : goal.check_series-requires
check_series-requires c = let b = c.self.inside.ledger in (facts b.state b.sound).tables.0.1

pub returns-in_err-check_series : goal.returns-in_err-check_series
returns-in_err-check_series c = let h = turned_back _ _ _ c.in_ok-admit.ensures c.in_err-check_series.ensures in search rules

pub invariant_of-self-inside : goal.invariant_of-self-inside
invariant_of-self-inside c =
    let b = c.self.inside.ledger in
    record { sound = sound_at _ _ c.add_series.ensures.after (facts_series_added b.state c.args.right c.args.strike c.args.expiry (facts b.state b.sound) (in_input_stage b _ c.args.pass.now c.self.view_is c.in_ok-admit.ensures) (accepted _ c.in_ok-check_series.ensures)) }
