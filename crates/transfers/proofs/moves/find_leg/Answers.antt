use Rattle.std.proofs.Common.{◌≡◌, if◌then◌else◌, Some, None, IfSome, sym, subst, rules}
use Rattle.std.proofs.lemmas.Bool.{cond_both}
use Rattle.ledger.specs.Tables.{leg_of}
use Rattle.ledger.specs.Lookups.{has_leg}
use Rattle.ledger.specs.Sound.{ValidLeg}
use Rattle.ledger.proofs.FactLaws.{facts, leg_valid}
use Rattle.transfers.proofs.moves.find_leg.Goals as goal

pub returns-clause-valid : goal.returns-clause-valid
returns-clause-valid c =
    let s = c.args.book.now.state in
    let n = c.args.n in
    let found : c.then.result ≡ (if has_leg s n then Some (leg_of s n) else None) = search rules in
    subst (λ r. IfSome r (ValidLeg s)) (sym found)
    (cond_both (has_leg s n) (Some (leg_of s n)) None (λ r. IfSome r (ValidLeg s)) (λ h. leg_valid s n (facts s c.args.book.now.sound) h) (λ _. tt))
