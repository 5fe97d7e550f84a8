use Rattle.std.proofs.Common.{◌≡◌, length, get_or, sym, ◌∙◌, arith, rules}
use Rattle.std.proofs.lemmas.List.FromFn.{fill_by_all}
use Rattle.settlement.proofs.Filling.{map_places}
use Rattle.ledger.specs.declared.state.Account.{Account}
use Rattle.ledger.specs.Tables.{no_account}
use Rattle.dayend.proofs.Made.{made}
use Rattle.dayend.proofs.assignment.lodged_shares.Goals as goal

pub returns : goal.returns
returns c =
    fill_by_all (λ k. (get_or c.args.accounts.now k no_account).collateral) c.from_fn.result (length c.args.accounts.now) 0 (c.from_fn.ensures.items.long ∙ sym c.told-accounts)
    (λ k h. made (λ i y. y ≡ (get_or c.args.accounts.now i no_account).collateral) 0 c.from_fn.ensures.items (λ i y q w. search rules) k (omega (arith, c.told-accounts)))
    ∙ map_places (λ (x : Account). x.collateral) c.args.accounts.now no_account 0
