-- An accepted opening, account or series.
use Rattle.std.proofs.Common.{◌≡◌, ℕ, ◌<◌, None, arith}
use Rattle.std.proofs.lemmas.Bool.{and_parts, ltb-true}
use Rattle.draws.specs.Checks.{first_refusal}
use Rattle.draws.proofs.Passes.{all_pass}
use Rattle.positions.specs.Kinds.{type_of_code}
use Rattle.ledger.specs.declared.state.Opening.{Opening}
use Rattle.ledger.specs.declared.state.Stage.TheVariants.{Input}
use Rattle.ledger.specs.declared.state.State.{State}
use Rattle.ledger.specs.Tables.{opening, new_account}
use Rattle.ledger.specs.Lookups.{within}
use Rattle.dealing.specs.Listings.{open_checks, account_checks, account_added, contract_of, series_checks, series_added}
use Rattle.ledger.specs.Sound.{Facts}
use Rattle.ledger.proofs.FactLaws.{within_parts}
use Rattle.ledger.proofs.KeepLaws.{facts_opening, facts_account, facts_series}

pub facts_opened : (o : Opening) → first_refusal (open_checks o) ≡ None → Facts (opening o)
facts_opened o h =
    let a = (all_pass (open_checks o) h).0 in
    let b = (and_parts (within o.number 1 9_999) _ a).1 in
    let c = and_parts (within o.day 1 99_999) _ b in
    let d = and_parts (within o.size 1 10_000) (within o.block 1 1_000) c.1 in
    let days = within_parts o.day 1 99_999 c.0 in
    let sizes = within_parts o.size 1 10_000 d.0 in
    let blocks = within_parts o.block 1 1_000 d.1 in
    facts_opening o sizes.0 sizes.1 blocks.0 blocks.1 days.1

pub room_account : (s : State) (participant code : ℕ) → first_refusal (account_checks s participant code) ≡ None → s.accounts.count < 32
room_account s participant code h = ltb-true _ _ (all_pass (account_checks s participant code) h).1.0

pub facts_account_added : (s : State) (participant code : ℕ) → Facts s → first_refusal (account_checks s participant code) ≡ None → Facts (account_added s participant code)
facts_account_added s participant code f h = facts_account s (new_account participant (type_of_code code)) f (room_account s participant code h) (omega arith)

pub room_series : (s : State) (right strike expiry : ℕ) → first_refusal (series_checks s right strike expiry) ≡ None → s.series.count < 32
room_series s right strike expiry h = ltb-true _ _ (all_pass (series_checks s right strike expiry) h).1.1.0

pub facts_series_added : (s : State) (right strike expiry : ℕ) → Facts s → s.stage ≡ Input → first_refusal (series_checks s right strike expiry) ≡ None → Facts (series_added s right strike expiry)
facts_series_added s right strike expiry f input h =
    let a = (and_parts (within right 1 2) _ (all_pass (series_checks s right strike expiry) h).0).1 in
    let b = within_parts strike 1 1_000_000 (and_parts (within strike 1 1_000_000) (within expiry s.day 99_999) a).0 in
    facts_series s (contract_of right strike expiry) f input (room_series s right strike expiry h) b.1
