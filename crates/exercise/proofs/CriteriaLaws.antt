-- Accepted criteria, fixing prices and movements of collateral.
use Rattle.std.proofs.Common.{◌≡◌, ℕ, ◌+◌, ◌-◌, ◌≤◌, Bool, true, false, ◌&&◌, ◌||◌, eqb, Some, None, Option, ◌∙◌, inl, inr, arith, length-set}
use Rattle.std.proofs.lemmas.Bool.{or_cases, eqb-true, leb-true, cond_both}
use Rattle.draws.specs.Checks.{first_refusal}
use Rattle.draws.proofs.Passes.{all_pass}
use Rattle.positions.proofs.RowLaws.{at_set}
use Rattle.ledger.specs.declared.state.Account.{Account}
use Rattle.ledger.specs.declared.state.House.{House}
use Rattle.ledger.specs.declared.state.State.{State}
use Rattle.ledger.specs.Tables.{account_of, no_account}
use Rattle.ledger.specs.Lookups.{within, has_account}
use Rattle.exercise.specs.Criteria.{form_in_range, criterion_checks, with_house, with_account, criterion_set, price_fixed, trading_closed, lodge_checks, lodged, collateral_withdrawn}
use Rattle.ledger.specs.Sound.{Facts}
use Rattle.ledger.proofs.FactLaws.{account_placed}

-- they say nothing of the house, the fixing price and trading
facts_aside : (s : State) (h : House) (fixing : Option ℕ) (trading : Bool) → Facts s → Facts (record s { house = h; fixing = fixing; trading = trading })
facts_aside s h fixing trading f = record { ranges = f.ranges; tables = f.tables; balanced = f.balanced; waiting = f.waiting; strikes = f.strikes; unlisted = f.unlisted; valid = f.valid; asked = f.asked; collateral = f.collateral }

pub facts_house : (s : State) (h : House) → Facts s → Facts (with_house s h)
facts_house s h f = facts_aside s h s.fixing s.trading f

pub facts_with_account : (s : State) (n : ℕ) (a : Account) → Facts s → a.collateral ≤ 99_999_999 → Facts (with_account s n a)
facts_with_account s n a f small = record {
  ranges = f.ranges;
  tables = (f.tables.0, (length-set _ _ _ ∙ f.tables.1.0, f.tables.1.1, f.tables.1.2, f.tables.1.3));
  balanced = f.balanced;
  waiting = f.waiting;
  strikes = f.strikes;
  unlisted = f.unlisted;
  valid = f.valid;
  asked = f.asked;
  collateral = λ k. at_set (λ (a : Account). a.collateral ≤ 99_999_999) s.accounts.rows (n - 1) k a no_account small (f.collateral k);
}

-- ── criterion ──

pub record Settable (s : State) (account right form value : ℕ) : Type 0 where
  pub range : (within right 1 2 && form_in_range account form value) ≡ true
  pub known : (eqb account 0 || has_account s account) ≡ true
  pub trading : s.trading ≡ true

pub settable : (s : State) (account right form value : ℕ) → first_refusal (criterion_checks s account right form value) ≡ None → Settable s account right form value
settable s account right form value h = let p = all_pass (criterion_checks s account right form value) h in record { range = p.0; known = p.1.0; trading = p.1.1.0 }

-- the house, or a row of the table
pub settable_placed : (s : State) (account right form value : ℕ) → Facts s → Settable s account right form value → account ≤ 32
settable_placed s account right form value f a =
    elim (or_cases (eqb account 0) (has_account s account) a.known) [
      | inl h ↦ omega (arith, eqb-true account 0 h)
      | inr h ↦ (account_placed s account f h).row
    ]

pub facts_criterion : (s : State) (account right form value : ℕ) → Facts s → Facts (criterion_set s account right form value)
facts_criterion s account right form value f =
    cond_both (eqb account 0) _ _ Facts (λ h. facts_house s _ f)
    (λ h. facts_with_account s account _ f (f.collateral (account - 1)))

-- ── fixing price and the end of trading ──

pub facts_fixed : (s : State) (price : ℕ) → Facts s → Facts (price_fixed s price)
facts_fixed s price f = facts_aside s s.house (Some price) s.trading f

pub facts_closed : (s : State) → Facts s → Facts (trading_closed s)
facts_closed s f = facts_aside s s.house s.fixing false f

-- ── collateral ──

pub record Lodgeable (s : State) (account shares : ℕ) : Type 0 where
  pub range : within shares 1 99_999_999 ≡ true
  pub known : has_account s account ≡ true
  pub room : (account_of s account).collateral + shares ≤ 99_999_999

pub lodgeable : (s : State) (account shares : ℕ) → first_refusal (lodge_checks s account shares) ≡ None → Lodgeable s account shares
lodgeable s account shares h = let p = all_pass (lodge_checks s account shares) h in record { range = p.0; known = p.1.0; room = leb-true _ _ p.1.1.0 }

pub facts_lodged : (s : State) (account shares : ℕ) → Facts s → Lodgeable s account shares → Facts (lodged s account shares)
facts_lodged s account shares f a = facts_with_account s account _ f a.room

pub facts_withdrawn : (s : State) (account shares : ℕ) → Facts s → Facts (collateral_withdrawn s account shares)
facts_withdrawn s account shares f = facts_with_account s account _ f (omega (arith, f.collateral (account - 1)))
