-- What an allocation that is not turned back may rest on.
use Rattle.std.proofs.Common.{◌≡◌, ℕ, ◌≤◌, leb, List, length, None, sum}
use Rattle.std.proofs.lemmas.Bool.{eqb-true, leb-true, and_parts}
use Rattle.draws.specs.Meaning.{Meaning}
use Rattle.draws.proofs.Passes.{all_pass}
use Rattle.allocation.specs.Assigned.{draws_needed}
use Rattle.allocation.specs.Allocation.{checks, refusal}

pub record Accepted (m : Meaning) (shorts : List ℕ) (e block places : ℕ) : Type 0 where
  pub same : places ≡ length shorts
  pub accounts : length shorts ≤ 64
  pub few : sum shorts ≤ 100_000
  pub positive : 1 ≤ block
  pub small : block ≤ 1_000
  pub enough : e ≤ sum shorts
  pub supplied : draws_needed e block ≤ m.supply

pub accepted : (m : Meaning) (shorts : List ℕ) (e block places : ℕ) → refusal m shorts e block places ≡ None → Accepted m shorts e block places
accepted m shorts e block places none =
    let p = all_pass (checks m shorts e block places) none in
    let range = and_parts (leb 1 block) (leb block 1_000) p.1.1.1.0 in
    record {
      same = eqb-true places (length shorts) p.0;
      accounts = leb-true (length shorts) 64 p.1.0;
      few = leb-true (sum shorts) 100_000 p.1.1.0;
      positive = leb-true 1 block range.0;
      small = leb-true block 1_000 range.1;
      enough = leb-true e (sum shorts) p.1.1.1.1.0;
      supplied = leb-true (draws_needed e block) m.supply p.1.1.1.1.1.0;
    }
