-- An allocation: when it is turned back, and what it leaves.
use Rattle.std.specs.Prelude.{ℕ, Bool, ◌&&◌, List, [], ◌∷◌, length, Some, None, Ok, Err, sum, Option, Result, ◌==◌, nat_le}
use Rattle.draws.specs.Meaning.{Meaning, behind_all}
use Rattle.draws.specs.Checks.{first_refusal}
use Rattle.allocation.specs.declared.Unassigned.{Unassigned}
use Rattle.allocation.specs.declared.Unassigned.TheVariants.{PlacesDiffer, TooManyAccounts, TooManyShorts, BlockOutOfRange, TooManyExercised, DrawsShort}
use Rattle.allocation.specs.Assigned.{draws_needed, bounds, assigned_by}

-- what must hold, in the order of the checks, and the cause where it does not
abbrev pub checks : Meaning → List ℕ → ℕ → ℕ → ℕ → List (Bool × Unassigned)
checks m shorts e block places =
    ((places == length shorts), PlacesDiffer)
    ∷ (nat_le (length shorts) 64, TooManyAccounts)
    ∷ (nat_le (sum shorts) 100_000, TooManyShorts)
    ∷ (nat_le 1 block && nat_le block 1_000, BlockOutOfRange)
    ∷ (nat_le e (sum shorts), TooManyExercised)
    ∷ (nat_le (draws_needed e block) m.supply, DrawsShort (draws_needed e block))
    ∷ []

abbrev pub refusal : Meaning → List ℕ → ℕ → ℕ → ℕ → Option Unassigned
refusal m shorts e block places = first_refusal (checks m shorts e block places)

-- the answer, the list of assigned counts and what the source means, after an allocation
pub record Outcome : Type 0 where
  pub reply : Result ℕ Unassigned
  pub assigned : List ℕ
  pub source : Meaning

-- turned back, everything is as before
abbrev pub outcome : Option Unassigned → Meaning → List ℕ → ℕ → ℕ → List ℕ → Outcome
outcome (Some cause) m shorts e block before = record { reply = Err cause; assigned = before; source = m }
outcome None m shorts e block before = record {
  reply = Ok (draws_needed e block);
  assigned = assigned_by m block e shorts;
  source = behind_all (bounds (draws_needed e block) (sum shorts) block) m;
}

-- e exercised contracts, assigned to the short contracts of the accounts in blocks
abbrev pub allocation : Meaning → List ℕ → ℕ → ℕ → List ℕ → Outcome
allocation m shorts e block before = outcome (refusal m shorts e block (length before)) m shorts e block before
