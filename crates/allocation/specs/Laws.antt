-- What every accepted allocation comes to, and the worked examples.
use Rattle.std.specs.Prelude.{◌≡◌, ℕ, ◌+◌, ◌<◌, ◌≤◌, List, [], ◌∷◌, length, Ok, sum, slice_index}
use Rattle.draws.specs.Meaning.{Meaning, Below, Agree}
use Rattle.draws.specs.Sources.{tape}
use Rattle.allocation.specs.Assigned.{draws_needed}
use Rattle.allocation.specs.Allocation.{Outcome, allocation}

pub record Settled (m : Meaning) (shorts : List ℕ) (e block n : ℕ) (o : Outcome) : Type 0 where
  -- every exercised contract is assigned once
  pub whole : sum o.assigned ≡ e
  -- one count for each account, and none above the account's short contracts
  pub places : length o.assigned ≡ length shorts
  pub within : (i : ℕ) → i < length shorts → slice_index o.assigned i ≤ slice_index shorts i
  -- the draws needed are made, and no others
  pub needed : n ≡ draws_needed e block
  pub spent : o.source.supply + n ≡ m.supply

-- for every source that keeps the rule for answers
abbrev pub AlwaysSettled : Type 0
AlwaysSettled = (m : Meaning) (shorts : List ℕ) (e block : ℕ) (before : List ℕ) (n : ℕ) → Below m → (allocation m shorts e block before).reply ≡ Ok n → Settled m shorts e block n (allocation m shorts e block before)

pub record Same (o o' : Outcome) : Type 0 where
  pub reply : o.reply ≡ o'.reply
  pub assigned : o.assigned ≡ o'.assigned
  pub source : Agree o.source o'.source

-- the outcome rests on nothing but the source's answers to the lists of bounds that its supply allows
abbrev pub RestsOnAnswers : Type 0
RestsOnAnswers = (m m' : Meaning) (shorts : List ℕ) (e block : ℕ) (before : List ℕ) → Below m → Agree m m' → Same (allocation m shorts e block before) (allocation m' shorts e block before)

-- shorts 5 and 4, exercised 7, block 3, answers 8, 4, 2: three draws, assigned 3 and 4
abbrev pub Worked : Type 0
Worked = (before : List ℕ) → length before ≡ 2 → ((allocation (tape (8 ∷ 4 ∷ 2 ∷ []) 0) (5 ∷ 4 ∷ []) 7 3 before).reply ≡ Ok 3) × ((allocation (tape (8 ∷ 4 ∷ 2 ∷ []) 0) (5 ∷ 4 ∷ []) 7 3 before).assigned ≡ 3 ∷ 4 ∷ [])

-- nothing exercised, whatever the source has: accepted, with 0 draws
abbrev pub NothingExercised : Type 0
NothingExercised = (m : Meaning) (shorts : List ℕ) (block : ℕ) (before : List ℕ) → length before ≡ length shorts → length shorts ≤ 64 → sum shorts ≤ 100_000 → 1 ≤ block → block ≤ 1_000 → ((allocation m shorts 0 block before).reply ≡ Ok 0) × ((allocation m shorts 0 block before).source ≡ m) × (sum (allocation m shorts 0 block before).assigned ≡ 0)
