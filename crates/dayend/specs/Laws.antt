-- What the assignment of a day comes to, and what it rests on.
use Rattle.std.specs.Prelude.{◌≡◌, ℕ, ◌≤◌, sum_by}
use Rattle.draws.specs.Meaning.{Meaning, Below, Agree}
use Rattle.settlement.specs.Assignment.{total_due}
use Rattle.ledger.specs.declared.state.Stage.TheVariants.{Cut}
use Rattle.ledger.specs.declared.state.State.{State}
use Rattle.ledger.specs.Tables.{cells_of, account_of}
use Rattle.ledger.specs.Sound.{Sound}
use Rattle.dayend.specs.Assignment.{needed, assigning, assigned_state}

-- a book before and after its assignment
pub record DaySettled (s t : State) : Type 0 where
  -- in each series every contract that was due is exercised, and as many are assigned
  pub exercised : (i : ℕ) → sum_by (λ c. c.exercised) (cells_of t i) ≡ total_due (cells_of s i)
  pub assigned : (i : ℕ) → sum_by (λ c. c.assigned) (cells_of t i) ≡ total_due (cells_of s i)
  -- the shares that an account has lodged fall or stay
  pub lodged : (n : ℕ) → (account_of t n).collateral ≤ (account_of s n).collateral

-- for every sound book that has been cut, and every source that keeps the rule for answers and has the draws needed
abbrev pub DaySettles : Type 0
DaySettles = (s : State) (m : Meaning) → Sound s → s.stage ≡ Cut → Below m → needed s ≤ m.supply → DaySettled s (assigned_state s m)

pub record SameAssignment (s : State) (m m' : Meaning) : Type 0 where
  pub state : assigned_state s m ≡ assigned_state s m'
  pub source : Agree (assigning s m).source (assigning s m').source

-- the assignment rests on nothing but the source's answers to the lists of bounds that its supply allows
abbrev pub AssignmentRests : Type 0
AssignmentRests = (s : State) (m m' : Meaning) → Sound s → s.stage ≡ Cut → Below m → Agree m m' → needed s ≤ m.supply → SameAssignment s m m'
