-- What every book keeps, put to use.
use Rattle.std.proofs.Common.{◌≡◌, ℕ, ◌-◌, ◌≤◌, true, leb, get_or, sym, subst, arith}
use mathlib.Core.Logic.{∥∥₁_elim}
use denote.Struct.Props.{props}
use Rattle.std.proofs.lemmas.Bool.{and_parts, leb-true}
use Rattle.positions.specs.declared.cell.Cell.{Cell}
use Rattle.positions.specs.Cells.{no_cell}
use Rattle.positions.specs.Legs.{no_leg}
use Rattle.ledger.specs.declared.state.Stage.{Stage}
use Rattle.ledger.specs.declared.state.Stage.TheVariants.{Input, Cut, Assigned}
use Rattle.ledger.specs.declared.state.State.{State}
use Rattle.ledger.specs.Tables.{cells_of}
use Rattle.ledger.specs.Lookups.{within, has_account, has_series, has_leg}
use Rattle.ledger.specs.Sound.{Ranges, Tables, Waiting, AllBalanced, AllWaiting, Strikes, Unlisted, ValidLeg, AllValid, AllAsked, Collateral, Facts, Sound}

-- ── a fact has one proof at most ──

waiting_one : (g : Stage) (c : Cell) → IsProp (Waiting g c)
waiting_one Input c = hlevel props
waiting_one Cut c = hlevel props
waiting_one Assigned c = hlevel props

ranges_prop : (s : State) → IsProp (Ranges s)
ranges_prop s = hlevel props

tables_prop : (s : State) → IsProp (Tables s)
tables_prop s = hlevel props

balanced_prop : (s : State) → IsProp (AllBalanced s)
balanced_prop s = hlevel props

waiting_prop : (s : State) → IsProp (AllWaiting s)
waiting_prop s p q = λ k i j. waiting_one s.stage (get_or (cells_of s i) j no_cell) (p i j) (q i j) k

strikes_prop : (s : State) → IsProp (Strikes s)
strikes_prop s = hlevel props

unlisted_prop : (s : State) → IsProp (Unlisted s)
unlisted_prop s = hlevel props

valid_prop : (s : State) → IsProp (AllValid s)
valid_prop s = hlevel props

asked_prop : (s : State) → IsProp (AllAsked s)
asked_prop s = hlevel props

collateral_prop : (s : State) → IsProp (Collateral s)
collateral_prop s = hlevel props

facts_prop : (s : State) → IsProp (Facts s)
facts_prop s p q = λ i. record {
  ranges = ranges_prop s p.ranges q.ranges i;
  tables = tables_prop s p.tables q.tables i;
  balanced = balanced_prop s p.balanced q.balanced i;
  waiting = waiting_prop s p.waiting q.waiting i;
  strikes = strikes_prop s p.strikes q.strikes i;
  unlisted = unlisted_prop s p.unlisted q.unlisted i;
  valid = valid_prop s p.valid q.valid i;
  asked = asked_prop s p.asked q.asked i;
  collateral = collateral_prop s p.collateral q.collateral i;
}

pub facts : (s : State) → Sound s → Facts s
facts s t = ∥∥₁_elim t (facts_prop s) (λ f. f)

-- a book whose state is t is sound where t is
pub sound_at : (s t : State) → s ≡ t → Facts t → Sound s
sound_at s t e f = subst Sound (sym e) ∣ f ∣₁

-- ── look-ups ──

pub within_parts : (n low high : ℕ) → within n low high ≡ true → (low ≤ n) × (n ≤ high)
within_parts n low high h = let p = and_parts (leb low n) (leb n high) h in (leb-true low n p.0, leb-true n high p.1)

-- a number that a table of 32 rows has
pub record Placed (n count : ℕ) : Type 0 where
  pub from : 1 ≤ n
  pub to : n ≤ count
  pub row : n ≤ 32

pub account_placed : (s : State) (n : ℕ) → Facts s → has_account s n ≡ true → Placed n s.accounts.count
account_placed s n f h = let a = within_parts n 1 s.accounts.count h in record { from = a.0; to = a.1; row = omega (arith, a.1, f.tables.0.0) }

pub series_placed : (s : State) (n : ℕ) → Facts s → has_series s n ≡ true → Placed n s.series.count
series_placed s n f h = let a = within_parts n 1 s.series.count h in record { from = a.0; to = a.1; row = omega (arith, a.1, f.tables.0.1) }

pub leg_valid : (s : State) (n : ℕ) → Facts s → has_leg s n ≡ true → ValidLeg s (get_or s.legs.rows (n - 1) no_leg)
leg_valid s n f h = let w = within_parts n 1 s.legs.count h in f.valid (n - 1) (omega (arith, w.0, w.1))
