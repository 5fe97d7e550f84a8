-- The law on holders and writers.
use Rattle.std.specs.Prelude.{◌≡◌, ℕ, ◌+◌, ◌-◌, ◌<◌, ◌≤◌, true, cond, List, [], ◌∷◌, pos, ◌+ℤ◌, neg_ℤ, sum_by, ◌==◌}
use Rattle.draws.specs.Replies.{accepted, is_accepted}
use Rattle.positions.specs.declared.cell.Cell.{Cell}
use Rattle.positions.specs.Rows.{total_longs, total_shorts}
use Rattle.ledger.specs.declared.refusal.Refusal.TheVariants.{DrawsShort}
use Rattle.ledger.specs.declared.state.Opening.{Opening}
use Rattle.ledger.specs.declared.state.State.{State}
use Rattle.ledger.specs.Replies.{reply_of}
use Rattle.ledger.specs.Tables.{cells_of, cell_at}
use Rattle.dayend.specs.Assignment.{needed}
use Rattle.settlement.specs.declared.line.Line.{Line}
use Rattle.book.specs.declared.pass.CutPass.{CutPass}
use Rattle.book.specs.declared.pass.Pass.TheVariants.{ForCut}
use Rattle.register.specs.declared.calls.Call.{Call}
use Rattle.register.specs.declared.calls.Call.TheVariants.{Open, OfInput, OfExercise, CutOff, Assign, GiveStatement, BeginDay}
use Rattle.book.specs.Stages.{fits_cut}
use Rattle.register.specs.Register.{Entry, given, Leads}
use Rattle.register.specs.Balance.{count}

-- a series and an account that the book has, by number
abbrev pub Series : State → ℕ → Type 0
Series s i = (1 ≤ i) × (i ≤ s.series.count)

abbrev pub Account : State → ℕ → Type 0
Account s a = (1 ≤ a) × (a ≤ s.accounts.count)

-- ── exercised and assigned ──

-- contracts in series i, added up over the accounts, and over the accepted assignments of the register
abbrev pub of_assignment : Call → ℕ → ℕ
of_assignment (Open o) n = 0
of_assignment (OfInput c) n = 0
of_assignment (OfExercise c) n = 0
of_assignment CutOff n = 0
of_assignment Assign n = n
of_assignment GiveStatement n = 0
of_assignment (BeginDay day) n = 0

abbrev pub in_assignments : (Cell → ℕ) → Opening → List Entry → ℕ → ℕ
in_assignments f o [] i = 0
in_assignments f o (e ∷ r) i = cond (is_accepted e.reply) (of_assignment e.call (sum_by f (cells_of (given o (e ∷ r)) (i - 1)))) 0 + in_assignments f o r i

-- ── what holds at the opening and after each call ──

pub record Holds (o : Opening) (r : List Entry) (s : State) : Type 0 where
  -- in each series all longs equal all shorts
  pub even : (i : ℕ) → Series s i → total_longs (cells_of s (i - 1)) ≡ total_shorts (cells_of s (i - 1))
  -- contracts exercised equal contracts assigned
  pub settled : (i : ℕ) → Series s i → in_assignments (λ c. c.exercised) o r i ≡ in_assignments (λ c. c.assigned) o r i
  -- each account's longs less shorts, per series, are its balance
  pub balanced : (a i : ℕ) → Account s a → Series s i → pos (cell_at s a i).longs +ℤ neg_ℤ (pos (cell_at s a i).shorts) ≡ (count o r).balance a i

-- ── what holds of an assignment whose pass fits ──

pub record Drawn (s t : State) (e : Entry) : Type 0 where
  -- it is turned back exactly when the supply is below the draws needed
  pub short : e.before.supply < needed s → e.reply ≡ reply_of (DrawsShort (needed s))
  pub enough : needed s ≤ e.before.supply → e.reply ≡ accepted (needed s)
  -- accepted, it lowers the supply by exactly that number; turned back, it changes nothing
  pub spent : needed s ≤ e.before.supply → e.after.supply + needed s ≡ e.before.supply
  pub unspent : e.before.supply < needed s → (e.after ≡ e.before) × (t ≡ s)
  -- either way the result is that number
  pub result : e.reply.result ≡ needed s
  -- it takes no more longs or shorts than the account had
  pub within : needed s ≤ e.before.supply → (a i : ℕ) → Series s i → ((cell_at t a i).exercised ≤ (cell_at s a i).longs) × ((cell_at t a i).assigned ≤ (cell_at s a i).shorts)

-- ── what holds of an accepted statement ──

-- an amount of the lines of series i
abbrev pub of_series : ℕ → (Line → ℕ) → List Line → ℕ
of_series i f lines = sum_by (λ l. cond (l.series == i) (f l) 0) lines

pub record EvenLines (lines : List Line) : Type 0 where
  -- series by series, shares delivered equal shares received and money paid equals money received
  pub shares : (i : ℕ) → of_series i (λ l. l.shares_received) lines ≡ of_series i (λ l. l.shares_delivered) lines
  pub money : (i : ℕ) → of_series i (λ l. l.money_paid) lines ≡ of_series i (λ l. l.money_received) lines

-- ── the law ──

-- for every opening, every register and every source that keeps the rule for answers
abbrev pub Law : Type 0
Law = (o : Opening) (r : List Entry) (s : State) → Leads o r s
    → Holds o r s
    × ((e : Entry) (p : CutPass) (t : State) → Leads o (e ∷ r) t → e.pass ≡ ForCut p → e.call ≡ Assign → fits_cut s p ≡ true → Drawn s t e)
    × ((e : Entry) (t : State) → Leads o (e ∷ r) t → EvenLines e.lines)
