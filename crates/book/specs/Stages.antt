-- The calls that end a stage, and the statement.
use Rattle.std.specs.Prelude.{ℕ, Bool, List, [], ◌∷◌, Some, None, Ok, Err, Option, Result}
use Rattle.draws.specs.Checks.{first_refusal}
use Rattle.draws.specs.Meaning.{Meaning}
use Rattle.settlement.specs.declared.line.Line.{Line}
use Rattle.ledger.specs.declared.refusal.Refusal.{Refusal}
use Rattle.ledger.specs.declared.refusal.Refusal.TheVariants.{PassMisfit}
use Rattle.ledger.specs.declared.state.Stage.TheVariants.{Cut, Assigned}
use Rattle.ledger.specs.declared.state.State.{State}
use Rattle.dayend.specs.Cutoff.{cut_checks}
use Rattle.dayend.specs.Assignment.{assignment_checks}
use Rattle.dayend.specs.Statement.{statement_lines, statement_checks}
use Rattle.dayend.specs.NextDay.{next_day_checks}
use Rattle.book.specs.declared.pass.InputPass.{InputPass}
use Rattle.book.specs.declared.pass.CutPass.{CutPass}
use Rattle.book.specs.declared.pass.AssignedPass.{AssignedPass}
use Rattle.book.specs.Calls.{fits, refused}

abbrev pub fits_cut : State → CutPass → Bool
fits_cut s p = fits Cut s p.number p.day

abbrev pub fits_assigned : State → AssignedPass → Bool
fits_assigned s p = fits Assigned s p.number p.day

-- the pass is used up for the next one, or handed back with the refusal
abbrev pub handed : {P Q : Type 0} → Option Refusal → P → Q → Result Q (P × Refusal)
handed None p q = Ok q
handed (Some r) p q = Err (p, r)

-- what is there after a call: what it makes, or what was there before
abbrev pub kept_or : {X : Type 0} → Option Refusal → X → X → X
kept_or None before after = after
kept_or (Some r) before after = before

-- accepted with that result, unless it is refused
abbrev pub result_unless : Option Refusal → ℕ → Result ℕ Refusal
result_unless None n = Ok n
result_unless (Some r) n = Err r

-- an answer that gives more than a number, by its result alone
abbrev pub told : {Q E : Type 0} → (Q → ℕ) → Result Q E → Result ℕ E
told result_of (Ok given) = Ok (result_of given)
told result_of (Err refused) = Err refused

-- ── the cut ──

abbrev pub cut_refusal : State → InputPass → Option Refusal
cut_refusal s p = refused s p (cut_checks s)

abbrev pub cut_pass : InputPass → CutPass
cut_pass p = record { number = p.number; day = p.day }

-- ── the assignment ──

abbrev pub assignment_refusal : State → CutPass → Meaning → Option Refusal
assignment_refusal s p m = first_refusal ((fits_cut s p, PassMisfit) ∷ assignment_checks s m)

abbrev pub assigned_pass : CutPass → AssignedPass
assigned_pass p = record { number = p.number; day = p.day }

-- ── the statement ──

abbrev pub statement_refusal : State → AssignedPass → ℕ → Option Refusal
statement_refusal s p room = first_refusal ((fits_assigned s p, PassMisfit) ∷ statement_checks s room)

-- the lines that it writes
abbrev pub lines_written : State → AssignedPass → ℕ → List Line
lines_written s p room = kept_or (statement_refusal s p room) [] (statement_lines s)

-- ── the next day ──

abbrev pub next_day_refusal : State → AssignedPass → ℕ → Option Refusal
next_day_refusal s p day = first_refusal ((fits_assigned s p, PassMisfit) ∷ next_day_checks s day)

abbrev pub next_pass : AssignedPass → ℕ → InputPass
next_pass p day = record { number = p.number; day = day }
