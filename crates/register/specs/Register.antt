-- The register of a book: every call made since its opening, accepted or turned back, under any pass.
use Rattle.std.specs.Prelude.{◌≡◌, ℕ, ◌<◌, List, [], ◌∷◌, None, Err, Option, Result}
use Rattle.draws.specs.declared.Reply.{Reply}
use Rattle.draws.specs.Replies.{replied}
use Rattle.draws.specs.Meaning.{Meaning, Below}
use Rattle.ledger.specs.declared.refusal.Refusal.{Refusal}
use Rattle.ledger.specs.declared.refusal.Refusal.TheVariants.{PassMisfit}
use Rattle.ledger.specs.declared.state.Opening.{Opening}
use Rattle.ledger.specs.declared.state.State.{State}
use Rattle.ledger.specs.Replies.{reply_of}
use Rattle.ledger.specs.Tables.{opening}
use Rattle.dayend.specs.Cutoff.{cut}
use Rattle.dayend.specs.Assignment.{needed, assigning, assigned_state}
use Rattle.dayend.specs.Statement.{places_needed}
use Rattle.dayend.specs.NextDay.{next_day}
use Rattle.settlement.specs.declared.line.Line.{Line}
use Rattle.book.specs.declared.pass.CutPass.{CutPass}
use Rattle.book.specs.declared.pass.AssignedPass.{AssignedPass}
use Rattle.book.specs.declared.pass.InputPass.{InputPass}
use Rattle.book.specs.declared.pass.Pass.{Pass}
use Rattle.book.specs.declared.pass.Pass.TheVariants.{ForInput, ForCut, ForAssigned}
use Rattle.register.specs.declared.calls.InputCall.{InputCall}
use Rattle.register.specs.declared.calls.InputCall.TheVariants.{AddAccount, ListSeries, BookTrade, TransferTrade, GiveUpLeg, TakeUpLeg, TransferPosition}
use Rattle.register.specs.declared.calls.ExerciseCall.{ExerciseCall}
use Rattle.register.specs.declared.calls.ExerciseCall.TheVariants.{RequestExercise, RejectRequest, SetCriterion, DenyExercise, FixPrice, LodgeShares, WithdrawShares, CloseTrading}
use Rattle.register.specs.declared.calls.Call.{Call}
use Rattle.register.specs.declared.calls.Call.TheVariants.{Open, OfInput, OfExercise, CutOff, Assign, GiveStatement, BeginDay}
use Rattle.book.specs.Calls.{Outcome, account_call, series_call, trade_call, transfer_call, give_up_call, take_up_call, position_call, request_call, rejection_call, denial_call, criterion_call, fixing_call, lodge_call, withdrawal_call, closing_call}
use Rattle.book.specs.Opened.{open_refusal}
use Rattle.book.specs.Stages.{kept_or, result_unless, cut_refusal, cut_pass, assignment_refusal, assigned_pass, statement_refusal, lines_written, next_day_refusal, next_pass}

-- ── what the rules give for a call ──

-- a call of the input stage
abbrev pub input_answer : State → InputPass → InputCall → Outcome
input_answer s p (AddAccount participant code) = account_call s p participant code
input_answer s p (ListSeries right strike expiry) = series_call s p right strike expiry
input_answer s p (BookTrade t) = trade_call s p t
input_answer s p (TransferTrade leg account) = transfer_call s p leg account
input_answer s p (GiveUpLeg leg participant) = give_up_call s p leg participant
input_answer s p (TakeUpLeg leg answer account) = take_up_call s p leg answer account
input_answer s p (TransferPosition t) = position_call s p t

-- a call on requests, criteria, the fixing price or collateral, in the same stage
abbrev pub exercise_answer : State → InputPass → ExerciseCall → Outcome
exercise_answer s p (RequestExercise account series quantity) = request_call s p account series quantity
exercise_answer s p (RejectRequest request) = rejection_call s p request
exercise_answer s p (SetCriterion account right form value) = criterion_call s p account right form value
exercise_answer s p (DenyExercise account series quantity) = denial_call s p account series quantity
exercise_answer s p (FixPrice price) = fixing_call s p price
exercise_answer s p (LodgeShares account shares) = lodge_call s p account shares
exercise_answer s p (WithdrawShares account shares) = withdrawal_call s p account shares
exercise_answer s p CloseTrading = closing_call s p

-- the answer, the book, the pass and the source after it, and the statement lines that it writes
pub record After : Type 0 where
  pub reply : Result ℕ Refusal
  pub state : State
  pub pass : Pass
  pub source : Meaning
  pub lines : List Line

-- the pass does not fit: everything stays
abbrev pub misfit : State → Meaning → Pass → After
misfit s m p = record { reply = Err PassMisfit; state = s; pass = p; source = m; lines = [] }

abbrev pub under_input : Outcome → Meaning → InputPass → After
under_input u m p = record { reply = u.reply; state = u.state; pass = ForInput p; source = m; lines = [] }

-- a call that ends its stage: what it makes is there where it is not turned back
abbrev pub ended : Option Refusal → ℕ → State → State → Pass → Pass → Meaning → After
ended o n s t p q m = record { reply = result_unless o n; state = kept_or o s t; pass = kept_or o p q; source = m; lines = [] }

abbrev pub cut_answer : State → Meaning → InputPass → After
cut_answer s m p = ended (cut_refusal s p) 0 s (cut s) (ForInput p) (ForCut (cut_pass p)) m

abbrev pub assignment_answer : State → Meaning → CutPass → After
assignment_answer s m p = ended (assignment_refusal s p m) (needed s) s (assigned_state s m) (ForCut p) (ForAssigned (assigned_pass p)) (kept_or (assignment_refusal s p m) m (assigning s m).source)

abbrev pub statement_answer : State → Meaning → ℕ → AssignedPass → After
statement_answer s m room p = record { reply = result_unless (statement_refusal s p room) (places_needed s); state = s; pass = ForAssigned p; source = m; lines = lines_written s p room }

abbrev pub next_day_answer : State → Meaning → AssignedPass → ℕ → After
next_day_answer s m p day = ended (next_day_refusal s p day) 0 s (next_day s day) (ForAssigned p) (ForInput (next_pass p day)) m

-- any call under any pass, with a source and a list of so many places; a second opening is always turned back
abbrev pub answer : State → Meaning → ℕ → Pass → Call → After
answer s m room (ForInput p) (Open o) = misfit s m (ForInput p)
answer s m room (ForInput p) (OfInput c) = under_input (input_answer s p c) m p
answer s m room (ForInput p) (OfExercise c) = under_input (exercise_answer s p c) m p
answer s m room (ForInput p) CutOff = cut_answer s m p
answer s m room (ForInput p) Assign = misfit s m (ForInput p)
answer s m room (ForInput p) GiveStatement = misfit s m (ForInput p)
answer s m room (ForInput p) (BeginDay day) = misfit s m (ForInput p)
answer s m room (ForCut p) (Open o) = misfit s m (ForCut p)
answer s m room (ForCut p) (OfInput c) = misfit s m (ForCut p)
answer s m room (ForCut p) (OfExercise c) = misfit s m (ForCut p)
answer s m room (ForCut p) CutOff = misfit s m (ForCut p)
answer s m room (ForCut p) Assign = assignment_answer s m p
answer s m room (ForCut p) GiveStatement = misfit s m (ForCut p)
answer s m room (ForCut p) (BeginDay day) = misfit s m (ForCut p)
answer s m room (ForAssigned p) (Open o) = misfit s m (ForAssigned p)
answer s m room (ForAssigned p) (OfInput c) = misfit s m (ForAssigned p)
answer s m room (ForAssigned p) (OfExercise c) = misfit s m (ForAssigned p)
answer s m room (ForAssigned p) CutOff = misfit s m (ForAssigned p)
answer s m room (ForAssigned p) Assign = misfit s m (ForAssigned p)
answer s m room (ForAssigned p) GiveStatement = statement_answer s m room p
answer s m room (ForAssigned p) (BeginDay day) = next_day_answer s m p day

-- ── the register ──

-- a call with its fields, its pass, its reply and result; its source's meaning before and after; its list's room, and
-- the statement lines that it wrote
pub record Entry : Type 0 where
  pub pass : Pass
  pub call : Call
  pub before : Meaning
  pub after : Meaning
  pub room : ℕ
  pub lines : List Line
  pub reply : Reply

-- reply and result have at most 8 digits, as the numbers of a line have
abbrev pub Brief : Reply → Type 0
Brief r = (r.number < 100_000_000) × (r.result < 100_000_000)

-- the numbers of a statement line have at most 16 digits, as its format asks
pub record Fits (l : Line) : Type 0 where
  pub series : l.series < 10_000_000_000_000_000
  pub account : l.account < 10_000_000_000_000_000
  pub contracts : l.contracts < 10_000_000_000_000_000
  pub received : l.shares_received < 10_000_000_000_000_000
  pub delivered : l.shares_delivered < 10_000_000_000_000_000
  pub paid : l.money_paid < 10_000_000_000_000_000
  pub earned : l.money_received < 10_000_000_000_000_000
  pub day : l.settlement_day < 10_000_000_000_000_000

abbrev pub entry : Pass → Call → Meaning → Meaning → ℕ → List Line → Result ℕ Refusal → Entry
entry p c m n room lines a = record { pass = p; call = c; before = m; after = n; room = room; lines = lines; reply = replied reply_of a }

-- what the rules give that entry's call in the state s
abbrev pub answer_to : State → Entry → After
answer_to s e = answer s e.before e.room e.pass e.call

-- the state that the rules give after the register's calls, the newest first
abbrev pub given : Opening → List Entry → State
given o [] = opening o
given o (e ∷ r) = (answer_to (given o r) e).state

-- the entry says what the rules give its call, and its source keeps the rule for answers
pub record True (s : State) (e : Entry) : Type 0 where
  pub reply : e.reply ≡ replied reply_of (answer_to s e).reply
  pub after : e.after ≡ (answer_to s e).source
  pub lines : e.lines ≡ (answer_to s e).lines
  pub below : Below e.before

-- the opening was accepted, and every entry is true
abbrev pub Truthful : Opening → List Entry → Type 0
Truthful o [] = open_refusal o ≡ None
Truthful o (e ∷ r) = True (given o r) e × Truthful o r

-- a register that leads to the state s
pub record Leads (o : Opening) (r : List Entry) (s : State) : Type 0 where
  pub replies : Truthful o r
  pub shows : s ≡ given o r
