-- What a host does with an instruction: it makes a call, or takes a tape number.
use Rattle.std.specs.Prelude.{ℕ, List, length, Some, None, Ok, Err, Option, Result}
use Rattle.draws.specs.declared.Reply.{Reply}
use Rattle.draws.specs.Replies.{replied}
use Rattle.draws.specs.Sources.{tape}
use Rattle.settlement.specs.declared.line.Line.{Line}
use Rattle.settlement.specs.Lines.{written}
use Rattle.ledger.specs.declared.refusal.Refusal.{Refusal}
use Rattle.ledger.specs.declared.refusal.Refusal.TheVariants.{PassMisfit}
use Rattle.ledger.specs.declared.state.State.{State}
use Rattle.ledger.specs.Replies.{reply_of}
use Rattle.book.specs.declared.pass.InputPass.{InputPass}
use Rattle.book.specs.declared.pass.Pass.{Pass}
use Rattle.book.specs.declared.pass.Pass.TheVariants.{ForInput}
use Rattle.book.specs.Opened.{open_refusal, open_call}
use Rattle.book.specs.Stages.{result_unless}
use Rattle.register.specs.declared.calls.Call.{Call}
use Rattle.register.specs.declared.calls.Call.TheVariants.{Open, OfInput, OfExercise, CutOff, Assign, GiveStatement, BeginDay}
use Rattle.register.specs.Register.{After, answer}
use Rattle.host.specs.declared.instruction.Instruction.{Instruction}
use Rattle.host.specs.declared.instruction.Instruction.TheVariants.{OfBook, TapeNumber}
use Rattle.host.specs.Numbers.{number_reply, with_number, last}

-- what a host holds: the open book with its pass, the unread tape numbers, the places of a statement
pub record Shown : Type 0 where
  pub desk : Option (State × Pass)
  pub unread : List ℕ
  pub places : List Line

-- a reply with its result, and what the host holds then
pub record Step : Type 0 where
  pub reply : Reply
  pub after : Shown

-- ── a call with no book open ──

abbrev pub opened_desk : Result (State × InputPass) Refusal → Option (State × Pass)
opened_desk (Ok b) = Some (b.0, ForInput b.1)
opened_desk (Err r) = None

abbrev no_book : List ℕ → List Line → Step
no_book u ps = record { reply = reply_of PassMisfit; after = record { desk = None; unread = u; places = ps } }

-- only an opening can be accepted
abbrev pub start_step : List ℕ → List Line → Call → Step
start_step u ps (Open o) = record { reply = replied reply_of (result_unless (open_refusal o) 0); after = record { desk = opened_desk (open_call o); unread = u; places = ps } }
start_step u ps (OfInput c) = no_book u ps
start_step u ps (OfExercise c) = no_book u ps
start_step u ps CutOff = no_book u ps
start_step u ps Assign = no_book u ps
start_step u ps GiveStatement = no_book u ps
start_step u ps (BeginDay day) = no_book u ps

-- ── a call of the open book ──

-- the numbers that were read leave, and the statement lines stand from the first place on
abbrev pub stepped : List ℕ → List Line → After → Step
stepped u ps a = record { reply = replied reply_of a.reply; after = record { desk = Some (a.state, a.pass); unread = last a.source.supply u; places = written ps 0 a.lines } }

-- the unread numbers are the tape
abbrev pub call_step : State × Pass → List ℕ → List Line → Call → Step
call_step d u ps c = stepped u ps (answer d.0 (tape u 0) (length ps) d.1 c)

-- ── an instruction ──

abbrev pub make_on : Option (State × Pass) → List ℕ → List Line → Call → Step
make_on None u ps c = start_step u ps c
make_on (Some d) u ps c = call_step d u ps c

abbrev pub make_step : Shown → Call → Step
make_step h c = make_on h.desk h.unread h.places c

-- the next tape number, if there is room; no book is needed
abbrev pub number_step : Shown → ℕ → Step
number_step h n = record { reply = number_reply h.unread; after = record { desk = h.desk; unread = with_number h.unread n; places = h.places } }

abbrev pub instruction_step : Shown → Instruction → Step
instruction_step h (OfBook c) = make_step h c
instruction_step h (TapeNumber n) = number_step h n
