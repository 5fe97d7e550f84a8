-- A host, and its answer to a line.
use Rattle.std.specs.Prelude.{◌≡◌, ℕ, cond, ◌⊎◌, List, Some, None, Option}
use Rattle.draws.specs.declared.Reply.{Reply}
use Rattle.draws.specs.Replies.{is_accepted}
use Rattle.ledger.specs.declared.state.State.{State}
use Rattle.book.specs.declared.book.Book.{Book}
use Rattle.book.specs.declared.pass.Pass.{Pass}
use Rattle.register.specs.declared.calls.Call.TheVariants.{GiveStatement}
use Rattle.lines.specs.declared.line.Line.{Line}
use Rattle.lines.specs.Parts.{kind_of, numbers_of}
use Rattle.lines.specs.Lines.{InputLine, FilledLine, FaultyLine, IsInput, LongestStart}
use Rattle.host.specs.declared.instruction.Instruction.{Instruction}
use Rattle.host.specs.declared.instruction.Instruction.TheVariants.{OfBook}
use Rattle.host.specs.declared.host.Host.{Host}
use Rattle.host.specs.Instructions.{instruction_of}
use Rattle.host.specs.Numbers.{unread_of}
use Rattle.host.specs.Steps.{Shown, Step, instruction_step}

-- a book is open where there is a pass
abbrev pub shown_desk : Option Pass → Book → Option (State × Pass)
shown_desk None b = None
shown_desk (Some p) b = Some (b.state, p)

abbrev pub shown : Host → Shown
shown h = record { desk = shown_desk h.pass h.book; unread = unread_of h.unread; places = h.places.lines }

-- what the host does with an input line
abbrev pub host_step : Shown → Line → Step
host_step h l = instruction_step h (instruction_of l)

-- how many statement lines follow the filled line: as many as an accepted statement has, and none after anything else
abbrev pub statements_after : Instruction → Reply → ℕ
statements_after (OfBook GiveStatement) r = cond (is_accepted r) r.result 0
statements_after _ r = 0

-- the text is the filled line of l, so many statement lines follow it, and the host holds that then
pub record Fills (h : Shown) (l : Line) (text : List ℕ) (statements : ℕ) (after : Shown) : Type 0 where
  pub text_is : FilledLine (kind_of l) (numbers_of l) (host_step h l).reply.number (host_step h l).reply.result text
  pub follow : statements ≡ statements_after (instruction_of l) (host_step h l).reply
  pub held : after ≡ (host_step h l).after

-- the text is the filled line of a faulty line whose longest start that begins a line has length n; no statement line
-- follows it, and the host holds what it held
pub record Faults (h : Shown) (n : ℕ) (text : List ℕ) (statements : ℕ) (after : Shown) : Type 0 where
  pub text_is : FaultyLine n text
  pub follow : statements ≡ 0
  pub held : after ≡ h

-- the answer to any bytes
pub record Answers (h : Shown) (line text : List ℕ) (statements : ℕ) (after : Shown) : Type 0 where
  pub fills : (l : Line) → InputLine (kind_of l) (numbers_of l) line → Fills h l text statements after
  pub faults : (n : ℕ) → LongestStart IsInput line n → Faults h n text statements after
  -- they are an input line or a faulty one
  pub one : ((l : Line) × InputLine (kind_of l) (numbers_of l) line) ⊎ ((n : ℕ) × LongestStart IsInput line n)
