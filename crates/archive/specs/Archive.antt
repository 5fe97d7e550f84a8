-- The archive that is written of a stream of input, and the register that it is.
use Rattle.std.specs.Prelude.{◌≡◌, ℕ, ◌+◌, Bool, true, false, cond, List, [], ◌∷◌, ◌++◌, length, take, drop, replicate, Some, None, Option}
use Rattle.std.specs.List.{AllByRecursion, AllZip}
use Rattle.draws.specs.declared.Reply.{Reply}
use Rattle.draws.specs.Replies.{is_accepted}
use Rattle.draws.specs.Sources.{tape}
use Rattle.settlement.specs.declared.line.Line.{Line}
use Rattle.ledger.specs.declared.state.Opening.{Opening}
use Rattle.ledger.specs.declared.state.State.{State}
use Rattle.book.specs.declared.pass.Pass.{Pass}
use Rattle.book.specs.declared.pass.Pass.TheVariants.{ForInput}
use Rattle.register.specs.declared.calls.Call.{Call}
use Rattle.register.specs.declared.calls.Call.TheVariants.{Open, OfInput, OfExercise, CutOff, Assign, GiveStatement, BeginDay}
use Rattle.register.specs.Register.{answer, Entry, given, Leads}
use Rattle.register.specs.Law.{Holds}
use Rattle.lines.specs.declared.line.Line.{Line as ReadLine}
use Rattle.lines.specs.Parts.{kind_in, numbers_in}
use Rattle.lines.specs.Lines.{FilledLine, StatementText}
use Rattle.host.specs.declared.instruction.Instruction.{Instruction}
use Rattle.host.specs.declared.instruction.Instruction.TheVariants.{OfBook, TapeNumber}
use Rattle.host.specs.Instructions.{instruction_of}
use Rattle.host.specs.Places.{empty_line, line_numbers}
use Rattle.host.specs.Steps.{Shown}
use Rattle.host.specs.Hosts.{Answers}

-- ── what the archive has, the newest first ──

-- of one answered piece of input: what it asked for, which is nothing where it was a faulty line; its reply and result; and the
-- lines of a statement
pub record Written : Type 0 where
  pub asked : Option Instruction
  pub reply : Reply
  pub lines : List Line

-- what a read line asks for; a filled line of kind 99 asks for nothing
abbrev pub asked_by : Option ReadLine → Option Instruction
asked_by None = None
asked_by (Some l) = Some (instruction_of l)

-- text is the filled line of what was asked, with that reply and result
abbrev pub FilledWith : Option Instruction → Reply → List ℕ → Type 0
FilledWith asked r text = (l : Option ReadLine) × (asked_by l ≡ asked) × FilledLine (kind_in l) (numbers_in l) r.number r.result text

-- the texts are the statement lines of these, one for each
abbrev pub AreWritten : List Line → List (List ℕ) → Type 0
AreWritten lines texts = AllZip (λ l t. StatementText (line_numbers l) t) lines texts

-- one piece of input, any bytes, with the filled line and the statement lines that answer it
pub record Exchange : Type 0 where
  pub piece : List ℕ
  pub filled : List ℕ
  pub behind : List (List ℕ)

-- a host that shows g has answered so, with as many of its places behind the filled line as it said, and shows h then
pub record Answered (g : Shown) (x : Exchange) (h : Shown) : Type 0 where
  pub answers : Answers g x.piece x.filled (length x.behind) h
  pub lines : AreWritten (take (length x.behind) h.places) x.behind

-- w is what the filled line and the statement lines tell
pub record Tells (x : Exchange) (w : Written) : Type 0 where
  pub filled : FilledWith w.asked w.reply x.filled
  pub lines : AreWritten w.lines x.behind

-- the texts tell one thing
abbrev pub TextsTell : Type 0
TextsTell = (x : Exchange) (w v : Written) → Tells x w → Tells x v → w ≡ v

-- a host that began new has answered one piece after another, these tell what was written, and it shows h
abbrev pub Archive : List Exchange → List Written → Shown → Type 0
Archive [] [] h = h ≡ record { desk = None; unread = []; places = replicate 256 empty_line }
Archive [] (w ∷ a) h = ⊥
Archive (x ∷ xs) [] h = ⊥
Archive (x ∷ xs) (w ∷ a) h = (g : Shown) × Archive xs a g × Answered g x h × Tells x w

-- one more piece, answered by that text and so many statement lines, makes any archive one line longer
abbrev pub Archives : Shown → List ℕ → List ℕ → ℕ → Shown → Type 0
Archives g piece text statements h = (xs : List Exchange) (a : List Written) → Archive xs a g → (behind : List (List ℕ)) × (w : Written) × (length behind ≡ statements) × Archive (record { piece = piece; filled = text; behind = behind } ∷ xs) (w ∷ a) h

-- ── the tape, counted from the archive ──

-- the number that an accepted line 29 brings
abbrev pub number_in : Option Instruction → List ℕ
number_in None = []
number_in (Some (OfBook c)) = []
number_in (Some (TapeNumber n)) = n ∷ []

-- the draws that an accepted line 30 used, of result n
abbrev pub draws_of : Call → ℕ → ℕ
draws_of (Open o) n = 0
draws_of (OfInput c) n = 0
draws_of (OfExercise c) n = 0
draws_of CutOff n = 0
draws_of Assign n = n
draws_of GiveStatement n = 0
draws_of (BeginDay day) n = 0

abbrev pub draws_in : Option Instruction → ℕ → ℕ
draws_in None n = 0
draws_in (Some (OfBook c)) n = draws_of c n
draws_in (Some (TapeNumber m)) n = 0

-- the numbers of accepted lines 29, the oldest first
abbrev pub numbers_taken : List Written → List ℕ
numbers_taken [] = []
numbers_taken (w ∷ a) = numbers_taken a ++ cond (is_accepted w.reply) (number_in w.asked) []

-- the results of accepted lines 30, added up
abbrev pub numbers_used : List Written → ℕ
numbers_used [] = 0
numbers_used (w ∷ a) = numbers_used a + cond (is_accepted w.reply) (draws_in w.asked w.reply.result) 0

abbrev pub tape_left : List Written → List ℕ
tape_left a = drop (numbers_used a) (numbers_taken a)

-- ── the register of the archive ──

-- an open book: its opening, its register, and the pass that is good
pub record OpenBook : Type 0 where
  pub opening : Opening
  pub register : List Entry
  pub pass : Pass

abbrev pub begun : Opening → OpenBook
begun o = record { opening = o; register = []; pass = ForInput (record { number = o.number; day = o.day }) }

-- one call more, c, which the archive has as w: u is the tape before it and v the tape after it, room is for 256 lines, and
-- the pass that is good then is as the rules give it
abbrev pub entered : OpenBook → List ℕ → List ℕ → Call → Written → OpenBook
entered b u v c w = record {
  opening = b.opening;
  register = record { pass = b.pass; call = c; before = tape u 0; after = tape v 0; room = 256; lines = w.lines; reply = w.reply } ∷ b.register;
  pass = (answer (given b.opening b.register) (tape u 0) 256 b.pass c).pass;
}

-- an accepted opening opens the book
abbrev pub opened_by : Call → Bool → Option OpenBook
opened_by c false = None
opened_by (Open o) true = Some (begun o)
opened_by (OfInput c) true = None
opened_by (OfExercise c) true = None
opened_by CutOff true = None
opened_by Assign true = None
opened_by GiveStatement true = None
opened_by (BeginDay day) true = None

-- one line more: a tape number and a faulty line are no call
abbrev pub with_asked : Option OpenBook → List ℕ → List ℕ → Option Instruction → Written → Option OpenBook
with_asked b u v None w = b
with_asked b u v (Some (TapeNumber n)) w = b
with_asked None u v (Some (OfBook c)) w = opened_by c (is_accepted w.reply)
with_asked (Some b) u v (Some (OfBook c)) w = Some (entered b u v c w)

abbrev pub register_of : List Written → Option OpenBook
register_of [] = None
register_of (w ∷ a) = with_asked (register_of a) (tape_left a) (tape_left (w ∷ a)) w.asked w

-- ── the law ──

-- the register leads to the state s, and what holds after each call of a book holds of it, by the archive's lines alone
pub record Reaches (b : OpenBook) (s : State) : Type 0 where
  pub leads : Leads b.opening b.register s
  pub holds : Holds b.opening b.register s

-- the book that is shown is the one that the archive's register leads to
abbrev pub Reached : Option OpenBook → Option (State × Pass) → Type 0
Reached None d = d ≡ None
Reached (Some b) d = (s : State) × (d ≡ Some (s, b.pass)) × Reaches b s

-- a call of these lines was accepted nowhere
abbrev pub NoneAccepted : List Written → Type 0
NoneAccepted a = AllByRecursion (λ w. (c : Call) → w.asked ≡ Some (OfBook c) → is_accepted w.reply ≡ false) a

pub record Registered (a : List Written) (h : Shown) : Type 0 where
  pub book : Reached (register_of a) h.desk
  pub before : register_of a ≡ None → NoneAccepted a
  pub tape : h.unread ≡ tape_left a

-- every archive is a register of its book, up to each of its lines
abbrev pub ArchiveLaw : Type 0
ArchiveLaw = (xs : List Exchange) (a : List Written) (h : Shown) → Archive xs a h → Registered a h
