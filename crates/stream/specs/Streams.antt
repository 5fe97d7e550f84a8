-- What is written of input: the archive of its lines.
use Rattle.std.specs.Prelude.{◌≡◌, ℕ, zero, suc, true, false, ◌⊎◌, List, [], ◌∷◌, ◌++◌, Option}
use Rattle.std.specs.List.{AllByRecursion}
use Rattle.std.specs.Io.KnownBytes.{Appends}
use Rattle.settlement.specs.declared.line.Line.{Line}
use Rattle.register.specs.Law.{Law}
use Rattle.lines.specs.Lines.{statement_line}
use Rattle.lines.specs.Texts.{cut}
use Rattle.host.specs.Places.{numbers_at}
use Rattle.host.specs.Steps.{Shown}
use Rattle.archive.specs.Archive.{Exchange, Written, Archive, ArchiveLaw, TextsTell}
use Rattle.stream.specs.Pieces.{NoFeed, IsLine, IsLast}
use Rattle.stream.specs.Outputs.{Out, Puts, AppendsFront, Fails}

-- one text after another
abbrev pub joined : List (List ℕ) → List ℕ
joined [] = []
joined (t ∷ ts) = t ++ joined ts

-- the filled line, and the statement lines behind it
abbrev pub answer_of : Exchange → List ℕ
answer_of x = x.filled ++ joined x.behind

-- ── of exchanges, the newest first ──

abbrev pub pieces_of : List Exchange → List ℕ
pieces_of [] = []
pieces_of (x ∷ xs) = pieces_of xs ++ x.piece

abbrev pub answers_of : List Exchange → List ℕ
answers_of [] = []
answers_of (x ∷ xs) = answers_of xs ++ answer_of x

abbrev pub AreLines : List Exchange → Type 0
AreLines xs = AllByRecursion (λ x. IsLine x.piece) xs

-- lines, of which the last may have no line feed
abbrev pub ArePieces : List Exchange → Type 0
ArePieces [] = Unit {0}
ArePieces (x ∷ xs) = (IsLine x.piece ⊎ IsLast x.piece) × AreLines xs

-- ── input as it comes ──

-- the host, what is kept of a line that has not ended, and the output
pub record Seen : Type 0 where
  pub host : Shown
  pub begun : List ℕ
  pub out : Out

-- Of one input, behind what was answered before it, these bytes have come, in whatever pieces; and the writer, which held start
-- as the input began, has got the answers to their lines, one after another, and nothing waits. All answers are an archive, and
-- of what has not ended the first bytes are kept.
pub record Streams (before : List Exchange) (bytes : List ℕ) (start : Option (List ℕ)) (d : Seen) : Type 0 where
  pub exchanges : List Exchange
  pub told : List Written
  pub rest : List ℕ
  pub whole : bytes ≡ pieces_of exchanges ++ rest
  pub lines : AreLines exchanges
  pub unended : NoFeed rest
  pub archive : Archive (exchanges ++ before) told d.host
  pub written : Appends start d.out.held (answers_of exchanges)
  pub flushed : d.out.waiting ≡ []
  pub able : d.out.failed ≡ false
  pub kept : d.begun ≡ cut rest

-- The answer to all bytes of an input: they are lines, of which the last may have no line feed, each is answered after the one
-- before it, this is the text of the answers, and the host shows h then.
pub record Stream (before : List Exchange) (bytes text : List ℕ) (h : Shown) : Type 0 where
  pub exchanges : List Exchange
  pub told : List Written
  pub whole : bytes ≡ pieces_of exchanges
  pub pieces : ArePieces exchanges
  pub archive : Archive (exchanges ++ before) told h
  pub text_is : text ≡ answers_of exchanges

-- the input has ended with these bytes, the writer has got their answer, and what comes next is another input
pub record Ended (before : List Exchange) (bytes : List ℕ) (start : Option (List ℕ)) (d : Seen) : Type 0 where
  pub text : List ℕ
  pub answered : Stream before bytes text d.host
  pub written : Appends start d.out.held text
  pub next : Streams (answered.exchanges ++ before) [] d.out.held d

-- the writer has failed: it has got a front of the answers to the first lines, and nothing waits
pub record Broken (before : List Exchange) (bytes : List ℕ) (start : Option (List ℕ)) (d : Seen) : Type 0 where
  pub exchanges : List Exchange
  pub told : List Written
  pub more : List ℕ
  pub whole : bytes ≡ pieces_of exchanges ++ more
  pub pieces : AreLines exchanges ⊎ (ArePieces exchanges × (more ≡ []))
  pub archive : Archive (exchanges ++ before) told d.host
  pub written : AppendsFront start d.out.held (answers_of exchanges)
  pub dropped : d.out.waiting ≡ []
  pub failed : d.out.failed ≡ true

-- ── a step: whatever input had come, now this piece more has ──

abbrev pub Takes : Seen → List ℕ → Seen → Type 0
Takes old piece new = (before : List Exchange) (bytes : List ℕ) (start : Option (List ℕ)) → Streams before bytes start old → Streams before (bytes ++ piece) start new

abbrev pub Breaks : Seen → List ℕ → Seen → Type 0
Breaks old piece new = (before : List Exchange) (bytes : List ℕ) (start : Option (List ℕ)) → Streams before bytes start old → Broken before (bytes ++ piece) start new

-- and the input has ended
abbrev pub Ends : Seen → List ℕ → Seen → Type 0
Ends old piece new = (before : List Exchange) (bytes : List ℕ) (start : Option (List ℕ)) → Streams before bytes start old → Ended before (bytes ++ piece) start new

-- ── the same input has the same answer, in whatever pieces it came ──

pub record OneAnswer : Type 0 where
  pub so_far : (before : List Exchange) (bytes : List ℕ) (start other : Option (List ℕ)) (d e : Seen) (s : Streams before bytes start d) (r : Streams before bytes other e)
      → (answers_of s.exchanges ≡ answers_of r.exchanges) × (d.host ≡ e.host) × (d.begun ≡ e.begun)
  pub ended : (before : List Exchange) (bytes t u : List ℕ) (g h : Shown) → Stream before bytes t g → Stream before bytes u h → (t ≡ u) × (g ≡ h)

-- what holds of all input and of every archive
pub record StreamLaws : Type 0 where
  -- an archive is the register of the book that is shown, after each of its lines
  pub register : ArchiveLaw
  -- and of the book of every register holds what holders and writers count on
  pub holders : Law
  -- the texts of an answer tell one thing: what was asked, its reply, and the statement lines
  pub told : TextsTell
  pub one : OneAnswer

-- ── one line more ──

-- the line w is shown by these bytes: it is they, or they are as many of its first bytes as a text holds
abbrev pub Shows : List ℕ → List ℕ → Type 0
Shows bytes w = (w ≡ bytes) ⊎ (cut w ≡ bytes)

-- the archive with one line more: the piece w and its answer, and the host shows h then
pub record Longer (xs : List Exchange) (a : List Written) (w : List ℕ) (h : Shown) (x : Exchange) : Type 0 where
  pub tells : Written
  pub piece : x.piece ≡ w
  pub archive : Archive (x ∷ xs) (tells ∷ a) h

-- any archive of the host gets the line w, and its answer is put behind what waits
pub record Adds (old : Seen) (w : List ℕ) (new : Seen) : Type 0 where
  pub added : (xs : List Exchange) (a : List Written) → Archive xs a old.host → (x : Exchange) × Longer xs a w new.host x × Puts old.out (answer_of x) new.out

-- the same, but the writer has failed over the answer
pub record AddsFront (old : Seen) (w : List ℕ) (new : Seen) : Type 0 where
  pub added : (xs : List Exchange) (a : List Written) → Archive xs a old.host → (x : Exchange) × Longer xs a w new.host x × Fails old.out (answer_of x) new.out

-- the statement lines at the first n places
abbrev pub statements_text : List Line → ℕ → List ℕ
statements_text places zero = []
statements_text places (suc n) = statements_text places n ++ statement_line (numbers_at places n)
