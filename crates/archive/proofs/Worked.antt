-- A worked archive.
use Rattle.std.proofs.Common.{◌≡◌, ℕ, List, [], ◌∷◌, map, length, Some, None, Option, refl, arith}
use Rattle.std.specs.Fmt.{digits}
use Rattle.draws.specs.declared.Reply.{Reply}
use Rattle.draws.specs.Replies.{accepted}
use Rattle.draws.specs.Sources.{tape}
use Rattle.ledger.specs.declared.refusal.Refusal.TheVariants.{PassMisfit}
use Rattle.ledger.specs.Replies.{reply_of}
use Rattle.book.specs.declared.pass.Pass.{Pass}
use Rattle.book.specs.declared.pass.Pass.TheVariants.{ForInput, ForCut, ForAssigned}
use Rattle.register.specs.declared.calls.InputCall.TheVariants.{AddAccount, ListSeries, BookTrade}
use Rattle.register.specs.declared.calls.ExerciseCall.TheVariants.{FixPrice}
use Rattle.register.specs.declared.calls.Call.{Call}
use Rattle.register.specs.declared.calls.Call.TheVariants.{Open, OfInput, OfExercise, CutOff, Assign}
use Rattle.register.specs.Register.{Entry}
use Rattle.lines.specs.declared.line.Line.TheVariants.{Cut}
use Rattle.lines.specs.Lines.{faulty}
use Rattle.host.specs.declared.instruction.Instruction.{Instruction}
use Rattle.host.specs.declared.instruction.Instruction.TheVariants.{OfBook, TapeNumber}
use Rattle.archive.specs.Archive.{Written, FilledWith, tape_left, OpenBook, register_of}

line : Option Instruction → Reply → Written
line i r = record { asked = i; reply = r; lines = [] }

call : Call → ℕ → Written
call c result = line (Some (OfBook c)) (accepted result)

number : ℕ → Written
number n = line (Some (TapeNumber n)) (accepted 0)

-- a cut before any book is open, and a tape number
abbrev unopened : List Written
unopened = number 2 ∷ line (Some (OfBook CutOff)) (reply_of PassMisfit) ∷ []

-- the opening, a tape number; two accounts, a call, a trade, a faulty line, the fixing price and the cut; a tape number
abbrev before : List Written
before =
    number 9
    ∷ call CutOff 0
    ∷ call (OfExercise (FixPrice 52_000)) 0
    ∷ line None (faulty 5)
    ∷ call (OfInput (BookTrade (record { series = 1; buyer = 1; buyer_effect = 1; seller = 2; seller_effect = 1; quantity = 4; price = 1_200 }))) 1
    ∷ call (OfInput (ListSeries 1 50_000 100)) 1
    ∷ call (OfInput (AddAccount 12 4)) 2
    ∷ call (OfInput (AddAccount 11 1)) 1
    ∷ number 7
    ∷ call (Open (record { number = 7; day = 100; size = 500; block = 3 })) 0
    ∷ unopened

-- and the assignment, which uses two draws
abbrev day : List Written
day = call Assign 2 ∷ before

abbrev good : Option OpenBook → Option Pass
good None = None
good (Some b) = Some b.pass

abbrev entries : Option OpenBook → List Entry
entries None = []
entries (Some b) = b.register

-- no call is entered before the opening
none : register_of unopened ≡ None
unfolding line number
none = refl

calls : length (entries (register_of day)) ≡ 7
unfolding line call number
calls = refl

left : tape_left day ≡ 9 ∷ []
unfolding line call number
left = refl

-- the pass that is good after the assignment, and those of the entries, the newest first
pass : good (register_of day) ≡ Some (ForAssigned (record { number = 7; day = 100 }))
unfolding line call number
pass = refl

abbrev put_in : Pass
put_in = ForInput (record { number = 7; day = 100 })

under : map (λ (e : Entry). e.pass) (entries (register_of day)) ≡ ForCut (record { number = 7; day = 100 }) ∷ put_in ∷ put_in ∷ put_in ∷ put_in ∷ put_in ∷ put_in ∷ []
unfolding line call number
under = refl

-- the tape before each entry
tapes : map (λ (e : Entry). e.before) (entries (register_of day)) ≡ tape (2 ∷ 7 ∷ 9 ∷ []) 0 ∷ tape (2 ∷ 7 ∷ []) 0 ∷ tape (2 ∷ 7 ∷ []) 0 ∷ tape (2 ∷ 7 ∷ []) 0 ∷ tape (2 ∷ 7 ∷ []) 0 ∷ tape (2 ∷ 7 ∷ []) 0 ∷ tape (2 ∷ 7 ∷ []) 0 ∷ []
unfolding line call number
tapes = refl

-- `28 : 1 0` tells that a cut was asked for, and turned back
cut : FilledWith (Some (OfBook CutOff)) (reply_of PassMisfit) (50 ∷ 56 ∷ 32 ∷ 58 ∷ 32 ∷ 49 ∷ 32 ∷ 48 ∷ 10 ∷ [])
unfolding digits
cut = (Some Cut, refl, record { known = refl; short = tt; reply_short = omega arith; result_short = omega arith; is = refl })

-- `99 : 2 5` tells that nothing was asked for
fault : FilledWith None (faulty 5) (57 ∷ 57 ∷ 32 ∷ 58 ∷ 32 ∷ 50 ∷ 32 ∷ 53 ∷ 10 ∷ [])
unfolding digits
fault = (None, refl, record { known = refl; short = tt; reply_short = omega arith; result_short = omega arith; is = refl })
