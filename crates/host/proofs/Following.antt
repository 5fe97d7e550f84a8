-- No more statement lines follow than there are places.
use Rattle.std.proofs.Common.{◌≡◌, ℕ, ◌≤◌, cond, List, ◌∷◌, length, Some, None, Option, refl, arith}
use Rattle.std.proofs.lemmas.Bool.{leb-true}
use Rattle.draws.specs.declared.Reply.{Reply}
use Rattle.draws.specs.Replies.{is_accepted, replied}
use Rattle.draws.proofs.Passes.{all_pass}
use Rattle.settlement.specs.declared.line.Line.{Line}
use Rattle.ledger.specs.declared.refusal.Refusal.{Refusal}
use Rattle.ledger.specs.declared.refusal.Refusal.TheVariants.{PassMisfit, OutOfRange, NoAccount, NoSeries, NoLeg, NoRequest, Expired, TradingClosed, WrongAccount, LegHeld, LegFree, NotExpiring, ListedAlready, NoFixingPrice, DayNotLater, DrawsShort, StatementShort, Full, TooFew, TooMany}
use Rattle.ledger.specs.declared.state.State.{State}
use Rattle.ledger.specs.Replies.{reply_of}
use Rattle.dayend.specs.Statement.{places_needed, statement_checks}
use Rattle.book.specs.declared.pass.AssignedPass.{AssignedPass}
use Rattle.book.specs.declared.pass.Pass.{Pass}
use Rattle.book.specs.declared.pass.Pass.TheVariants.{ForInput, ForCut, ForAssigned}
use Rattle.book.specs.Stages.{fits_assigned, result_unless, statement_refusal}
use Rattle.register.specs.declared.calls.Call.TheVariants.{Open, OfInput, OfExercise, CutOff, Assign, GiveStatement, BeginDay}
use Rattle.host.specs.declared.instruction.Instruction.{Instruction}
use Rattle.host.specs.declared.instruction.Instruction.TheVariants.{OfBook, TapeNumber}
use Rattle.host.specs.Steps.{Shown, make_on, instruction_step}
use Rattle.host.specs.Hosts.{statements_after}

-- how many lines follow a statement with that reply
abbrev count : Reply → ℕ
count r = cond (is_accepted r) r.result 0

none_refused : (r : Refusal) → count (reply_of r) ≡ 0
none_refused PassMisfit = refl
none_refused OutOfRange = refl
none_refused NoAccount = refl
none_refused NoSeries = refl
none_refused NoLeg = refl
none_refused NoRequest = refl
none_refused Expired = refl
none_refused TradingClosed = refl
none_refused WrongAccount = refl
none_refused LegHeld = refl
none_refused LegFree = refl
none_refused NotExpiring = refl
none_refused ListedAlready = refl
none_refused NoFixingPrice = refl
none_refused DayNotLater = refl
none_refused (DrawsShort needed) = refl
none_refused (StatementShort needed) = refl
none_refused Full = refl
none_refused TooFew = refl
none_refused TooMany = refl

as_checked : (o : Option Refusal) (n room : ℕ) → (o ≡ None → n ≤ room) → count (replied reply_of (result_unless o n)) ≤ room
as_checked None n room h = h refl
as_checked (Some r) n room h = rw (none_refused r) (omega arith)

enough_places : (s : State) (p : AssignedPass) (room : ℕ) → statement_refusal s p room ≡ None → places_needed s ≤ room
enough_places s p room e = leb-true (places_needed s) room (all_pass ((fits_assigned s p, PassMisfit) ∷ statement_checks s room) e).1.0

of_open : (s : State) (p : Pass) (u : List ℕ) (ps : List Line) → count (make_on (Some (s, p)) u ps GiveStatement).reply ≤ length ps
of_open s (ForInput p) u ps = omega arith
of_open s (ForCut p) u ps = omega arith
of_open s (ForAssigned p) u ps = as_checked (statement_refusal s p (length ps)) (places_needed s) (length ps) (enough_places s p (length ps))

of_statement : (d : Option (State × Pass)) (u : List ℕ) (ps : List Line) → count (make_on d u ps GiveStatement).reply ≤ length ps
of_statement None u ps = omega arith
of_statement (Some d) u ps = of_open d.0 d.1 u ps

pub few_follow : (h : Shown) (i : Instruction) → statements_after i (instruction_step h i).reply ≤ length h.places
few_follow h (OfBook (Open o)) = omega arith
few_follow h (OfBook (OfInput c)) = omega arith
few_follow h (OfBook (OfExercise c)) = omega arith
few_follow h (OfBook CutOff) = omega arith
few_follow h (OfBook Assign) = omega arith
few_follow h (OfBook GiveStatement) = of_statement h.desk h.unread h.places
few_follow h (OfBook (BeginDay day)) = omega arith
few_follow h (TapeNumber n) = omega arith
