-- What a call's answer says of the tape and of the statement lines.
use Rattle.std.proofs.Common.{◌≡◌, ℕ, ◌≤◌, Bool, true, false, cond, List, [], length, drop, Some, None, Option, Result, sym, refl, ap, arith}
use Rattle.std.proofs.lemmas.Bool.{cond-false}
use Rattle.draws.specs.declared.Reply.{Reply}
use Rattle.draws.specs.Replies.{is_accepted, replied}
use Rattle.draws.specs.Checks.{first_refusal}
use Rattle.draws.specs.Meaning.{Meaning}
use Rattle.draws.specs.Sources.{tape}
use Rattle.draws.proofs.Passes.{unless_none}
use Rattle.settlement.specs.declared.line.Line.{Line}
use Rattle.ledger.specs.declared.refusal.Refusal.{Refusal}
use Rattle.ledger.specs.declared.refusal.Refusal.TheVariants.{PassMisfit, OutOfRange, NoAccount, NoSeries, NoLeg, NoRequest, Expired, TradingClosed, WrongAccount, LegHeld, LegFree, NotExpiring, ListedAlready, NoFixingPrice, DayNotLater, DrawsShort, StatementShort, Full, TooFew, TooMany}
use Rattle.ledger.specs.declared.state.State.{State}
use Rattle.ledger.specs.Replies.{reply_of}
use Rattle.dayend.specs.Assignment.{needed, assigning, assigned_state, assignment_checks}
use Rattle.dayend.specs.Statement.{statement_lines, places_needed}
use Rattle.book.specs.declared.pass.Pass.{Pass}
use Rattle.book.specs.declared.pass.Pass.TheVariants.{ForInput, ForCut, ForAssigned}
use Rattle.book.specs.declared.pass.CutPass.{CutPass}
use Rattle.book.specs.Stages.{fits_cut, kept_or, result_unless, assigned_pass, assignment_refusal, statement_refusal}
use Rattle.book.proofs.PassLaws.{enough_draws}
use Rattle.register.specs.declared.calls.Call.{Call}
use Rattle.register.specs.declared.calls.Call.TheVariants.{Open, OfInput, OfExercise, CutOff, Assign, GiveStatement, BeginDay}
use Rattle.register.specs.Register.{After, answer, ended}
use Rattle.host.specs.declared.instruction.Instruction.TheVariants.{OfBook}
use Rattle.host.specs.Hosts.{statements_after}
use Rattle.archive.specs.Archive.{draws_of}
use Rattle.archive.proofs.TapeLeft.{assigned_tape}

pub not_accepted : (r : Refusal) → is_accepted (reply_of r) ≡ false
not_accepted PassMisfit = refl
not_accepted OutOfRange = refl
not_accepted NoAccount = refl
not_accepted NoSeries = refl
not_accepted NoLeg = refl
not_accepted NoRequest = refl
not_accepted Expired = refl
not_accepted TradingClosed = refl
not_accepted WrongAccount = refl
not_accepted LegHeld = refl
not_accepted LegFree = refl
not_accepted NotExpiring = refl
not_accepted ListedAlready = refl
not_accepted NoFixingPrice = refl
not_accepted DayNotLater = refl
not_accepted (DrawsShort needed) = refl
not_accepted (StatementShort needed) = refl
not_accepted Full = refl
not_accepted TooFew = refl
not_accepted TooMany = refl

-- the draws that a call with that reply used
abbrev pub used_by : Call → Reply → ℕ
used_by c r = cond (is_accepted r) (draws_of c r.result) 0

-- the numbers that it used leave the tape, which had them; and it writes as many lines as follow it
pub record Says (u : List ℕ) (c : Call) (x : After) : Type 0 where
  pub source : x.source ≡ tape (drop (used_by c (replied reply_of x.reply)) u) 0
  pub within : used_by c (replied reply_of x.reply) ≤ length u
  pub lines : length x.lines ≡ statements_after (OfBook c) (replied reply_of x.reply)

abbrev after : Result ℕ Refusal → State → Pass → Meaning → List Line → After
after r s p m lines = record { reply = r; state = s; pass = p; source = m; lines = lines }

none_used : (u : List ℕ) (n : ℕ) → n ≡ 0 → (tape u 0 ≡ tape (drop n u) 0) × (n ≤ length u)
none_used u n e = (ap (λ k. tape (drop k u) 0) (sym e), omega arith)

-- no number is used
unused : (u : List ℕ) (c : Call) (r : Result ℕ Refusal) (s : State) (p : Pass) (lines : List Line) → used_by c (replied reply_of r) ≡ 0 → length lines ≡ statements_after (OfBook c) (replied reply_of r) → Says u c (after r s p (tape u 0) lines)
unused u c r s p lines none e = let n = none_used u (used_by c (replied reply_of r)) none in record { source = n.0; within = n.1; lines = e }

-- accepted or not, none of no draws
no_draws : (b : Bool) → ◌≡◌ {A = ℕ} (cond b 0 0) 0
no_draws true = refl
no_draws false = refl

by_assignment : (o : Option Refusal) (n : ℕ) (s t : State) (p q : Pass) (u : List ℕ) (m : Meaning) → (o ≡ None → n ≤ length u) → m ≡ tape (drop n u) 0 → Says u Assign (ended o n s t p q (kept_or o (tape u 0) m))
by_assignment None n s t p q u m enough e = record { source = e; within = enough refl; lines = refl }
by_assignment (Some r) n s t p q u m enough e = unused u Assign _ s p [] (cond-false (is_accepted (reply_of r)) (reply_of r).result 0 (not_accepted r)) refl

by_statement : (o : Option Refusal) (n : ℕ) (s : State) (p : Pass) (u : List ℕ) (xs : List Line) → length xs ≡ n → Says u GiveStatement (after (result_unless o n) s p (tape u 0) (kept_or o [] xs))
by_statement None n s p u xs e = unused u GiveStatement _ s p xs refl e
by_statement (Some r) n s p u xs e = unused u GiveStatement _ s p [] (no_draws _) (sym (cond-false (is_accepted (reply_of r)) (reply_of r).result 0 (not_accepted r)))

module _ (s : State) (u : List ℕ) (room : ℕ) where
  abbrev m : Meaning
  m = tape u 0

  assigns : (p : CutPass) → Says u Assign (answer s m room (ForCut p) Assign)
  assigns p =
      by_assignment (assignment_refusal s p m) (needed s) s (assigned_state s m) (ForCut p) (ForAssigned (assigned_pass p)) u (assigning s m).source
      (λ h. let c = unless_none (fits_cut s p) PassMisfit (first_refusal (assignment_checks s m)) h in let e = enough_draws s m c.1 in omega arith)
      (assigned_tape s u)

  pub says : (p : Pass) (c : Call) → Says u c (answer s m room p c)
  says (ForInput p) (Open o) = unused u (Open o) _ _ _ [] refl refl
  says (ForInput p) (OfInput c) = unused u (OfInput c) _ _ _ [] (no_draws _) refl
  says (ForInput p) (OfExercise c) = unused u (OfExercise c) _ _ _ [] (no_draws _) refl
  says (ForInput p) CutOff = unused u CutOff _ _ _ [] (no_draws _) refl
  says (ForInput p) Assign = unused u Assign _ _ _ [] refl refl
  says (ForInput p) GiveStatement = unused u GiveStatement _ _ _ [] refl refl
  says (ForInput p) (BeginDay day) = unused u (BeginDay day) _ _ _ [] refl refl
  says (ForCut p) (Open o) = unused u (Open o) _ _ _ [] refl refl
  says (ForCut p) (OfInput c) = unused u (OfInput c) _ _ _ [] refl refl
  says (ForCut p) (OfExercise c) = unused u (OfExercise c) _ _ _ [] refl refl
  says (ForCut p) CutOff = unused u CutOff _ _ _ [] refl refl
  says (ForCut p) Assign = assigns p
  says (ForCut p) GiveStatement = unused u GiveStatement _ _ _ [] refl refl
  says (ForCut p) (BeginDay day) = unused u (BeginDay day) _ _ _ [] refl refl
  says (ForAssigned p) (Open o) = unused u (Open o) _ _ _ [] refl refl
  says (ForAssigned p) (OfInput c) = unused u (OfInput c) _ _ _ [] refl refl
  says (ForAssigned p) (OfExercise c) = unused u (OfExercise c) _ _ _ [] refl refl
  says (ForAssigned p) CutOff = unused u CutOff _ _ _ [] refl refl
  says (ForAssigned p) Assign = unused u Assign _ _ _ [] refl refl
  says (ForAssigned p) GiveStatement = by_statement (statement_refusal s p room) (places_needed s) s (ForAssigned p) u (statement_lines s) refl
  says (ForAssigned p) (BeginDay day) = unused u (BeginDay day) _ _ _ [] (no_draws _) refl
