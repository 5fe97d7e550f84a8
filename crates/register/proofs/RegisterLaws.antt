-- The law, by induction over the register.
use Rattle.std.proofs.Common.{◌≡◌, ℕ, ◌+◌, Bool, true, false, cond, List, [], ◌∷◌, Some, None, Option, Ok, Err, Result, IfOk, sym, refl, ap, ◌∙◌, subst}
use Rattle.std.proofs.lemmas.Bool.{cond-false}
use Rattle.draws.specs.declared.Reply.{Reply}
use Rattle.draws.specs.Replies.{is_accepted, replied}
use Rattle.draws.specs.Checks.{first_refusal}
use Rattle.draws.specs.Meaning.{Meaning}
use Rattle.positions.specs.Kinds.{type_of_code}
use Rattle.positions.specs.declared.leg.LegEvent.TheVariants.{GiveUp, Confirm, Reject}
use Rattle.ledger.specs.declared.refusal.Refusal.{Refusal}
use Rattle.ledger.specs.declared.refusal.Refusal.TheVariants.{PassMisfit, OutOfRange, NoAccount, NoSeries, NoLeg, NoRequest, Expired, TradingClosed, WrongAccount, LegHeld, LegFree, NotExpiring, ListedAlready, NoFixingPrice, DayNotLater, DrawsShort, StatementShort, Full, TooFew, TooMany}
use Rattle.ledger.specs.declared.state.Stage.TheVariants.{Input}
use Rattle.ledger.specs.declared.state.Opening.{Opening}
use Rattle.ledger.specs.declared.state.State.{State}
use Rattle.ledger.specs.Replies.{reply_of}
use Rattle.ledger.specs.Tables.{opening, new_account}
use Rattle.dealing.specs.Listings.{account_checks, account_added, contract_of, series_checks, series_added}
use Rattle.dealing.specs.Trades.{trade_checks}
use Rattle.transfers.specs.Transfers.{transfer_checks, transferred, give_up_checks, confirms, take_up_checks, confirmed, rejected, taken_up, position_checks}
use Rattle.ledger.specs.Sound.{Facts}
use Rattle.dealing.proofs.OpenLaws.{facts_opened, facts_account_added, room_series, facts_series_added}
use Rattle.dealing.proofs.TradeLaws.{admitted, facts_traded}
use Rattle.transfers.proofs.TransferLaws.{movable, facts_transferred, give_up_leg, facts_given_up, take_up_leg, confirmable, facts_taken_up}
use Rattle.transfers.proofs.PositionLaws.{transferable, facts_moved}
use Rattle.book.specs.declared.book.Book.{Book}
use Rattle.book.specs.declared.pass.InputPass.{InputPass}
use Rattle.book.specs.declared.pass.Pass.{Pass}
use Rattle.book.specs.declared.pass.Pass.TheVariants.{ForInput, ForCut, ForAssigned}
use Rattle.register.specs.declared.calls.InputCall.{InputCall}
use Rattle.register.specs.declared.calls.InputCall.TheVariants.{AddAccount, ListSeries, BookTrade, TransferTrade, GiveUpLeg, TakeUpLeg, TransferPosition}
use Rattle.register.specs.declared.calls.Call.{Call}
use Rattle.register.specs.declared.calls.ExerciseCall.{ExerciseCall}
use Rattle.register.specs.declared.calls.ExerciseCall.TheVariants.{RequestExercise, RejectRequest, SetCriterion, DenyExercise, FixPrice, LodgeShares, WithdrawShares, CloseTrading}
use Rattle.register.specs.declared.calls.Call.TheVariants.{Open, OfInput, OfExercise, CutOff, Assign, GiveStatement, BeginDay}
use Rattle.book.specs.Opened.{opened, answer_open, open_refusal, open_call}
use Rattle.book.specs.Stages.{fits_cut, fits_assigned, kept_or, result_unless, cut_refusal, assignment_refusal, next_day_refusal}
use Rattle.exercise.specs.Requests.{request_checks, rejection_checks, denial_checks}
use Rattle.exercise.specs.Criteria.{criterion_checks, fixing_checks, lodge_checks, withdrawal_checks}
use Rattle.dayend.specs.Cutoff.{cut}
use Rattle.dayend.specs.Assignment.{needed, assignment_checks, assigned_state}
use Rattle.dayend.specs.NextDay.{next_day_checks, next_day}
use Rattle.exercise.proofs.RequestLaws.{requestable, facts_requested, facts_request_rejected, deniable, facts_denied}
use Rattle.exercise.proofs.CriteriaLaws.{facts_criterion, facts_fixed, facts_closed, lodgeable, facts_lodged, facts_withdrawn}
use Rattle.dayend.proofs.CutLaws.{facts_cut}
use Rattle.dayend.proofs.AssignedLaws.{facts_assigned}
use Rattle.dayend.proofs.NextDayLaws.{is_later, facts_next_day}
use Rattle.draws.specs.Meaning.{Below}
use Rattle.draws.proofs.Passes.{unless_none}
use Rattle.register.proofs.StageCounts.{tied_denied, tied_criterion, tied_cut, tied_next_day, tied_assigned}
use Rattle.book.specs.Calls.{refused, outcome}
use Rattle.register.specs.Register.{input_answer, exercise_answer, answer, Entry, given, Truthful, Leads}
use Rattle.register.specs.Balance.{Count, input_counted, counted, count, leg_counted, assignment_counted}
use Rattle.book.proofs.PassLaws.{passed, cut_stage, enough_draws}
use Rattle.register.proofs.BalanceLaws.{Tied}
use Rattle.register.proofs.CountLaws.{tied_opening, tied_account, tied_series, tied_traded, tied_transferred, tied_stepped, tied_moved}

nonzero : (r : Refusal) → is_accepted (reply_of r) ≡ false
nonzero PassMisfit = refl
nonzero OutOfRange = refl
nonzero NoAccount = refl
nonzero NoSeries = refl
nonzero NoLeg = refl
nonzero NoRequest = refl
nonzero Expired = refl
nonzero TradingClosed = refl
nonzero WrongAccount = refl
nonzero LegHeld = refl
nonzero LegFree = refl
nonzero NotExpiring = refl
nonzero ListedAlready = refl
nonzero NoFixingPrice = refl
nonzero DayNotLater = refl
nonzero (DrawsShort needed) = refl
nonzero (StatementShort needed) = refl
nonzero Full = refl
nonzero TooFew = refl
nonzero TooMany = refl

-- the count and the book after a call, and that the book is sound
pub record Kept (y : Count) (s : State) : Type 0 where
  pub tied : Tied y s
  pub sound : Facts s

-- a call turned back changes neither; an accepted one changes both
by_outcome : (o : Option Refusal) (s t : State) (n : ℕ) (y x : Count) (reply : Reply) → Kept y s → (o ≡ None → Kept x t) → reply ≡ replied reply_of (outcome o s n t).reply → Kept (cond (is_accepted reply) x y) (outcome o s n t).state
by_outcome None s t n y x reply old new e = subst (λ (k : Reply). Kept (cond (is_accepted k) x y) t) (sym e) (new refl)
by_outcome (Some r) s t n y x reply old new e = subst (λ (z : Count). Kept z s) (sym (cond-false (is_accepted reply) x y (ap is_accepted e ∙ nonzero r))) old

by_misfit : (s : State) (y x : Count) (reply : Reply) → Kept y s → reply ≡ reply_of PassMisfit → Kept (cond (is_accepted reply) x y) s
by_misfit s y x reply k e = subst (λ (z : Count). Kept z s) (sym (cond-false (is_accepted reply) x y (ap is_accepted e))) k

module _ (s : State) (y : Count) (p : InputPass) (k : Kept y s) where
  kept_account : (participant code : ℕ) → refused s p (account_checks s participant code) ≡ None → Kept y (account_added s participant code)
  kept_account participant code h =
      let g = passed s p (account_checks s participant code) h in
      record { tied = tied_account y s (new_account participant (type_of_code code)) k.tied; sound = facts_account_added s participant code k.sound g.1 }

  kept_series : (right strike expiry : ℕ) → refused s p (series_checks s right strike expiry) ≡ None → Kept y (series_added s right strike expiry)
  kept_series right strike expiry h =
      let g = passed s p (series_checks s right strike expiry) h in
      record { tied = tied_series y s (contract_of right strike expiry) k.sound k.tied (room_series s right strike expiry g.1); sound = facts_series_added s right strike expiry k.sound g.0 g.1 }

  -- confirmed or rejected
  by_answer : (b : Bool) (leg answer account : ℕ) → s.stage ≡ Input → first_refusal (take_up_checks s leg answer account) ≡ None → confirms answer ≡ b → Tied (cond b (leg_counted leg account y) y) (cond b (confirmed s leg account) (rejected s leg))
  by_answer true leg answer account input none on =
      let m = confirmable s leg answer account none on in
      tied_stepped (leg_counted leg account y) (transferred s leg account) leg Confirm (facts_transferred s leg account k.sound input m) m.leg (tied_transferred y s leg account k.sound k.tied m)
  by_answer false leg answer account input none off = tied_stepped y s leg Reject k.sound (take_up_leg s leg answer account none) k.tied

  kept_take_up : (leg answer account : ℕ) → refused s p (take_up_checks s leg answer account) ≡ None → Kept (cond (confirms answer) (leg_counted leg account y) y) (taken_up s leg answer account)
  kept_take_up leg answer account h =
      let g = passed s p (take_up_checks s leg answer account) h in
      record {
        tied = by_answer (confirms answer) leg answer account g.0 g.1 refl;
        sound = facts_taken_up s leg answer account k.sound g.0 g.1;
      }

  -- a call of the input stage
  input_step : (c : InputCall) (reply : Reply) → reply ≡ replied reply_of (input_answer s p c).reply → Kept (cond (is_accepted reply) (input_counted c y) y) (input_answer s p c).state
  input_step (AddAccount participant code) reply e = by_outcome (refused s p (account_checks s participant code)) s _ (s.accounts.count + 1) y _ reply k (kept_account participant code) e
  input_step (ListSeries right strike expiry) reply e = by_outcome (refused s p (series_checks s right strike expiry)) s _ (s.series.count + 1) y _ reply k (kept_series right strike expiry) e
  input_step (BookTrade t) reply e =
      by_outcome (refused s p (trade_checks s t)) s _ (s.legs.count + 1) y _ reply k
      (λ h.
      let g = passed s p (trade_checks s t) h in
      let a = admitted s t g.1 in
      record { tied = tied_traded y s t k.sound k.tied a; sound = facts_traded s t k.sound g.0 a }) e
  input_step (TransferTrade leg account) reply e =
      by_outcome (refused s p (transfer_checks s leg account)) s _ 0 y _ reply k
      (λ h.
      let g = passed s p (transfer_checks s leg account) h in
      let m = movable s leg account g.1 in
      record { tied = tied_transferred y s leg account k.sound k.tied m; sound = facts_transferred s leg account k.sound g.0 m }) e
  input_step (GiveUpLeg leg participant) reply e =
      by_outcome (refused s p (give_up_checks s leg participant)) s _ 0 y _ reply k
      (λ h.
      let g = passed s p (give_up_checks s leg participant) h in
      let l = give_up_leg s leg participant g.1 in
      record { tied = tied_stepped y s leg (GiveUp participant) k.sound l k.tied; sound = facts_given_up s leg participant k.sound l }) e
  input_step (TakeUpLeg leg answer account) reply e = by_outcome (refused s p (take_up_checks s leg answer account)) s _ 0 y _ reply k (kept_take_up leg answer account) e
  input_step (TransferPosition t) reply e =
      by_outcome (refused s p (position_checks s t)) s _ 0 y _ reply k
      (λ h.
      let g = passed s p (position_checks s t) h in
      let m = transferable s t g.1 in
      record { tied = tied_moved y s t k.sound g.0 k.tied m; sound = facts_moved s t k.sound g.0 m }) e

-- a call on exercise, in the same stage; the balance stays
module _ (s : State) (y : Count) (p : InputPass) (k : Kept y s) where
  abbrev same : Tied y s
  same = k.tied

  exercise_step : (c : ExerciseCall) (reply : Reply) → reply ≡ replied reply_of (exercise_answer s p c).reply → Kept (cond (is_accepted reply) y y) (exercise_answer s p c).state
  exercise_step (RequestExercise a i q) reply e =
      by_outcome (refused s p (request_checks s a i q)) s _ (s.requests.count + 1) y _ reply k
      (λ h. record { tied = record { cells = same.cells; legs = same.legs }; sound = facts_requested s a i q k.sound (requestable s a i q (passed s p (request_checks s a i q) h).1) }) e
  exercise_step (RejectRequest n) reply e =
      by_outcome (refused s p (rejection_checks s n)) s _ 0 y _ reply k (λ h. record { tied = record { cells = same.cells; legs = same.legs }; sound = facts_request_rejected s n k.sound }) e
  exercise_step (SetCriterion account right form value) reply e =
      by_outcome (refused s p (criterion_checks s account right form value)) s _ 0 y _ reply k (λ h. record { tied = tied_criterion y s account right form value same; sound = facts_criterion s account right form value k.sound }) e
  exercise_step (DenyExercise a i q) reply e =
      by_outcome (refused s p (denial_checks s a i q)) s _ 0 y _ reply k
      (λ h. let d = deniable s a i q (passed s p (denial_checks s a i q) h).1 in record { tied = tied_denied y s a i q k.sound d same; sound = facts_denied s a i q k.sound d.known d.listed }) e
  exercise_step (FixPrice price) reply e =
      by_outcome (refused s p (fixing_checks price)) s _ 0 y _ reply k (λ h. record { tied = record { cells = same.cells; legs = same.legs }; sound = facts_fixed s price k.sound }) e
  exercise_step (LodgeShares a n) reply e =
      by_outcome (refused s p (lodge_checks s a n)) s _ 0 y _ reply k
      (λ h. record { tied = record { cells = same.cells; legs = same.legs }; sound = facts_lodged s a n k.sound (lodgeable s a n (passed s p (lodge_checks s a n) h).1) }) e
  exercise_step (WithdrawShares a n) reply e =
      by_outcome (refused s p (withdrawal_checks s a n)) s _ 0 y _ reply k (λ h. record { tied = record { cells = same.cells; legs = same.legs }; sound = facts_withdrawn s a n k.sound }) e
  exercise_step CloseTrading reply e =
      by_outcome (refused s p []) s _ 0 y _ reply k (λ h. record { tied = record { cells = same.cells; legs = same.legs }; sound = facts_closed s k.sound }) e

-- a call that ends its stage
by_end : (o : Option Refusal) (s t : State) (n : ℕ) (y : Count) (x : State → Count) (reply : Reply) → Kept y s → (o ≡ None → Kept (x t) t) → reply ≡ replied reply_of (result_unless o n) → Kept (cond (is_accepted reply) (x (kept_or o s t)) y) (kept_or o s t)
by_end None s t n y x reply old new e = subst (λ (k : Reply). Kept (cond (is_accepted k) (x t) y) t) (sym e) (new refl)
by_end (Some r) s t n y x reply old new e = subst (λ (z : Count). Kept z s) (sym (cond-false (is_accepted reply) (x s) y (ap is_accepted e ∙ nonzero r))) old

same_count : (b : Bool) (y : Count) (s : State) → Kept y s → Kept (cond b y y) s
same_count true y s k = k
same_count false y s k = k

-- one call more
step : (s : State) (y : Count) (m : Meaning) (room : ℕ) (p : Pass) (c : Call) (reply : Reply) → Below m → Kept y s → reply ≡ replied reply_of (answer s m room p c).reply → Kept (cond (is_accepted reply) (counted c s (answer s m room p c).state y) y) (answer s m room p c).state
step s y m room (ForInput p) (Open o) reply b k e = by_misfit s y _ reply k e
step s y m room (ForInput p) (OfInput c) reply b k e = input_step s y p k c reply e
step s y m room (ForInput p) (OfExercise c) reply b k e = exercise_step s y p k c reply e
step s y m room (ForInput p) CutOff reply b k e =
    by_end (cut_refusal s p) s (cut s) 0 y (λ t. y) reply k
    (λ _. record { tied = tied_cut y s k.tied; sound = facts_cut s k.sound }) e
step s y m room (ForInput p) Assign reply b k e = by_misfit s y _ reply k e
step s y m room (ForInput p) GiveStatement reply b k e = by_misfit s y _ reply k e
step s y m room (ForInput p) (BeginDay day) reply b k e = by_misfit s y _ reply k e
step s y m room (ForCut p) (Open o) reply b k e = by_misfit s y _ reply k e
step s y m room (ForCut p) (OfInput c) reply b k e = by_misfit s y _ reply k e
step s y m room (ForCut p) (OfExercise c) reply b k e = by_misfit s y _ reply k e
step s y m room (ForCut p) CutOff reply b k e = by_misfit s y _ reply k e
step s y m room (ForCut p) Assign reply b k e =
    by_end (assignment_refusal s p m) s (assigned_state s m) (needed s) y (λ t. assignment_counted s t y) reply k
    (λ h.
    let u = unless_none (fits_cut s p) PassMisfit (first_refusal (assignment_checks s m)) h in
    let g = cut_stage s p u.0 in
    let d = enough_draws s m u.1 in
    record { tied = tied_assigned y s m k.sound g b d k.tied; sound = facts_assigned s m k.sound g b d }) e
step s y m room (ForCut p) GiveStatement reply b k e = by_misfit s y _ reply k e
step s y m room (ForCut p) (BeginDay day) reply b k e = by_misfit s y _ reply k e
step s y m room (ForAssigned p) (Open o) reply b k e = by_misfit s y _ reply k e
step s y m room (ForAssigned p) (OfInput c) reply b k e = by_misfit s y _ reply k e
step s y m room (ForAssigned p) (OfExercise c) reply b k e = by_misfit s y _ reply k e
step s y m room (ForAssigned p) CutOff reply b k e = by_misfit s y _ reply k e
step s y m room (ForAssigned p) Assign reply b k e = by_misfit s y _ reply k e
step s y m room (ForAssigned p) GiveStatement reply b k e = same_count (is_accepted reply) y s k
step s y m room (ForAssigned p) (BeginDay day) reply b k e =
    by_end (next_day_refusal s p day) s (next_day s day) 0 y (λ t. record { balance = y.balance; legs = [] }) reply k
    (λ h.
    let u = unless_none (fits_assigned s p) PassMisfit (first_refusal (next_day_checks s day)) h in
    record { tied = tied_next_day y s day k.tied; sound = facts_next_day s day k.sound (is_later s day u.1) }) e

pub always : (o : Opening) (r : List Entry) → Truthful o r → Kept (count o r) (given o r)
always o [] h = record { tied = tied_opening o; sound = facts_opened o h }
always o (e ∷ r) h = step (given o r) (count o r) e.before e.room e.pass e.call e.reply h.0.below (always o r h.1) h.0.reply

-- ── the opening ──

first_entry : (o : Opening) (x : Option Refusal) (r : Result (Book × InputPass) Refusal) (p : InputPass) → opened r ≡ answer_open x (opening o) p → IfOk r (λ b. (x ≡ None) × (b.0.state ≡ opening o))
first_entry o None (Ok b) p e = let d : (b.0.state, b.1) ≡ (opening o, p) = cc in (refl, ap (λ (z : State × InputPass). z.0) d)
first_entry o (Some q) (Ok b) p e = absurd (cc e)
first_entry o x (Err q) p e = tt

-- an opening that is accepted: the register with no call leads to the book
pub empty_leads : (o : Opening) (r : Result (Book × InputPass) Refusal) → opened r ≡ open_call o → IfOk r (λ b. Leads o [] b.0.state)
empty_leads o (Ok b) e = let h = first_entry o (open_refusal o) (Ok b) _ e in record { replies = h.0; shows = h.1 }
empty_leads o (Err q) e = tt
