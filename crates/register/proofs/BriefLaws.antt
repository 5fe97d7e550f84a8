-- Every reply and every result has at most 8 digits.
use Rattle.std.proofs.Common.{◌≡◌, ℕ, suc, ◌+◌, ◌-◌, ◌*◌, ◌<◌, ◌≤◌, Bool, true, false, ◌&&◌, ltb, leb, List, [], ◌∷◌, length, get_or, Some, None, sum_by, Option, refl, div-le_self, arith, lit<}
use Rattle.std.proofs.lemmas.List.Sums.{sum_by-cons}
use Rattle.std.proofs.lemmas.Bool.{and_parts, ltb-true, lt-ltb}
use Rattle.draws.specs.Replies.{replied}
use Rattle.draws.specs.Checks.{unless, first_refusal}
use Rattle.draws.specs.Meaning.{Meaning}
use Rattle.positions.specs.declared.cell.Cell.{Cell}
use Rattle.positions.specs.Cells.{no_cell}
use Rattle.settlement.specs.Assignment.{total_due, draws_for}
use Rattle.settlement.proofs.Allocated.{due_held}
use Rattle.ledger.specs.declared.refusal.Refusal.{Refusal}
use Rattle.ledger.specs.declared.refusal.Refusal.TheVariants.{PassMisfit, DrawsShort, StatementShort}
use Rattle.ledger.specs.declared.state.Opening.{Opening}
use Rattle.ledger.specs.declared.state.Series.{Series}
use Rattle.ledger.specs.declared.state.Stage.{Stage}
use Rattle.ledger.specs.declared.state.Stage.TheVariants.{Input, Cut, Assigned}
use Rattle.ledger.specs.declared.state.State.{State}
use Rattle.ledger.specs.Replies.{reply_of}
use Rattle.ledger.specs.Tables.{past_series, cells_of}
use Rattle.dealing.specs.Listings.{open_checks, account_checks, account_added, series_checks, series_added}
use Rattle.dealing.specs.Trades.{trade_checks, traded}
use Rattle.transfers.specs.Transfers.{transfer_checks, transferred, give_up_checks, given_up, take_up_checks, taken_up, position_checks, position_moved}
use Rattle.exercise.specs.Requests.{request_checks, request_added, rejection_checks, request_rejected, denial_checks, denial_noted}
use Rattle.exercise.specs.Criteria.{criterion_checks, criterion_set, fixing_checks, price_fixed, lodge_checks, lodged, withdrawal_checks, collateral_withdrawn, trading_closed}
use Rattle.dayend.specs.Cutoff.{cut_checks}
use Rattle.dayend.specs.Assignment.{needed}
use Rattle.dayend.specs.Statement.{places_needed}
use Rattle.dayend.specs.NextDay.{next_day_checks}
use Rattle.ledger.specs.Sound.{Facts, Waiting}
use Rattle.dayend.proofs.StatementLaws.{places_few}
use Rattle.book.specs.declared.pass.InputPass.{InputPass}
use Rattle.book.specs.declared.pass.CutPass.{CutPass}
use Rattle.book.specs.declared.pass.AssignedPass.{AssignedPass}
use Rattle.book.specs.declared.pass.Pass.{Pass}
use Rattle.book.specs.declared.pass.Pass.TheVariants.{ForInput, ForCut, ForAssigned}
use Rattle.book.specs.Calls.{fits_input, refused, outcome}
use Rattle.book.specs.Opened.{open_refusal}
use Rattle.book.specs.Stages.{fits_cut, fits_assigned, result_unless, cut_refusal, assignment_refusal, statement_refusal, next_day_refusal}
use Rattle.register.specs.declared.calls.InputCall.{InputCall}
use Rattle.register.specs.declared.calls.InputCall.TheVariants.{AddAccount, ListSeries, BookTrade, TransferTrade, GiveUpLeg, TakeUpLeg, TransferPosition}
use Rattle.register.specs.declared.calls.ExerciseCall.{ExerciseCall}
use Rattle.register.specs.declared.calls.ExerciseCall.TheVariants.{RequestExercise, RejectRequest, SetCriterion, DenyExercise, FixPrice, LodgeShares, WithdrawShares, CloseTrading}
use Rattle.register.specs.declared.calls.Call.{Call}
use Rattle.register.specs.declared.calls.Call.TheVariants.{Open, OfInput, OfExercise, CutOff, Assign, GiveStatement, BeginDay}
use Rattle.register.specs.Register.{input_answer, exercise_answer, answer, Brief}

-- ── refusals ──

abbrev brief : Refusal → Bool
brief r = ltb (reply_of r).number 100_000_000 && ltb (reply_of r).result 100_000_000

abbrev all_brief : List (Bool × Refusal) → Bool
all_brief [] = true
all_brief (c ∷ cs) = brief c.1 && all_brief cs

abbrev IfAny : Option Refusal → Type 0
IfAny None = Unit {0}
IfAny (Some r) = Brief (reply_of r)

brief_of : (r : Refusal) → brief r ≡ true → Brief (reply_of r)
brief_of r h = let p = and_parts (ltb (reply_of r).number 100_000_000) (ltb (reply_of r).result 100_000_000) h in (ltb-true _ _ p.0, ltb-true _ _ p.1)

first_brief : (cs : List (Bool × Refusal)) → all_brief cs ≡ true → IfAny (first_refusal cs)
first_brief [] h = tt
first_brief (c ∷ cs) h =
    let p = and_parts (brief c.1) (all_brief cs) h in
    elim c.0 as (λ b. IfAny (unless b c.1 (first_refusal cs))) [ true ↦ first_brief cs p.1 | false ↦ brief_of c.1 p.0 ]

-- ── answers ──

outcome_brief : (o : Option Refusal) (s : State) (n : ℕ) (t : State) → n < 100_000_000 → IfAny o → Brief (replied reply_of (outcome o s n t).reply)
outcome_brief None s n t h b = (lit< tt, h)
outcome_brief (Some r) s n t h b = b

with_brief : (o : Option Refusal) (n : ℕ) → n < 100_000_000 → IfAny o → Brief (replied reply_of (result_unless o n))
with_brief None n h b = (lit< tt, h)
with_brief (Some r) n h b = b

pub opening_brief : (o : Opening) → Brief (replied reply_of (result_unless (open_refusal o) 0))
opening_brief o = with_brief (open_refusal o) 0 (lit< tt) (first_brief (open_checks o) refl)

-- ── the draws that a sound book needs ──

rows_sum : (f : Series → ℕ) (rows : List Series) → ((i : ℕ) → i < length rows → f (get_or rows i past_series) ≤ 101_000) → sum_by f rows ≤ 101_000 * length rows
rows_sum f [] h = omega arith
rows_sum f (r ∷ rs) h = omega (arith, sum_by-cons f r rs, h 0 (omega arith), rows_sum f rs (λ i lt. h (suc i) (omega arith)))

held_in : (g : Stage) (c : Cell) → Waiting g c → c.due ≤ c.longs
held_in Input c w = omega (arith, w.0)
held_in Cut c w = w.0
held_in Assigned c w = omega (arith, w.0)

needed_few : (s : State) → Facts s → needed s < 100_000_000
needed_few s f =
    let each : (i : ℕ) → i < length s.series.rows → draws_for (cells_of s i) s.terms.block ≤ 101_000 =
    λ i lt.
    let b = f.balanced i (omega (arith, f.tables.1.1)) in
    let d = due_held (cells_of s i) (λ j. held_in s.stage (get_or (cells_of s i) j no_cell) (f.waiting i j)) in
    omega (arith, div-le_self (total_due (cells_of s i) + (s.terms.block - 1)) s.terms.block, d, b.1.1, f.ranges.1.1) in
    omega (arith, rows_sum (λ (r : Series). draws_for r.cells s.terms.block) s.series.rows each, f.tables.1.1)

-- ── every call ──

module _ (s : State) (f : Facts s) where
  checked_brief : (p : InputPass) (cs : List (Bool × Refusal)) (n : ℕ) (t : State) → all_brief cs ≡ true → n < 100_000_000 → Brief (replied reply_of (outcome (refused s p cs) s n t).reply)
  checked_brief p cs n t h k = outcome_brief (refused s p cs) s n t k (first_brief ((fits_input s p, PassMisfit) ∷ cs) h)

  input_brief : (p : InputPass) (c : InputCall) → Brief (replied reply_of (input_answer s p c).reply)
  input_brief p (AddAccount participant code) = checked_brief p (account_checks s participant code) (s.accounts.count + 1) (account_added s participant code) refl (omega (arith, f.tables.0.0))
  input_brief p (ListSeries right strike expiry) = checked_brief p (series_checks s right strike expiry) (s.series.count + 1) (series_added s right strike expiry) refl (omega (arith, f.tables.0.1))
  input_brief p (BookTrade t) = checked_brief p (trade_checks s t) (s.legs.count + 1) (traded s t) refl (omega (arith, f.tables.0.2))
  input_brief p (TransferTrade leg account) = checked_brief p (transfer_checks s leg account) 0 (transferred s leg account) refl (lit< tt)
  input_brief p (GiveUpLeg leg participant) = checked_brief p (give_up_checks s leg participant) 0 (given_up s leg participant) refl (lit< tt)
  input_brief p (TakeUpLeg leg reply account) = checked_brief p (take_up_checks s leg reply account) 0 (taken_up s leg reply account) refl (lit< tt)
  input_brief p (TransferPosition t) = checked_brief p (position_checks s t) 0 (position_moved s t) refl (lit< tt)

  exercise_brief : (p : InputPass) (c : ExerciseCall) → Brief (replied reply_of (exercise_answer s p c).reply)
  exercise_brief p (RequestExercise account series quantity) = checked_brief p (request_checks s account series quantity) (s.requests.count + 1) (request_added s account series quantity) refl (omega (arith, f.tables.0.3))
  exercise_brief p (RejectRequest request) = checked_brief p (rejection_checks s request) 0 (request_rejected s request) refl (lit< tt)
  exercise_brief p (SetCriterion account right form value) = checked_brief p (criterion_checks s account right form value) 0 (criterion_set s account right form value) refl (lit< tt)
  exercise_brief p (DenyExercise account series quantity) = checked_brief p (denial_checks s account series quantity) 0 (denial_noted s account series quantity) refl (lit< tt)
  exercise_brief p (FixPrice price) = checked_brief p (fixing_checks price) 0 (price_fixed s price) refl (lit< tt)
  exercise_brief p (LodgeShares account shares) = checked_brief p (lodge_checks s account shares) 0 (lodged s account shares) refl (lit< tt)
  exercise_brief p (WithdrawShares account shares) = checked_brief p (withdrawal_checks s account shares) 0 (collateral_withdrawn s account shares) refl (lit< tt)
  exercise_brief p CloseTrading = checked_brief p [] 0 (trading_closed s) refl (lit< tt)

  misfit_brief : Brief (reply_of PassMisfit)
  misfit_brief = (lit< tt, lit< tt)

  -- the refusals of an assignment and of a statement say how many are needed
  short_brief : (fits : Bool) (enough : Bool) (r : Refusal) → brief r ≡ true → IfAny (first_refusal ((fits, PassMisfit) ∷ (enough, r) ∷ []))
  short_brief fits enough r h = first_brief ((fits, PassMisfit) ∷ (enough, r) ∷ []) (rw h refl)

  assignment_brief : (m : Meaning) (p : CutPass) → Brief (replied reply_of (result_unless (assignment_refusal s p m) (needed s)))
  assignment_brief m p =
      let n = needed_few s f in
      with_brief (assignment_refusal s p m) (needed s) n (short_brief (fits_cut s p) (leb (needed s) m.supply) (DrawsShort (needed s)) (lt-ltb (needed s) 100_000_000 n))

  statement_brief : (room : ℕ) (p : AssignedPass) → Brief (replied reply_of (result_unless (statement_refusal s p room) (places_needed s)))
  statement_brief room p =
      let n : places_needed s < 100_000_000 = omega (arith, places_few s f) in
      with_brief (statement_refusal s p room) (places_needed s) n (short_brief (fits_assigned s p) (leb (places_needed s) room) (StatementShort (places_needed s)) (lt-ltb (places_needed s) 100_000_000 n))

  pub answer_brief : (m : Meaning) (room : ℕ) (p : Pass) (c : Call) → Brief (replied reply_of (answer s m room p c).reply)
  answer_brief m room (ForInput p) (Open o) = misfit_brief
  answer_brief m room (ForInput p) (OfInput c) = input_brief p c
  answer_brief m room (ForInput p) (OfExercise c) = exercise_brief p c
  answer_brief m room (ForInput p) CutOff = with_brief (cut_refusal s p) 0 (lit< tt) (first_brief ((fits_input s p, PassMisfit) ∷ cut_checks s) refl)
  answer_brief m room (ForInput p) Assign = misfit_brief
  answer_brief m room (ForInput p) GiveStatement = misfit_brief
  answer_brief m room (ForInput p) (BeginDay day) = misfit_brief
  answer_brief m room (ForCut p) (Open o) = misfit_brief
  answer_brief m room (ForCut p) (OfInput c) = misfit_brief
  answer_brief m room (ForCut p) (OfExercise c) = misfit_brief
  answer_brief m room (ForCut p) CutOff = misfit_brief
  answer_brief m room (ForCut p) Assign = assignment_brief m p
  answer_brief m room (ForCut p) GiveStatement = misfit_brief
  answer_brief m room (ForCut p) (BeginDay day) = misfit_brief
  answer_brief m room (ForAssigned p) (Open o) = misfit_brief
  answer_brief m room (ForAssigned p) (OfInput c) = misfit_brief
  answer_brief m room (ForAssigned p) (OfExercise c) = misfit_brief
  answer_brief m room (ForAssigned p) CutOff = misfit_brief
  answer_brief m room (ForAssigned p) Assign = misfit_brief
  answer_brief m room (ForAssigned p) GiveStatement = statement_brief room p
  answer_brief m room (ForAssigned p) (BeginDay day) = with_brief (next_day_refusal s p day) 0 (lit< tt) (first_brief ((fits_assigned s p, PassMisfit) ∷ next_day_checks s day) refl)
