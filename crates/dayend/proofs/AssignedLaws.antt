-- A book after its assignment.
use Rattle.std.proofs.Common.{◌≡◌, ℕ, zero, suc, ◌+◌, ◌<◌, ◌≤◌, List, [], ◌∷◌, length, get_or, sum_by, sym, refl, ap, ◌∙◌, subst, ⊎_elim, arith}
use Rattle.std.proofs.lemmas.List.{get_or_past, get_or-map}
use Rattle.std.proofs.lemmas.List.FromFn.{length-map-range_with_len, get_or-map-range_with_len}
use Rattle.std.proofs.lemmas.List.Sums.{sum_by-cons}
use Rattle.std.proofs.lemmas.Bool.{cases_lt}
use Rattle.draws.specs.Meaning.{Meaning, Below}
use Rattle.positions.specs.Cells.{no_cell}
use Rattle.positions.specs.Rows.{total_longs}
use Rattle.settlement.specs.Assignment.{draws_for, SeriesOutcome, series_outcome}
use Rattle.settlement.specs.Laws.{SeriesSettled}
use Rattle.ledger.specs.declared.state.Account.{Account}
use Rattle.ledger.specs.declared.state.Series.{Series}
use Rattle.ledger.specs.declared.state.State.{State}
use Rattle.ledger.specs.declared.state.Stage.TheVariants.{Cut, Assigned}
use Rattle.ledger.specs.declared.state.Terms.{Terms}
use Rattle.ledger.specs.Tables.{past_series, no_account, row, cells_of}
use Rattle.ledger.specs.Lookups.{expires}
use Rattle.exercise.specs.Criteria.{with_collateral}
use Rattle.dayend.specs.Assignment.{needed, RowsReady, assigned_rows, lodged_shares, assigning, assigned_state}
use Rattle.ledger.specs.Sound.{Facts, Balanced, Waiting}
use Rattle.dayend.proofs.AssignLaws.{settled_here, ready_then, rows_ready}

-- ── series by series ──

-- the series at a place is settled as an assignment of its own, from some meaning and some collateral
pub record RowSettled (t : Terms) (previous day : ℕ) (r r' : Series) : Type 0 where
  pub meaning : Meaning
  pub collateral : List ℕ
  pub out : SeriesOutcome
  pub is : r' ≡ record { contract = r.contract; cells = out.cells }
  pub settled : SeriesSettled meaning r.cells collateral t.block (expires r.contract previous day) out

module _ (t : Terms) (previous day : ℕ) where
  abbrev outcome_of : Meaning → List ℕ → Series → SeriesOutcome
  outcome_of m c r = series_outcome m r.cells c r.contract.right t.size t.block (expires r.contract previous day)

  pub row_settled : (rows : List Series) (m : Meaning) (c : List ℕ) → Below m → RowsReady t m rows → (i : ℕ) → i < length rows → RowSettled t previous day (get_or rows i past_series) (get_or (assigned_rows t previous day m c rows).rows i past_series)
  row_settled [] m c b w i lt = absurd (omega arith)
  row_settled (r ∷ rs) m c b w zero lt = record { meaning = m; collateral = c; out = outcome_of m c r; is = refl; settled = settled_here t previous day m c r rs b w }
  row_settled (r ∷ rs) m c b w (suc i) lt =
      row_settled rs (outcome_of m c r).source (outcome_of m c r).collateral (settled_here t previous day m c r rs b w).below (ready_then t previous day m c r rs b w) i (omega arith)

  pub rows_length : (rows : List Series) (m : Meaning) (c : List ℕ) → length (assigned_rows t previous day m c rows).rows ≡ length rows
  rows_length [] m c = refl
  rows_length (r ∷ rs) m c = ap suc (rows_length rs (outcome_of m c r).source (outcome_of m c r).collateral)

  -- collateral falls or stays
  pub shares_fall : (rows : List Series) (m : Meaning) (c : List ℕ) → Below m → RowsReady t m rows → (j : ℕ) → get_or (assigned_rows t previous day m c rows).collateral j 0 ≤ get_or c j 0
  shares_fall [] m c b w j = omega arith
  shares_fall (r ∷ rs) m c b w j =
      let s = settled_here t previous day m c r rs b w in
      omega (arith, s.lodged j, shares_fall rs (outcome_of m c r).source (outcome_of m c r).collateral s.below (ready_then t previous day m c r rs b w) j)

  -- the draws needed are made, and no others
  pub draws_made : (rows : List Series) (m : Meaning) (c : List ℕ) → Below m → RowsReady t m rows → (assigned_rows t previous day m c rows).source.supply + sum_by (λ (r : Series). draws_for r.cells t.block) rows ≡ m.supply
  draws_made [] m c b w = omega arith
  draws_made (r ∷ rs) m c b w =
      let s = settled_here t previous day m c r rs b w in
      omega (arith, sum_by-cons (λ (r : Series). draws_for r.cells t.block) r rs, s.spent, draws_made rs (outcome_of m c r).source (outcome_of m c r).collateral s.below (ready_then t previous day m c r rs b w))

-- ── the book ──

module _ (s : State) (m : Meaning) (f : Facts s) (cut : s.stage ≡ Cut) (below : Below m) (supplied : needed s ≤ m.supply) where
  ready : RowsReady s.terms m s.series.rows
  ready = rows_ready s m f cut supplied

  abbrev shares : List ℕ
  shares = lodged_shares s.accounts.rows

  pub at_place : (i : ℕ) → i < 32 → RowSettled s.terms s.previous s.day (row s i) (row (assigned_state s m) i)
  at_place i lt = row_settled s.terms s.previous s.day s.series.rows m shares below ready i (omega (arith, f.tables.1.1))

  rows_size : length (assigning s m).rows ≡ 32
  rows_size = rows_length s.terms s.previous s.day s.series.rows m shares ∙ f.tables.1.1

  -- past the table's end there is nothing
  pub past : (i : ℕ) → 32 ≤ i → row (assigned_state s m) i ≡ past_series
  past i h = get_or_past (assigning s m).rows i past_series (omega (arith, rows_size))

  pub assigned_balanced : (i : ℕ) → i < 32 → Balanced (cells_of (assigned_state s m) i)
  assigned_balanced i lt =
      let p = at_place i lt in
      let q = p.settled in
      let b = f.balanced i lt in
      subst (λ (r : Series). Balanced r.cells) (sym p.is) (q.accounts, (q.even, omega (arith, q.fewer, b.1.1)), (q.exercised ∙ sym q.assigned, omega (arith, q.exercised, q.few)))

  assigned_waiting : (i j : ℕ) → Waiting Assigned (get_or (cells_of (assigned_state s m) i) j no_cell)
  assigned_waiting i j =
      ⊎_elim
      (λ (lt : i < 32).
      let p = at_place i lt in
      let e = p.settled.each j in
      subst (λ (r : Series). Waiting Assigned (get_or r.cells j no_cell)) (sym p.is) (e.done, e.covered))
      (λ (le : 32 ≤ i). subst (λ (r : Series). Waiting Assigned (get_or r.cells j no_cell)) (sym (past i le)) (refl, omega arith))
      (cases_lt i 32)

  assigned_strikes : (i : ℕ) → (row (assigned_state s m) i).contract.strike ≤ 1_000_000
  assigned_strikes i =
      ⊎_elim
      (λ (lt : i < 32). subst (λ (r : Series). r.contract.strike ≤ 1_000_000) (sym (at_place i lt).is) (f.strikes i))
      (λ (le : 32 ≤ i). subst (λ (r : Series). r.contract.strike ≤ 1_000_000) (sym (past i le)) (omega arith))
      (cases_lt i 32)

  pub account_at : (k : ℕ) → k < 32 → get_or (assigned_state s m).accounts.rows k no_account ≡ with_collateral (get_or s.accounts.rows k no_account) (get_or (assigning s m).collateral k 0)
  account_at k lt = get_or-map-range_with_len (λ k. with_collateral (get_or s.accounts.rows k no_account) (get_or (assigning s m).collateral k 0)) 0 (length s.accounts.rows) k k no_account (omega (arith, f.tables.1.0)) (omega arith)

  pub accounts_size : length (assigned_state s m).accounts.rows ≡ 32
  accounts_size = length-map-range_with_len (λ k. with_collateral (get_or s.accounts.rows k no_account) (get_or (assigning s m).collateral k 0)) 0 (length s.accounts.rows) ∙ f.tables.1.0

  assigned_collateral : (k : ℕ) → (get_or (assigned_state s m).accounts.rows k no_account).collateral ≤ 99_999_999
  assigned_collateral k =
      ⊎_elim
      (λ (lt : k < 32).
      let fall = shares_fall s.terms s.previous s.day s.series.rows m shares below ready k in
      let was = get_or-map (λ (a : Account). a.collateral) s.accounts.rows k no_account 0 (omega (arith, f.tables.1.0)) in
      rw (account_at k lt) (omega (arith, fall, was, f.collateral k)))
      (λ (le : 32 ≤ k). rw (get_or_past (assigned_state s m).accounts.rows k no_account (omega (arith, accounts_size))) (omega arith))
      (cases_lt k 32)

  pub facts_assigned : Facts (assigned_state s m)
  facts_assigned = record {
    ranges = f.ranges;
    tables = (f.tables.0, (accounts_size, rows_size, f.tables.1.2, f.tables.1.3));
    balanced = assigned_balanced;
    waiting = assigned_waiting;
    strikes = assigned_strikes;
    unlisted = λ i n lt. let p = at_place i lt in subst (λ (r : Series). total_longs r.cells ≡ 0) (sym p.is) (omega (arith, p.settled.fewer, f.unlisted i n lt));
    valid = f.valid;
    asked = f.asked;
    collateral = assigned_collateral;
  }

  pub supply_spent : (assigning s m).source.supply + needed s ≡ m.supply
  supply_spent = draws_made s.terms s.previous s.day s.series.rows m shares below ready
