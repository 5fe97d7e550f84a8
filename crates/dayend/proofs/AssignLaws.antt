-- The assignment of all series.
use Rattle.std.proofs.Common.{◌≡◌, ℕ, zero, suc, ◌+◌, ◌<◌, ◌≤◌, Bool, List, [], ◌∷◌, ◌++◌, length, get_or, take, drop, set, sum_by, sym, refl, ap, ◌∙◌, subst, append_assoc, add-one, arith, length-set}
use Rattle.std.proofs.lemmas.List.{take_more_set, drop_more}
use Rattle.std.proofs.lemmas.List.Sums.{sum_by-cons}
use Rattle.draws.specs.Meaning.{Meaning, Below}
use Rattle.positions.specs.declared.cell.Cell.{Cell}
use Rattle.positions.specs.Cells.{no_cell}
use Rattle.settlement.specs.Assignment.{total_due, draws_for, Assignable, SeriesOutcome, series_outcome}
use Rattle.settlement.specs.Laws.{SeriesSettled}
use Rattle.settlement.proofs.Allocated.{due_held}
use Rattle.settlement.proofs.AssignmentLaws.{series_settled}
use Rattle.ledger.specs.declared.state.Series.{Series}
use Rattle.ledger.specs.declared.state.State.{State}
use Rattle.ledger.specs.declared.state.Stage.TheVariants.{Cut}
use Rattle.ledger.specs.declared.state.Terms.{Terms}
use Rattle.ledger.specs.Tables.{past_series, cells_of}
use Rattle.ledger.specs.Lookups.{expires}
use Rattle.dayend.specs.Assignment.{needed, RowReady, RowsReady, assigned_rows}
use Rattle.ledger.specs.Sound.{Facts, Waiting}

-- ── a book that has been cut is ready ──

pub row_ready : (s : State) (i : ℕ) → Facts s → s.stage ≡ Cut → i < 32 → RowReady (cells_of s i)
row_ready s i f cut lt =
    let b = f.balanced i lt in
    record {
      accounts = b.0;
      even = b.1.0;
      few = b.1.1;
      held = λ j. (subst (λ g. Waiting g (get_or (cells_of s i) j no_cell)) cut (f.waiting i j)).0;
    }

pub rows_ready : (s : State) (m : Meaning) → Facts s → s.stage ≡ Cut → needed s ≤ m.supply → RowsReady s.terms m s.series.rows
rows_ready s m f cut supplied = record {
  sized = f.ranges.0.0;
  positive = f.ranges.1.0;
  small = f.ranges.1.1;
  each = λ i lt. row_ready s i f cut (omega (arith, f.tables.1.1));
  supplied = supplied;
}

-- one series of those that are ready
module _ (t : Terms) (previous day : ℕ) (m : Meaning) (collateral : List ℕ) (r : Series) (rs : List Series) (below : Below m) (ready : RowsReady t m (r ∷ rs)) where
  abbrev o : SeriesOutcome
  o = series_outcome m r.cells collateral r.contract.right t.size t.block (expires r.contract previous day)

  here : RowReady r.cells
  here = ready.each 0 (omega arith)

  supplies : draws_for r.cells t.block + sum_by (λ (r : Series). draws_for r.cells t.block) rs ≤ m.supply
  supplies = omega (arith, sum_by-cons (λ (r : Series). draws_for r.cells t.block) r rs, ready.supplied)

  pub assignable : Assignable m r.cells t.size t.block
  assignable = record {
    accounts = here.accounts;
    even = here.even;
    few = omega (arith, here.even, here.few);
    held = here.held;
    sized = ready.sized;
    positive = ready.positive;
    small = ready.small;
    supplied = omega (arith, supplies);
  }

  pub settled_here : SeriesSettled m r.cells collateral t.block (expires r.contract previous day) o
  settled_here = series_settled m r.cells collateral r.contract.right t.size t.block (expires r.contract previous day) below assignable

  pub ready_then : RowsReady t o.source rs
  ready_then = record {
    sized = ready.sized;
    positive = ready.positive;
    small = ready.small;
    each = λ i lt. ready.each (suc i) (omega arith);
    supplied = omega (arith, supplies, settled_here.spent);
  }

-- ── the loop over the series ──

drop_past : {X : Type 0} (xs : List X) (i : ℕ) (y : X) → drop (i + 1) (set xs i y) ≡ drop (i + 1) xs
drop_past {X} xs i y = rw (add-one i) (go xs i)
  where
    go : (xs : List X) (i : ℕ) → drop (suc i) (set xs i y) ≡ drop (suc i) xs
    go [] i = refl
    go (x ∷ xs) zero = refl
    go (x ∷ xs) (suc i) = go xs i

-- the rows below place i are done, and what the others give from here on is the whole
pub record Going (t : Terms) (previous day : ℕ) (m₀ : Meaning) (c₀ : List ℕ) (rows₀ : List Series) (m : Meaning) (c : List ℕ) (rows : List Series) (i : ℕ) : Type 0 where
  pub size : length rows ≡ length rows₀
  pub rest : drop i rows ≡ drop i rows₀
  pub ready : RowsReady t m (drop i rows₀)
  pub rows_so_far : take i rows ++ (assigned_rows t previous day m c (drop i rows₀)).rows ≡ (assigned_rows t previous day m₀ c₀ rows₀).rows
  pub collateral_then : (assigned_rows t previous day m c (drop i rows₀)).collateral ≡ (assigned_rows t previous day m₀ c₀ rows₀).collateral
  pub source_then : (assigned_rows t previous day m c (drop i rows₀)).source ≡ (assigned_rows t previous day m₀ c₀ rows₀).source

module _ (t : Terms) (previous day : ℕ) (m₀ : Meaning) (c₀ : List ℕ) (rows₀ : List Series) where
  -- one series more
  module _ (m : Meaning) (c : List ℕ) (rows : List Series) (i : ℕ) (below : Below m) (w : Going t previous day m₀ c₀ rows₀ m c rows i) (lt : i < length rows₀) where
    abbrev r : Series
    r = get_or rows i past_series

    split : drop i rows₀ ≡ r ∷ drop (i + 1) rows₀
    split =
        let a : drop i rows ≡ r ∷ drop (i + 1) rows = drop_more rows i past_series (omega (arith, w.size)) in
        let b : drop i rows₀ ≡ get_or rows₀ i past_series ∷ drop (i + 1) rows₀ = drop_more rows₀ i past_series lt in
        let e : r ∷ drop (i + 1) rows ≡ get_or rows₀ i past_series ∷ drop (i + 1) rows₀ = sym a ∙ w.rest ∙ b in
        let hd : r ≡ get_or rows₀ i past_series = cc e in
        b ∙ ap (λ (x : Series). x ∷ drop (i + 1) rows₀) (sym hd)

    here_ready : RowsReady t m (r ∷ drop (i + 1) rows₀)
    here_ready = subst (λ (rs : List Series). RowsReady t m rs) split w.ready

    pub next_assignable : Assignable m r.cells t.size t.block
    next_assignable = assignable t previous day m c r (drop (i + 1) rows₀) below here_ready

    abbrev out : SeriesOutcome
    out = series_outcome m r.cells c r.contract.right t.size t.block (expires r.contract previous day)

    pub going_more : Going t previous day m₀ c₀ rows₀ out.source out.collateral (set rows i (record { contract = r.contract; cells = out.cells })) (i + 1)
    going_more =
        let new : Series = record { contract = r.contract; cells = out.cells } in
        let whole = rw split at w.rows_so_far in
        record {
          size = length-set rows i new ∙ w.size;
          rest = drop_past rows i new ∙ drop_same;
          ready = ready_then t previous day m c r (drop (i + 1) rows₀) below here_ready;
          rows_so_far =
              ap (λ (x : List Series). x ++ (assigned_rows t previous day out.source out.collateral (drop (i + 1) rows₀)).rows) (take_more_set rows i new (omega (arith, w.size)))
              ∙ append_assoc (take i rows) (new ∷ []) _ ∙ whole;
          collateral_then = rw split at w.collateral_then;
          source_then = rw split at w.source_then;
        }
      where
        drop_same : drop (i + 1) rows ≡ drop (i + 1) rows₀
        drop_same =
            let a : drop i rows ≡ r ∷ drop (i + 1) rows = drop_more rows i past_series (omega (arith, w.size)) in
            let e : r ∷ drop (i + 1) rows ≡ r ∷ drop (i + 1) rows₀ = sym a ∙ w.rest ∙ split in
            cc e

    -- as the code has it
    pub going_next : (lapses : Bool) (m' : Meaning) (c' : List ℕ) (cells : List Cell) → lapses ≡ expires r.contract previous day
        → m' ≡ (series_outcome m r.cells c r.contract.right t.size t.block lapses).source
        → c' ≡ (series_outcome m r.cells c r.contract.right t.size t.block lapses).collateral
        → cells ≡ (series_outcome m r.cells c r.contract.right t.size t.block lapses).cells
        → Going t previous day m₀ c₀ rows₀ m' c' (set rows i (record { contract = r.contract; cells = cells })) (i + 1)
    going_next lapses m' c' cells l a b d = rw (a, b, d, l) going_more

-- no more is due in a series than 100,000 contracts
pub due_few : (s : State) (i : ℕ) → Facts s → s.stage ≡ Cut → i < 32 → total_due (cells_of s i) ≤ 100_000
due_few s i f cut lt = let r = row_ready s i f cut lt in omega (arith, due_held (cells_of s i) r.held, r.few)
