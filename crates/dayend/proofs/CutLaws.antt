-- What the cut keeps, cell by cell and leg by leg.
use Rattle.std.proofs.Common.{◌≡◌, ℕ, ◌+◌, ◌<◌, ◌≤◌, List, get_or, sym, refl, ap, ◌∙◌, subst, arith}
use Rattle.positions.specs.declared.cell.Cell.{Cell}
use Rattle.positions.specs.declared.leg.Leg.{Leg}
use Rattle.positions.specs.declared.leg.LegEvent.TheVariants as event
use Rattle.positions.specs.Cells.{no_cell, netted}
use Rattle.positions.specs.Legs.{no_leg, stepped}
use Rattle.positions.specs.Rows.{total_longs}
use Rattle.positions.proofs.CellLaws.{netting, due_le}
use Rattle.positions.proofs.PlaceLaws.{each_length, each_at, each_keeps, sums_even, sum_falls, sum_stays}
use Rattle.ledger.specs.declared.state.Series.{Series}
use Rattle.ledger.specs.declared.state.State.{State}
use Rattle.ledger.specs.Tables.{row, cells_of, account_of, past_series}
use Rattle.dayend.specs.Cutoff.{asked, automatic, cut_cell, cut_cells, cut_series, cut}
use Rattle.ledger.specs.Sound.{Balanced, ValidLeg, Facts}
use Rattle.dayend.proofs.StatementLaws.{covered_of}

-- ── one cell ──

pub record Cutting (c d : Cell) : Type 0 where
  pub even : d.longs + c.shorts ≡ c.longs + d.shorts
  pub longs : d.longs ≤ c.longs
  pub shorts : d.shorts ≤ c.shorts
  pub due : d.due ≤ d.longs
  pub denied : d.denied ≡ c.denied
  pub exercised : d.exercised ≡ c.exercised
  pub assigned : d.assigned ≡ c.assigned
  pub covered : d.covered ≡ c.covered

pub cutting : (s : State) (i a : ℕ) (c : Cell) → Cutting c (cut_cell s i a c)
cutting s i a c =
    let n = netting (account_of s a).account_type c in
    record {
      even = n.even;
      longs = n.longs;
      shorts = n.shorts;
      due = due_le (netted (account_of s a).account_type c) (asked s.requests a i) (automatic s a i);
      denied = n.denied;
      exercised = n.exercised;
      assigned = n.assigned;
      covered = n.covered;
    }

cutting_none : Cutting no_cell no_cell
cutting_none = record { even = refl; longs = omega arith; shorts = omega arith; due = omega arith; denied = refl; exercised = refl; assigned = refl; covered = refl }

-- ── each place ──

-- the cell of the series and the account at two places, before and after
pub cut_at : (s : State) (i j : ℕ) → Cutting (get_or (cells_of s i) j no_cell) (get_or (cells_of (cut s) i) j no_cell)
cut_at s i j =
    each_keeps (cut_series s) (λ (r t : Series). Cutting (get_or r.cells j no_cell) (get_or t.cells j no_cell)) i s.series.rows past_series cutting_none
    (λ k. each_keeps (λ (at : ℕ) (c : Cell). cut_cell s (k + 1) (at + 1) c) Cutting j (cells_of s i) no_cell cutting_none (λ a. cutting s (k + 1) (a + 1) (get_or (cells_of s i) j no_cell)))

-- longs less shorts stay
pub cut_even : (s : State) (i j : ℕ) → (get_or (cells_of (cut s) i) j no_cell).longs + (get_or (cells_of s i) j no_cell).shorts ≡ (get_or (cells_of s i) j no_cell).longs + (get_or (cells_of (cut s) i) j no_cell).shorts
cut_even s i j = (cut_at s i j).even

pub cut_contract : (s : State) (i : ℕ) → (row (cut s) i).contract ≡ (row s i).contract
cut_contract s i = each_keeps (cut_series s) (λ (r t : Series). t.contract ≡ r.contract) i s.series.rows past_series refl (λ k. refl)

-- the cells of a row of the table
pub cut_row : (s : State) (i : ℕ) → Facts s → i < 32 → cells_of (cut s) i ≡ cut_cells s (i + 1) (cells_of s i)
cut_row s i f h = ap (λ (r : Series). r.cells) (each_at (cut_series s) i s.series.rows past_series (omega (arith, f.tables.1.1)))

-- what a leg keeps: all but its state
pub record SameLeg (l m : Leg) : Type 0 where
  pub account : m.account ≡ l.account
  pub series : m.series ≡ l.series
  pub side : m.side ≡ l.side
  pub effect : m.effect ≡ l.effect
  pub quantity : m.quantity ≡ l.quantity
  pub closed : m.closed ≡ l.closed
  pub price : m.price ≡ l.price

none_kept : SameLeg no_leg no_leg
none_kept = record { account = refl; series = refl; side = refl; effect = refl; quantity = refl; closed = refl; price = refl }

leg_kept : (l : Leg) → SameLeg l (stepped l event.Cut)
leg_kept l = record { account = refl; series = refl; side = refl; effect = refl; quantity = refl; closed = refl; price = refl }

pub cut_leg : (s : State) (k : ℕ) → SameLeg (get_or s.legs.rows k no_leg) (get_or (cut s).legs.rows k no_leg)
cut_leg s k = each_keeps (λ (at : ℕ) (l : Leg). stepped l event.Cut) SameLeg k s.legs.rows no_leg none_kept (λ at. leg_kept (get_or s.legs.rows k no_leg))

-- ── what every book keeps ──

module _ (s : State) (f : Facts s) where
  even_cells : (i : ℕ) (cells : List Cell) → Balanced cells → Balanced (cut_cells s i cells)
  even_cells i cells b =
      let g : ℕ → Cell → Cell = λ at c. cut_cell s i (at + 1) c in
      let e = sums_even g (λ (c : Cell). c.longs) (λ (c : Cell). c.shorts) cells (λ k c. (cutting s i (k + 1) c).even) in
      let l = sum_falls g (λ (c : Cell). c.longs) cells (λ k c. (cutting s i (k + 1) c).longs) in
      let x = sum_stays g (λ (c : Cell). c.exercised) cells (λ k c. (cutting s i (k + 1) c).exercised) in
      let y = sum_stays g (λ (c : Cell). c.assigned) cells (λ k c. (cutting s i (k + 1) c).assigned) in
      (each_length g cells ∙ b.0, (omega (arith, e, b.1.0), omega (arith, l, b.1.1)), (omega (arith, x, y, b.2.0), omega (arith, x, b.2.1)))

  waits : (i j : ℕ) → ((get_or (cells_of (cut s) i) j no_cell).due ≤ (get_or (cells_of (cut s) i) j no_cell).longs) × ((get_or (cells_of (cut s) i) j no_cell).covered ≤ (get_or (cells_of (cut s) i) j no_cell).assigned)
  waits i j =
      let k = cut_at s i j in
      let w = covered_of s.stage (get_or (cells_of s i) j no_cell) (f.waiting i j) in
      (k.due, omega (arith, k.covered, k.assigned, w))

  still_none : (i : ℕ) (cells : List Cell) → total_longs cells ≡ 0 → total_longs (cut_cells s i cells) ≡ 0
  still_none i cells h =
      let l = sum_falls (λ (at : ℕ) (c : Cell). cut_cell s i (at + 1) c) (λ (c : Cell). c.longs) cells (λ k c. (cutting s i (k + 1) c).longs) in
      omega (arith, l)

  pub facts_cut : Facts (cut s)
  facts_cut = record {
    ranges = f.ranges;
    tables = (f.tables.0, (f.tables.1.0, each_length (cut_series s) s.series.rows ∙ f.tables.1.1, each_length (λ (at : ℕ) (l : Leg). stepped l event.Cut) s.legs.rows ∙ f.tables.1.2, f.tables.1.3));
    balanced = λ i h. subst Balanced (sym (cut_row s i f h)) (even_cells (i + 1) (cells_of s i) (f.balanced i h));
    waiting = waits;
    strikes = λ i. omega (arith, ap (λ c. c.strike) (cut_contract s i), f.strikes i);
    unlisted = λ i n h. ap total_longs (cut_row s i f h) ∙ still_none (i + 1) (cells_of s i) (f.unlisted i n h);
    valid = λ k h. each_keeps (λ (at : ℕ) (l : Leg). stepped l event.Cut) (λ (l m : Leg). ValidLeg s l → ValidLeg s m) k s.legs.rows no_leg (λ v. v) (λ at v. v) (f.valid k h);
    asked = f.asked;
    collateral = f.collateral;
  }
