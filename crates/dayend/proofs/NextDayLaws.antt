-- An accepted next day.
use Rattle.std.proofs.Common.{◌≡◌, ℕ, ◌<◌, ◌≤◌, List, get_or, None, sym, refl, ap, ◌∙◌, subst, arith}
use Rattle.std.proofs.lemmas.Bool.{ltb-true}
use Rattle.draws.specs.Checks.{first_refusal}
use Rattle.draws.proofs.Passes.{all_pass}
use Rattle.positions.specs.declared.cell.Cell.{Cell}
use Rattle.positions.specs.Cells.{no_cell, carried}
use Rattle.positions.specs.Rows.{total_longs}
use Rattle.positions.proofs.PlaceLaws.{each_length, each_at, each_keeps, sum_stays, sum_none}
use Rattle.ledger.specs.declared.state.Request.{Request}
use Rattle.ledger.specs.declared.state.Series.{Series}
use Rattle.ledger.specs.declared.state.State.{State}
use Rattle.ledger.specs.Tables.{row, cells_of, no_request, past_series}
use Rattle.dayend.specs.NextDay.{next_day_checks, carried_cells, carried_series, next_day}
use Rattle.ledger.specs.Sound.{Balanced, Facts}
use Rattle.ledger.proofs.FactLaws.{within_parts}
use Rattle.ledger.proofs.KeepLaws.{all_same}

pub record Later (s : State) (day : ℕ) : Type 0 where
  pub from : 1 ≤ day
  pub to : day ≤ 99_999
  pub later : s.day < day

pub is_later : (s : State) (day : ℕ) → first_refusal (next_day_checks s day) ≡ None → Later s day
is_later s day h =
    let p = all_pass (next_day_checks s day) h in
    let w = within_parts day 1 99_999 p.0 in
    record { from = w.0; to = w.1; later = ltb-true s.day day p.1.0 }

-- ── each place ──

pub record Carried (c d : Cell) : Type 0 where
  pub longs : d.longs ≡ c.longs
  pub shorts : d.shorts ≡ c.shorts
  pub denied : d.denied ≡ 0
  pub due : d.due ≡ 0
  pub exercised : d.exercised ≡ 0
  pub assigned : d.assigned ≡ 0
  pub covered : d.covered ≡ 0

carried_none : Carried no_cell no_cell
carried_none = record { longs = refl; shorts = refl; denied = refl; due = refl; exercised = refl; assigned = refl; covered = refl }

carrying : (c : Cell) → Carried c (carried c)
carrying c = record { longs = refl; shorts = refl; denied = refl; due = refl; exercised = refl; assigned = refl; covered = refl }

-- the cell of the series and the account at two places, before and after
pub carried_at : (s : State) (day i j : ℕ) → Carried (get_or (cells_of s i) j no_cell) (get_or (cells_of (next_day s day) i) j no_cell)
carried_at s day i j =
    each_keeps (λ (at : ℕ) (r : Series). carried_series r) (λ (r t : Series). Carried (get_or r.cells j no_cell) (get_or t.cells j no_cell)) i s.series.rows past_series carried_none
    (λ k. each_keeps (λ (at : ℕ) (c : Cell). carried c) Carried j (cells_of s i) no_cell carried_none (λ a. carrying (get_or (cells_of s i) j no_cell)))

pub carried_contract : (s : State) (day i : ℕ) → (row (next_day s day) i).contract ≡ (row s i).contract
carried_contract s day i = each_keeps (λ (at : ℕ) (r : Series). carried_series r) (λ (r t : Series). t.contract ≡ r.contract) i s.series.rows past_series refl (λ k. refl)

-- the cells of a row of the table
pub carried_row : (s : State) (day i : ℕ) → Facts s → i < 32 → cells_of (next_day s day) i ≡ carried_cells (cells_of s i)
carried_row s day i f h = ap (λ (r : Series). r.cells) (each_at (λ (at : ℕ) (r : Series). carried_series r) i s.series.rows past_series (omega (arith, f.tables.1.1)))

-- ── what every book keeps ──

same_longs : (cells : List Cell) → total_longs (carried_cells cells) ≡ total_longs cells
same_longs cells = sum_stays (λ (at : ℕ) (c : Cell). carried c) (λ (c : Cell). c.longs) cells (λ k c. refl)

carried_balanced : (cells : List Cell) → Balanced cells → Balanced (carried_cells cells)
carried_balanced cells b =
    let g : ℕ → Cell → Cell = λ at c. carried c in
    let l = same_longs cells in
    let r = sum_stays g (λ (c : Cell). c.shorts) cells (λ k c. refl) in
    let x = sum_none g (λ (c : Cell). c.exercised) cells (λ k c. refl) in
    let y = sum_none g (λ (c : Cell). c.assigned) cells (λ k c. refl) in
    (each_length g cells ∙ b.0, (omega (arith, l, r, b.1.0), omega (arith, l, b.1.1)), (omega (arith, x, y), omega (arith, x)))

module _ (s : State) (day : ℕ) (f : Facts s) (l : Later s day) where
  pub facts_next_day : Facts (next_day s day)
  facts_next_day = record {
    ranges = (f.ranges.0, f.ranges.1, l.to);
    tables = ((f.tables.0.0, f.tables.0.1, omega arith, omega arith), (f.tables.1.0, each_length (λ (at : ℕ) (r : Series). carried_series r) s.series.rows ∙ f.tables.1.1, refl, refl));
    balanced = λ i h. subst Balanced (sym (carried_row s day i f h)) (carried_balanced (cells_of s i) (f.balanced i h));
    waiting = λ i j. let k = carried_at s day i j in (k.due, omega (arith, k.covered, k.assigned));
    strikes = λ i. omega (arith, ap (λ c. c.strike) (carried_contract s day i), f.strikes i);
    unlisted = λ i n h. ap total_longs (carried_row s day i f h) ∙ same_longs (cells_of s i) ∙ f.unlisted i n h;
    valid = λ k h. absurd (omega arith);
    asked = λ k. all_same (λ (r : Request). r.quantity ≤ 100_000) 128 no_request no_request k (omega arith) (omega arith);
    collateral = f.collateral;
  }
