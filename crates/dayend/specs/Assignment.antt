-- The assignment: the series in rising number, each with what the earlier ones left of the source and of the collateral.
use Rattle.std.specs.Prelude.{◌≡◌, ℕ, ◌<◌, ◌≤◌, Bool, List, [], ◌∷◌, map, length, get_or, sum_by, nat_le, slice_index, slice_index_or}
use Rattle.std.specs.List.{range_with_len}
use Rattle.draws.specs.Meaning.{Meaning}
use Rattle.positions.specs.declared.cell.Cell.{Cell}
use Rattle.positions.specs.Cells.{no_cell}
use Rattle.positions.specs.Rows.{total_longs, total_shorts}
use Rattle.settlement.specs.Assignment.{draws_for, series_outcome}
use Rattle.ledger.specs.declared.refusal.Refusal.{Refusal}
use Rattle.ledger.specs.declared.refusal.Refusal.TheVariants.{DrawsShort}
use Rattle.ledger.specs.declared.state.Account.{Account}
use Rattle.ledger.specs.declared.state.Series.{Series}
use Rattle.ledger.specs.declared.state.Stage.TheVariants.{Assigned}
use Rattle.ledger.specs.declared.state.State.{State}
use Rattle.ledger.specs.declared.state.Terms.{Terms}
use Rattle.ledger.specs.Tables.{no_account, past_series}
use Rattle.ledger.specs.Lookups.{expires}
use Rattle.exercise.specs.Criteria.{with_collateral}

-- the draws needed: each series' contracts due over the block, rounded up, all summed
abbrev pub needed : State → ℕ
needed s = sum_by (λ r. draws_for r.cells s.terms.block) s.series.rows

abbrev pub assignment_checks : State → Meaning → List (Bool × Refusal)
assignment_checks s m = (nat_le (needed s) m.supply, DrawsShort (needed s)) ∷ []

-- what the assignment of a series may rest on: a cell for each of 32 accounts, as many longs as shorts, at most 100,000,
-- and no more due than an account has
pub record RowReady (cells : List Cell) : Type 0 where
  pub accounts : length cells ≡ 32
  pub even : total_longs cells ≡ total_shorts cells
  pub few : total_longs cells ≤ 100_000
  pub held : (j : ℕ) → (get_or cells j no_cell).due ≤ (get_or cells j no_cell).longs

pub record RowsReady (t : Terms) (m : Meaning) (rows : List Series) : Type 0 where
  pub sized : 1 ≤ t.size
  pub positive : 1 ≤ t.block
  pub small : t.block ≤ 1_000
  pub each : (i : ℕ) → i < length rows → RowReady (get_or rows i past_series).cells
  pub supplied : sum_by (λ r. draws_for r.cells t.block) rows ≤ m.supply

-- the series, the collateral of each account, and the source, after an assignment
pub record Assigning : Type 0 where
  pub rows : List Series
  pub collateral : List ℕ
  pub source : Meaning

abbrev pub assigned_rows : Terms → ℕ → ℕ → Meaning → List ℕ → List Series → Assigning
assigned_rows t previous day m collateral [] = record { rows = []; collateral = collateral; source = m }
assigned_rows t previous day m collateral (r ∷ rs) =
    let o = series_outcome m r.cells collateral r.contract.right t.size t.block (expires r.contract previous day) in
    let rest = assigned_rows t previous day o.source o.collateral rs in
    record rest { rows = record r { cells = o.cells } ∷ rest.rows }

abbrev pub lodged_shares : List Account → List ℕ
lodged_shares accounts = map (λ a. a.collateral) accounts

abbrev pub with_shares : List Account → List ℕ → List Account
with_shares accounts shares = map (λ k. with_collateral (slice_index_or accounts k no_account) (slice_index shares k)) (range_with_len 0 (length accounts))

abbrev pub assigning : State → Meaning → Assigning
assigning s m = assigned_rows s.terms s.previous s.day m (lodged_shares s.accounts.rows) s.series.rows

abbrev pub assigned_state : State → Meaning → State
assigned_state s m = record s {
  stage = Assigned;
  accounts = record s.accounts { rows = with_shares s.accounts.rows (assigning s m).collateral };
  series = record s.series { rows = (assigning s m).rows };
}
