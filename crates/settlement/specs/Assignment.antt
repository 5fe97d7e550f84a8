-- The assignment of one series: what it rests on, and what it leaves.
use Rattle.std.specs.Prelude.{◌≡◌, ℕ, ◌≤◌, Bool, List, map, length, get_or, sum_by, slice_index, slice_index_or}
use Rattle.std.specs.List.{range_with_len}
use Rattle.draws.specs.Meaning.{Meaning, behind_all}
use Rattle.allocation.specs.Assigned.{draws_needed, bounds, assigned_by}
use Rattle.positions.specs.declared.cell.Cell.{Cell}
use Rattle.positions.specs.declared.kinds.Right.{Right}
use Rattle.positions.specs.Cells.{no_cell}
use Rattle.positions.specs.Rows.{total_longs, total_shorts}
use Rattle.settlement.specs.declared.account.AssignmentTerms.{AssignmentTerms}
use Rattle.settlement.specs.Account.{covering, shares_after, settled, at_end}

-- the contracts that are exercised
abbrev pub total_due : List Cell → ℕ
total_due cells = sum_by (λ c. c.due) cells

-- the short contracts, by account
abbrev pub shorts_of : List Cell → List ℕ
shorts_of cells = map (λ c. c.shorts) cells

-- the draws that a series needs
abbrev pub draws_for : List Cell → ℕ → ℕ
draws_for cells block = draws_needed (total_due cells) block

-- what an assignment may rest on
pub record Assignable (m : Meaning) (cells : List Cell) (size block : ℕ) : Type 0 where
  -- a cell for each of 32 accounts, as many longs as shorts, and no more than 100,000
  pub accounts : length cells ≡ 32
  pub even : total_longs cells ≡ total_shorts cells
  pub few : total_shorts cells ≤ 100_000
  -- the account has the contracts that are due
  pub held : (j : ℕ) → (get_or cells j no_cell).due ≤ (get_or cells j no_cell).longs
  pub sized : 1 ≤ size
  pub positive : 1 ≤ block
  pub small : block ≤ 1_000
  pub supplied : draws_for cells block ≤ m.supply

pub record SeriesOutcome : Type 0 where
  pub cells : List Cell
  pub collateral : List ℕ
  pub source : Meaning

-- the contracts assigned to each account
abbrev pub assigned_in : Meaning → List Cell → ℕ → List ℕ
assigned_in m cells block = assigned_by m block (total_due cells) (shorts_of cells)

-- one account's cell and shares, given the contracts assigned to it
abbrev pub cell_after : Right → ℕ → Bool → List Cell → List ℕ → List ℕ → ℕ → Cell
cell_after right size lapses cells collateral assigned i =
    at_end lapses (settled (slice_index_or cells i no_cell) (slice_index assigned i) (covering right size (slice_index collateral i) (slice_index assigned i)))

abbrev pub collateral_after : Right → ℕ → List ℕ → List ℕ → ℕ → ℕ
collateral_after right size collateral assigned i = shares_after right size (slice_index collateral i) (slice_index assigned i)

abbrev pub series_outcome : Meaning → List Cell → List ℕ → Right → ℕ → ℕ → Bool → SeriesOutcome
series_outcome m cells collateral right size block lapses = record {
  cells = map (cell_after right size lapses cells collateral (assigned_in m cells block)) (range_with_len 0 (length cells));
  collateral = map (collateral_after right size collateral (assigned_in m cells block)) (range_with_len 0 (length cells));
  source = behind_all (bounds (draws_for cells block) (total_shorts cells) block) m;
}

abbrev pub outcome_by : AssignmentTerms → Meaning → List Cell → List ℕ → SeriesOutcome
outcome_by t m cells collateral = series_outcome m cells collateral t.right t.size t.block t.lapses
