-- What every book keeps.
use Rattle.std.specs.Prelude.{◌≡◌, ℕ, ◌<◌, ◌≤◌, List, length, get_or, sum_by, slice_index_or}
use Rattle.positions.specs.declared.cell.Cell.{Cell}
use Rattle.positions.specs.declared.leg.Leg.{Leg}
use Rattle.positions.specs.Cells.{no_cell}
use Rattle.positions.specs.Legs.{no_leg}
use Rattle.positions.specs.Rows.{total_longs, total_shorts}
use Rattle.ledger.specs.declared.state.Stage.{Stage}
use Rattle.ledger.specs.declared.state.Stage.TheVariants.{Input, Cut, Assigned}
use Rattle.ledger.specs.declared.state.State.{State}
use Rattle.ledger.specs.Tables.{row, cells_of, no_account, no_request}

-- the ranges of the opening
abbrev pub Ranges : State → Type 0
Ranges s = ((1 ≤ s.terms.size) × (s.terms.size ≤ 10_000)) × ((1 ≤ s.terms.block) × (s.terms.block ≤ 1_000)) × (s.day ≤ 99_999)

-- each table has its fixed size and no more rows in use than that
abbrev pub Tables : State → Type 0
Tables s =
    ((s.accounts.count ≤ 32) × (s.series.count ≤ 32) × (s.legs.count ≤ 256) × (s.requests.count ≤ 128))
    × ((length s.accounts.rows ≡ 32) × (length s.series.rows ≡ 32) × (length s.legs.rows ≡ 256) × (length s.requests.rows ≡ 128))

-- the cells of one series: as many longs as shorts, at most 100,000; as many contracts exercised as assigned
abbrev pub Balanced : List Cell → Type 0
Balanced cells =
    (length cells ≡ 32)
    × ((total_longs cells ≡ total_shorts cells) × (total_longs cells ≤ 100_000))
    × ((sum_by (λ c. c.exercised) cells ≡ sum_by (λ c. c.assigned) cells) × (sum_by (λ c. c.exercised) cells ≤ 100_000))

-- contracts are due between the cut and the assignment only, and then the account has them; covered ones are assigned
abbrev pub Waiting : Stage → Cell → Type 0
Waiting Input c = (c.due ≡ 0) × (c.covered ≤ c.assigned)
Waiting Cut c = (c.due ≤ c.longs) × (c.covered ≤ c.assigned)
Waiting Assigned c = (c.due ≡ 0) × (c.covered ≤ c.assigned)

abbrev pub AllBalanced : State → Type 0
AllBalanced s = (i : ℕ) → i < 32 → Balanced (cells_of s i)

abbrev pub AllWaiting : State → Type 0
AllWaiting s = (i j : ℕ) → Waiting s.stage (slice_index_or (cells_of s i) j no_cell)

abbrev pub Strikes : State → Type 0
Strikes s = (i : ℕ) → (row s i).contract.strike ≤ 1_000_000

-- a row that is not in use is empty
abbrev pub Unlisted : State → Type 0
Unlisted s = (i : ℕ) → s.series.count ≤ i → i < 32 → total_longs (cells_of s i) ≡ 0

-- an account and a series that the book has
abbrev pub Known : State → ℕ → ℕ → Type 0
Known s account series = ((1 ≤ account) × (account ≤ s.accounts.count)) × ((1 ≤ series) × (series ≤ s.series.count))

-- a leg's closed part is a part of it
abbrev pub ValidLeg : State → Leg → Type 0
ValidLeg s l = Known s l.account l.series × ((l.closed ≤ l.quantity) × (l.quantity ≤ 100_000))

abbrev pub AllValid : State → Type 0
AllValid s = (k : ℕ) → k < s.legs.count → ValidLeg s (slice_index_or s.legs.rows k no_leg)

abbrev pub AllAsked : State → Type 0
AllAsked s = (k : ℕ) → (get_or s.requests.rows k no_request).quantity ≤ 100_000

abbrev pub Collateral : State → Type 0
Collateral s = (k : ℕ) → (get_or s.accounts.rows k no_account).collateral ≤ 99_999_999

pub record Facts (s : State) : Type 0 where
  pub ranges : Ranges s
  pub tables : Tables s
  pub balanced : AllBalanced s
  pub waiting : AllWaiting s
  pub strikes : Strikes s
  pub unlisted : Unlisted s
  pub valid : AllValid s
  pub asked : AllAsked s
  pub collateral : Collateral s

abbrev pub Sound : State → Type 0
Sound s = ∥ Facts s ∥₁
