-- The cells of one series, one for each account, by place.
use Rattle.std.specs.Prelude.{ℕ, List, get_or, sum_by, slice_index_or, slice_set}
use Rattle.positions.specs.declared.cell.Cell.{Cell}
use Rattle.positions.specs.declared.kinds.Side.{Side}
use Rattle.positions.specs.declared.kinds.Effect.{Effect}
use Rattle.positions.specs.Cells.{no_cell, booked, AtMost}

abbrev pub total_longs : List Cell → ℕ
total_longs cells = sum_by (λ c. c.longs) cells

abbrev pub total_shorts : List Cell → ℕ
total_shorts cells = sum_by (λ c. c.shorts) cells

-- the cells with a leg booked at a place
abbrev pub placed : List Cell → ℕ → Side → Effect → ℕ → List Cell
placed cells at side e q = slice_set cells at (booked (slice_index_or cells at no_cell) side e q)

-- no cell has more than m longs or shorts
abbrev pub Below : List Cell → ℕ → Type 0
Below cells m = (j : ℕ) → AtMost (get_or cells j no_cell) m
