-- The statement: the lines of every series in rising number.
use Rattle.std.specs.Prelude.{ℕ, ◌+◌, Bool, List, [], ◌∷◌, length, nat_le, slice_index_or}
use Rattle.std.specs.List.{range_with_len, flat_map}
use Rattle.settlement.specs.declared.line.Line.{Line}
use Rattle.settlement.specs.declared.line.SeriesTerms.{SeriesTerms}
use Rattle.settlement.specs.Lines.{series_lines}
use Rattle.ledger.specs.declared.refusal.Refusal.{Refusal}
use Rattle.ledger.specs.declared.refusal.Refusal.TheVariants.{StatementShort}
use Rattle.ledger.specs.declared.state.Series.{Series}
use Rattle.ledger.specs.declared.state.State.{State}
use Rattle.ledger.specs.Tables.{past_series}

-- what the lines of the series at a place share; settlement falls two days after the book's day
abbrev pub terms_at : ℕ → ℕ → List Series → ℕ → SeriesTerms
terms_at size day rows i = record {
  series = i + 1;
  right = (slice_index_or rows i past_series).contract.right;
  strike = (slice_index_or rows i past_series).contract.strike;
  size = size;
  settlement_day = day + 2;
}

-- the lines of the series at a place
abbrev pub lines_at : ℕ → ℕ → List Series → ℕ → List Line
lines_at size day rows i = series_lines (terms_at size day rows i) (slice_index_or rows i past_series).cells

-- the lines of the first n series
abbrev pub first_lines : ℕ → ℕ → ℕ → List Series → List Line
first_lines n size day rows = flat_map (lines_at size day rows) (range_with_len 0 n)

abbrev pub statement_lines : State → List Line
statement_lines s = first_lines 32 s.terms.size s.day s.series.rows

-- the places that it needs
abbrev pub places_needed : State → ℕ
places_needed s = length (statement_lines s)

abbrev pub statement_checks : State → ℕ → List (Bool × Refusal)
statement_checks s room = (nat_le (places_needed s) room, StatementShort (places_needed s)) ∷ []
