-- The next day.
use Rattle.std.specs.Prelude.{ℕ, Bool, true, List, [], ◌∷◌, None, nat_lt}
use Rattle.positions.specs.declared.cell.Cell.{Cell}
use Rattle.positions.specs.Cells.{carried}
use Rattle.positions.specs.Legs.{no_leg}
use Rattle.positions.specs.Places.{each}
use Rattle.ledger.specs.declared.refusal.Refusal.{Refusal}
use Rattle.ledger.specs.declared.refusal.Refusal.TheVariants.{OutOfRange, DayNotLater}
use Rattle.ledger.specs.declared.state.Series.{Series}
use Rattle.ledger.specs.declared.state.Stage.TheVariants.{Input}
use Rattle.ledger.specs.declared.state.State.{State}
use Rattle.ledger.specs.Tables.{no_request, empty_table}
use Rattle.ledger.specs.Lookups.{within}

abbrev pub next_day_checks : State → ℕ → List (Bool × Refusal)
next_day_checks s day =
    (within day 1 99_999, OutOfRange)
    ∷ (nat_lt s.day day, DayNotLater)
    ∷ []

abbrev pub carried_cells : List Cell → List Cell
carried_cells cells = each (λ _ c. carried c) cells

abbrev pub carried_series : Series → Series
carried_series r = record r { cells = carried_cells r.cells }

-- positions, accounts and series are carried over; trading, legs and requests start anew
abbrev pub next_day : State → ℕ → State
next_day s day = record s {
  day = day;
  previous = s.day;
  stage = Input;
  trading = true;
  fixing = None;
  series = record s.series { rows = each (λ _ r. carried_series r) s.series.rows };
  legs = empty_table 256 no_leg;
  requests = empty_table 128 no_request;
}
