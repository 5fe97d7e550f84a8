-- What every assignment of a series comes to, what its lines come to, and worked examples.
use Rattle.std.specs.Prelude.{◌≡◌, ℕ, ◌+◌, ◌≤◌, Bool, true, false, List, [], ◌∷◌, length, get_or, sum_by, slice_index, slice_index_or}
use Rattle.std.specs.List.{AllByRecursion}
use Rattle.draws.specs.Meaning.{Meaning, Below, Agree}
use Rattle.draws.specs.Sources.{tape}
use Rattle.positions.specs.declared.cell.Cell.{Cell}
use Rattle.positions.specs.declared.kinds.Right.{Right}
use Rattle.positions.specs.declared.kinds.Right.TheVariants.{Call, Put}
use Rattle.positions.specs.Cells.{no_cell}
use Rattle.positions.specs.Rows.{total_longs, total_shorts}
use Rattle.settlement.specs.declared.line.Role.{Role}
use Rattle.settlement.specs.declared.line.Role.TheVariants.{Exerciser, Assignee}
use Rattle.settlement.specs.declared.line.Method.{Method}
use Rattle.settlement.specs.declared.line.Method.TheVariants.{Covered, Other}
use Rattle.settlement.specs.declared.line.Line.{Line}
use Rattle.settlement.specs.declared.line.SeriesTerms.{SeriesTerms}
use Rattle.settlement.specs.Lines.{Countable, series_lines}
use Rattle.settlement.specs.Assignment.{total_due, draws_for, Assignable, SeriesOutcome, series_outcome}

-- one account's cell before and after
pub record CellSettled (lapses : Bool) (c c' : Cell) : Type 0 where
  -- what was due is exercised, and the account held it
  pub exercised : c'.exercised ≡ c.due
  pub held : c'.exercised ≤ c.longs
  pub done : c'.due ≡ 0
  pub denied : c'.denied ≡ c.denied
  -- no more is assigned than was short, and no more covered than assigned
  pub short : c'.assigned ≤ c.shorts
  pub covered : c'.covered ≤ c'.assigned
  -- longs less shorts fall by what is exercised and rise by what is assigned, and are gone where the series lapses
  pub moved : lapses ≡ false → c'.longs + c'.exercised + c.shorts ≡ c.longs + c'.assigned + c'.shorts
  pub gone : lapses ≡ true → (c'.longs ≡ 0) × (c'.shorts ≡ 0)
  -- where there was nothing, there is nothing
  pub empty : c ≡ no_cell → c' ≡ no_cell

pub record SeriesSettled (m : Meaning) (cells : List Cell) (collateral : List ℕ) (block : ℕ) (lapses : Bool) (o : SeriesOutcome) : Type 0 where
  pub each : (j : ℕ) → CellSettled lapses (slice_index_or cells j no_cell) (slice_index_or o.cells j no_cell)
  -- as many contracts are assigned as are exercised, which are those that were due
  pub exercised : sum_by (λ c. c.exercised) o.cells ≡ total_due cells
  pub assigned : sum_by (λ c. c.assigned) o.cells ≡ total_due cells
  pub few : total_due cells ≤ 100_000
  -- there are as many longs as shorts again, and no more than before
  pub even : total_longs o.cells ≡ total_shorts o.cells
  pub fewer : total_longs o.cells ≤ total_longs cells
  -- collateral falls or stays
  pub lodged : (j : ℕ) → slice_index o.collateral j ≤ slice_index collateral j
  -- the draws needed are made, no others, and the source keeps the rule for answers
  pub spent : o.source.supply + draws_for cells block ≡ m.supply
  pub below : Below o.source
  pub accounts : length o.cells ≡ 32
  pub places : length o.collateral ≡ 32

-- for every source that keeps the rule for answers
abbrev pub AssignmentSettles : Type 0
AssignmentSettles = (m : Meaning) (cells : List Cell) (collateral : List ℕ) (right : Right) (size block : ℕ) (lapses : Bool) → Below m → Assignable m cells size block → SeriesSettled m cells collateral block lapses (series_outcome m cells collateral right size block lapses)

pub record SameSeries (o o' : SeriesOutcome) : Type 0 where
  pub cells : o.cells ≡ o'.cells
  pub collateral : o.collateral ≡ o'.collateral
  pub source : Agree o.source o'.source

-- the outcome rests on nothing but the source's answers to the lists of bounds that its supply allows
abbrev pub SeriesRestsOnAnswers : Type 0
SeriesRestsOnAnswers = (m m' : Meaning) (cells : List Cell) (collateral : List ℕ) (right : Right) (size block : ℕ) (lapses : Bool) → Below m → Assignable m cells size block → Agree m m' → SameSeries (series_outcome m cells collateral right size block lapses) (series_outcome m' cells collateral right size block lapses)

-- a cell with nothing but longs that are due, and one with nothing but shorts
abbrev pub all_due : ℕ → Cell
all_due n = record { longs = n; shorts = 0; denied = 0; due = n; exercised = 0; assigned = 0; covered = 0 }

abbrev pub all_short : ℕ → Cell
all_short n = record { longs = 0; shorts = n; denied = 0; due = 0; exercised = 0; assigned = 0; covered = 0 }

abbrev pub worked_example : Right → SeriesOutcome
worked_example right = series_outcome (tape (3 ∷ []) 0) (all_due 4 ∷ all_short 4 ∷ []) (1_000 ∷ 1_200 ∷ []) right 500 10 false

-- size 500, collateral 1,200: of 4 calls assigned 2 are covered, and 200 shares stay; of 4 puts none
abbrev pub Worked : Type 0
Worked =
    (((get_or (worked_example Call).cells 1 no_cell).assigned ≡ 4)
    × ((get_or (worked_example Call).cells 1 no_cell).covered ≡ 2)
    × ((worked_example Call).collateral ≡ 1_000 ∷ 200 ∷ []))
    × (((get_or (worked_example Put).cells 1 no_cell).assigned ≡ 4)
    × ((get_or (worked_example Put).cells 1 no_cell).covered ≡ 0)
    × ((worked_example Put).collateral ≡ 1_000 ∷ 1_200 ∷ []))

-- the shares received are delivered, and the money paid is received
pub record Even (lines : List Line) : Type 0 where
  pub shares : sum_by (λ l. l.shares_received) lines ≡ sum_by (λ l. l.shares_delivered) lines
  pub money : sum_by (λ l. l.money_paid) lines ≡ sum_by (λ l. l.money_received) lines

-- where as many contracts are assigned as are exercised, and no more covered than assigned
abbrev pub LinesEven : Type 0
LinesEven = (t : SeriesTerms) (cells : List Cell) → ((j : ℕ) → (get_or cells j no_cell).covered ≤ (get_or cells j no_cell).assigned) → sum_by (λ c. c.exercised) cells ≡ sum_by (λ c. c.assigned) cells → Even (series_lines t cells)

-- 4 contracts of size 500 and strike 30, exercised by account 1 and assigned to account 2, 2 of them covered
abbrev pub worked_terms : Right → SeriesTerms
worked_terms right = record { series = 7; right = right; strike = 30; size = 500; settlement_day = 102 }

abbrev pub worked_cells : List Cell
worked_cells =
    record { longs = 0; shorts = 0; denied = 0; due = 0; exercised = 4; assigned = 0; covered = 0 }
    ∷ record { longs = 0; shorts = 0; denied = 0; due = 0; exercised = 0; assigned = 4; covered = 2 }
    ∷ []

abbrev pub taking : ℕ → Role → Method → ℕ → ℕ → ℕ → Line
taking account role method contracts shares money = record { series = 7; account = account; role = role; method = method; contracts = contracts; shares_received = shares; shares_delivered = 0; money_paid = money; money_received = 0; settlement_day = 102 }

abbrev pub delivering : ℕ → Role → Method → ℕ → ℕ → ℕ → Line
delivering account role method contracts shares money = record { series = 7; account = account; role = role; method = method; contracts = contracts; shares_received = 0; shares_delivered = shares; money_paid = 0; money_received = money; settlement_day = 102 }

abbrev pub WorkedLines : Type 0
WorkedLines =
    (series_lines (worked_terms Call) worked_cells ≡ taking 1 Exerciser Other 4 2_000 60_000 ∷ delivering 2 Assignee Covered 2 1_000 30_000 ∷ delivering 2 Assignee Other 2 1_000 30_000 ∷ [])
    × (series_lines (worked_terms Put) worked_cells ≡ delivering 1 Exerciser Other 4 2_000 60_000 ∷ taking 2 Assignee Covered 2 1_000 30_000 ∷ taking 2 Assignee Other 2 1_000 30_000 ∷ [])

-- no amount of a line has more than 16 digits
pub record SmallLine (l : Line) : Type 0 where
  pub shares_received : l.shares_received ≤ 1_000_000_000
  pub shares_delivered : l.shares_delivered ≤ 1_000_000_000
  pub money_paid : l.money_paid ≤ 1_000_000_000_000_000
  pub money_received : l.money_received ≤ 1_000_000_000_000_000

abbrev pub LinesSmall : Type 0
LinesSmall = (t : SeriesTerms) (cells : List Cell) → t.size ≤ 10_000 → t.strike ≤ 1_000_000 → ((j : ℕ) → Countable (slice_index_or cells j no_cell)) → AllByRecursion SmallLine (series_lines t cells)
