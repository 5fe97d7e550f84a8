-- The lines that a statement has of one series.
use Rattle.std.specs.Prelude.{ℕ, ◌+◌, ◌-◌, ◌*◌, ◌≤◌, Bool, true, false, cond, List, [], ◌∷◌, ◌++◌, length, take, drop, ◌==◌, slice_index_or}
use Rattle.std.specs.List.{range_with_len, flat_map}
use Rattle.positions.specs.declared.cell.Cell.{Cell}
use Rattle.positions.specs.declared.kinds.Right.{Right}
use Rattle.positions.specs.declared.kinds.Right.TheVariants.{Call, Put}
use Rattle.positions.specs.Cells.{no_cell}
use Rattle.settlement.specs.declared.line.Role.{Role}
use Rattle.settlement.specs.declared.line.Role.TheVariants.{Exerciser, Assignee}
use Rattle.settlement.specs.declared.line.Method.{Method}
use Rattle.settlement.specs.declared.line.Method.TheVariants.{Covered, Other}
use Rattle.settlement.specs.declared.line.Line.{Line}
use Rattle.settlement.specs.declared.line.SeriesTerms.{SeriesTerms}

abbrev pub role_code : Role → ℕ
role_code Exerciser = 1
role_code Assignee = 2

abbrev pub method_code : Method → ℕ
method_code Covered = 1
method_code Other = 2

-- whether the account takes the shares and pays for them; if not, it delivers them and is paid
abbrev pub takes : Right → Role → Bool
takes Call Exerciser = true
takes Call Assignee = false
takes Put Exerciser = false
takes Put Assignee = true

abbrev pub shares_for : SeriesTerms → ℕ → ℕ
shares_for t contracts = contracts * t.size

abbrev pub money_for : SeriesTerms → ℕ → ℕ
money_for t contracts = shares_for t contracts * t.strike

abbrev pub line : SeriesTerms → ℕ → Role → Method → ℕ → Line
line t account role method contracts = record {
  series = t.series;
  account = account;
  role = role;
  method = method;
  contracts = contracts;
  shares_received = cond (takes t.right role) (shares_for t contracts) 0;
  shares_delivered = cond (takes t.right role) 0 (shares_for t contracts);
  money_paid = cond (takes t.right role) (money_for t contracts) 0;
  money_received = cond (takes t.right role) 0 (money_for t contracts);
  settlement_day = t.settlement_day;
}

-- the three lines of an account's cell
abbrev pub exercised_line : SeriesTerms → ℕ → Cell → Line
exercised_line t account c = line t account Exerciser Other c.exercised

abbrev pub covered_line : SeriesTerms → ℕ → Cell → Line
covered_line t account c = line t account Assignee Covered c.covered

abbrev pub uncovered_line : SeriesTerms → ℕ → Cell → Line
uncovered_line t account c = line t account Assignee Other (c.assigned - c.covered)

-- a line of no contracts is left out
abbrev pub if_any : Line → List Line
if_any l = cond (l.contracts == 0) [] (l ∷ [])

abbrev pub cell_lines : SeriesTerms → ℕ → Cell → List Line
cell_lines t account c = if_any (exercised_line t account c) ++ (if_any (covered_line t account c) ++ if_any (uncovered_line t account c))

-- the lines of the first n accounts, in the order of their numbers, which count from 1
abbrev pub lines_of_first : ℕ → SeriesTerms → List Cell → List Line
lines_of_first n t cells = flat_map (λ i. cell_lines t (i + 1) (slice_index_or cells i no_cell)) (range_with_len 0 n)

abbrev pub series_lines : SeriesTerms → List Cell → List Line
series_lines t cells = lines_of_first (length cells) t cells

-- the list with xs from a place on, and the rest as it was
abbrev pub written : {X : Type 0} → List X → ℕ → List X → List X
written d at xs = take at d ++ (xs ++ drop (at + length xs) d)

-- counts that a line can hold
pub record Countable (c : Cell) : Type 0 where
  pub exercised : c.exercised ≤ 100_000
  pub assigned : c.assigned ≤ 100_000
  pub covered : c.covered ≤ c.assigned
