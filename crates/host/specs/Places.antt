-- The places of a statement.
use Rattle.std.specs.Prelude.{ℕ, List, [], ◌∷◌, slice_index_or}
use Rattle.settlement.specs.declared.line.Line.{Line}
use Rattle.settlement.specs.declared.line.Role.TheVariants.{Exerciser}
use Rattle.settlement.specs.declared.line.Method.TheVariants.{Covered}
use Rattle.settlement.specs.Lines.{role_code, method_code}

-- a place with nothing in it
abbrev pub empty_line : Line
empty_line = record { series = 0; account = 0; role = Exerciser; method = Covered; contracts = 0; shares_received = 0; shares_delivered = 0; money_paid = 0; money_received = 0; settlement_day = 0 }

-- the numbers of a line, in the order in which they are written
abbrev pub line_numbers : Line → List ℕ
line_numbers l = l.series ∷ l.account ∷ role_code l.role ∷ method_code l.method ∷ l.contracts ∷ l.shares_received ∷ l.shares_delivered ∷ l.money_paid ∷ l.money_received ∷ l.settlement_day ∷ []

-- the numbers of the line at place i
abbrev pub numbers_at : List Line → ℕ → List ℕ
numbers_at ps i = line_numbers (slice_index_or ps i empty_line)
