-- A read statement line, as its numbers.
use Rattle.std.specs.Prelude.{◌≡◌, ℕ, List, [], ◌∷◌}
use Rattle.lines.specs.declared.statement.StatementLine.{StatementLine}
use Rattle.lines.specs.Lines.{StatementText}

-- in the order of the line
abbrev pub values_of : StatementLine → List ℕ
values_of s = s.series ∷ s.account ∷ s.role ∷ s.method ∷ s.contracts ∷ s.shares_received ∷ s.shares_delivered ∷ s.money_paid ∷ s.money_received ∷ s.settlement_day ∷ []

-- w is the writing of the numbers of s, and of no others
pub record ReadsStatement (w : List ℕ) (s : StatementLine) : Type 0 where
  pub is : StatementText (values_of s) w
  pub only : (ns : List ℕ) → StatementText ns w → ns ≡ values_of s
