-- Archive lines and statement lines, as they are written.
use Rattle.std.specs.Prelude.{◌≡◌, ℕ, ◌-◌, ◌<◌, ◌≤◌, List, [], ◌∷◌, ◌++◌, length, take, Some, decimal}
use Rattle.std.specs.List.{flat_map, AllByRecursion}
use Rattle.draws.specs.declared.Reply.{Reply}
use Rattle.lines.specs.Kinds.{arity, kinds, filled_kinds, Short}

-- each number after a blank
abbrev pub fields_text : List ℕ → List ℕ
fields_text ns = flat_map (λ n. 32 ∷ decimal n) ns

-- ` : `, reply, blank, result, line feed
abbrev pub answer_text : ℕ → ℕ → List ℕ
answer_text reply result = 32 ∷ 58 ∷ 32 ∷ (decimal reply ++ (32 ∷ (decimal result ++ (10 ∷ []))))

-- the line without its last byte
abbrev pub before_feed : List ℕ → List ℕ
before_feed w = take (length w - 1) w

abbrev pub input_line : ℕ → List ℕ → List ℕ
input_line k ns = decimal k ++ (fields_text ns ++ (10 ∷ []))

abbrev pub filled_line : ℕ → List ℕ → ℕ → ℕ → List ℕ
filled_line k ns reply result = decimal k ++ (fields_text ns ++ answer_text reply result)

-- the reply to a faulty line whose longest start has n bytes
abbrev pub faulty : ℕ → Reply
faulty n = record { number = 2; result = n }

-- and its filled line: kind 99 without numbers
abbrev pub faulty_line : ℕ → List ℕ
faulty_line n = filled_line 99 [] (faulty n).number (faulty n).result

-- numbers with one blank between, and a line feed
abbrev pub statement_line : List ℕ → List ℕ
statement_line [] = 10 ∷ []
statement_line (n ∷ ns) = decimal n ++ (fields_text ns ++ (10 ∷ []))

-- w is the writing of kind k with the numbers ns
pub record InputLine (k : ℕ) (ns : List ℕ) (w : List ℕ) : Type 0 where
  pub known : arity kinds k ≡ Some (length ns)
  pub short : AllByRecursion (Short 8) ns
  pub is : w ≡ input_line k ns

pub record FilledLine (k : ℕ) (ns : List ℕ) (reply result : ℕ) (w : List ℕ) : Type 0 where
  pub known : arity filled_kinds k ≡ Some (length ns)
  pub short : AllByRecursion (Short 8) ns
  pub reply_short : Short 8 reply
  pub result_short : Short 8 result
  pub is : w ≡ filled_line k ns reply result

-- w is the filled line of a faulty line whose longest start has n bytes
abbrev pub FaultyLine : ℕ → List ℕ → Type 0
FaultyLine n = FilledLine 99 [] (faulty n).number (faulty n).result

-- w is the writing of the ten numbers ns of a statement line
pub record StatementText (ns : List ℕ) (w : List ℕ) : Type 0 where
  pub ten : length ns ≡ 10
  pub short : AllByRecursion (Short 16) ns
  pub is : w ≡ statement_line ns

abbrev pub IsInput : List ℕ → Type 0
IsInput w = (k : ℕ) × (ns : List ℕ) × InputLine k ns w

abbrev pub IsFilled : List ℕ → Type 0
IsFilled w = (k : ℕ) × (ns : List ℕ) × (reply : ℕ) × (result : ℕ) × FilledLine k ns reply result w

abbrev pub IsStatement : List ℕ → Type 0
IsStatement w = (ns : List ℕ) × StatementText ns w

-- p begins some line of the sort L
abbrev pub Begins : (List ℕ → Type 0) → List ℕ → Type 0
Begins L p = (r : List ℕ) × L (p ++ r)

-- s is no line of the sort L, and n is the length of its longest start that begins one
pub record LongestStart (L : List ℕ → Type 0) (s : List ℕ) (n : ℕ) : Type 0 where
  pub no_line : L s → ⊥
  pub within : n ≤ length s
  pub begins : Begins L (take n s)
  pub longest : (m : ℕ) → n < m → m ≤ length s → Begins L (take m s) → ⊥
