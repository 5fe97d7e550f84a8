-- The kinds of lines, and their numbers.
use Rattle.std.specs.Prelude.{◌≡◌, ℕ, ◌^◌, ◌<◌, cond, List, [], ◌∷◌, ◌++◌, length, Some, None, decimal, Option, ◌==◌, ◌≢◌, slice_index_or}
use Rattle.std.specs.Str.Parse.{digits_value}
use Rattle.lines.specs.declared.kinds.Row.{Row}
use Rattle.lines.specs.declared.kinds.Sort.{Sort}
use Rattle.lines.specs.declared.kinds.Sort.TheVariants.{Input, Filled}

-- the kind of the row at place i
abbrev kind_at : List Row → ℕ → ℕ
kind_at rows i = (slice_index_or rows i (record { kind = 0; fields = 0 })).kind

-- the place of the first row with kind k, or none where no row has it
abbrev pub FirstPlace : List Row → ℕ → Option ℕ → Type 0
FirstPlace rows k None = (i : ℕ) → i < length rows → kind_at rows i ≢ k
FirstPlace rows k (Some i) = (i < length rows) × (kind_at rows i ≡ k) × ((j : ℕ) → j < i → kind_at rows j ≢ k)

-- how many fields a line of kind k has, by the first row with it
abbrev pub arity : List Row → ℕ → Option ℕ
arity [] k = None
arity (r ∷ rs) k = cond (r.kind == k) (Some r.fields) (arity rs k)

abbrev row : ℕ → ℕ → Row
row k n = record { kind = k; fields = n }

-- the kinds of input lines
abbrev pub kinds : List Row
kinds = row 10 4 ∷ row 11 2 ∷ row 12 3 ∷ row 13 7 ∷ row 15 2 ∷ row 16 2 ∷ row 17 3 ∷ row 19 5 ∷ row 20 3 ∷ row 21 1 ∷ row 22 4 ∷ row 23 3 ∷ row 24 1 ∷ row 25 2 ∷ row 26 2 ∷ row 27 0 ∷ row 28 0 ∷ row 29 1 ∷ row 30 0 ∷ row 31 0 ∷ row 32 1 ∷ []

-- the kinds of filled lines: kind 99 stands for a faulty input line
abbrev pub filled_kinds : List Row
filled_kinds = kinds ++ (row 99 0 ∷ [])

-- the kinds of lines of a sort
abbrev pub kinds_of : Sort → List Row
kinds_of Input = kinds
kinds_of Filled = filled_kinds

-- n has at most d digits
abbrev pub Short : ℕ → ℕ → Type 0
Short d n = n < 10 ^ d

-- text is the writing of a number of at most d digits
abbrev pub IsNumber : ℕ → List ℕ → Type 0
IsNumber d text = Short d (digits_value 10 text) × (decimal (digits_value 10 text) ≡ text)
