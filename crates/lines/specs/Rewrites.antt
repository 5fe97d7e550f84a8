-- A line read and written again.
use Rattle.std.specs.Prelude.{◌≡◌, ℕ, List, [], ◌∷◌, ◌++◌}
use Rattle.lines.specs.Lines.{InputLine, FilledLine, IsInput, IsFilled}
use Rattle.lines.specs.Texts.{text_of}
use Rattle.lines.specs.Lists.{list_of}
use Rattle.lines.specs.declared.kinds.Sort.{Sort}
use Rattle.lines.specs.declared.kinds.Sort.TheVariants.{Input, Filled}
use Rattle.lines.specs.declared.again.Rewritten.{Rewritten}

-- w is the writing of kind k with the numbers ns; those of a filled line end with reply and result
abbrev pub Writing : Sort → ℕ → List ℕ → List ℕ → Type 0
Writing Input k ns w = InputLine k ns w
Writing Filled k ns w = (fields : List ℕ) × (reply : ℕ) × (result : ℕ) × (ns ≡ fields ++ (reply ∷ result ∷ [])) × FilledLine k fields reply result w

abbrev pub IsLine : Sort → List ℕ → Type 0
IsLine Input = IsInput
IsLine Filled = IsFilled

-- how long a line can be
abbrev pub longest_line : Sort → ℕ
longest_line Input = 66
longest_line Filled = 86

-- w is the writing of the kind and the numbers of r, and of no others, and r has its bytes
pub record Rewrites (sort : Sort) (w : List ℕ) (r : Rewritten) : Type 0 where
  pub reads : Writing sort r.kind (list_of r.numbers) w
  pub only : (k : ℕ) (ns : List ℕ) → Writing sort k ns w → (k ≡ r.kind) × (ns ≡ list_of r.numbers)
  pub same : text_of r.text ≡ w
