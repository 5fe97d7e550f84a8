-- What a line is read as.
use Rattle.std.specs.Prelude.{◌≡◌, ℕ, List}
use Rattle.std.specs.Str.Parse.{digits_value as value}
use Rattle.std.specs.List.{AllByRecursion}
use Rattle.lines.specs.Kinds.{IsNumber}
use Rattle.lines.specs.declared.line.Line.{Line}
use Rattle.lines.specs.declared.line.Filled.{Filled}
use Rattle.lines.specs.Parts.{kind_of, parts_of, numbers_of, kind_in, parts_in, numbers_in}
use Rattle.lines.specs.Lines.{InputLine, FilledLine}

-- w is the writing of the numbers of l, and of no others
pub record ReadsInput (w : List ℕ) (l : Line) : Type 0 where
  pub digits : AllByRecursion (IsNumber 8) (parts_of l)
  pub is : InputLine (kind_of l) (numbers_of l) w
  pub only : (k : ℕ) (ns : List ℕ) → InputLine k ns w → (k ≡ kind_of l) × (ns ≡ numbers_of l)

abbrev pub reply_of : Filled → ℕ
reply_of f = value 10 f.reply.now

abbrev pub result_of : Filled → ℕ
result_of f = value 10 f.result.now

-- w is the writing of the numbers of f, and of no others
pub record ReadsFilled (w : List ℕ) (f : Filled) : Type 0 where
  pub digits : AllByRecursion (IsNumber 8) (parts_in f.line)
  pub answer_digits : IsNumber 8 f.reply.now × IsNumber 8 f.result.now
  pub is : FilledLine (kind_in f.line) (numbers_in f.line) (reply_of f) (result_of f) w
  pub only : (k : ℕ) (ns : List ℕ) (reply result : ℕ) → FilledLine k ns reply result w → (k ≡ kind_in f.line) × (ns ≡ numbers_in f.line) × (reply ≡ reply_of f) × (result ≡ result_of f)
