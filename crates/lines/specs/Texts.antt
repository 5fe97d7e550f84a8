-- What a text holds.
use Rattle.std.specs.Prelude.{ℕ, List, take, Option, MatchOption}
use Rattle.few.specs.Contents.{contents}
use Rattle.lines.specs.declared.text.Text.{Text}

-- a text has room for 170 bytes
abbrev pub cut : List ℕ → List ℕ
cut xs = take 170 xs

abbrev pub text_of : Text → List ℕ
text_of t = contents t.bytes

-- r is the text of the line L, and none where L holds of no text
abbrev pub WrittenAs : Option Text → (List ℕ → Type 0) → Type 0
WrittenAs r L = MatchOption r ((w : List ℕ) → L w → ⊥) (λ t. L (text_of t))
