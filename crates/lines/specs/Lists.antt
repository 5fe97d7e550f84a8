-- What a list of numbers holds.
use Rattle.std.specs.Prelude.{ℕ, List, take}
use Rattle.few.specs.Contents.{contents}
use Rattle.lines.specs.declared.numbers.Numbers.{Numbers}

-- a list of numbers has room for 9: seven fields, reply and result
abbrev pub nine : List ℕ → List ℕ
nine xs = take 9 xs

abbrev pub list_of : Numbers → List ℕ
list_of n = contents n.values
