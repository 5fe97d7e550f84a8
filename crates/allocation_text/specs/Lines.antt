-- Lines that are passed over.
use Rattle.std.specs.Prelude.{ℕ, Bool, true, List, [], ◌∷◌, ◌==◌}

-- an empty line, or one whose first byte is #
abbrev pub silent : List ℕ → Bool
silent [] = true
silent (b ∷ _) = b == 35
