-- A list changed element by element, each by its place.
use Rattle.std.specs.Prelude.{ℕ, suc, List, [], ◌∷◌}

-- from place n on
abbrev pub each_from : {X : Type 0} → ℕ → (ℕ → X → X) → List X → List X
each_from n f [] = []
each_from n f (x ∷ xs) = f n x ∷ each_from (suc n) f xs

abbrev pub each : {X : Type 0} → (ℕ → X → X) → List X → List X
each f xs = each_from 0 f xs
