-- The checks of a call, in their order, each with the refusal where it fails.
use Rattle.std.specs.Prelude.{◌≡◌, Bool, true, false, List, [], ◌∷◌, Some, None, Option, Result, Ok, Err}

abbrev pub unless : {R : Type 0} → Bool → R → Option R → Option R
unless true r rest = rest
unless false r rest = Some r

-- the refusal of the first check that fails
abbrev pub first_refusal : {R : Type 0} → List (Bool × R) → Option R
first_refusal [] = None
first_refusal (c ∷ cs) = unless c.0 c.1 (first_refusal cs)

abbrev pub AllPass : {R : Type 0} → List (Bool × R) → Type 0
AllPass [] = Unit {0}
AllPass (c ∷ cs) = (c.0 ≡ true) × AllPass cs

-- what the checks of a call answer together: nothing more, or the refusal of the first that fails
abbrev pub passed : {R : Type 0} → Option R → Result (Unit {0}) R
passed None = Ok tt
passed (Some r) = Err r

abbrev pub checked : {R : Type 0} → List (Bool × R) → Result (Unit {0}) R
checked cs = passed (first_refusal cs)
