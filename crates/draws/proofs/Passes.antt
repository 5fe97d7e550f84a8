-- Where no refusal speaks, every check has passed.
use Rattle.std.proofs.Common.{◌≡◌, Bool, true, false, List, [], ◌∷◌, None, Option, refl}
use Rattle.draws.specs.Checks.{unless, first_refusal, AllPass}

pub unless_none : {R : Type 0} (b : Bool) (r : R) (rest : Option R) → unless b r rest ≡ None → (b ≡ true) × (rest ≡ None)
unless_none true r rest e = (refl, e)
unless_none false r rest e = absurd (cc e)

pub all_pass : {R : Type 0} (cs : List (Bool × R)) → first_refusal cs ≡ None → AllPass cs
all_pass [] e = tt
all_pass (c ∷ cs) e = let p = unless_none c.0 c.1 (first_refusal cs) e in (p.0, all_pass cs p.1)
