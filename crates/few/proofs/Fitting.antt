-- Where an item has room, and where it has none.
use Rattle.std.proofs.Common.{◌≡◌, ℕ, ◌-◌, ◌<◌, List, [], ◌∷◌, ◌++◌, length, take, ap, ◌∙◌, arith, length-append}
use Rattle.std.proofs.lemmas.List.{take_all, take_min}
use Rattle.std.proofs.lemmas.Slice.{overwrites, between_is}
use Rattle.std.proofs.Math.Seq.{take-append-add}

pub push_fits : {X : Type 0} (n : ℕ) (xs : List X) (x : X) → length xs < n → take n (xs ++ (x ∷ [])) ≡ xs ++ (x ∷ [])
push_fits n xs x room = take_all n (xs ++ (x ∷ [])) (omega (arith, length-append xs (x ∷ [])))

-- one place less is free
pub push_leaves : {X : Type 0} (n : ℕ) (xs ys : List X) (x : X) → ys ≡ xs ++ (x ∷ []) → n - length ys ≡ n - length xs - 1
push_leaves n xs ys x e = omega (arith, ap length e ∙ length-append xs (x ∷ []))

pub ruleset overwritten = (overwrites, take_min, take-append-add, between_is)
