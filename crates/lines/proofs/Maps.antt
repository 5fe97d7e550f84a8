-- Lists that are mapped.
use Rattle.std.proofs.Common.{◌≡◌, ℕ, suc, ◌<◌, List, [], ◌∷◌, map, length, get_or, Some, refl, ap, ◌∙◌, subst, arith}
use Rattle.std.specs.Array.{list_steps}
use Rattle.std.specs.Iterator.{Yields}
use Rattle.std.specs.List.{AllByRecursion}

pub all_of_map : {X Y : Type 0} (P : Y → Type 0) (f : X → Y) (xs : List X) → AllByRecursion P (map f xs) → AllByRecursion (λ x. P (f x)) xs
all_of_map P f [] h = tt
all_of_map P f (x ∷ xs) h = (h.0, all_of_map P f xs h.1)

pub map_map : {X Y Z : Type 0} (f : Y → Z) (g : X → Y) (xs : List X) → map f (map g xs) ≡ map (λ x. f (g x)) xs
map_map f g [] = refl
map_map f g (x ∷ xs) = ap (λ l. f (g x) ∷ l) (map_map f g xs)

-- what comes of an array comes of its elements
pub all_come : {X : Type 0} (P : X → Type 0) (all xs t : List X) (x : X) (u : List X) → AllByRecursion P all → Yields list_steps all xs t → list_steps t (Some x) u → P x
all_come P all [] t x u h y s = (subst (AllByRecursion P) (y ∙ s) h).0
all_come P all (z ∷ xs) t x u h y s = all_come P y.0 xs t x u (subst (AllByRecursion P) y.1 h).1 y.2 s

-- a list that has the value of each element is the list mapped
pub mapped_by_all : {X Y : Type 0} (f : X → Y) (xs : List X) (ys : List Y) → length ys ≡ length xs → ((i : ℕ) (d : X) (e : Y) → i < length xs → get_or ys i e ≡ f (get_or xs i d)) → ys ≡ map f xs
mapped_by_all f [] [] e h = refl
mapped_by_all f [] (y ∷ ys) e h = absurd (omega arith)
mapped_by_all f (x ∷ xs) [] e h = absurd (omega arith)
mapped_by_all f (x ∷ xs) (y ∷ ys) e h =
    let a : y ≡ f x = h 0 x y (omega arith) in
    let b = mapped_by_all f xs ys (omega arith) (λ i d g l. h (suc i) d g (omega arith)) in
    cc
