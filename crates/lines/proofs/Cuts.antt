-- Lists that are written up to a capacity.
use Rattle.std.proofs.Common.{◌≡◌, ℕ, ◌+◌, ◌<◌, ◌≤◌, List, [], ◌∷◌, ◌++◌, map, length, get_or, take, sym, refl, ap, ◌∙◌, ⊎_elim, append_assoc, append-nil, suc-add, zero-add, arith}
use Rattle.std.specs.List.{flat_map}
use Rattle.std.proofs.lemmas.List.{flat_map_more, map_push, take_all, take-take, take-append-le, take_more, length-take-le}
use Rattle.std.proofs.lemmas.Bool.{cases_lt}

pub take_past : {X : Type 0} (m : ℕ) (xs ys : List X) → take (length xs + m) (xs ++ ys) ≡ xs ++ take m ys
take_past m [] ys = rw (zero-add m) refl
take_past m (x ∷ xs) ys = rw (suc-add (length xs) m) (ap (λ l. x ∷ l) (take_past m xs ys))

cut_front : {X : Type 0} (n : ℕ) (xs ys : List X) → take n (take n xs ++ ys) ≡ take n (xs ++ ys)
cut_front n xs ys =
    ⊎_elim
    (λ l. ap (λ t. take n (t ++ ys)) (take_all n xs (omega arith)))
    (λ l.
    let k = length-take-le n xs l in
    take-append-le n (take n xs) ys (omega arith) ∙ take-take n n xs (omega arith) ∙ sym (take-append-le n xs ys l))
    (cases_lt (length xs) n)

-- a list that was cut, with nothing added
pub cut_same : {X : Type 0} (n : ℕ) (xs : List X) → take n xs ≡ take n (take n xs ++ [])
cut_same n xs = sym (take-take n n xs (omega arith)) ∙ ap (take n) (sym (append-nil (take n xs)))

-- one part after another
pub cut_more : {X : Type 0} (n : ℕ) (a b old xs ys : List X) → a ≡ take n (old ++ xs) → b ≡ take n (a ++ ys) → b ≡ take n (old ++ (xs ++ ys))
cut_more n a b old xs ys e f = f ∙ ap (λ t. take n (t ++ ys)) e ∙ cut_front n (old ++ xs) ys ∙ ap (take n) (append_assoc old xs ys)

-- nothing written yet
pub cut_none : {X : Type 0} (n : ℕ) (a b xs : List X) → a ≡ [] → b ≡ take n (a ++ xs) → b ≡ take n xs
cut_none n a b xs e f = f ∙ ap (λ t. take n (t ++ xs)) e

-- all fits
pub cut_all : {X : Type 0} (n : ℕ) (a xs : List X) → length xs ≤ n → a ≡ take n xs → a ≡ xs
cut_all n a xs l e = e ∙ take_all n xs l

-- a loop that appends the writing of one element after another
pub part_next : {X : Type 0} (n : ℕ) (f : X → List ℕ) (old a b : List ℕ) (xs : List X) (i : ℕ) (d : X) → i < length xs → a ≡ take n (old ++ flat_map f (take i xs)) → b ≡ take n (a ++ f (get_or xs i d)) → b ≡ take n (old ++ flat_map f (take (i + 1) xs))
part_next n f old a b xs i d l e eb =
    let t : flat_map f (take i xs) ++ f (get_or xs i d) ≡ flat_map f (take (i + 1) xs) = flat_map_more f [] (take i xs) (get_or xs i d) ∙ ap (flat_map f) (sym (take_more xs i d l)) in
    cut_more n a b old (flat_map f (take i xs)) (f (get_or xs i d)) e eb ∙ ap (λ u. take n (old ++ u)) t

-- a loop that appends the value of one element after another
pub map_next : {X Y : Type 0} (n : ℕ) (f : X → Y) (a b : List Y) (y : Y) (xs : List X) (i : ℕ) (d : X) → i < length xs → a ≡ take n (map f (take i xs)) → y ≡ f (get_or xs i d) → b ≡ take n (a ++ (y ∷ [])) → b ≡ take n (map f (take (i + 1) xs))
map_next n f a b y xs i d l e ey eb =
    cut_more n a b [] (map f (take i xs)) (y ∷ []) e eb ∙ ap (λ v. take n (map f (take i xs) ++ (v ∷ []))) ey ∙ ap (take n) (sym (map_push f (take i xs) (get_or xs i d))) ∙ ap (λ t. take n (map f t)) (sym (take_more xs i d l))
