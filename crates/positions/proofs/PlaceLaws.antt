-- A loop that changes each element by its place.
use Rattle.std.proofs.Common.{◌≡◌, ℕ, zero, suc, ◌+◌, ◌<◌, ◌≤◌, List, [], ◌∷◌, length, get_or, set, sum_by, sym, refl, ap, ◌∙◌, add-zero, zero-add, add-one, arith}
use Rattle.std.proofs.lemmas.List.Sums.{sum_by-cons}
use Rattle.positions.specs.Places.{each_from, each}

-- the first m elements changed, from place n on
abbrev pub first_from : {X : Type 0} → ℕ → ℕ → (ℕ → X → X) → List X → List X
first_from n zero f xs = xs
first_from n (suc m) f [] = []
first_from n (suc m) f (x ∷ xs) = f n x ∷ first_from (suc n) m f xs

abbrev pub first : {X : Type 0} → ℕ → (ℕ → X → X) → List X → List X
first m f xs = first_from 0 m f xs

module _ {X : Type 0} (f : ℕ → X → X) where
  untouched_from : (n m : ℕ) (xs : List X) (d : X) → get_or (first_from n m f xs) m d ≡ get_or xs m d
  untouched_from n zero xs d = refl
  untouched_from n (suc m) [] d = refl
  untouched_from n (suc m) (x ∷ xs) d = untouched_from (suc n) m xs d

  -- the next element is as it was
  pub first_next : (m : ℕ) (xs : List X) (d : X) → get_or (first m f xs) m d ≡ get_or xs m d
  first_next m xs d = untouched_from 0 m xs d

  more_from : (n m : ℕ) (xs : List X) (d : X) → m < length xs → set (first_from n m f xs) m (f (n + m) (get_or xs m d)) ≡ first_from n (suc m) f xs
  more_from n m [] d h = absurd (omega arith)
  more_from n zero (x ∷ xs) d h = ap (λ (k : ℕ). f k x ∷ xs) (add-zero n)
  more_from n (suc m) (x ∷ xs) d h =
      let k : n + suc m ≡ suc n + m = omega arith in
      ap (λ (k : ℕ). f n x ∷ set (first_from (suc n) m f xs) m (f k (get_or xs m d))) k ∙ ap (λ (ys : List X). f n x ∷ ys) (more_from (suc n) m xs d (omega arith))

  -- one element more
  pub first_more : (m : ℕ) (xs : List X) (d : X) → m < length xs → set (first m f xs) m (f m (get_or xs m d)) ≡ first (m + 1) f xs
  first_more m xs d h = rw add-one (ap (λ (k : ℕ). set (first m f xs) m (f k (get_or xs m d))) (sym (zero-add m)) ∙ more_from 0 m xs d h)

  -- a turn of the loop
  pub first_step : (m : ℕ) (xs ys : List X) (y d : X) → ys ≡ first m f xs → m < length xs → y ≡ f m (get_or ys m d) → set ys m y ≡ first (m + 1) f xs
  first_step m xs ys y d e h is =
      let k : get_or ys m d ≡ get_or xs m d = ap (λ (l : List X). get_or l m d) e ∙ first_next m xs d in
      ap (λ (l : List X). set l m y) e ∙ ap (λ (z : X). set (first m f xs) m z) (is ∙ ap (f m) k) ∙ first_more m xs d h

  all_from : (n m : ℕ) (xs : List X) → length xs ≤ m → first_from n m f xs ≡ each_from n f xs
  all_from n zero [] h = refl
  all_from n zero (x ∷ xs) h = absurd (omega arith)
  all_from n (suc m) [] h = refl
  all_from n (suc m) (x ∷ xs) h = ap (λ (ys : List X). f n x ∷ ys) (all_from (suc n) m xs (omega arith))

  pub first_all : (m : ℕ) (xs : List X) → length xs ≤ m → first m f xs ≡ each f xs
  first_all m xs h = all_from 0 m xs h

  -- ── what each element keeps ──

  each_length_from : (n : ℕ) (xs : List X) → length (each_from n f xs) ≡ length xs
  each_length_from n [] = refl
  each_length_from n (x ∷ xs) = ap suc (each_length_from (suc n) xs)

  pub each_length : (xs : List X) → length (each f xs) ≡ length xs
  each_length xs = each_length_from 0 xs

  -- the element at a place in use
  each_at_from : (n j : ℕ) (xs : List X) (d : X) → j < length xs → get_or (each_from n f xs) j d ≡ f (n + j) (get_or xs j d)
  each_at_from n j [] d h = absurd (omega arith)
  each_at_from n zero (x ∷ xs) d h = ap (λ (k : ℕ). f k x) (sym (add-zero n))
  each_at_from n (suc j) (x ∷ xs) d h = let k : suc n + j ≡ n + suc j = omega arith in each_at_from (suc n) j xs d (omega arith) ∙ ap (λ (k : ℕ). f k (get_or xs j d)) k

  pub each_at : (j : ℕ) (xs : List X) (d : X) → j < length xs → get_or (each f xs) j d ≡ f j (get_or xs j d)
  each_at j xs d h = each_at_from 0 j xs d h ∙ ap (λ (k : ℕ). f k (get_or xs j d)) (zero-add j)

  each_keeps_from : (R : X → X → Type 0) (n j : ℕ) (xs : List X) (d : X) → R d d → ((k : ℕ) → R (get_or xs j d) (f k (get_or xs j d))) → R (get_or xs j d) (get_or (each_from n f xs) j d)
  each_keeps_from R n j [] d past step = past
  each_keeps_from R n zero (x ∷ xs) d past step = step n
  each_keeps_from R n (suc j) (x ∷ xs) d past step = each_keeps_from R (suc n) j xs d past step

  -- what holds between an element and its change, and of the default, holds at each place
  pub each_keeps : (R : X → X → Type 0) (j : ℕ) (xs : List X) (d : X) → R d d → ((k : ℕ) → R (get_or xs j d) (f k (get_or xs j d))) → R (get_or xs j d) (get_or (each f xs) j d)
  each_keeps R j xs d past step = each_keeps_from R 0 j xs d past step

  -- ── sums ──

  sums_even_from : (g h : X → ℕ) (n : ℕ) (xs : List X) → ((k : ℕ) (x : X) → g (f k x) + h x ≡ g x + h (f k x)) → sum_by g (each_from n f xs) + sum_by h xs ≡ sum_by g xs + sum_by h (each_from n f xs)
  sums_even_from g h n [] e = refl
  sums_even_from g h n (x ∷ xs) e =
      let r = sums_even_from g h (suc n) xs e in
      omega (arith, r, e n x, sum_by-cons g x xs, sum_by-cons h x xs, sum_by-cons g (f n x) (each_from (suc n) f xs), sum_by-cons h (f n x) (each_from (suc n) f xs))

  -- two sums that move alike
  pub sums_even : (g h : X → ℕ) (xs : List X) → ((k : ℕ) (x : X) → g (f k x) + h x ≡ g x + h (f k x)) → sum_by g (each f xs) + sum_by h xs ≡ sum_by g xs + sum_by h (each f xs)
  sums_even g h xs e = sums_even_from g h 0 xs e

  sum_falls_from : (g : X → ℕ) (n : ℕ) (xs : List X) → ((k : ℕ) (x : X) → g (f k x) ≤ g x) → sum_by g (each_from n f xs) ≤ sum_by g xs
  sum_falls_from g n [] e = omega arith
  sum_falls_from g n (x ∷ xs) e = let r = sum_falls_from g (suc n) xs e in omega (arith, r, e n x, sum_by-cons g x xs, sum_by-cons g (f n x) (each_from (suc n) f xs))

  pub sum_falls : (g : X → ℕ) (xs : List X) → ((k : ℕ) (x : X) → g (f k x) ≤ g x) → sum_by g (each f xs) ≤ sum_by g xs
  sum_falls g xs e = sum_falls_from g 0 xs e

  sum_stays_from : (g : X → ℕ) (n : ℕ) (xs : List X) → ((k : ℕ) (x : X) → g (f k x) ≡ g x) → sum_by g (each_from n f xs) ≡ sum_by g xs
  sum_stays_from g n [] e = refl
  sum_stays_from g n (x ∷ xs) e = let r = sum_stays_from g (suc n) xs e in omega (arith, r, e n x, sum_by-cons g x xs, sum_by-cons g (f n x) (each_from (suc n) f xs))

  pub sum_stays : (g : X → ℕ) (xs : List X) → ((k : ℕ) (x : X) → g (f k x) ≡ g x) → sum_by g (each f xs) ≡ sum_by g xs
  sum_stays g xs e = sum_stays_from g 0 xs e

  sum_none_from : (g : X → ℕ) (n : ℕ) (xs : List X) → ((k : ℕ) (x : X) → g (f k x) ≡ 0) → sum_by g (each_from n f xs) ≡ 0
  sum_none_from g n [] e = refl
  sum_none_from g n (x ∷ xs) e = let r = sum_none_from g (suc n) xs e in omega (arith, r, e n x, sum_by-cons g (f n x) (each_from (suc n) f xs))

  pub sum_none : (g : X → ℕ) (xs : List X) → ((k : ℕ) (x : X) → g (f k x) ≡ 0) → sum_by g (each f xs) ≡ 0
  sum_none g xs e = sum_none_from g 0 xs e
