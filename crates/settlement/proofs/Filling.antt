-- Lists with at each place what a function gives there: written by a loop, or made by calls.
use denote.Param.Members.{Mut}
use Rattle.std.proofs.Common.{◌≡◌, ℕ, zero, suc, ◌+◌, ◌<◌, ◌≤◌, ◌≢◌, List, map, length, get_or, set, sym, ap, ◌∙◌, subst, zero-add, arith, length-set, get_or-set_other}
use Rattle.std.specs.Array.{IsFromFnResultFrom, IsFromFnResult}
use Rattle.std.specs.Fn.{Called}
use Rattle.std.specs.List.{range_with_len}
use Rattle.std.proofs.lemmas.List.{ext_get_or, get_or-map, length-map}
use Rattle.std.proofs.lemmas.List.FromFn.{length-map-range_with_len, get_or-map-range_with_len, fill_by_all}
use Rattle.std.proofs.lemmas.List.Edits.{fill_by_more}

-- the list xs, written over below place i
pub record Filled {X : Type 0} (f : ℕ → X) (d : X) (xs ys : List X) (i : ℕ) : Type 0 where
  pub size : length ys ≡ length xs
  pub done : (k : ℕ) → k < i → get_or ys k d ≡ f k
  pub rest : (k : ℕ) → i ≤ k → get_or ys k d ≡ get_or xs k d

module _ {X : Type 0} (f : ℕ → X) (d : X) (xs : List X) where
  pub filled_more : (ys : List X) (i : ℕ) (y : X) → Filled f d xs ys i → i < length xs → y ≡ f i → Filled f d xs (set ys i y) (i + 1)
  filled_more ys i y w l e = record {
    size = length-set ys i y ∙ w.size;
    done = rw e (fill_by_more f ys i d (omega (arith, w.size)) w.done);
    rest = λ k h. let ne : k ≢ i = omega arith in get_or-set_other ys i k y d ne ∙ w.rest k (omega arith);
  }

  pub filled_all : (ys : List X) (i : ℕ) → Filled f d xs ys i → length xs ≤ i → ys ≡ map f (range_with_len 0 (length xs))
  filled_all ys i w h = fill_by_all f ys (length xs) d w.size (λ k l. w.done k (omega arith))

-- element by element is place by place
pub map_places : {X Y : Type 0} (f : X → Y) (xs : List X) (d : X) (e : Y) → map (λ k. f (get_or xs k d)) (range_with_len 0 (length xs)) ≡ map f xs
map_places {X} {Y} f xs d e =
    let g : ℕ → Y = λ k. f (get_or xs k d) in
    let size = length-map-range_with_len g 0 (length xs) in
    ext_get_or e (map g (range_with_len 0 (length xs))) (map f xs) (size ∙ sym (length-map xs f))
    (λ i h. let l : i < length xs = omega (arith, size) in get_or-map-range_with_len g 0 (length xs) i i e l (omega arith) ∙ sym (get_or-map f xs i d e l))

-- an array made by calls of a closure that stays as it is
module _ {F X : Type 0} (g : Mut F (ℕ × Unit {0}) X) (h : ℕ → X) (f : F) (same : (k : ℕ) (x : X) (q : F) → Called g f (k, tt) x q → (q ≡ f) × (x ≡ h k)) (xs : List X) where
  made_at : (i n : ℕ) → IsFromFnResultFrom g f xs i n → (j : ℕ) (d : X) → j < n → get_or xs (i + j) d ≡ h (i + j)
  made_at i zero w j d l = absurd (omega arith)
  made_at i (suc n) (q, x, at, called, rest) zero d l = let z : i + 0 ≡ i = omega arith in ap (λ k. get_or xs k d) z ∙ at.1 d ∙ (same i x q called).1 ∙ ap h (sym z)
  made_at i (suc n) (q, x, at, called, rest) (suc j) d l =
      let z : i + 1 + j ≡ i + suc j = omega arith in
      ap (λ k. get_or xs k d) (sym z) ∙ made_at (i + 1) n (subst (λ p. IsFromFnResultFrom g p xs (i + 1) n) (same i x q called).0 rest) j d (omega arith) ∙ ap h z

  pub made_all : (n : ℕ) (d : X) → IsFromFnResult g f xs n → xs ≡ map h (range_with_len 0 n)
  made_all n d w = fill_by_all h xs n d w.long (λ k l. rw zero-add at (made_at 0 n w.each k d l))
