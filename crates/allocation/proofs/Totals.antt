-- What one draw takes of all accounts together.
use Rattle.std.proofs.Common.{◌≡◌, ℕ, zero, suc, ◌+◌, ◌-◌, ◌<◌, ◌≤◌, List, map, length, get_or, sum, sym, refl, ap, ◌∙◌, add-one, arith}
use Rattle.std.specs.List.{range_with_len}
use Rattle.std.proofs.lemmas.List.{take_all}
use Rattle.std.proofs.lemmas.List.FromFn.{sum_by-map-range_with_len_more}
use Rattle.allocation.specs.Stretch.{ahead, share, less}
use Rattle.allocation.proofs.Parts.{part, part_le}
use Rattle.allocation.proofs.Shares.{part_add, part_none, share_up_to, share_is}
use Rattle.allocation.proofs.Places.{ahead_more, ahead_le}

-- f 0 + .. + f (n - 1)
abbrev pub over : (ℕ → ℕ) → ℕ → ℕ
over f n = sum (map f (range_with_len 0 n))

pub over_more : (f : ℕ → ℕ) (n : ℕ) → over f (n + 1) ≡ over f n + f n
over_more f n = sum_by-map-range_with_len_more (λ x. x) f 0 n n (omega arith)

pub ahead_all : (xs : List ℕ) → ahead xs (length xs) ≡ sum xs
ahead_all xs = ap sum (take_all (length xs) xs (omega arith))

pub over_same : (f g : ℕ → ℕ) (n : ℕ) → ((i : ℕ) → i < n → f i ≡ g i) → over f n ≡ over g n
over_same f g zero same = refl
over_same f g (suc n) same =
    let go : over f (n + 1) ≡ over g (n + 1) =
    omega (arith, over_more f n, over_more g n, over_same f g n (λ i h. same i (omega arith)), same n (omega arith)) in
    rw (add-one n) at go

part_all : (total start stop : ℕ) → start ≤ stop → start < total → stop ≤ start + total → part 0 total total start stop ≡ stop - start
unfolding part
part_all total start stop f w o = omega arith

module _ (xs : List ℕ) (start count : ℕ) (within : start < sum xs) (enough : count ≤ sum xs) where
  up_to_over : (n : ℕ) → n ≤ length xs → over (share_up_to xs start (start + count)) n ≡ part 0 (ahead xs n) (sum xs) start (start + count)
  up_to_over zero h = sym (part_none 0 (sum xs) start (start + count))
  up_to_over (suc n) h =
      let z : 0 + ahead xs n ≡ ahead xs n = omega arith in
      let add = rw z at (part_add 0 (ahead xs n) (get_or xs n 0) (sum xs) start (start + count) (omega arith)) in
      let go : over (share_up_to xs start (start + count)) (n + 1) ≡ part 0 (ahead xs (n + 1)) (sum xs) start (start + count) =
      rw (over_more (share_up_to xs start (start + count)) n, up_to_over n (omega arith), ahead_more xs n (omega arith)) add in
      rw (add-one n) at go

  -- the shares are the whole stretch
  pub share_sum : over (share xs start count) (length xs) ≡ count
  share_sum =
      let all = part_all (sum xs) start (start + count) (omega arith) within (omega arith) in
      let walk = up_to_over (length xs) (omega arith) ∙ ap (λ a. part 0 a (sum xs) start (start + count)) (ahead_all xs) in
      omega (arith, over_same (share xs start count) (share_up_to xs start (start + count)) (length xs) (share_is xs start count within enough), walk, all)

  pub share_le : (i : ℕ) → i < length xs → share xs start count i ≤ get_or xs i 0
  share_le i h = rw (share_is xs start count within enough i h) (part_le (ahead xs i) (get_or xs i 0) (sum xs) start (start + count) (ahead_le xs i h) (omega arith))

less_over : (xs : List ℕ) (f : ℕ → ℕ) → ((i : ℕ) → i < length xs → f i ≤ get_or xs i 0) → (n : ℕ) → n ≤ length xs → over (λ i. get_or xs i 0 - f i) n + over f n ≡ ahead xs n
less_over xs f small zero h = refl
less_over xs f small (suc n) h =
    let go : over (λ i. get_or xs i 0 - f i) (n + 1) + over f (n + 1) ≡ ahead xs (n + 1) =
    omega (arith, over_more (λ i. get_or xs i 0 - f i) n, over_more f n, ahead_more xs n (omega arith), less_over xs f small n (omega arith), small n (omega arith)) in
    rw (add-one n) at go

pub sum_less : (xs : List ℕ) (f : ℕ → ℕ) → ((i : ℕ) → i < length xs → f i ≤ get_or xs i 0) → sum (less xs f) + over f (length xs) ≡ sum xs
sum_less xs f small = less_over xs f small (length xs) (omega arith) ∙ ahead_all xs
