-- The share of an account, contract by contract, is the overlap of its places with the window, the list laid out twice.
use Rattle.std.proofs.Common.{◌≡◌, ℕ, zero, suc, ◌+◌, ◌-◌, ◌<◌, ◌≤◌, max, cond, ltb, List, length, get_or, sum, sym, ⊎_elim, add-one, arith}
use Rattle.std.proofs.lemmas.Bool.{cases_lt, cond-true, cond-false, lt-ltb, le-ltb}
use Rattle.allocation.specs.Stretch.{in_stretch, how_many, ahead, share}
use Rattle.allocation.proofs.Parts.{overlap, part}
use Rattle.allocation.proofs.Places.{ahead_le}

-- two parts that stand side by side
pub side_by_side : (a b c start stop : ℕ) → a ≤ b → b ≤ c → start ≤ stop → overlap a b start stop + overlap b c start stop ≡ overlap a c start stop
side_by_side a b c start stop h k f =
    ⊎_elim
    (λ (l : start < b).
    let m : max b start ≡ b = omega arith in
    rw m (omega arith))
    (λ (l : b ≤ start).
    let m : max b start ≡ start = omega arith in
    let n : max a start ≡ start = omega arith in
    rw (m, n) (omega arith))
    (cases_lt start b)

pub part_add : (p s r total start stop : ℕ) → start ≤ stop → part p s total start stop + part (p + s) r total start stop ≡ part p (s + r) total start stop
unfolding part
part_add p s r total start stop f =
    let a = side_by_side p (p + s) (p + s + r) start stop (omega arith) (omega arith) f in
    let b = side_by_side (total + p) (total + p + s) (total + p + s + r) start stop (omega arith) (omega arith) f in
    let g : total + (p + s) ≡ total + p + s = omega arith in
    let h : p + (s + r) ≡ p + s + r = omega arith in
    let k : total + p + (s + r) ≡ total + p + s + r = omega arith in
    rw (g, h, k) (omega (arith, a, b))

pub part_none : (p total start stop : ℕ) → part p 0 total start stop ≡ 0
unfolding part
part_none p total start stop = omega arith

module _ (total start count : ℕ) (within : start < total) (enough : count ≤ total) where
  -- one contract
  above_start : (c : ℕ) → c < total → c < start → cond (in_stretch total start count c) 1 0 ≡ part c 1 total start (start + count)
  unfolding part
  above_start c inside l =
      rw (cond-true (ltb c start) (total + c - start) (c - start) (lt-ltb c start l))
      (⊎_elim
      (λ (h : total + c - start < count). rw (lt-ltb (total + c - start) count h) (omega arith))
      (λ (h : count ≤ total + c - start). rw (le-ltb (total + c - start) count h) (omega arith))
      (cases_lt (total + c - start) count))

  from_start : (c : ℕ) → c < total → start ≤ c → cond (in_stretch total start count c) 1 0 ≡ part c 1 total start (start + count)
  unfolding part
  from_start c inside l =
      rw (cond-false (ltb c start) (total + c - start) (c - start) (le-ltb c start l))
      (⊎_elim
      (λ (h : c - start < count). rw (lt-ltb (c - start) count h) (omega arith))
      (λ (h : count ≤ c - start). rw (le-ltb (c - start) count h) (omega arith))
      (cases_lt (c - start) count))

  one_is : (c : ℕ) → c < total → cond (in_stretch total start count c) 1 0 ≡ part c 1 total start (start + count)
  one_is c inside = ⊎_elim (above_start c inside) (from_start c inside) (cases_lt c start)

  pub how_many_is : (p n : ℕ) → p + n ≤ total → how_many (in_stretch total start count) p n ≡ part p n total start (start + count)
  how_many_is p zero h = sym (part_none p total start (start + count))
  how_many_is p (suc n) h =
      let a = how_many_is p n (omega arith) in
      let b = one_is (p + n) (omega arith) in
      let k = part_add p n 1 total start (start + count) (omega arith) in
      rw (a, b, sym (add-one n)) k

-- the window cut off at stop
abbrev pub share_up_to : List ℕ → ℕ → ℕ → ℕ → ℕ
share_up_to shorts start stop i = part (ahead shorts i) (get_or shorts i 0) (sum shorts) start stop

pub share_is : (xs : List ℕ) (start count : ℕ) → start < sum xs → count ≤ sum xs → (i : ℕ) → i < length xs → share xs start count i ≡ share_up_to xs start (start + count) i
unfolding share
share_is xs start count within enough i h = how_many_is (sum xs) start count within enough (ahead xs i) (get_or xs i 0) (ahead_le xs i h)
