-- Numbers: how many of the contracts [p, p + s) of one account lie in a window [start, stop), the list laid out twice;
-- and the window cut off at a place P that the walk has reached.
use Rattle.std.proofs.Common.{◌≡◌, ℕ, ◌+◌, ◌-◌, ◌<◌, ◌≤◌, min, max, ◌⊎◌, ⊎_elim, arith}

-- how many places [a, b) and [c, d) share
abbrev pub overlap : ℕ → ℕ → ℕ → ℕ → ℕ
overlap a b c d = min b d - max a c

-- how many of the s places from p on lie in [start, stop), where the places from `total` on are the first ones again
unfoldable pub part : ℕ → ℕ → ℕ → ℕ → ℕ → ℕ
part p s total start stop = overlap p (p + s) start stop + overlap (total + p) (total + p + s) start stop

-- the window cut off at its start
pub nothing : (p s total start stop : ℕ) → stop ≤ start → part p s total start stop ≡ 0
unfolding part
nothing p s total start stop h = omega arith

-- the walk stands at p, on its first way down the list or on its second
abbrev pub Stands : ℕ → ℕ → ℕ → Type 0
Stands P p total = (P ≡ p) ⊎ (P ≡ total + p)

pub part_le : (p s total start stop : ℕ) → p + s ≤ total → stop ≤ start + total → part p s total start stop ≤ s
unfolding part
part_le p s total start stop inside once = omega arith

module _ (p s total start e : ℕ) (inside : p + s ≤ total) (within : start < total) (forward : start ≤ e) (once : e ≤ start + total) where
  module _ (P : ℕ) where
    skips_first : P ≡ p → (start - P) - min (start - P) (s - part p s total start (min e P)) ≡ start - (P + s)
    unfolding part
    skips_first b = omega arith

    skips_again : P ≡ total + p → (start - P) - min (start - P) (s - part p s total start (min e P)) ≡ start - (P + s)
    unfolding part
    skips_again b = omega arith

    pub skips : Stands P p total → (start - P) - min (start - P) (s - part p s total start (min e P)) ≡ start - (P + s)
    skips = ⊎_elim skips_first skips_again

    -- what the account gives
    abbrev pub gives : ℕ
    gives = min ((s - part p s total start (min e P)) - min (start - P) (s - part p s total start (min e P))) (e - max start P)

    first_none : P ≡ p → part p s total start (min e P) ≡ 0
    unfolding part
    first_none b = omega arith

    first_all : P ≡ p → part p s total start (min e (P + s)) ≡ min e (P + s) - max P start
    unfolding part
    first_all b = omega arith

    abbrev first : ℕ
    first = min (p + s) e - max p start

    again_none : P ≡ total + p → part p s total start (min e P) ≡ first
    unfolding part
    again_none b = omega arith

    again_all : P ≡ total + p → part p s total start (min e (P + s)) ≡ first + (min (P + s) e - P)
    unfolding part
    again_all b =
        let h1 : min (p + s) (min e (P + s)) ≡ min (p + s) e = omega arith in
        let h2 : min (total + p + s) (min e (P + s)) - max (total + p) start ≡ min (P + s) e - P = omega arith in
        rw (h1, h2)

    again_gives : P ≡ total + p → min (s - first) (e - P) ≡ min (P + s) e - P
    again_gives b = omega arith

    needs_first : P ≡ p → (e - max start P) - gives ≡ e - max start (P + s)
    needs_first b = rw (first_none b) (omega arith)

    needs_again : P ≡ total + p → (e - max start P) - gives ≡ e - max start (P + s)
    unfolding part
    needs_again b = omega arith

    pub needs_less : Stands P p total → (e - max start P) - gives ≡ e - max start (P + s)
    needs_less = ⊎_elim needs_first needs_again

    takes_first : P ≡ p → part p s total start (min e P) + gives ≡ part p s total start (min e (P + s))
    takes_first b =
        let h : (s - 0) - min (start - P) (s - 0) ≡ s - (start - P) = omega arith in
        rw (first_none b, first_all b, h) (omega arith)

    takes_again : P ≡ total + p → part p s total start (min e P) + gives ≡ part p s total start (min e (P + s))
    takes_again b =
        let g = again_gives b in
        let h : (s - first) - min (start - P) (s - first) ≡ s - first = omega arith in
        let k : max start P ≡ P = omega arith in
        rw (again_none b, again_all b, h, k) (omega arith)

    pub takes : Stands P p total → part p s total start (min e P) + gives ≡ part p s total start (min e (P + s))
    takes = ⊎_elim takes_first takes_again

    -- another account gives nothing meanwhile
    module _ (p' s' : ℕ) (inside' : p' + s' ≤ total) where
      abbrev Same : Type 0
      Same = part p' s' total start (min e P) ≡ part p' s' total start (min e (P + s))

      before_first : p' + s' ≤ p → P ≡ p → Same
      unfolding part
      before_first b h =
          let h1 : min (p' + s') (min e P) ≡ min (p' + s') (min e (P + s)) = omega arith in
          let h2 : min (total + p' + s') (min e P) - max (total + p') start ≡ 0 = omega arith in
          let h3 : min (total + p' + s') (min e (P + s)) - max (total + p') start ≡ 0 = omega arith in
          rw (h1, h2, h3)

      before_again : p' + s' ≤ p → P ≡ total + p → Same
      unfolding part
      before_again b h =
          let h1 : min (p' + s') (min e P) ≡ min (p' + s') (min e (P + s)) = omega arith in
          let h2 : min (total + p' + s') (min e P) ≡ min (total + p' + s') (min e (P + s)) = omega arith in
          rw (h1, h2)

      after_first : p + s ≤ p' → P ≡ p → Same
      unfolding part
      after_first b h =
          let h1 : min (p' + s') (min e P) - max p' start ≡ 0 = omega arith in
          let h2 : min (p' + s') (min e (P + s)) - max p' start ≡ 0 = omega arith in
          let h3 : min (total + p' + s') (min e P) - max (total + p') start ≡ 0 = omega arith in
          let h4 : min (total + p' + s') (min e (P + s)) - max (total + p') start ≡ 0 = omega arith in
          rw (h1, h2, h3, h4)

      after_again : p + s ≤ p' → P ≡ total + p → Same
      unfolding part
      after_again b h =
          let h1 : min (p' + s') (min e P) ≡ min (p' + s') (min e (P + s)) = omega arith in
          let h3 : min (total + p' + s') (min e P) - max (total + p') start ≡ 0 = omega arith in
          let h4 : min (total + p' + s') (min e (P + s)) - max (total + p') start ≡ 0 = omega arith in
          rw (h1, h3, h4)

      pub apart : (p' + s' ≤ p) ⊎ (p + s ≤ p') → Stands P p total → Same
      apart = ⊎_elim (λ b. ⊎_elim (before_first b) (before_again b)) (λ b. ⊎_elim (after_first b) (after_again b))
