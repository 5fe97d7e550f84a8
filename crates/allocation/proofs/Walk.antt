-- What the walk of one draw has done when it stands at the place P of the list, laid out twice.
use Rattle.std.proofs.Common.{◌≡◌, ℕ, ◌+◌, ◌-◌, ◌<◌, ◌≤◌, min, max, ◌≢◌, ◌⊎◌, List, length, get_or, set, sum, sym, ◌∙◌, subst, inl, inr, ⊎_elim, arith}
use Rattle.std.proofs.lemmas.List.{get_or-set_same, get_or-set_other, length-set}
use Rattle.std.proofs.lemmas.Bool.{cases_lt, cases_order, cases_eq}
use Rattle.allocation.specs.Stretch.{ahead, share}
use Rattle.allocation.proofs.Parts.{part, nothing, Stands, part_le, skips, gives, needs_less, takes, apart}
use Rattle.allocation.proofs.Shares.{share_up_to, share_is}
use Rattle.allocation.proofs.Places.{unassigned, ahead_more, ahead_le, ahead_before, length_less, getd_less, length_unassigned}

-- skip contracts are still to be passed and need still to be taken, and the accounts have got what the window gives up to P
pub record Walked (shorts old : List ℕ) (start count P : ℕ) (assigned : List ℕ) (skip need : ℕ) : Type 0 where
  pub covered : (i : ℕ) → i < length shorts → get_or old i 0 ≤ get_or shorts i 0
  pub within : start < sum (unassigned shorts old)
  pub enough : count ≤ sum (unassigned shorts old)
  pub size : length assigned ≡ length shorts
  pub skipped : skip ≡ start - P
  pub needed : need ≡ (start + count) - max start P
  pub got : (i : ℕ) → i < length shorts → get_or assigned i 0 ≡ get_or old i 0 + share_up_to (unassigned shorts old) start (min (start + count) P) i

module _ (shorts old : List ℕ) (start count : ℕ) where
  abbrev R : List ℕ
  R = unassigned shorts old

  module _ (base i skip need : ℕ) (assigned : List ℕ) (at : i < length shorts) (way : (base ≡ 0) ⊎ (base ≡ sum R)) (w : Walked shorts old start count (base + ahead R i) assigned skip need) where
    within : start < sum R
    within = w.within

    enough : count ≤ sum R
    enough = w.enough

    covered : (i : ℕ) → i < length shorts → get_or old i 0 ≤ get_or shorts i 0
    covered = w.covered

    at_r : i < length R
    at_r = omega (arith, length_less shorts (λ i. get_or old i 0))

    s_is : get_or R i 0 ≡ get_or shorts i 0 - get_or old i 0
    s_is = getd_less shorts (λ i. get_or old i 0) i at

    stands : Stands (base + ahead R i) (ahead R i) (sum R)
    stands = ⊎_elim (λ (h : base ≡ 0). inl (omega arith)) (λ (h : base ≡ sum R). inr (omega arith)) way

    abbrev C : ℕ
    C = part (ahead R i) (get_or R i 0) (sum R) start (min (start + count) (base + ahead R i))

    -- what of the account is not assigned yet
    open_is : get_or shorts i 0 - get_or assigned i 0 ≡ get_or R i 0 - C
    open_is = omega (arith, w.got i at, s_is, covered i at)

    inside : ahead R i + get_or R i 0 ≤ sum R
    inside = ahead_le R i at_r

    pub still_covered : get_or assigned i 0 ≤ get_or shorts i 0
    still_covered =
        omega (arith, w.got i at, s_is, covered i at, part_le (ahead R i) (get_or R i 0) (sum R) start (min (start + count) (base + ahead R i)) inside (omega arith))

    module _ (passed taken : ℕ) (passed_is : passed ≡ min skip (get_or shorts i 0 - get_or assigned i 0)) (taken_is : taken ≡ min ((get_or shorts i 0 - get_or assigned i 0) - passed) need) where
      abbrev e : ℕ
      e = start + count

      abbrev P : ℕ
      P = base + ahead R i

      more : base + ahead R (i + 1) ≡ P + get_or R i 0
      more = omega (arith, ahead_more R i at_r)

      passed_as : passed ≡ min (start - P) (get_or R i 0 - C)
      passed_as = rw (open_is, w.skipped) at passed_is

      taken_as : taken ≡ gives (ahead R i) (get_or R i 0) (sum R) start e inside within (omega arith) (omega arith) P
      taken_as = rw (open_is, w.needed, passed_as) at taken_is

      skipped_more : skip - passed ≡ start - (base + ahead R (i + 1))
      skipped_more = rw (more, w.skipped, passed_as) (skips (ahead R i) (get_or R i 0) (sum R) start e inside within (omega arith) (omega arith) P stands)

      needed_more : need - taken ≡ e - max start (base + ahead R (i + 1))
      needed_more = rw (more, w.needed, taken_as) (needs_less (ahead R i) (get_or R i 0) (sum R) start e inside within (omega arith) (omega arith) P stands)

      here : get_or (set assigned i (get_or assigned i 0 + taken)) i 0 ≡ get_or old i 0 + share_up_to R start (min e (base + ahead R (i + 1))) i
      here =
          let l : i < length assigned = omega (arith, w.size) in
          let t = takes (ahead R i) (get_or R i 0) (sum R) start e inside within (omega arith) (omega arith) P stands in
          rw (get_or-set_same, more) (omega (arith, w.got i at, taken_as, t))

      other : (k : ℕ) → k < length shorts → k ≢ i → get_or (set assigned i (get_or assigned i 0 + taken)) k 0 ≡ get_or old k 0 + share_up_to R start (min e (base + ahead R (i + 1))) k
      other k h ne =
          let at-k : k < length R = omega (arith, length_less shorts (λ i. get_or old i 0)) in
          let side : (ahead R k + get_or R k 0 ≤ ahead R i) ⊎ (ahead R i + get_or R i 0 ≤ ahead R k) =
          ⊎_elim (λ (q : k ≡ i). absurd (ne q)) (⊎_elim (λ q. inl (ahead_before R k i at-k q)) (λ q. inr (ahead_before R i k at_r q))) (cases_order k i) in
          let a = apart (ahead R i) (get_or R i 0) (sum R) start e inside within (omega arith) (omega arith) P (ahead R k) (get_or R k 0) (ahead_le R k at-k) side stands in
          rw (get_or-set_other, more) (omega (arith, w.got k h, a))

      pub walked_more : Walked shorts old start count (base + ahead R (i + 1)) (set assigned i (get_or assigned i 0 + taken)) (skip - passed) (need - taken)
      walked_more = record {
        covered = w.covered;
        within = w.within;
        enough = w.enough;
        size = length-set assigned i (get_or assigned i 0 + taken) ∙ w.size;
        skipped = skipped_more;
        needed = needed_more;
        got = λ k h. ⊎_elim (λ (q : k ≡ i). subst (λ k. get_or (set assigned i (get_or assigned i 0 + taken)) k 0 ≡ get_or old k 0 + share_up_to R start (min e (base + ahead R (i + 1))) k) (sym q) here) (λ q. other k h q) (cases_eq k i);
      }

-- with nothing more to take, each account has got its share of the stretch
module _ {shorts old assigned : List ℕ} {start count P skip need : ℕ} (w : Walked shorts old start count P assigned skip need) where
  whole : (i : ℕ) → i < length shorts → share (unassigned shorts old) start count i ≡ share_up_to (unassigned shorts old) start (start + count) i
  whole i h = share_is (unassigned shorts old) start count w.within w.enough i (omega (arith, length_unassigned shorts old))

  pub walk_filled : need ≡ 0 → (i : ℕ) → i < length shorts → get_or assigned i 0 ≡ get_or old i 0 + share (unassigned shorts old) start count i
  walk_filled filled i h =
      let R = unassigned shorts old in
      ⊎_elim
      (λ (l : P < start + count).
      let z : count ≡ 0 = omega (arith, w.needed) in
      rw (whole i h, nothing (ahead R i) (get_or R i 0) (sum R) start (start + count) (omega arith))
      (rw (nothing (ahead R i) (get_or R i 0) (sum R) start (min (start + count) P) (omega arith)) at (w.got i h)))
      (λ (l : start + count ≤ P).
      let e : min (start + count) P ≡ start + count = omega arith in
      rw (whole i h) (rw e at (w.got i h)))
      (cases_lt P (start + count))
