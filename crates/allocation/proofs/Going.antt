-- How far the draws have come, by what is left to do.
use Rattle.std.proofs.Common.{◌≡◌, ℕ, suc, ◌+◌, ◌-◌, ◌<◌, ◌≤◌, min, List, [], length, get_or, replicate, sum, sym, refl, ap, ◌∙◌, ⊎_elim, arith}
use Rattle.std.proofs.lemmas.List.{ext_get_or, get_or-replicate, length-replicate}
use Rattle.std.proofs.lemmas.List.FromFn.{fill_by_all}
use Rattle.std.proofs.lemmas.Bool.{cases_lt}
use Rattle.draws.specs.Meaning.{Meaning, behind, behind_all}
use Rattle.allocation.specs.Stretch.{share, less}
use Rattle.allocation.specs.Assigned.{draws_needed, bounds, assigned_to, assigned_by}
use Rattle.allocation.proofs.Places.{unassigned, length_less, getd_less, length_unassigned}
use Rattle.allocation.proofs.Totals.{share_sum, share_le, sum_less}
use Rattle.allocation.proofs.Needed.{needed_none, needed_more}

pub record Going (first m : Meaning) (shorts : List ℕ) (exercised block : ℕ) (assigned : List ℕ) (remaining left : ℕ) : Type 0 where
  pub size : length assigned ≡ length shorts
  pub covered : (i : ℕ) → i < length shorts → get_or assigned i 0 ≤ get_or shorts i 0
  pub remains : remaining ≡ sum (unassigned shorts assigned)
  pub enough : left ≤ remaining
  pub few : remaining ≤ 100_000
  pub supplied : draws_needed left block ≤ m.supply
  pub rest : (i : ℕ) → i < length shorts → get_or assigned i 0 + assigned_to (draws_needed left block) m block left (unassigned shorts assigned) i ≡ assigned_to (draws_needed exercised block) first block exercised shorts i
  pub drawn : behind_all (bounds (draws_needed left block) remaining block) m ≡ behind_all (bounds (draws_needed exercised block) (sum shorts) block) first

module _ (first : Meaning) (shorts : List ℕ) (exercised block : ℕ) (positive : 0 < block) where
  abbrev zeros : List ℕ
  zeros = replicate (length shorts) 0

  zero : (i : ℕ) → i < length shorts → get_or zeros i 0 ≡ 0
  zero i h = get_or-replicate (length shorts) i _ _ h

  all_open : unassigned shorts zeros ≡ shorts
  all_open =
      ext_get_or 0 _ _ (length_unassigned shorts zeros) (λ i h.
      let l : i < length shorts = omega (arith, length_unassigned shorts zeros) in
      omega (arith, getd_less shorts (λ i. get_or zeros i 0) i l, zero i l))

  pub going_none : sum shorts ≤ 100_000 → exercised ≤ sum shorts → draws_needed exercised block ≤ first.supply → Going first first shorts exercised block zeros (sum shorts) exercised
  going_none few enough supplied = record {
    size = length-replicate (length shorts) 0;
    covered = λ i h. omega (arith, zero i h);
    remains = ap sum (sym all_open);
    enough = enough;
    few = few;
    supplied = supplied;
    rest = λ i h. rw all_open (omega (arith, zero i h));
    drawn = refl;
  }

  pub going_all : (m : Meaning) (assigned : List ℕ) (remaining : ℕ) → Going first m shorts exercised block assigned remaining 0 → (assigned ≡ assigned_by first block exercised shorts) × (m ≡ behind_all (bounds (draws_needed exercised block) (sum shorts) block) first)
  going_all m assigned remaining w =
      let z = needed_none block positive in (
        fill_by_all (assigned_to (draws_needed exercised block) first block exercised shorts) assigned (length shorts) 0 w.size (λ i h. omega (arith, rw z at (w.rest i h))),
        rw z at w.drawn,
      )

  -- one draw more
  module _ (m : Meaning) (assigned : List ℕ) (remaining left : ℕ) (w : Going first m shorts exercised block assigned remaining left) (some : 0 < left) where
    abbrev R : List ℕ
    R = unassigned shorts assigned

    abbrev start : ℕ
    start = m.answer [] (sum R)

    abbrev count : ℕ
    count = min block left

    abbrev q' : ℕ
    q' = draws_needed (left - count) block

    q_is : draws_needed left block ≡ suc q'
    q_is = needed_more left block positive some

    pub supply_left : 0 < m.supply
    supply_left = omega (arith, w.supplied, q_is)

    pub some_remain : 0 < remaining
    some_remain = omega (arith, w.enough)

    bounds_same : bounds q' (remaining - block) block ≡ bounds q' (remaining - count) block
    bounds_same =
        ⊎_elim
        (λ (l : left < block).
        let e : left - count ≡ 0 = omega arith in
        rw (e, needed_none block positive))
        (λ (l : block ≤ left).
        let e : count ≡ block = omega arith in
        rw e)
        (cases_lt left block)

    module _ (within : start < remaining) (assigned' : List ℕ) (size' : length assigned' ≡ length shorts) (got : (i : ℕ) → i < length shorts → get_or assigned' i 0 ≡ get_or assigned i 0 + share R start count i) where
      within_r : start < sum R
      within_r = omega (arith, w.remains)

      once : count ≤ sum R
      once = omega (arith, w.remains, w.enough)

      small : (i : ℕ) → i < length R → share R start count i ≤ get_or R i 0
      small = share_le R start count within_r once

      left_is : unassigned shorts assigned' ≡ less R (share R start count)
      left_is =
          ext_get_or 0 _ _ (length_unassigned shorts assigned' ∙ sym (length_less R (share R start count) ∙ length_unassigned shorts assigned)) (λ i h.
          let l : i < length shorts = omega (arith, length_unassigned shorts assigned') in
          let k : i < length R = omega (arith, length_unassigned shorts assigned) in
          omega (arith, getd_less shorts (λ i. get_or assigned' i 0) i l, getd_less R (share R start count) i k, getd_less shorts (λ i. get_or assigned i 0) i l, got i l))

      total_left : sum (unassigned shorts assigned') + count ≡ remaining
      total_left =
          omega (arith, ap sum left_is, sum_less R (share R start count) small, share_sum R start count within_r once, w.remains)

      pub going_more : Going first (behind (sum R) m) shorts exercised block assigned' (remaining - count) (left - count)
      going_more = record {
        size = size';
        covered = λ i h.
            let k : i < length R = omega (arith, length_unassigned shorts assigned) in
            omega (arith, got i h, small i k, getd_less shorts (λ i. get_or assigned i 0) i h, w.covered i h);
        remains = omega (arith, total_left);
        enough = omega (arith, w.enough);
        few = omega (arith, w.few);
        supplied = omega (arith, w.supplied, q_is);
        rest = λ i h.
            let r = rw q_is at (w.rest i h) in
            rw left_is (omega (arith, r, got i h));
        drawn =
            let d = rw q_is at w.drawn in
            rw (sym bounds_same, w.remains) (rw w.remains at d);
      }
