-- What an accepted allocation comes to.
use Rattle.std.proofs.Common.{◌≡◌, ℕ, zero, suc, ◌+◌, ◌-◌, ◌<◌, ◌≤◌, min, List, [], ◌∷◌, map, length, get_or, Some, None, Ok, sum, Option, sym, refl, ap, ◌∙◌, ⊎_elim, add-one, arith}
use mathlib.Core.Path.{fun_ext}
use Rattle.std.specs.List.{range_with_len}
use Rattle.std.proofs.lemmas.List.FromFn.{length-map-range_with_len, get_or-map-range_with_len}
use Rattle.std.proofs.lemmas.Bool.{cases_lt, eq-eqb, le-leb}
use Rattle.draws.specs.Meaning.{Meaning, Bound, Below, Agree, behind, behind_all}
use Rattle.allocation.specs.declared.Unassigned.{Unassigned}
use Rattle.allocation.specs.Stretch.{share, less}
use Rattle.allocation.specs.Assigned.{draws_needed, bounds, assigned_to}
use Rattle.allocation.specs.Allocation.{refusal, outcome}
use Rattle.allocation.specs.Laws.{Settled, AlwaysSettled, Same, RestsOnAnswers, Worked, NothingExercised}
use Rattle.allocation.proofs.Accepted.{accepted}
use Rattle.allocation.proofs.Needed.{needed_none, needed_more}
use Rattle.allocation.proofs.Places.{length_less, getd_less}
use Rattle.allocation.proofs.Totals.{over, over_more, share_sum, share_le, sum_less}

bound_of : (n : ℕ) → 0 < n → n ≤ 100_000 → Bound n
bound_of n p s = record { positive = p; small = omega arith }

below_behind : (n : ℕ) (m : Meaning) → Bound n → Below m → Below (behind n m)
below_behind n m bound b = λ earlier last es l h. b (n ∷ earlier) last (bound, es) l (omega arith)

over_add : (f g : ℕ → ℕ) (n : ℕ) → over (λ i. f i + g i) n ≡ over f n + over g n
over_add f g zero = refl
over_add f g (suc n) =
    let go : over (λ i. f i + g i) (n + 1) ≡ over f (n + 1) + over g (n + 1) = omega (arith, over_more (λ i. f i + g i) n, over_more f n, over_more g n, over_add f g n) in
    rw (add-one n) at go

over_none : (n : ℕ) → over (λ i. 0) n ≡ 0
over_none zero = refl
over_none (suc n) =
    let go : over (λ i. 0) (n + 1) ≡ 0 = omega (arith, over_more (λ i. 0) n, over_none n) in
    rw (add-one n) at go

module _ (block : ℕ) (positive : 0 < block) where
  no_draws : (e : ℕ) → draws_needed e block ≡ 0 → e ≡ 0
  no_draws e z = ⊎_elim (λ (l : 0 < e). absurd (omega (arith, needed_more e block positive l))) (λ (l : e ≤ 0). omega arith) (cases_lt 0 e)

  some_left : (e q : ℕ) → draws_needed e block ≡ suc q → 0 < e
  some_left e q z = ⊎_elim (λ (l : 0 < e). l) (λ (l : e ≤ 0). let k : e ≡ 0 = omega arith in absurd (omega (arith, needed_none block positive, rw k at z))) (cases_lt 0 e)

  -- what one draw leaves to the others
  module _ (q : ℕ) (m : Meaning) (e : ℕ) (shorts : List ℕ) (needed : draws_needed e block ≡ suc q) (supplied : suc q ≤ m.supply) (few : sum shorts ≤ 100_000) (enough : e ≤ sum shorts) (below : Below m) where
    abbrev start : ℕ
    start = m.answer [] (sum shorts)

    abbrev count : ℕ
    count = min block e

    abbrev taken : ℕ → ℕ
    taken = share shorts start count

    some : 0 < e
    some = some_left e q needed

    bound : Bound (sum shorts)
    bound = bound_of (sum shorts) (omega (arith, some)) few

    within : start < sum shorts
    within = below [] (sum shorts) tt bound (omega arith)

    once : count ≤ sum shorts
    once = omega arith

    taken_le : (i : ℕ) → i < length shorts → taken i ≤ get_or shorts i 0
    taken_le = share_le shorts start count within once

    taken_sum : over taken (length shorts) ≡ count
    taken_sum = share_sum shorts start count within once

    needed_then : draws_needed (e - count) block ≡ q
    needed_then = omega (arith, needed_more e block positive some, needed)

    few_then : sum (less shorts taken) ≤ 100_000
    few_then = omega (arith, sum_less shorts taken taken_le)

    below_then : Below (behind (sum shorts) m)
    below_then = below_behind (sum shorts) m bound below

    enough_then : e - count ≤ sum (less shorts taken)
    enough_then = omega (arith, sum_less shorts taken taken_le, taken_sum)

  total_to : (q : ℕ) (m : Meaning) (e : ℕ) (shorts : List ℕ) → draws_needed e block ≡ q → q ≤ m.supply → sum shorts ≤ 100_000 → e ≤ sum shorts → Below m → over (assigned_to q m block e shorts) (length shorts) ≡ e
  total_to zero m e shorts n s f h b = over_none (length shorts) ∙ sym (no_draws e n)
  total_to (suc q) m e shorts n s f h b =
      let t = taken q m e shorts n s f h b in
      let g : ℕ → ℕ = assigned_to q (behind (sum shorts) m) block (e - min block e) (less shorts t) in
      let r = total_to q (behind (sum shorts) m) (e - min block e) (less shorts t) (needed_then q m e shorts n s f h b) (omega arith) (few_then q m e shorts n s f h b) (enough_then q m e shorts n s f h b) (below_then q m e shorts n s f h b) in
      let r' : over g (length shorts) ≡ e - min block e = rw (length_less shorts t) at r in
      omega (arith, over_add t g (length shorts), taken_sum q m e shorts n s f h b, r')

  covered_to : (q : ℕ) (m : Meaning) (e : ℕ) (shorts : List ℕ) → draws_needed e block ≡ q → q ≤ m.supply → sum shorts ≤ 100_000 → e ≤ sum shorts → Below m → (i : ℕ) → i < length shorts → assigned_to q m block e shorts i ≤ get_or shorts i 0
  covered_to zero m e shorts n s f h b i l = omega arith
  covered_to (suc q) m e shorts n s f h b i l =
      let t = taken q m e shorts n s f h b in
      let r = covered_to q (behind (sum shorts) m) (e - min block e) (less shorts t) (needed_then q m e shorts n s f h b) (omega arith) (few_then q m e shorts n s f h b) (enough_then q m e shorts n s f h b) (below_then q m e shorts n s f h b) i (omega (arith, length_less shorts t)) in
      omega (arith, r, getd_less shorts t i l, taken_le q m e shorts n s f h b i l)

  agree_behind : (n : ℕ) (m m' : Meaning) → Bound n → 0 < m.supply → Agree m m' → Agree (behind n m) (behind n m')
  agree_behind n m m' p s a = record {
    supplies = ap (λ k. k - 1) a.supplies;
    answers = λ earlier last ps l h. a.answers (n ∷ earlier) last (p, ps) l (omega arith);
  }

  rests_to : (q : ℕ) (m m' : Meaning) (e : ℕ) (shorts : List ℕ) → draws_needed e block ≡ q → q ≤ m.supply → sum shorts ≤ 100_000 → e ≤ sum shorts → Below m → Agree m m' → (i : ℕ) → assigned_to q m block e shorts i ≡ assigned_to q m' block e shorts i
  rests_to zero m m' e shorts n s f h b a i = refl
  rests_to (suc q) m m' e shorts n s f h b a i =
      let more = bound q m e shorts n s f h b in
      let same : m.answer [] (sum shorts) ≡ m'.answer [] (sum shorts) = a.answers [] (sum shorts) tt more (omega arith) in
      let t = taken q m e shorts n s f h b in
      let r = rests_to q (behind (sum shorts) m) (behind (sum shorts) m') (e - min block e) (less shorts t) (needed_then q m e shorts n s f h b) (omega arith) (few_then q m e shorts n s f h b) (enough_then q m e shorts n s f h b) (below_then q m e shorts n s f h b) (agree_behind (sum shorts) m m' more (omega arith) a) i in
      rw (sym same) (ap (λ k. t i + k) r)

  -- the meanings after the draws agree too
  agree_all : (q : ℕ) (m m' : Meaning) (e total : ℕ) → draws_needed e block ≡ q → q ≤ m.supply → total ≤ 100_000 → e ≤ total → Agree m m' → Agree (behind_all (bounds q total block) m) (behind_all (bounds q total block) m')
  agree_all zero m m' e total n s f h a = a
  agree_all (suc q) m m' e total n s f h a =
      let some = some_left e q n in
      let next : draws_needed (e - min block e) block ≡ q = omega (arith, needed_more e block positive some, n) in
      let left : e - min block e ≤ total - block = omega arith in
      agree_all q (behind total m) (behind total m') (e - min block e) (total - block) next (omega arith) (omega arith) left (agree_behind total m m' (bound_of total (omega arith) f) (omega arith) a)

spent_by : (q total block : ℕ) (m : Meaning) → q ≤ m.supply → (behind_all (bounds q total block) m).supply + q ≡ m.supply
spent_by zero total block m h = omega arith
spent_by (suc q) total block m h = omega (arith, spent_by q (total - block) block (behind total m) (omega arith))

module _ (m : Meaning) (shorts : List ℕ) (e block : ℕ) (before : List ℕ) (below : Below m) where
  settled_by : (n : ℕ) (o : Option Unassigned) → refusal m shorts e block (length before) ≡ o → (outcome o m shorts e block before).reply ≡ Ok n → Settled m shorts e block n (outcome o m shorts e block before)
  settled_by n (Some cause) r ok = let z : ◌≡◌ {A = ℕ} 0 1 = cc ok in absurd (omega arith)
  settled_by n None r ok =
      let p = accepted m shorts e block (length before) r in
      let q = draws_needed e block in
      let is : n ≡ draws_needed e block = cc ok in
      let size = length-map-range_with_len (assigned_to q m block e shorts) 0 (length shorts) in
      record {
        whole = total_to block p.positive q m e shorts refl p.supplied p.few p.enough below;
        places = size;
        within = λ i h. rw (get_or-map-range_with_len (assigned_to q m block e shorts) 0 (length shorts) i i 0 h (omega arith)) (covered_to block p.positive q m e shorts refl p.supplied p.few p.enough below i h);
        needed = is;
        spent = rw is (spent_by q (sum shorts) block m p.supplied);
      }

pub always_settled : AlwaysSettled
always_settled m shorts e block before n below ok = settled_by m shorts e block before below n (refusal m shorts e block (length before)) refl ok

pub worked : Worked
unfolding share
worked before two = rw two (refl, refl)

module _ (m m' : Meaning) (shorts : List ℕ) (e block : ℕ) (before : List ℕ) (below : Below m) (a : Agree m m') where
  refusal_same : refusal m shorts e block (length before) ≡ refusal m' shorts e block (length before)
  refusal_same = rw a.supplies

  same_by : (o : Option Unassigned) → refusal m shorts e block (length before) ≡ o → Same (outcome o m shorts e block before) (outcome o m' shorts e block before)
  same_by (Some cause) r = record { reply = refl; assigned = refl; source = a }
  same_by None r =
      let p = accepted m shorts e block (length before) r in
      let q = draws_needed e block in
      record {
        reply = refl;
        assigned = ap (λ f. map f (range_with_len 0 (length shorts))) (fun_ext (rests_to block p.positive q m m' e shorts refl p.supplied p.few p.enough below a));
        source = agree_all block p.positive q m m' e (sum shorts) refl p.supplied p.few p.enough a;
      }

pub rests_on_answers : RestsOnAnswers
rests_on_answers m m' shorts e block before below a =
    rw (sym (refusal_same m m' shorts e block before below a)) (same_by m m' shorts e block before below a (refusal m shorts e block (length before)) refl)

pub nothing_exercised : NothingExercised
nothing_exercised m shorts block before size accounts few positive small =
    let none = needed_none block positive in
    let supplied : draws_needed 0 block ≤ m.supply = rw none (omega arith) in
    let zeros : over (assigned_to 0 m block 0 shorts) (length shorts) ≡ 0 = over_none (length shorts) in
    rw (eq-eqb (length before) (length shorts) size, le-leb (length shorts) 64 accounts, le-leb (sum shorts) 100_000 few, le-leb 1 block positive, le-leb block 1_000 small, le-leb 0 (sum shorts) (omega arith), le-leb (draws_needed 0 block) m.supply supplied, none)
    (refl, refl, zeros)
