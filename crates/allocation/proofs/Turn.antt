-- One turn of the draws, from what the source answered.
use Rattle.std.proofs.Common.{◌≡◌, ℕ, ◌-◌, ◌<◌, min, List, [], sum, ap, ◌∙◌, arith}
use Rattle.draws.specs.Meaning.{Meaning, Below, behind}
use Rattle.allocation.proofs.Places.{unassigned}
use Rattle.allocation.proofs.Walk.{Walked, walk_filled}
use Rattle.allocation.proofs.Going.{Going, going_more, supply_left, some_remain}

module _ {first m : Meaning} {shorts : List ℕ} {exercised block : ℕ} {assigned : List ℕ} {remaining left : ℕ} (below : Below m) (positive : 0 < block) (w : Going first m shorts exercised block assigned remaining left) (some : 0 < left) where
  bound : 0 < remaining
  bound = some_remain first shorts exercised block positive m assigned remaining left w some

  supplied : 0 < m.supply
  supplied = supply_left first shorts exercised block positive m assigned remaining left w some

  module _ {start count : ℕ} (answer : start ≡ m.answer [] remaining) (count-is : count ≡ min block left) where
    start_is : start ≡ m.answer [] (sum (unassigned shorts assigned))
    start_is = answer ∙ ap (m.answer []) w.remains

    within : start < remaining
    within = rw answer (below [] remaining tt (record { positive = bound; small = omega (arith, w.few) }) supplied)

    -- the walk has filled the block
    pub turn : {m' : Meaning} {assigned' : List ℕ} {P skip need : ℕ} → m' ≡ behind remaining m → Walked shorts assigned start count P assigned' skip need → need ≡ 0 → Going first m' shorts exercised block assigned' (remaining - count) (left - count)
    turn {m'} {assigned'} next walked filled =
        let n : m' ≡ behind (sum (unassigned shorts assigned)) m = next ∙ ap (λ n. behind n m) w.remains in
        rw (n, count-is) (going_more first shorts exercised block positive m assigned remaining left w some (rw start_is at within) assigned' walked.size (simp (start_is, count-is) at (walk_filled walked filled)))
