-- The walk of one draw goes down the list of accounts, and a second time from the top.
use Rattle.std.proofs.Common.{◌≡◌, ℕ, zero, suc, ◌+◌, ◌-◌, ◌*◌, ◌<◌, ◌≤◌, min, ◌⊎◌, List, length, get_or, set, sum, ap, subst, inl, inr, arith}
use Rattle.std.proofs.lemmas.List.{take_all}
use Rattle.allocation.specs.Stretch.{ahead}
use Rattle.allocation.proofs.Places.{unassigned, length_unassigned}
use Rattle.allocation.proofs.Walk.{Walked, still_covered, walked_more}

-- the place where the walk stands, so many times down the list and then at account i
abbrev pub stand : List ℕ → ℕ → ℕ → ℕ
stand R round i = round * sum R + ahead R i

-- the walk so many times down the list and then at account i
abbrev pub Round : List ℕ → List ℕ → ℕ → ℕ → ℕ → ℕ → List ℕ → ℕ → ℕ → Type 0
Round shorts old start count round i assigned skip need = Walked shorts old start count (stand (unassigned shorts old) round i) assigned skip need

-- from the top of the list to account i, whatever the walk did before
abbrev pub Further : List ℕ → ℕ → List ℕ → ℕ → ℕ → ℕ → List ℕ → ℕ → ℕ → Type 0
Further shorts round was skip need i assigned skip' need' =
    (old : List ℕ) (start count : ℕ) → Round shorts old start count round 0 was skip need → Round shorts old start count round i assigned skip' need'

-- at an account, for the first time or for the second
module _ {shorts old assigned : List ℕ} {start count round i skip need : ℕ} (w : Round shorts old start count round i assigned skip need) (twice : round < 2) (at : i < length shorts) where
  way : (total k : ℕ) → k < 2 → (k * total ≡ 0) ⊎ (k * total ≡ total)
  way total zero h = inl (omega arith)
  way total (suc zero) h = inr (omega arith)
  way total (suc (suc k)) h = absurd (omega arith)

  pub walk_covered : get_or assigned i 0 ≤ get_or shorts i 0
  walk_covered = still_covered shorts old start count (round * sum (unassigned shorts old)) i skip need assigned at (way (sum (unassigned shorts old)) round twice) w

  pub walk_more : {passed taken : ℕ} → passed ≡ min skip (get_or shorts i 0 - get_or assigned i 0) → taken ≡ min ((get_or shorts i 0 - get_or assigned i 0) - passed) need → Round shorts old start count round (i + 1) (set assigned i (get_or assigned i 0 + taken)) (skip - passed) (need - taken)
  walk_more {passed} {taken} = walked_more shorts old start count (round * sum (unassigned shorts old)) i skip need assigned at (way (sum (unassigned shorts old)) round twice) w passed taken

-- at the list's foot, and at its top again
pub walk_again : (round : ℕ) {shorts old assigned : List ℕ} {start count i skip need : ℕ} → Round shorts old start count round i assigned skip need → i ≡ length shorts → Round shorts old start count (round + 1) 0 assigned skip need
walk_again round {shorts} {old} {assigned} {start} {count} {i} {skip} {need} w foot =
    let R = unassigned shorts old in
    let all : ahead R i ≡ sum R = ap sum (take_all i R (omega (arith, length_unassigned shorts old))) in
    let top : stand R round i ≡ stand R (round + 1) 0 = omega (arith, all) in
    subst (λ P. Walked shorts old start count P assigned skip need) top w
