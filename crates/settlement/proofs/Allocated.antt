-- The allocation of a series is not turned back, and what it assigns.
use Rattle.std.proofs.Common.{◌≡◌, ℕ, zero, suc, ◌+◌, ◌-◌, ◌<◌, ◌≤◌, min, List, [], ◌∷◌, length, get_or, None, Ok, sum_by, sum, Option, sym, refl, ap, ◌∙◌, subst, ⊎_elim, arith}
use Rattle.std.proofs.lemmas.List.{length-map, get_or-map, get_or_past}
use Rattle.std.proofs.lemmas.List.Sums.{sum_by-cons, sum-map}
use Rattle.std.proofs.lemmas.Bool.{cases_lt, eq-eqb, le-leb}
use Rattle.draws.specs.Meaning.{Meaning, Bound, Below, Agree, behind, behind_all}
use Rattle.allocation.specs.declared.Unassigned.{Unassigned}
use Rattle.allocation.specs.Assigned.{draws_needed, bounds, assigned_by}
use Rattle.allocation.specs.Allocation.{refusal, outcome}
use Rattle.allocation.specs.Laws.{Settled, Same}
use Rattle.allocation.proofs.Laws.{always_settled, rests_on_answers}
use Rattle.allocation.proofs.Needed.{needed_none, needed_more}
use Rattle.positions.specs.declared.cell.Cell.{Cell}
use Rattle.positions.specs.Cells.{no_cell}
use Rattle.positions.specs.Rows.{total_longs, total_shorts}
use Rattle.settlement.specs.Assignment.{total_due, shorts_of, draws_for, Assignable, assigned_in}

-- a sum that is the larger place by place
sum_le : (f g : Cell → ℕ) (cells : List Cell) → ((j : ℕ) → f (get_or cells j no_cell) ≤ g (get_or cells j no_cell)) → sum_by f cells ≤ sum_by g cells
sum_le f g [] le = omega arith
sum_le f g (c ∷ cs) le = omega (arith, le 0, sum_le f g cs (λ j. le (suc j)), sum_by-cons f c cs, sum_by-cons g c cs)

pub sum_shorts : (cells : List Cell) → sum (shorts_of cells) ≡ total_shorts cells
sum_shorts cells = sum-map (λ (c : Cell). c.shorts) cells

pub length_shorts : (cells : List Cell) → length (shorts_of cells) ≡ length cells
length_shorts cells = length-map cells (λ (c : Cell). c.shorts)

-- where each account has the contracts that are due, so have all together
pub due_held : (cells : List Cell) → ((j : ℕ) → (get_or cells j no_cell).due ≤ (get_or cells j no_cell).longs) → total_due cells ≤ total_longs cells
due_held cells held = sum_le (λ (c : Cell). c.due) (λ (c : Cell). c.longs) cells held

-- what is handed out for the contracts due and the shorts of the cells
pub handed_out : (m : Meaning) (cells : List Cell) (block e : ℕ) (shorts assigned : List ℕ) → assigned ≡ assigned_by m block e shorts → e ≡ total_due cells → shorts ≡ shorts_of cells → assigned ≡ assigned_in m cells block
handed_out m cells block e shorts assigned is due from = is ∙ ap (λ (n : ℕ). assigned_by m block n shorts) due ∙ ap (assigned_by m block (total_due cells)) from

module _ (m : Meaning) (cells : List Cell) (size block : ℕ) (a : Assignable m cells size block) where
  -- no more is due than is short
  pub due_short : total_due cells ≤ total_shorts cells
  due_short = omega (arith, due_held cells a.held, a.even)

  pub due_few : total_due cells ≤ 100_000
  due_few = omega (arith, due_short, a.few)

  pub allocated : (places : ℕ) → places ≡ 32 → refusal m (shorts_of cells) (total_due cells) block places ≡ None
  allocated places is =
      let shorts = shorts_of cells in
      let n = length_shorts cells in
      let s = sum_shorts cells in
      rw (eq-eqb places (length shorts) (omega (arith, n, a.accounts)), le-leb (length shorts) 64 (omega (arith, n, a.accounts)), le-leb (sum shorts) 100_000 (omega (arith, s, a.few)), le-leb 1 block a.positive, le-leb block 1_000 a.small, le-leb (total_due cells) (sum shorts) (omega (arith, s, due_short)), le-leb (draws_needed (total_due cells) block) m.supply a.supplied)
      refl

  module _ (below : Below m) where
    given : Settled m (shorts_of cells) (total_due cells) block (draws_for cells block) (outcome None m (shorts_of cells) (total_due cells) block (shorts_of cells))
    given =
        let shorts = shorts_of cells in
        let e = total_due cells in
        let n = draws_for cells block in
        let P : Option Unassigned → Type 0 = λ o. (outcome o m shorts e block shorts).reply ≡ Ok n → Settled m shorts e block n (outcome o m shorts e block shorts) in
        subst P (allocated (length shorts) (length_shorts cells ∙ a.accounts)) (always_settled m shorts e block shorts n below) refl

    -- every contract that is due is assigned
    pub assigned_whole : sum (assigned_in m cells block) ≡ total_due cells
    assigned_whole = given.whole

    pub assigned_places : length (assigned_in m cells block) ≡ length cells
    assigned_places = given.places ∙ length_shorts cells

    -- to an account that is short of it
    pub assigned_within : (j : ℕ) → get_or (assigned_in m cells block) j 0 ≤ (get_or cells j no_cell).shorts
    assigned_within j =
        ⊎_elim
        (λ (l : j < length cells). omega (arith, given.within j (omega (arith, length_shorts cells)), get_or-map (λ (c : Cell). c.shorts) cells j no_cell 0 l))
        (λ (l : length cells ≤ j). omega (arith, get_or_past (assigned_in m cells block) j 0 (omega (arith, assigned_places))))
        (cases_lt j (length cells))

    -- the same of every source with the same answers
    pub assigned_same : (m' : Meaning) → Agree m m' → Same (outcome None m (shorts_of cells) (total_due cells) block (shorts_of cells)) (outcome None m' (shorts_of cells) (total_due cells) block (shorts_of cells))
    assigned_same m' agree =
        let shorts = shorts_of cells in
        let e = total_due cells in
        let none = allocated (length shorts) (length_shorts cells ∙ a.accounts) in
        let none' : refusal m' shorts e block (length shorts) ≡ None = rw (sym agree.supplies) none in
        let P : Option Unassigned → Type 0 = λ o. Same (outcome o m shorts e block shorts) (outcome (refusal m' shorts e block (length shorts)) m' shorts e block shorts) in
        let Q : Option Unassigned → Type 0 = λ o. Same (outcome None m shorts e block shorts) (outcome o m' shorts e block shorts) in
        subst Q none' (subst P none (rests_on_answers m m' shorts e block shorts below agree))

    pub draws_spent : (behind_all (bounds (draws_for cells block) (total_shorts cells) block) m).supply + draws_for cells block ≡ m.supply
    draws_spent = rw (sum_shorts cells) at given.spent

-- a source that keeps the rule for answers keeps it behind the draws
below_behind : (n : ℕ) (m : Meaning) → Bound n → Below m → Below (behind n m)
below_behind n m bound b = λ earlier last es l h. b (n ∷ earlier) last (bound, es) l (omega arith)

pub below_all : (block : ℕ) → 0 < block → (q : ℕ) (m : Meaning) (e total : ℕ) → draws_needed e block ≡ q → e ≤ total → total ≤ 100_000 → Below m → Below (behind_all (bounds q total block) m)
below_all block p zero m e total n h f b = b
below_all block p (suc q) m e total n h f b =
    ⊎_elim
    (λ (some : 0 < e).
    let next : draws_needed (e - min block e) block ≡ q = omega (arith, needed_more e block p some, n) in
    below_all block p q (behind total m) (e - min block e) (total - block) next (omega arith) (omega arith) (below_behind total m (record { positive = omega arith; small = omega arith }) b))
    (λ (none : e ≤ 0). let z : e ≡ 0 = omega arith in absurd (omega (arith, needed_none block p, rw z at n)))
    (cases_lt 0 e)
