-- A series in which nothing is due.
use Rattle.std.proofs.Common.{◌≡◌, ℕ, zero, suc, ◌-◌, ◌*◌, Bool, List, [], ◌∷◌, map, length, get_or, sym, refl, ap, ◌∙◌, subst, arith}
use Rattle.std.specs.List.{range_with_len}
use Rattle.std.proofs.lemmas.List.{map-id}
use Rattle.draws.specs.Meaning.{Meaning, behind_all}
use Rattle.allocation.specs.Assigned.{draws_needed, bounds, assigned_to}
use Rattle.allocation.proofs.Needed.{needed_none}
use Rattle.positions.specs.declared.cell.Cell.{Cell}
use Rattle.positions.specs.declared.kinds.Right.{Right}
use Rattle.positions.specs.declared.kinds.Right.TheVariants.{Call, Put}
use Rattle.positions.specs.Cells.{no_cell}
use Rattle.positions.specs.Rows.{total_shorts}
use Rattle.settlement.specs.Account.{covering, settled, at_end}
use Rattle.settlement.specs.Assignment.{total_due, shorts_of, draws_for, Assignable, assigned_in, cell_after, collateral_after, series_outcome}
use Rattle.settlement.proofs.Filling.{map_places}

-- nothing assigned, nothing covered
pub covering_none : (right : Right) (size shares assigned : ℕ) → assigned ≡ 0 → covering right size shares assigned ≡ 0
covering_none Call size shares assigned z = omega (arith, z)
covering_none Put size shares assigned z = refl

-- a list of zeros
zeros : (f : ℕ → ℕ) → ((i : ℕ) → f i ≡ 0) → (xs : List ℕ) (j : ℕ) → get_or (map f xs) j 0 ≡ 0
zeros f z [] j = refl
zeros f z (x ∷ xs) zero = z x
zeros f z (x ∷ xs) (suc j) = zeros f z xs j

same_map : {X : Type 0} (f g : ℕ → X) → ((k : ℕ) → f k ≡ g k) → (xs : List ℕ) → map f xs ≡ map g xs
same_map f g e [] = refl
same_map f g e (x ∷ xs) = ap (λ y. y ∷ map f xs) (e x) ∙ ap (λ ys. g x ∷ ys) (same_map f g e xs)

module _ (m : Meaning) (cells : List Cell) (collateral : List ℕ) (right : Right) (size block : ℕ) (lapses : Bool) (a : Assignable m cells size block) (none : total_due cells ≡ 0) where
  pub no_draws : draws_for cells block ≡ 0
  no_draws = ap (λ (e : ℕ). draws_needed e block) none ∙ needed_none block (omega (arith, a.positive))

  none_assigned : (j : ℕ) → get_or (assigned_in m cells block) j 0 ≡ 0
  none_assigned j =
      let shorts = shorts_of cells in
      let e = total_due cells in
      subst (λ (q : ℕ). get_or (map (assigned_to q m block e shorts) (range_with_len 0 (length shorts))) j 0 ≡ 0) (sym no_draws) (zeros (assigned_to 0 m block e shorts) (λ i. refl) (range_with_len 0 (length shorts)) j)

  pub none_cells : map (λ (c : Cell). at_end lapses (settled c 0 0)) cells ≡ (series_outcome m cells collateral right size block lapses).cells
  none_cells =
      let xs = assigned_in m cells block in
      sym (map_places (λ (c : Cell). at_end lapses (settled c 0 0)) cells no_cell no_cell)
      ∙ same_map (λ k. at_end lapses (settled (get_or cells k no_cell) 0 0)) (cell_after right size lapses cells collateral xs)
      (λ k.
      let z = none_assigned k in
      ap (λ (n : ℕ). at_end lapses (settled (get_or cells k no_cell) n 0)) (sym z)
      ∙ ap (λ (v : ℕ). at_end lapses (settled (get_or cells k no_cell) (get_or xs k 0) v)) (sym (covering_none right size (get_or collateral k 0) (get_or xs k 0) z)))
      (range_with_len 0 (length cells))

  pub none_collateral : length collateral ≡ length cells → collateral ≡ (series_outcome m cells collateral right size block lapses).collateral
  none_collateral same =
      let xs = assigned_in m cells block in
      let kept : map (λ k. get_or collateral k 0) (range_with_len 0 (length collateral)) ≡ collateral = map_places (λ (n : ℕ). n) collateral 0 0 ∙ map-id collateral in
      sym kept ∙ ap (λ (n : ℕ). map (λ k. get_or collateral k 0) (range_with_len 0 n)) same
      ∙ same_map (λ k. get_or collateral k 0) (collateral_after right size collateral xs)
      (λ k.
      let v = covering right size (get_or collateral k 0) (get_or xs k 0) in
      let z : v ≡ 0 = covering_none right size (get_or collateral k 0) (get_or xs k 0) (none_assigned k) in
      let start : get_or collateral k 0 ≡ get_or collateral k 0 - 0 * size = omega arith in
      start ∙ ap (λ (n : ℕ). get_or collateral k 0 - n * size) (sym z))
      (range_with_len 0 (length cells))

  pub none_source : m ≡ (series_outcome m cells collateral right size block lapses).source
  none_source = ap (λ (q : ℕ). behind_all (bounds q (total_shorts cells) block) m) (sym no_draws)
