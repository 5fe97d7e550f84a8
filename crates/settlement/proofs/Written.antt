-- Lists written into a list from a place on.
use Rattle.std.proofs.Common.{◌≡◌, ℕ, suc, ◌+◌, ◌<◌, ◌≤◌, List, [], ◌∷◌, ◌++◌, length, get_or, take, drop, set, sym, ap, ◌∙◌, append_assoc, append-nil, arith, length-append}
use Rattle.std.specs.List.{flat_map}
use Rattle.std.proofs.lemmas.List.{take_more, take-append-drop}
use Rattle.std.proofs.lemmas.List.Folds.{length-flat_map-take}
use Rattle.std.proofs.lemmas.Grind.{flat_map-append}
use lib.Seq.{sets, sets-eq, length-sets}
use Rattle.settlement.specs.Lines.{written}

module _ {X : Type 0} where
  as_sets : (d : List X) (at : ℕ) (xs : List X) → at + length xs ≤ length d → sets d at xs ≡ written d at xs
  as_sets d at xs h = sets-eq xs d at h ∙ append_assoc (take at d) xs (drop (at + length xs) d)

  sets_more : (d : List X) (at : ℕ) (xs ys : List X) → sets (sets d at xs) (at + length xs) ys ≡ sets d at (xs ++ ys)
  sets_more d at [] ys = let e : at + 0 ≡ at = omega arith in ap (λ (k : ℕ). sets d k ys) e
  sets_more d at (x ∷ xs) ys =
      let e : at + suc (length xs) ≡ suc at + length xs = omega arith in
      ap (λ (k : ℕ). sets (sets (set d at x) (suc at) xs) k ys) e ∙ sets_more (set d at x) (suc at) xs ys

  -- nothing written
  pub written_none : (d : List X) (at : ℕ) → d ≡ written d at []
  written_none d at = let e : at + 0 ≡ at = omega arith in sym (take-append-drop at d) ∙ ap (λ (k : ℕ). take at d ++ drop k d) (sym e)

  pub written_one : (d : List X) (at : ℕ) (x : X) → at < length d → set d at x ≡ written d at (x ∷ [])
  written_one d at x h = as_sets d at (x ∷ []) (omega arith)

  pub length_written : (d : List X) (at : ℕ) (xs : List X) → at + length xs ≤ length d → length (written d at xs) ≡ length d
  length_written d at xs h = ap length (sym (as_sets d at xs h)) ∙ length-sets d at xs

  -- one list behind another
  pub written_more : (d : List X) (at : ℕ) (xs ys : List X) → at + length xs + length ys ≤ length d → written (written d at xs) (at + length xs) ys ≡ written d at (xs ++ ys)
  written_more d at xs ys h =
      let n : length (sets d at xs) ≡ length d = length-sets d at xs in
      ap (λ (l : List X). written l (at + length xs) ys) (sym (as_sets d at xs (omega arith)))
      ∙ sym (as_sets (sets d at xs) (at + length xs) ys (omega arith)) ∙ sets_more d at xs ys ∙ as_sets d at (xs ++ ys) (omega (arith, length-append xs ys))

  -- a step that writes ys behind what stands there already
  pub written_next : (d : List X) (at : ℕ) (xs ys now : List X) (next : ℕ) (whole : List X) → now ≡ written d at xs → next ≡ at + length xs → xs ++ ys ≡ whole → at + length whole ≤ length d → written now next ys ≡ written d at whole
  written_next d at xs ys now next whole n k w h =
      ap (λ (l : List X). written l next ys) n ∙ ap (λ (j : ℕ). written (written d at xs) j ys) k
      ∙ written_more d at xs ys (omega (arith, ap length w, length-append xs ys)) ∙ ap (written d at) w

  -- one turn of a loop that writes the pieces of ys, one behind another
  pub written_piece : {Y : Type 0} (f : Y → List X) (ys : List Y) (d : List X) (at i : ℕ) (now : List X) (next : ℕ) (y : Y) → i < length ys → now ≡ written d at (flat_map f (take i ys)) → next ≡ at + length (flat_map f (take i ys)) → at + length (flat_map f ys) ≤ length d → (next + length (f (get_or ys i y)) ≡ at + length (flat_map f (take (i + 1) ys))) × (written now next (f (get_or ys i y)) ≡ written d at (flat_map f (take (i + 1) ys)))
  written_piece f ys d at i now next y h n k room =
      let done = flat_map f (take i ys) in
      let more : done ++ f (get_or ys i y) ≡ flat_map f (take (i + 1) ys) = ap (λ (p : List X). done ++ p) (sym (append-nil (f (get_or ys i y)))) ∙ sym (flat_map-append f (take i ys) (get_or ys i y ∷ [])) ∙ ap (flat_map f) (sym (take_more ys i y h)) in
      let sizes = length-append done (f (get_or ys i y)) in
      let left = length-flat_map-take f ys i y h in
      (omega (arith, k, sizes, ap length more), written_next d at done (f (get_or ys i y)) now next (flat_map f (take (i + 1) ys)) n k more (omega (arith, sizes, left, room, ap length more)))
