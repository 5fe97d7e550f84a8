-- Ten numbers, to the end of a line.
use Rattle.std.proofs.Common.{◌≡◌, ℕ, suc, List, [], ◌∷◌, ◌++◌, map, length, set, sym, refl, ap, ◌∙◌, subst, append-nil, arith}
use borrow.Rule.Slice.PartMut.{put_mid}
use Rattle.std.proofs.lemmas.List.{drop_all}
use Rattle.std.specs.Str.Parse.{digits_value}
use Rattle.std.specs.List.{flat_map}
use Rattle.lines.specs.Grammar.{Reached, NumberRead, FieldsRead, blanked, ten_numbers, TenRead, num, Writes, shape, feed, Stuck, Done}
use Rattle.lines.proofs.Steps.{done_after, stuck_after, not_digit_10, not_digit_32}

-- the first of ten places, and what is written to the others
pub first_and_rest : {X : Type 0} (xs : List X) (f : X) (ys : List X) → length xs ≡ 10 → put_mid 1 9 (set xs 0 f) ys ≡ f ∷ ys
first_and_rest [] f ys e = absurd (omega arith)
first_and_rest (x ∷ xs) f ys e = ap (λ l. f ∷ (ys ++ l)) (drop_all 9 xs (omega arith)) ∙ ap (λ l. f ∷ l) (append-nil ys)

pub ten_read : (xs d mid : List ℕ) (m : ℕ) (texts : List (List ℕ)) (rest : List ℕ) → m ≡ 9 → length texts ≡ 9 → NumberRead 16 xs d mid → FieldsRead 16 m 0 mid texts rest → Done (Writes feed) rest [] → TenRead xs (d ∷ texts)
ten_read xs d mid m texts rest e nine_long a b end = record {
  ten = ap suc nine_long;
  numbers = (a.number, b.numbers);
  done =
      let nine = b.reached feed not_digit_10 in
      let tail : Done (Writes (shape 16 9 feed)) (flat_map blanked texts ++ rest) (map (digits_value 10) texts ++ []) = done_after _ _ _ _ rest [] (subst (λ n. Reached (Writes (shape 16 n feed)) (Writes feed) (flat_map blanked texts) (map (digits_value 10) texts) rest) e nine) end in
      let tail_at : Done (Writes (shape 16 9 feed)) mid (map (digits_value 10) texts) = subst (λ l. Done (Writes (shape 16 9 feed)) mid l) (append-nil (map (digits_value 10) texts)) (subst (λ l. Done (Writes (shape 16 9 feed)) l (map (digits_value 10) texts ++ [])) (sym b.split) tail) in
      subst (λ l. Done (Writes ten_numbers) l (digits_value 10 d ∷ map (digits_value 10) texts)) (sym a.split) (done_after _ _ d (digits_value 10 d ∷ []) mid (map (digits_value 10) texts) (a.reached (shape 16 9 feed) (not_digit_32 (num 16 ∷ shape 16 8 feed))) tail_at);
}

-- stuck after the first number
pub ten_stuck : (xs d mid : List ℕ) (m left : ℕ) → m ≡ 9 → NumberRead 16 xs d mid → Stuck (Writes (shape 16 m feed)) mid left → Stuck (Writes ten_numbers) xs left
ten_stuck xs d mid m left e a st = subst (λ l. Stuck (Writes ten_numbers) l left) (sym a.split) (stuck_after _ _ d (digits_value 10 d ∷ []) mid left (a.reached (shape 16 9 feed) (not_digit_32 (num 16 ∷ shape 16 8 feed))) (subst (λ n. Stuck (Writes (shape 16 n feed)) mid left) e st))

-- stuck after the last number
pub ten_end_stuck : (xs d mid : List ℕ) (m : ℕ) (texts : List (List ℕ)) (rest : List ℕ) (left : ℕ) → m ≡ 9 → NumberRead 16 xs d mid → FieldsRead 16 m 0 mid texts rest → Stuck (Writes feed) rest left → Stuck (Writes ten_numbers) xs left
ten_end_stuck xs d mid m texts rest left e a b st =
    ten_stuck xs d mid 9 left refl a
    (subst (λ l. Stuck (Writes (shape 16 9 feed)) l left) (sym b.split)
    (stuck_after _ _ _ _ rest left (subst (λ n. Reached (Writes (shape 16 n feed)) (Writes feed) (flat_map blanked texts) (map (digits_value 10) texts) rest) e (b.reached feed not_digit_10)) st))
