-- A list of tape numbers that takes one more, or is full.
use Rattle.std.proofs.Common.{◌≡◌, ℕ, ◌<◌, ◌≤◌, true, false, ltb, List, [], ◌∷◌, ◌++◌, length, take, ◌∙◌, ⊎_elim, arith}
use Rattle.std.proofs.lemmas.Bool.Decides.{nat_tests}
use Rattle.std.proofs.lemmas.Bool.{cases_lt}
use Rattle.std.proofs.lemmas.List.{take_all, take-append-le}
use Rattle.few.proofs.Fitting.{push_fits}
use Rattle.host.specs.Numbers.{with_number}

room_true : (xs : List ℕ) → length xs < 1_024 → ltb (length xs) 1_024 ≡ true
room_true xs h = grind (arith, nat_tests)

room_false : (xs : List ℕ) → 1_024 ≤ length xs → ltb (length xs) 1_024 ≡ false
room_false xs h = grind (arith, nat_tests)

pub one_more : (xs ys : List ℕ) (n : ℕ) → length xs ≤ 1_024 → ys ≡ take 1_024 (xs ++ (n ∷ [])) → ys ≡ with_number xs n
one_more xs ys n few p =
    ⊎_elim
    (λ (h : length xs < 1_024). rw (room_true xs h) (p ∙ push_fits 1_024 xs n h))
    (λ (h : 1_024 ≤ length xs). rw (room_false xs h) (p ∙ take-append-le 1_024 xs (n ∷ []) h ∙ take_all 1_024 xs few))
    (cases_lt (length xs) 1_024)
