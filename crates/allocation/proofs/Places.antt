-- Where an account's contracts stand in the list.
use Rattle.std.proofs.Common.{◌≡◌, ℕ, ◌+◌, ◌-◌, ◌<◌, ◌≤◌, List, length, get_or, take, sum, ap, arith}
use Rattle.std.proofs.lemmas.List.{take-take}
use Rattle.std.proofs.lemmas.List.Sums.{sum_by_more, sum_by-take-le}
use Rattle.std.proofs.lemmas.List.FromFn.{length-map-range_with_len, get_or-map-range_with_len}
use Rattle.allocation.specs.Stretch.{ahead, less}

-- the short contracts that are not assigned
abbrev pub unassigned : List ℕ → List ℕ → List ℕ
unassigned shorts assigned = less shorts (λ i. get_or assigned i 0)

pub ahead_more : (xs : List ℕ) (i : ℕ) → i < length xs → ahead xs (i + 1) ≡ ahead xs i + get_or xs i 0
ahead_more xs i h = sum_by_more (λ x. x) xs i 0 h

pub ahead_mono : (xs : List ℕ) (i j : ℕ) → i ≤ j → ahead xs i ≤ ahead xs j
ahead_mono xs i j h =
    let e : ahead (take j xs) i ≡ ahead xs i = ap sum (take-take i j xs h) in
    omega (arith, sum_by-take-le (λ x. x) (take j xs) i)

pub ahead_le : (xs : List ℕ) (i : ℕ) → i < length xs → ahead xs i + get_or xs i 0 ≤ sum xs
ahead_le xs i h = omega (arith, ahead_more xs i h, sum_by-take-le (λ x. x) xs (i + 1))

pub ahead_before : (xs : List ℕ) (i j : ℕ) → i < length xs → i < j → ahead xs i + get_or xs i 0 ≤ ahead xs j
ahead_before xs i j h l = omega (arith, ahead_more xs i h, ahead_mono xs (i + 1) j (omega arith))

pub length_less : (xs : List ℕ) (f : ℕ → ℕ) → length (less xs f) ≡ length xs
length_less xs f = length-map-range_with_len (λ i. get_or xs i 0 - f i) 0 (length xs)

pub getd_less : (xs : List ℕ) (f : ℕ → ℕ) (i : ℕ) → i < length xs → get_or (less xs f) i 0 ≡ get_or xs i 0 - f i
getd_less xs f i h = get_or-map-range_with_len (λ i. get_or xs i 0 - f i) 0 (length xs) i i 0 h (omega arith)

pub length_unassigned : (shorts old : List ℕ) → length (unassigned shorts old) ≡ length shorts
length_unassigned shorts old = length_less shorts (λ i. get_or old i 0)
