-- One draw. The remaining short contracts lie in a list by account, and are numbered from 0 down the list.
use Rattle.std.specs.Prelude.{ℕ, zero, suc, ◌+◌, ◌-◌, Bool, cond, List, map, length, take, sum, nat_lt, slice_index}
use Rattle.std.specs.List.{range_with_len}

-- how far contract c lies down the list from the starting contract; behind the list's foot its top comes next
abbrev pub distance : ℕ → ℕ → ℕ → ℕ
distance total start c = cond (nat_lt c start) (total + c - start) (c - start)

-- whether contract c of a list of `total` lies in the stretch of `count` contracts from `start` on
abbrev pub in_stretch : ℕ → ℕ → ℕ → ℕ → Bool
in_stretch total start count c = nat_lt (distance total start c) count

-- how many of the n contracts from number p on are such
abbrev pub how_many : (ℕ → Bool) → ℕ → ℕ → ℕ
how_many such p zero = 0
how_many such p (suc n) = how_many such p n + cond (such (p + n)) 1 0

-- how many contracts stand above those of account i
abbrev pub ahead : List ℕ → ℕ → ℕ
ahead shorts i = sum (take i shorts)

-- how many contracts of account i lie in the stretch
unfoldable pub share : List ℕ → ℕ → ℕ → ℕ → ℕ
share shorts start count i = how_many (in_stretch (sum shorts) start count) (ahead shorts i) (slice_index shorts i)

-- what is left of each account's contracts when `taken` is gone
abbrev pub less : List ℕ → (ℕ → ℕ) → List ℕ
less shorts taken = map (λ i. slice_index shorts i - taken i) (range_with_len 0 (length shorts))
