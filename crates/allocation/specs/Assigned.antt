-- What the draws assign to each account.
use Rattle.std.specs.Prelude.{ℕ, zero, suc, ◌+◌, ◌-◌, ◌/◌, min, List, [], ◌∷◌, map, length, sum}
use Rattle.std.specs.List.{range_with_len}
use Rattle.draws.specs.Meaning.{Meaning, behind}
use Rattle.allocation.specs.Stretch.{share, less}

-- e contracts over the block, rounded up
abbrev pub draws_needed : ℕ → ℕ → ℕ
draws_needed e block = (e + (block - 1)) / block

-- the bounds of q draws: the contracts that remain before each
abbrev pub bounds : ℕ → ℕ → ℕ → List ℕ
bounds zero total block = []
bounds (suc q) total block = total ∷ bounds q (total - block) block

-- what q draws assign of e contracts to account i: the first takes a block, or what is left if less, and the others
-- go on without what it took
abbrev pub assigned_to : ℕ → Meaning → ℕ → ℕ → List ℕ → ℕ → ℕ
assigned_to zero m block e shorts i = 0
assigned_to (suc q) m block e shorts i =
    let count = min block e in
    let taken : ℕ → ℕ = share shorts (m.answer [] (sum shorts)) count in
    taken i + assigned_to q (behind (sum shorts) m) block (e - count) (less shorts taken) i

-- what the draws needed assign of e contracts to each account
abbrev pub assigned_by : Meaning → ℕ → ℕ → List ℕ → List ℕ
assigned_by m block e shorts = map (assigned_to (draws_needed e block) m block e shorts) (range_with_len 0 (length shorts))
