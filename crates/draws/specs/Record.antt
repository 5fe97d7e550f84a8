-- The recorder: what its table holds, what it means, what a draw adds.
use Rattle.std.specs.Prelude.{ℕ, ◌-◌, min, cond, List, [], ◌∷◌, ◌++◌, take, Ok, Err, Result, ◌==◌}
use Rattle.std.proofs.Common.{arith}
use Rattle.draws.specs.declared.Refusal.{Refusal}
use Rattle.draws.specs.declared.recorder.Pair.{Pair}
use Rattle.draws.specs.declared.recorder.Table.{Table}
use Rattle.draws.specs.Meaning.{Meaning, Below}
use Rattle.draws.specs.Draw.{after}

-- the pairs recorded, the oldest first
abbrev pub kept : Table → List Pair
kept t = take t.used t.pairs

-- the free places
abbrev pub room : Table → ℕ
room t = 256 - t.used

-- a source of which at most `most` draws can be had
abbrev pub limited : ℕ → Meaning → Meaning
limited most m = record { supply = min m.supply most; answer = m.answer }

-- what the source below means after a draw with n: a full table draws nothing from it
abbrev pub source_after : ℕ → ℕ → Meaning → Meaning
source_after n most m = cond (most == 0) m (after n m)

-- the pairs after a draw with n that ended in r: an answer is added, a refusal adds nothing
abbrev pub noted : ℕ → Result ℕ Refusal → List Pair → List Pair
noted n (Ok a) ps = ps ++ (record { bound = n; answer = a } ∷ [])
noted n (Err e) ps = ps

pub limited_below : (most : ℕ) (m : Meaning) → Below m → Below (limited most m)
limited_below most m below = λ earlier last es b h. below earlier last es b (omega arith)
