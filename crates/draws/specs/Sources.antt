-- The meanings of the tape and of the generator.
use Rattle.std.specs.Prelude.{ℕ, ◌+◌, ◌-◌, ◌*◌, ◌/◌, ◌%◌, ◌^◌, List, [], ◌∷◌, length, slice_index}
use Rattle.std.proofs.Common.{mod-lt}
use Rattle.draws.specs.Meaning.{Meaning, Below}

-- a list of numbers whose next unread one stands at place `at`: each draw takes one, modulo its bound
abbrev pub tape : List ℕ → ℕ → Meaning
tape numbers at = record { supply = length numbers - at; answer = λ earlier last. slice_index numbers (at + length earlier) % last }

-- the state after one draw
abbrev pub next_state : ℕ → ℕ
next_state s = (s * 6364136223846793005 + 1442695040888963407) % 2 ^ 64

-- the state after a draw with each of the bounds
abbrev pub state_after : List ℕ → ℕ → ℕ
state_after [] s = s
state_after (_ ∷ ns) s = state_after ns (next_state s)

-- the upper 32 bits of the state that the last draw makes, modulo its bound
abbrev pub generator : ℕ → ℕ → Meaning
generator s left = record { supply = left; answer = λ earlier last. (next_state (state_after earlier s) / 2 ^ 32) % last }

pub tape_below : (numbers : List ℕ) (at : ℕ) → Below (tape numbers at)
tape_below numbers at = λ earlier last es b h. mod-lt _ b.positive

pub generator_below : (s left : ℕ) → Below (generator s left)
generator_below s left = λ earlier last es b h. mod-lt _ b.positive
