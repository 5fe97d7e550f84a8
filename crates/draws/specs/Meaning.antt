-- What a draw source means. A non-empty list of bounds is given as the bounds before the last, and the last.
use Rattle.std.specs.Prelude.{◌≡◌, ℕ, ◌-◌, ◌^◌, ◌<◌, List, [], ◌∷◌, length}

pub record Meaning : Type 0 where
  -- how many draws can be had
  pub supply : ℕ
  -- the answer that draws with these bounds, and then this one, end in
  pub answer : List ℕ → ℕ → ℕ

-- after a draw with n: each later list has the answer that it had behind n, and the supply is one lower
abbrev pub behind : ℕ → Meaning → Meaning
behind n m = record { supply = m.supply - 1; answer = λ earlier last. m.answer (n ∷ earlier) last }

-- after draws with each of the bounds in turn
abbrev pub behind_all : List ℕ → Meaning → Meaning
behind_all [] m = m
behind_all (n ∷ ns) m = behind_all ns (behind n m)

-- a bound: a 32-bit number above 0
pub record Bound (n : ℕ) : Type 0 where
  pub positive : 0 < n
  pub small : n < 2 ^ 32

abbrev pub Bounds : List ℕ → Type 0
Bounds [] = Unit {0}
Bounds (n ∷ ns) = Bound n × Bounds ns

-- the rule for answers: as far as the supply goes, each is below its bound
abbrev pub Below : Meaning → Type 0
Below m = (earlier : List ℕ) (last : ℕ) → Bounds earlier → Bound last → length earlier < m.supply → m.answer earlier last < last

-- two meanings that say the same of every list of bounds that the supply allows
pub record Agree (m m' : Meaning) : Type 0 where
  pub supplies : m.supply ≡ m'.supply
  pub answers : (earlier : List ℕ) (last : ℕ) → Bounds earlier → Bound last → length earlier < m.supply → m.answer earlier last ≡ m'.answer earlier last
