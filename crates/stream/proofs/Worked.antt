-- A worked input: two lines, of which the second has two statement lines behind its answer, and a last piece.
use Rattle.std.specs.Prelude.{codes}
use Rattle.std.proofs.Common.{◌≡◌, ℕ, List, [], ◌∷◌, ◌++◌, Some, None, refl, arith}
use Rattle.archive.specs.Archive.{Exchange}
use Rattle.stream.specs.Pieces.{EndsAt}
use Rattle.stream.specs.Streams.{pieces_of, answers_of}

line : List ℕ → List ℕ
line text = text ++ (10 ∷ [])

abbrev cut : Exchange
cut = record { piece = line (codes "28"); filled = line (codes "28 : 0 0"); behind = [] }

abbrev statement : Exchange
statement = record { piece = line (codes "31"); filled = line (codes "31 : 0 2"); behind = line (codes "1 1") ∷ line (codes "1 2") ∷ [] }

abbrev last : Exchange
last = record { piece = codes "24"; filled = line (codes "99 : 2 2"); behind = [] }

-- the newest first
abbrev all : List Exchange
all = last ∷ statement ∷ cut ∷ []

pieces : pieces_of all ≡ line (codes "28") ++ line (codes "31") ++ codes "24"
unfolding line
pieces = refl

answers : answers_of all ≡ line (codes "28 : 0 0") ++ line (codes "31 : 0 2") ++ line (codes "1 1") ++ line (codes "1 2") ++ line (codes "99 : 2 2")
unfolding line
answers = refl

-- the first line of three bytes, and what follows
first : EndsAt (50 ∷ 56 ∷ 10 ∷ 51 ∷ []) (Some 3)
first = (omega arith, (50 ∷ 56 ∷ [], (λ e. absurd (omega arith), (λ e. absurd (omega arith), tt)), refl))

none : EndsAt (50 ∷ 56 ∷ []) None
none = (λ e. absurd (omega arith), (λ e. absurd (omega arith), tt))
