-- For proofs alone: a position in the grammar of lines, and how a scan from left to right moves on it.
use Rattle.std.specs.Prelude.{◌≡◌, ℕ, zero, suc, ◌+◌, ◌*◌, ◌/◌, ◌%◌, ◌<◌, ◌≤◌, Bool, true, false, cond, ◌⊎◌, List, [], ◌∷◌, ◌++◌, map, length, Some, None, decimal, Option, ◌==◌, ◌≢◌}
use Rattle.std.specs.Int.{IsInRange}
use Rattle.std.specs.Str.Parse.{digits_value}
use Rattle.std.specs.List.{flat_map, AllByRecursion}
use Rattle.lines.specs.declared.kinds.Row.{Row}
use Rattle.lines.specs.Kinds.{arity, Short, IsNumber}

-- what may stand at a place of a line: a given byte, or a number of at most so many digits
pub data Piece : Type 0 where
  byte : ℕ → Piece
  num : ℕ → Piece

-- the numbers ns, written at the pieces, give w
abbrev pub Writes : List Piece → List ℕ → List ℕ → Type 0
Writes [] ns w = (ns ≡ []) × (w ≡ [])
Writes (byte b ∷ ps) ns w = (v : List ℕ) × (w ≡ b ∷ v) × Writes ps ns v
Writes (num d ∷ ps) ns w = (n : ℕ) × (ms : List ℕ) × (v : List ℕ) × (ns ≡ n ∷ ms) × Short d n × (w ≡ decimal n ++ v) × Writes ps ms v

-- the widths that a scan handles
abbrev pub Wide : ℕ → Type 0
Wide d = (0 < d) × (d ≤ 16)

-- n fields of at most d digits, each after a blank, and then t
abbrev pub shape : ℕ → ℕ → List Piece → List Piece
shape d zero t = t
shape d (suc n) t = byte 32 ∷ num d ∷ shape d n t

abbrev pub feed : List Piece
feed = byte 10 ∷ []

abbrev pub answer : List Piece
answer = byte 32 ∷ byte 58 ∷ byte 32 ∷ num 8 ∷ byte 32 ∷ num 8 ∷ byte 10 ∷ []

abbrev pub ten_numbers : List Piece
ten_numbers = num 16 ∷ shape 16 9 feed

-- a whole line: a kind of the table, its fields, and t
abbrev pub Lines : List Row → List Piece → List ℕ → List ℕ → Type 0
Lines rows t ns w = (k : ℕ) × (n : ℕ) × (ms : List ℕ) × (v : List ℕ) × (ns ≡ k ∷ ms) × (arity rows k ≡ Some n) × (w ≡ decimal k ++ v) × Writes (shape 8 n t) ms v

abbrev pub first : List ℕ → Option ℕ
first [] = None
first (x ∷ xs) = Some x

abbrev pub AllDigits : List ℕ → Type 0
AllDigits [] = Unit {0}
AllDigits (c ∷ cs) = IsInRange 48 57 c × AllDigits cs

-- no digit comes next
abbrev pub Ends : List ℕ → Type 0
Ends [] = Unit {0}
Ends (x ∷ xs) = IsInRange 48 57 x → ⊥

-- no digit begins what is written at the pieces
abbrev pub Delim : List Piece → Type 0
Delim [] = Unit {0}
Delim (byte b ∷ ps) = IsInRange 48 57 b → ⊥
Delim (num d ∷ ps) = ⊥

-- how many digits a number of at most d digits can have that begins as xs does
abbrev pub room : ℕ → List ℕ → ℕ
room d [] = d
room d (x ∷ xs) = cond (x == 48) 1 d

-- ds is the longest start of xs that begins a number, and rest follows it
pub record Run (d : ℕ) (xs ds rest : List ℕ) : Type 0 where
  pub split : xs ≡ ds ++ rest
  pub digits : AllDigits ds
  pub fits : length ds ≤ room d xs
  pub stops : (length ds ≡ room d xs) ⊎ Ends rest

-- From the position G, front is written with the numbers ns, and H is the position where rest comes next.
pub record Reached (G H : List ℕ → List ℕ → Type 0) (front ns rest : List ℕ) : Type 0 where
  pub to : (ms w : List ℕ) → H ms w → G (ns ++ ms) (front ++ w)
  pub from : (ms w : List ℕ) → first w ≡ first rest → G ms (front ++ w) → (ks : List ℕ) × (ms ≡ ns ++ ks) × H ks w

-- At the position G, xs can be followed only until `left` of its bytes are left.
pub record Stuck (G : List ℕ → List ℕ → Type 0) (xs : List ℕ) (left : ℕ) : Type 0 where
  pub front : List ℕ
  pub rest : List ℕ
  pub split : xs ≡ front ++ rest
  pub count : length rest ≡ left
  pub begins : (r : List ℕ) × (ms : List ℕ) × G ms (front ++ r)
  pub stops : (ms r : List ℕ) → first r ≡ first rest → G ms (front ++ r) → ⊥

-- a number is read from xs, and rest follows it
pub record NumberRead (d : ℕ) (xs ds rest : List ℕ) : Type 0 where
  pub split : xs ≡ ds ++ rest
  pub number : IsNumber d ds
  pub reached : (ps : List Piece) → Delim ps → Reached (Writes (num d ∷ ps)) (Writes ps) ds (digits_value 10 ds ∷ []) rest

abbrev pub blanked : List ℕ → List ℕ
blanked ds = 32 ∷ ds

-- of n fields all but the last m are read from xs, by their digits, and rest follows them
pub record FieldsRead (d n m : ℕ) (xs : List ℕ) (texts : List (List ℕ)) (rest : List ℕ) : Type 0 where
  pub split : xs ≡ flat_map blanked texts ++ rest
  pub numbers : AllByRecursion (IsNumber d) texts
  pub reached : (t : List Piece) → Delim t → Reached (Writes (shape d n t)) (Writes (shape d m t)) (flat_map blanked texts) (map (digits_value 10) texts) rest

-- a table of two-digit kinds with at most 7 fields
pub record Table (rows : List Row) : Type 0 where
  pub two_digits : (k n : ℕ) → arity rows k ≡ Some n → (10 ≤ k) × (k < 100) × (n ≤ 7)
  pub some : (k : ℕ) × (n : ℕ) × (arity rows k ≡ Some n)

-- a kind of the table is read from xs
pub record KindRead (rows : List Row) (xs : List ℕ) (k n : ℕ) (rest : List ℕ) : Type 0 where
  pub known : arity rows k ≡ Some n
  pub few : n ≤ 7
  pub split : xs ≡ decimal k ++ rest
  pub reached : (t : List Piece) → Reached (Lines rows t) (Writes (shape 8 n t)) (decimal k) (k ∷ []) rest

-- some kind of the table, or none, has the tens digit t
abbrev pub Leads : List Row → ℕ → Bool → Type 0
Leads rows t true = (d : ℕ) × (n : ℕ) × (d < 10) × (arity rows (10 * t + d) ≡ Some n)
Leads rows t false = (d : ℕ) → d < 10 → arity rows (10 * t + d) ≡ None

-- xs begins with the second digit of kind k, whose first is t
pub record SecondRead (rows : List Row) (t : ℕ) (xs : List ℕ) (k n : ℕ) (rest : List ℕ) : Type 0 where
  pub ones : ℕ
  pub digit : ones < 10
  pub kind : k ≡ 10 * t + ones
  pub known : arity rows k ≡ Some n
  pub split : xs ≡ (48 + ones) ∷ rest

-- xs begins with no second digit of a kind whose first is t
abbrev pub NoSecond : List Row → ℕ → List ℕ → Type 0
NoSecond rows t xs = (k n : ℕ) → arity rows k ≡ Some n → k / 10 ≡ t → first xs ≢ Some (48 + k % 10)

-- a kind of the table and the digits of its fields are read from xs
pub record StartRead (rows : List Row) (xs : List ℕ) (k : ℕ) (texts : List (List ℕ)) (rest : List ℕ) : Type 0 where
  pub known : arity rows k ≡ Some (length texts)
  pub numbers : AllByRecursion (IsNumber 8) texts
  pub split : xs ≡ (decimal k ++ flat_map blanked texts) ++ rest
  pub reached : (t : List Piece) → Delim t → Reached (Lines rows t) (Writes t) (decimal k ++ flat_map blanked texts) (k ∷ map (digits_value 10) texts) rest

-- xs is written with the numbers ns, and with no others
pub record Done (G : List ℕ → List ℕ → Type 0) (xs ns : List ℕ) : Type 0 where
  pub is : G ns xs
  pub only : (ms : List ℕ) → G ms xs → ms ≡ ns

-- reply and result are read from xs, to its end
pub record AnswerRead (xs reply result : List ℕ) : Type 0 where
  pub numbers : IsNumber 8 reply × IsNumber 8 result
  pub done : Done (Writes answer) xs (digits_value 10 reply ∷ digits_value 10 result ∷ [])

-- the digits of ten numbers are read from xs, to its end
pub record TenRead (xs : List ℕ) (texts : List (List ℕ)) : Type 0 where
  pub ten : length texts ≡ 10
  pub numbers : AllByRecursion (IsNumber 16) texts
  pub done : Done (Writes ten_numbers) xs (map (digits_value 10) texts)
