-- The balance counted from a register, and the cells of a book.
use Rattle.std.proofs.Common.{◌≡◌, ℕ, ◌+◌, ◌-◌, ◌<◌, ◌≤◌, ◌&&◌, eqb, ◌≢◌, List, [], ◌∷◌, ◌++◌, length, get_or, set, ℤ, pos, ◌+ℤ◌, neg_ℤ, sym, refl, ap, ◌∙◌, subst, inl, inr, arith}
use Rattle.std.proofs.lemmas.List.{get_or-set_same, get_or-set_other, get_or_push, get_or_append_left}
use Rattle.std.proofs.lemmas.Int.{ints}
use Rattle.std.proofs.lemmas.Bool.{cases_eq, eq-eqb, ne_eqb, and_right, cond-false}
use Rattle.positions.specs.declared.cell.Cell.{Cell}
use Rattle.positions.specs.declared.leg.Leg.{Leg}
use Rattle.positions.specs.declared.kinds.Side.{Side}
use Rattle.positions.specs.declared.kinds.Side.TheVariants.{Buy, Sell}
use Rattle.positions.specs.declared.kinds.Effect.{Effect}
use Rattle.positions.specs.Cells.{no_cell, on_side, booked, unbooked, given, received}
use Rattle.positions.specs.Legs.{no_leg}
use Rattle.positions.proofs.CellLaws.{bought, sold, unbought, unsold}
use Rattle.ledger.specs.declared.state.Series.{Series}
use Rattle.ledger.specs.declared.state.State.{State}
use Rattle.ledger.specs.Tables.{Legs, past_series}
use Rattle.register.specs.Balance.{Listed, Count, none_listed, signed, added, moved}

-- ── one cell ──

abbrev pub Differs : Cell → ℤ → Type 0
Differs c z = pos c.longs ≡ z +ℤ pos c.shorts

pub differs_booked : (side : Side) (c : Cell) (e : Effect) (q : ℕ) (z : ℤ) → Differs c z → Differs (booked c side e q) (z +ℤ signed side q)
differs_booked Buy c e q z h = let m = bought c e q in omega (arith, ints, m, h)
differs_booked Sell c e q z h = let m = sold c e q in omega (arith, ints, m, h)

pub differs_unbooked : (side : Side) (c : Cell) (rest closed q : ℕ) (z : ℤ) → rest ≤ on_side side c → rest + closed ≡ q → Differs c z → Differs (unbooked c side rest closed) (z +ℤ neg_ℤ (signed side q))
differs_unbooked Buy c rest closed q z le sum h = let m = unbought c rest closed le in omega (arith, ints, m, h, sum)
differs_unbooked Sell c rest closed q z le sum h = let m = unsold c rest closed le in omega (arith, ints, m, h, sum)

pub differs_given : (side : Side) (c : Cell) (q : ℕ) (z : ℤ) → q ≤ on_side side c → Differs c z → Differs (given c side q) (z +ℤ neg_ℤ (signed side q))
differs_given Buy c q z le h = omega (arith, ints, h, le)
differs_given Sell c q z le h = omega (arith, ints, h, le)

pub differs_received : (side : Side) (c : Cell) (q : ℕ) (z : ℤ) → Differs c z → Differs (received c side q) (z +ℤ signed side q)
differs_received Buy c q z h = omega (arith, ints, h)
differs_received Sell c q z h = omega (arith, ints, h)

-- ── the balance with something added ──

module _ (b : ℕ → ℕ → ℤ) (x n : ℕ) (z : ℤ) where
  pub added_here : added b x n z x n ≡ b x n +ℤ z
  added_here = simp (eq-eqb x x refl, eq-eqb n n refl)

  pub added_other : (a : ℕ) → (a ≡ x → ⊥) → added b x n z a n ≡ b a n
  added_other a o = simp (ne_eqb a x o)

  pub added_else : (a i : ℕ) → (i ≡ n → ⊥) → added b x n z a i ≡ b a i
  added_else a i o = cond-false (eqb a x && eqb i n) _ _ (and_right (eqb a x) (eqb i n) (ne_eqb i n o))

pub moved_else : (b : ℕ → ℕ → ℤ) (from to n : ℕ) (z : ℤ) (a i : ℕ) → (i ≡ n → ⊥) → moved b from to n z a i ≡ b a i
moved_else b from to n z a i o = added_else (added b from n (neg_ℤ z)) to n z a i o ∙ added_else b from n (neg_ℤ z) a i o

-- ── the cells of one series ──

abbrev pub RowAgrees : List Cell → (ℕ → ℕ → ℤ) → ℕ → Type 0
RowAgrees cells b n = (a : ℕ) → 1 ≤ a → a ≤ 32 → Differs (get_or cells (a - 1) no_cell) (b a n)

-- one cell is replaced
pub row_added : (cells : List Cell) (b : ℕ → ℕ → ℤ) (x n : ℕ) (c : Cell) (z : ℤ) → 1 ≤ x → x - 1 < length cells → RowAgrees cells b n → Differs c (b x n +ℤ z) → RowAgrees (set cells (x - 1) c) (added b x n z) n
row_added cells b x n c z low lt old new a al ah =
    elim (cases_eq a x) [
      | inl same ↦
          subst (λ (k : ℕ). Differs (get_or (set cells (x - 1) c) (k - 1) no_cell) (added b x n z k n)) (sym same)
          (subst (λ (w : ℤ). Differs (get_or (set cells (x - 1) c) (x - 1) no_cell) w) (sym (added_here b x n z))
          (subst (λ (e : Cell). Differs e (b x n +ℤ z)) (sym (get_or-set_same cells (x - 1) c no_cell lt)) new))
      | inr other ↦
          let o : a - 1 ≢ x - 1 = λ e. other (omega arith) in
          subst (λ (w : ℤ). Differs (get_or (set cells (x - 1) c) (a - 1) no_cell) w) (sym (added_other b x n z a other))
          (subst (λ (e : Cell). Differs e (b a n)) (sym (get_or-set_other cells (x - 1) (a - 1) c no_cell o)) (old a al ah))
    ]

-- ── all series ──

abbrev pub Agrees : List Series → (ℕ → ℕ → ℤ) → Type 0
Agrees rows b = (i : ℕ) → 1 ≤ i → i ≤ 32 → RowAgrees (get_or rows (i - 1) past_series).cells b i

-- one row is replaced
pub agrees_row : (rows : List Series) (b d : ℕ → ℕ → ℤ) (n : ℕ) (r : Series) → 1 ≤ n → n - 1 < length rows → Agrees rows b → RowAgrees r.cells d n → ((a i : ℕ) → (i ≡ n → ⊥) → d a i ≡ b a i) → Agrees (set rows (n - 1) r) d
agrees_row rows b d n r low lt old new rest i il ih a al ah =
    elim (cases_eq i n) [
      | inl same ↦
          subst (λ (k : ℕ). Differs (get_or (get_or (set rows (n - 1) r) (k - 1) past_series).cells (a - 1) no_cell) (d a k)) (sym same)
          (subst (λ (q : Series). Differs (get_or q.cells (a - 1) no_cell) (d a n)) (sym (get_or-set_same rows (n - 1) r past_series lt)) (new a al ah))
      | inr other ↦
          let o : i - 1 ≢ n - 1 = λ e. other (omega arith) in
          subst (λ (w : ℤ). Differs (get_or (get_or (set rows (n - 1) r) (i - 1) past_series).cells (a - 1) no_cell) w) (sym (rest a i other))
          (subst (λ (q : Series). Differs (get_or q.cells (a - 1) no_cell) (b a i)) (sym (get_or-set_other rows (n - 1) (i - 1) r past_series o)) (old i il ih a al ah))
    ]

-- ── the legs ──

abbrev pub as_listed : Leg → Listed
as_listed l = record { account = l.account; series = l.series; side = l.side; quantity = l.quantity }

pub record Lists (ls : List Listed) (t : Legs) : Type 0 where
  pub number : length ls ≡ t.count
  pub each : (k : ℕ) → k < t.count → get_or ls k none_listed ≡ as_listed (get_or t.rows k no_leg)

-- one leg more
pub legs_push : (ls : List Listed) (rows : List Leg) (n : ℕ) (x : Leg) → length ls ≡ n → n < length rows
    → ((k : ℕ) → k < n → get_or ls k none_listed ≡ as_listed (get_or rows k no_leg))
    → (k : ℕ) → k < n + 1 → get_or (ls ++ (as_listed x ∷ [])) k none_listed ≡ as_listed (get_or (set rows n x) k no_leg)
legs_push ls rows n x len lt old k h =
    elim (cases_eq k n) [
      | inl same ↦ get_or_push ls (as_listed x) none_listed k (len ∙ sym same) ∙ sym (ap as_listed (ap (λ (i : ℕ). get_or (set rows n x) i no_leg) same ∙ get_or-set_same rows n x no_leg lt))
      | inr other ↦ get_or_append_left ls _ none_listed k (omega arith) ∙ old k (omega arith) ∙ sym (ap as_listed (get_or-set_other rows n k x no_leg other))
    ]

-- one leg replaced by another that is listed as l
pub legs_set : (ls : List Listed) (rows : List Leg) (n at : ℕ) (l : Listed) (x : Leg) → at < length ls → at < length rows → l ≡ as_listed x
    → ((k : ℕ) → k < n → get_or ls k none_listed ≡ as_listed (get_or rows k no_leg))
    → (k : ℕ) → k < n → get_or (set ls at l) k none_listed ≡ as_listed (get_or (set rows at x) k no_leg)
legs_set ls rows n at l x la lr is old k h =
    elim (cases_eq k at) [
      | inl same ↦
          subst (λ (i : ℕ). get_or (set ls at l) i none_listed ≡ as_listed (get_or (set rows at x) i no_leg)) (sym same)
          (get_or-set_same ls at l none_listed la ∙ is ∙ sym (ap as_listed (get_or-set_same rows at x no_leg lr)))
      | inr other ↦ get_or-set_other ls at k l none_listed other ∙ old k h ∙ sym (ap as_listed (get_or-set_other rows at k x no_leg other))
    ]

-- the same list of legs where a leg's state alone has changed
pub legs_same : (ls : List Listed) (rows : List Leg) (n at : ℕ) (x : Leg) → at < length rows → as_listed x ≡ as_listed (get_or rows at no_leg)
    → ((k : ℕ) → k < n → get_or ls k none_listed ≡ as_listed (get_or rows k no_leg))
    → (k : ℕ) → k < n → get_or ls k none_listed ≡ as_listed (get_or (set rows at x) k no_leg)
legs_same ls rows n at x lr is old k h =
    elim (cases_eq k at) [
      | inl same ↦
          old k h ∙ ap (λ (i : ℕ). as_listed (get_or rows i no_leg)) same ∙ sym is ∙ sym (ap as_listed (ap (λ (i : ℕ). get_or (set rows at x) i no_leg) same ∙ get_or-set_same rows at x no_leg lr))
      | inr other ↦ old k h ∙ sym (ap as_listed (get_or-set_other rows at k x no_leg other))
    ]

-- ── a count and a book ──

pub record Tied (y : Count) (s : State) : Type 0 where
  pub cells : Agrees s.series.rows y.balance
  pub legs : Lists y.legs s.legs
