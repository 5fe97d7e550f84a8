-- The kind at the start of a line.
use Rattle.std.proofs.Common.{◌≡◌, ℕ, ◌+◌, ◌*◌, ◌/◌, ◌%◌, ◌<◌, ◌≤◌, true, List, [], ◌∷◌, ◌++◌, length, Some, None, decimal, Option, sym, refl, ap, ◌∙◌, subst, arith}
use Rattle.std.proofs.lemmas.Fmt.{decimal_digit, decimal_step}
use Rattle.lines.specs.declared.kinds.Row.{Row}
use Rattle.lines.specs.Kinds.{arity}
use Rattle.lines.specs.Grammar.{Piece, Writes, shape, Lines, first, Reached, Stuck, Table, KindRead, SecondRead, NoSecond, Leads}
use Rattle.lines.proofs.Steps.{completes}

pub two : (k : ℕ) → 10 ≤ k → k < 100 → decimal k ≡ (48 + k / 10) ∷ (48 + k % 10) ∷ []
two k l h = decimal_step k l (omega arith) ∙ ap (λ x. x ++ ((48 + k % 10) ∷ [])) (decimal_digit (k / 10) (omega arith))

two_of : (t d : ℕ) → 0 < t → t < 10 → d < 10 → decimal (10 * t + d) ≡ (48 + t) ∷ (48 + d) ∷ []
two_of t d z l h =
    let a : (10 * t + d) / 10 ≡ t = omega arith in
    let b : (10 * t + d) % 10 ≡ d = omega arith in
    two (10 * t + d) (omega arith) (omega arith) ∙ (rw (a, b) refl)

module _ (rows : List Row) (table : Table rows) (t : List Piece) where
  line_some : (ms w : List ℕ) → Lines rows t ms w → (k : ℕ) × (n : ℕ) × (v : List ℕ) × (arity rows k ≡ Some n) × (w ≡ (48 + k / 10) ∷ (48 + k % 10) ∷ v)
  line_some ms w h =
      let b = table.two_digits h.0 h.1 h.5 in
      (h.0, h.1, h.3, h.5, h.6 ∙ ap (λ l. l ++ h.3) (two h.0 b.0 b.1))

  -- a line of kind k exists
  line_of_kind : (k n : ℕ) → arity rows k ≡ Some n → (v : List ℕ) × (ms : List ℕ) × Lines rows t ms (decimal k ++ v)
  line_of_kind k n known = let p = completes (shape 8 n t) in (p.0, k ∷ p.1, (k, n, p.1, p.0, refl, known, refl, p.2))

  pub stuck_first : (xs : List ℕ) (left : ℕ) → left ≡ length xs → ((k n : ℕ) → arity rows k ≡ Some n → first xs ≡ Some (48 + k / 10) → ⊥) → Stuck (Lines rows t) xs left
  stuck_first xs left e other = record {
    front = [];
    rest = xs;
    split = refl;
    count = sym e;
    begins = let p = line_of_kind table.some.0 table.some.1 table.some.2 in (decimal table.some.0 ++ p.0, p.1, p.2);
    stops = λ ms r f h. let p = line_some ms r h in other p.0 p.1 p.3 (sym f ∙ ap first p.4);
  }

  pub stuck_second : (a tens : ℕ) (more xs : List ℕ) (left : ℕ) → xs ≡ a ∷ more → left ≡ length more → tens < 10 → a ≡ 48 + tens → Leads rows tens true → NoSecond rows tens more → Stuck (Lines rows t) xs left
  stuck_second a tens more xs left e long small is lead other = record {
    front = a ∷ [];
    rest = more;
    split = e;
    count = sym long;
    begins =
        let b = table.two_digits (10 * tens + lead.0) lead.1 lead.3 in
        let p = line_of_kind (10 * tens + lead.0) lead.1 lead.3 in
        let w : decimal (10 * tens + lead.0) ≡ a ∷ (48 + lead.0) ∷ [] = two_of tens lead.0 (omega (arith, lead.2)) small lead.2 ∙ ap (λ x. x ∷ (48 + lead.0) ∷ []) (sym is) in
        ((48 + lead.0) ∷ p.0, p.1, rw w at p.2);
    stops = λ ms r f h.
        let p = line_some ms (a ∷ r) h in
        let hd : a ≡ 48 + p.0 / 10 = cc p.4 in
        let tl : r ≡ (48 + p.0 % 10) ∷ p.2 = cc p.4 in
        other p.0 p.1 p.3 (omega arith) (sym f ∙ ap first tl);
  }

  kind_same : (k k' n n' : ℕ) (v w : List ℕ) → arity rows k ≡ Some n → arity rows k' ≡ Some n' → decimal k ++ v ≡ decimal k' ++ w → (k ≡ k') × (n ≡ n') × (v ≡ w)
  kind_same k k' n n' v w a a' e =
      let b = table.two_digits k n a in
      let b' = table.two_digits k' n' a' in
      let f : ◌≡◌ {A = List ℕ} ((48 + k / 10) ∷ (48 + k % 10) ∷ v) ((48 + k' / 10) ∷ (48 + k' % 10) ∷ w) =
      ap (λ l. l ++ v) (sym (two k b.0 b.1)) ∙ e ∙ ap (λ l. l ++ w) (two k' b'.0 b'.1) in
      let x : 48 + k / 10 ≡ 48 + k' / 10 = cc f in
      let y : 48 + k % 10 ≡ 48 + k' % 10 = cc f in
      let z : v ≡ w = cc f in
      let same : k ≡ k' = omega arith in
      let s : ◌≡◌ {A = Option ℕ} (Some n) (Some n') = sym a ∙ ap (arity rows) same ∙ a' in
      (same, cc s, z)

  reached_kind : (k n : ℕ) (rest : List ℕ) → arity rows k ≡ Some n → Reached (Lines rows t) (Writes (shape 8 n t)) (decimal k) (k ∷ []) rest
  reached_kind k n rest known = record {
    to = λ ms w h. (k, n, ms, w, refl, known, refl, h);
    from = λ ms w e h.
        let s = kind_same k h.0 n h.1 w h.3 known h.5 h.6 in
        (h.2, h.4 ∙ ap (λ x. x ∷ h.2) (sym s.0), subst (λ l. Writes (shape 8 n t) h.2 l) (sym s.2) (subst (λ m. Writes (shape 8 m t) h.2 h.3) (sym s.1) h.7));
  }

pub kind_read : (rows : List Row) → Table rows → (tens ones n : ℕ) (xs rest : List ℕ) → tens < 10 → ones < 10 → arity rows (10 * tens + ones) ≡ Some n → xs ≡ (48 + tens) ∷ (48 + ones) ∷ rest → KindRead rows xs (10 * tens + ones) n rest
kind_read rows table tens ones n xs rest a b known e =
    let r = table.two_digits (10 * tens + ones) n known in
    record {
      known = known;
      few = r.2;
      split = e ∙ ap (λ l. l ++ rest) (sym (two_of tens ones (omega arith) a b));
      reached = λ t. reached_kind rows table t (10 * tens + ones) n rest known;
    }

pub first_none : (xs : List ℕ) (x : ℕ) → length xs ≡ 0 → first xs ≡ Some x → ⊥
first_none [] x z e = let y : ◌≡◌ {A = ℕ} 0 1 = cc e in omega arith
first_none (y ∷ xs) x z e = omega arith

pub first_is : (xs ys : List ℕ) (a x : ℕ) → xs ≡ a ∷ ys → first xs ≡ Some x → a ≡ x
first_is xs ys a x e f = let g : ◌≡◌ {A = Option ℕ} (Some a) (Some x) = sym (ap first e) ∙ f in cc g

-- what the table has at the digits of k is what it has at k
pub not_there : (rows : List Row) (k tens ones n : ℕ) → arity rows k ≡ Some n → k / 10 ≡ tens → k % 10 ≡ ones → arity rows (10 * tens + ones) ≡ None → ⊥
not_there rows k tens ones n known a b none =
    let same : 10 * tens + ones ≡ k = omega arith in
    let g : ◌≡◌ {A = Option ℕ} (Some n) None = sym known ∙ ap (arity rows) (sym same) ∙ none in
    let y : ◌≡◌ {A = ℕ} 0 1 = cc g in
    omega arith

pub kind_of_second : (rows : List Row) → Table rows → (tens k n a : ℕ) (xs more rest : List ℕ) → tens < 10 → a ≡ 48 + tens → xs ≡ a ∷ more → SecondRead rows tens more k n rest → KindRead rows xs k n rest
kind_of_second rows table tens k n a xs more rest l is e h =
    subst (λ x. KindRead rows xs x n rest) (sym h.kind)
    (kind_read rows table tens h.ones n xs rest l h.digit (ap (arity rows) (sym h.kind) ∙ h.known) (e ∙ ap (λ x. x ∷ more) is ∙ ap (λ r. (48 + tens) ∷ r) h.split))
