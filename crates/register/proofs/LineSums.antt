-- Amounts of a statement's lines, series by series.
use Rattle.std.proofs.Common.{◌≡◌, ℕ, ◌+◌, ◌<◌, ◌≤◌, Bool, true, false, cond, eqb, List, [], ◌∷◌, ◌++◌, length, get_or, sum_by, sym, refl, ap, ◌∙◌, subst, ⊎_elim, arith}
use Rattle.std.specs.List.{range_with_len, flat_map}
use Rattle.std.proofs.lemmas.List.{get_or_past}
use Rattle.std.proofs.lemmas.List.Sums.{sum_by-cons, sum_by-append}
use Rattle.std.proofs.lemmas.Bool.{cases_lt}
use Rattle.positions.specs.declared.cell.Cell.{Cell}
use Rattle.positions.specs.Cells.{no_cell}
use Rattle.settlement.specs.declared.line.Line.{Line}
use Rattle.settlement.specs.declared.line.SeriesTerms.{SeriesTerms}
use Rattle.settlement.specs.Lines.{exercised_line, covered_line, uncovered_line, if_any, cell_lines, series_lines}
use Rattle.settlement.specs.Laws.{Even}
use Rattle.settlement.proofs.EvenLaws.{lines_even}
use Rattle.ledger.specs.declared.state.Series.{Series}
use Rattle.ledger.specs.declared.state.State.{State}
use Rattle.ledger.specs.Tables.{past_series, cells_of}
use Rattle.dayend.specs.Statement.{terms_at, lines_at, statement_lines}
use Rattle.ledger.specs.Sound.{Facts}
use Rattle.dayend.proofs.StatementLaws.{countable}
use Rattle.register.specs.Law.{of_series, EvenLines}

-- ── lines that are all of one series ──

abbrev AllOf : ℕ → List Line → Type 0
AllOf k lines = (i : ℕ) (f : Line → ℕ) → of_series i f lines ≡ cond (eqb k i) (sum_by f lines) 0

none_either_way : (b : Bool) → ◌≡◌ {A = ℕ} 0 (cond b 0 0)
none_either_way true = refl
none_either_way false = refl

all_none : (k : ℕ) → AllOf k []
all_none k i f = none_either_way (eqb k i)

one_either_way : (b : Bool) (n : ℕ) → cond b n 0 + 0 ≡ cond b (n + 0) 0
one_either_way true n = refl
one_either_way false n = refl

all_one : (l : Line) → AllOf l.series (l ∷ [])
all_one l i f =
    let a = sum_by-cons (λ (l : Line). cond (eqb l.series i) (f l) 0) l [] in
    let b = sum_by-cons f l [] in
    a ∙ one_either_way (eqb l.series i) (f l) ∙ ap (λ (n : ℕ). cond (eqb l.series i) n 0) (sym b)

both_either_way : (b : Bool) (m n : ℕ) → cond b m 0 + cond b n 0 ≡ cond b (m + n) 0
both_either_way true m n = refl
both_either_way false m n = refl

all_append : (k : ℕ) (xs ys : List Line) → AllOf k xs → AllOf k ys → AllOf k (xs ++ ys)
all_append k xs ys p q i f =
    let a = sum_by-append (λ (l : Line). cond (eqb l.series i) (f l) 0) xs ys in
    let b = sum_by-append f xs ys in
    omega (arith, a, p i f, q i f, both_either_way (eqb k i) (sum_by f xs) (sum_by f ys), ap (λ (n : ℕ). cond (eqb k i) n 0) b)

any_either_way : (b : Bool) (k : ℕ) (l : Line) → l.series ≡ k → AllOf k (cond b [] (l ∷ []))
any_either_way true k l e = all_none k
any_either_way false k l e = subst (λ (n : ℕ). AllOf n (l ∷ [])) e (all_one l)

all_joined : (k : ℕ) (g : ℕ → List Line) → ((x : ℕ) → AllOf k (g x)) → (xs : List ℕ) → AllOf k (flat_map g xs)
all_joined k g each [] = all_none k
all_joined k g each (x ∷ xs) = all_append k (g x) (flat_map g xs) (each x) (all_joined k g each xs)

all_cell : (t : SeriesTerms) (account : ℕ) (c : Cell) → AllOf t.series (cell_lines t account c)
all_cell t account c =
    all_append t.series (if_any (exercised_line t account c)) _ (any_either_way (eqb (exercised_line t account c).contracts 0) t.series (exercised_line t account c) refl)
    (all_append t.series (if_any (covered_line t account c)) (if_any (uncovered_line t account c))
    (any_either_way (eqb (covered_line t account c).contracts 0) t.series (covered_line t account c) refl)
    (any_either_way (eqb (uncovered_line t account c).contracts 0) t.series (uncovered_line t account c) refl))

all_series : (t : SeriesTerms) (cells : List Cell) → AllOf t.series (series_lines t cells)
all_series t cells = all_joined t.series (λ i. cell_lines t (i + 1) (get_or cells i no_cell)) (λ x. all_cell t (x + 1) (get_or cells x no_cell)) (range_with_len 0 (length cells))

-- ── two amounts that are equal, series by series ──

abbrev SameBy : (Line → ℕ) → (Line → ℕ) → List Line → Type 0
SameBy f g lines = (i : ℕ) → of_series i f lines ≡ of_series i g lines

module _ (f g : Line → ℕ) where
  same_joined : (h : ℕ → List Line) → ((x : ℕ) → SameBy f g (h x)) → (xs : List ℕ) → SameBy f g (flat_map h xs)
  same_joined h each [] i = refl
  same_joined h each (x ∷ xs) i =
      let a = sum_by-append (λ (l : Line). cond (eqb l.series i) (f l) 0) (h x) (flat_map h xs) in
      let b = sum_by-append (λ (l : Line). cond (eqb l.series i) (g l) 0) (h x) (flat_map h xs) in
      omega (arith, a, b, each x i, same_joined h each xs i)

  same_series : (t : SeriesTerms) (cells : List Cell) → sum_by f (series_lines t cells) ≡ sum_by g (series_lines t cells) → SameBy f g (series_lines t cells)
  same_series t cells e i = all_series t cells i f ∙ ap (λ (n : ℕ). cond (eqb t.series i) n 0) e ∙ sym (all_series t cells i g)

-- the lines of the series at a place are even
even_at : (s : State) → Facts s → (x : ℕ) → Even (lines_at s.terms.size s.day s.series.rows x)
even_at s f x =
    ⊎_elim
    (λ (lt : x < 32). lines_even (terms_at s.terms.size s.day s.series.rows x) (cells_of s x) (λ j. (countable s f x j lt).covered) (f.balanced x lt).2.0)
    (λ (le : 32 ≤ x).
    subst (λ (r : Series). Even (series_lines (terms_at s.terms.size s.day s.series.rows x) r.cells)) (sym (get_or_past s.series.rows x past_series (omega (arith, f.tables.1.1))))
    (record { shares = refl; money = refl }))
    (cases_lt x 32)

pub statement_even : (s : State) → Facts s → EvenLines (statement_lines s)
statement_even s f =
    let lines : ℕ → List Line = lines_at s.terms.size s.day s.series.rows in
    record {
      shares = same_joined (λ (l : Line). l.shares_received) (λ (l : Line). l.shares_delivered) lines
          (λ x. same_series _ _ (terms_at s.terms.size s.day s.series.rows x) (cells_of s x) (even_at s f x).shares) (range_with_len 0 32);
      money = same_joined (λ (l : Line). l.money_paid) (λ (l : Line). l.money_received) lines
          (λ x. same_series _ _ (terms_at s.terms.size s.day s.series.rows x) (cells_of s x) (even_at s f x).money) (range_with_len 0 32);
    }

pub none_even : EvenLines []
none_even = record { shares = λ i. refl; money = λ i. refl }
