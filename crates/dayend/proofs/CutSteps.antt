-- The loops of the cut.
use Rattle.std.proofs.Common.{◌≡◌, ℕ, zero, suc, ◌+◌, ◌-◌, ◌<◌, ◌≤◌, min, Bool, false, ◌||◌, List, [], ◌∷◌, length, get_or, take, refl, ap, ◌∙◌, arith}
use Rattle.std.specs.List.{list_any}
use Rattle.std.proofs.Math.Bool.{or_comm}
use Rattle.std.proofs.Math.Seq.{take-suc}
use Rattle.std.proofs.lemmas.List.Folds.{list_any-append}
use Rattle.std.proofs.lemmas.Bool.{cond_both}
use Rattle.positions.specs.declared.cell.Cell.{Cell}
use Rattle.positions.specs.declared.kinds.AccountType.{AccountType}
use Rattle.positions.specs.Kinds.{is_net}
use Rattle.positions.specs.Cells.{with_sides, netted, undenied, with_due}
use Rattle.positions.specs.Places.{each_from, each}
use Rattle.ledger.specs.declared.state.Series.{Series}
use Rattle.ledger.specs.declared.state.State.{State}
use Rattle.ledger.specs.Tables.{past_series, no_account, account_of}
use Rattle.ledger.specs.Lookups.{expires, expiring}
use Rattle.dayend.specs.Cutoff.{any_expiring, asked, automatic, cut_by, cut_cells}

-- ── a series that expires today ──

-- row by row
pub any_row : (s : State) (n : ℕ) → n ≤ length s.series.rows → list_any (λ (r : Series). expires r.contract s.previous s.day) (take n s.series.rows) ≡ any_expiring s n
any_row s zero h = refl
any_row s (suc n) h =
    let today : Series → Bool = λ r. expires r.contract s.previous s.day in
    let k : n ≡ suc n - 1 = omega arith in
    let here : list_any today (get_or s.series.rows n past_series ∷ []) ≡ expiring s (suc n) =
    or_comm (today (get_or s.series.rows n past_series)) false ∙ ap (λ (j : ℕ). today (get_or s.series.rows j past_series)) k in
    ap (list_any today) (take-suc s.series.rows n past_series (omega arith))
    ∙ list_any-append today (take n s.series.rows) (get_or s.series.rows n past_series ∷ [])
    ∙ ap (λ (b : Bool). b || list_any today (get_or s.series.rows n past_series ∷ [])) (any_row s n (omega arith))
    ∙ ap (λ (b : Bool). any_expiring s n || b) here
    ∙ or_comm (any_expiring s n) (expiring s (suc n))

-- ── cells that the cut leaves as they are ──

netted_none : (t : AccountType) (c : Cell) → c.longs ≡ 0 → netted t c ≡ c
netted_none t c z =
    cond_both (is_net t) _ c (λ x. x ≡ c)
    (λ e.
    let a : c.longs - min c.longs c.shorts ≡ c.longs = omega (arith, z) in
    let b : c.shorts - min c.longs c.shorts ≡ c.shorts = omega (arith, z) in
    ap (λ (n : ℕ). with_sides c n (c.shorts - min c.longs c.shorts)) a ∙ ap (with_sides c c.longs) b)
    (λ e. refl)

due_none : (c : Cell) (asked : ℕ) (automatic : Bool) → c.longs ≡ 0 → c.due ≡ 0 → with_due c asked automatic ≡ c
due_none c asked automatic z none =
    let m : min c.longs (asked + undenied c automatic) ≡ c.due = omega (arith, z, none) in
    ap (λ (n : ℕ). record c { due = n }) m

-- no longs, and nothing due
pub cut_stays : (t : AccountType) (asked : ℕ) (automatic : Bool) (c : Cell) → c.longs ≡ 0 → c.due ≡ 0 → with_due (netted t c) asked automatic ≡ c
cut_stays t asked automatic c z none = ap (λ (x : Cell). with_due x asked automatic) (netted_none t c z) ∙ due_none c asked automatic z none

-- ── a series cut ──

each_same_from : {X : Type 0} (f g : ℕ → X → X) (n m : ℕ) (xs : List X) → n + length xs ≤ m → ((k : ℕ) (x : X) → k < m → f k x ≡ g k x) → each_from n f xs ≡ each_from n g xs
each_same_from f g n m [] h same = refl
each_same_from {X} f g n m (x ∷ xs) h same =
    ap (λ (y : X). y ∷ each_from (suc n) f xs) (same n x (omega arith)) ∙ ap (λ (ys : List X). g n x ∷ ys) (each_same_from f g (suc n) m xs (omega arith) same)

pub row_cut : (s : State) (i : ℕ) (cells : List Cell) (wanted : List ℕ) (flags : List Bool) → length cells ≡ 32
    → ((a : ℕ) → a < 32 → get_or wanted a 0 ≡ asked s.requests (a + 1) i) → ((a : ℕ) → a < 32 → get_or flags a false ≡ automatic s (a + 1) i)
    → each (cut_by s.accounts.rows wanted flags) cells ≡ cut_cells s i cells
row_cut s i cells wanted flags size w f = each_same_from _ _ 0 32 cells (omega arith) (λ a c lt.
    let k : a ≡ a + 1 - 1 = omega arith in
    ap (λ (j : ℕ). with_due (netted (get_or s.accounts.rows j no_account).account_type c) (get_or wanted a 0) (get_or flags a false)) k
    ∙ ap (λ (n : ℕ). with_due (netted (account_of s (a + 1)).account_type c) n (get_or flags a false)) (w a lt)
    ∙ ap (with_due (netted (account_of s (a + 1)).account_type c) (asked s.requests (a + 1) i)) (f a lt))
