-- A book with one part changed keeps what every book keeps.
use Rattle.std.proofs.Common.{◌≡◌, ℕ, zero, suc, ◌+◌, ◌-◌, ◌<◌, ◌≤◌, ◌≢◌, List, length, get_or, set, replicate, sym, refl, ap, ◌∙◌, subst, inl, inr, arith, length-set}
use Rattle.std.proofs.lemmas.List.{get_or-replicate, get_or-set_same, get_or-set_other}
use Rattle.std.proofs.lemmas.Bool.{cases_eq}
use Rattle.positions.specs.declared.cell.Cell.{Cell}
use Rattle.positions.specs.Cells.{no_cell}
use Rattle.positions.specs.Legs.{no_leg}
use Rattle.positions.specs.Rows.{total_longs}
use Rattle.positions.proofs.RowLaws.{at_set}
use Rattle.ledger.specs.declared.state.Opening.{Opening}
use Rattle.ledger.specs.declared.state.Account.{Account}
use Rattle.ledger.specs.declared.state.Contract.{Contract}
use Rattle.ledger.specs.declared.state.Request.{Request}
use Rattle.ledger.specs.declared.state.Series.{Series}
use Rattle.ledger.specs.declared.state.State.{State}
use Rattle.ledger.specs.declared.state.Stage.TheVariants.{Input}
use Rattle.ledger.specs.Tables.{Legs, no_account, no_contract, new_series, past_series, no_request, opening, with_accounts, with_listing, with_legs, with_cells, one_account_more, one_series_more}
use Rattle.ledger.specs.Sound.{Balanced, Waiting, Known, ValidLeg, Facts}

-- ── the opening ──

pub all_same : {X : Type 0} (P : X → Type 0) (n : ℕ) (x d : X) (i : ℕ) → P x → P d → P (get_or (replicate n x) i d)
all_same P zero x d i p q = q
all_same P (suc n) x d zero p q = p
all_same P (suc n) x d (suc i) p q = all_same P n x d i p q

all_within : {X : Type 0} (P : X → Type 0) (n : ℕ) (x d : X) (i : ℕ) → i < n → P x → P (get_or (replicate n x) i d)
all_within P n x d i h p = subst P (sym (get_or-replicate n i x d h)) p

-- the cells of a new series
pub new_balanced : (c : Contract) → Balanced (new_series c).cells
new_balanced c = (refl, (refl, omega arith), (refl, omega arith))

calm : (c : Contract) (j : ℕ) → Waiting Input (get_or (new_series c).cells j no_cell)
calm c j = all_same (Waiting Input) 32 no_cell no_cell j (refl, omega arith) (refl, omega arith)

pub facts_opening : (o : Opening) → 1 ≤ o.size → o.size ≤ 10_000 → 1 ≤ o.block → o.block ≤ 1_000 → o.day ≤ 99_999 → Facts (opening o)
facts_opening o s₁ s₂ b₁ b₂ d = record {
  ranges = ((s₁, s₂), (b₁, b₂), d);
  tables = ((omega arith, omega arith, omega arith, omega arith), (refl, refl, refl, refl));
  balanced = λ i h. all_within (λ (r : Series). Balanced r.cells) 32 (new_series no_contract) past_series i h (new_balanced no_contract);
  waiting = λ i j. all_same (λ (r : Series). Waiting Input (get_or r.cells j no_cell)) 32 (new_series no_contract) past_series i (calm no_contract j) (refl, omega arith);
  strikes = λ i. all_same (λ (r : Series). r.contract.strike ≤ 1_000_000) 32 (new_series no_contract) past_series i (omega arith) (omega arith);
  unlisted = λ i n h. all_within (λ (r : Series). total_longs r.cells ≡ 0) 32 (new_series no_contract) past_series i h refl;
  valid = λ k h. absurd (omega arith);
  asked = λ k. all_same (λ (r : Request). r.quantity ≤ 100_000) 128 no_request no_request k (omega arith) (omega arith);
  collateral = λ k. all_same (λ (a : Account). a.collateral ≤ 99_999_999) 32 no_account no_account k (omega arith) (omega arith);
}

-- ── an account or a series more ──

more_known : (s t : State) (a i : ℕ) → s.accounts.count ≤ t.accounts.count → s.series.count ≤ t.series.count → Known s a i → Known t a i
more_known s t a i x y k = ((k.0.0, omega (arith, k.0.1)), (k.1.0, omega (arith, k.1.1)))

pub facts_account : (s : State) (a : Account) → Facts s → s.accounts.count < 32 → a.collateral ≤ 99_999_999 → Facts (with_accounts s (one_account_more s.accounts a))
facts_account s a f lt small = record {
  ranges = f.ranges;
  tables = ((omega arith, f.tables.0.1, f.tables.0.2, f.tables.0.3), (length-set _ _ _ ∙ f.tables.1.0, f.tables.1.1, f.tables.1.2, f.tables.1.3));
  balanced = f.balanced;
  waiting = f.waiting;
  strikes = f.strikes;
  unlisted = f.unlisted;
  valid = λ k h. let v = f.valid k h in (more_known s (with_accounts s (one_account_more s.accounts a)) _ _ (omega arith) (omega arith) v.0, v.1);
  asked = f.asked;
  collateral = λ k. at_set (λ (a : Account). a.collateral ≤ 99_999_999) s.accounts.rows s.accounts.count k a no_account small (f.collateral k);
}

pub facts_series : (s : State) (c : Contract) → Facts s → s.stage ≡ Input → s.series.count < 32 → c.strike ≤ 1_000_000 → Facts (with_listing s (one_series_more s.series (new_series c)))
facts_series s c f input lt small = record {
  ranges = f.ranges;
  tables = ((f.tables.0.0, omega arith, f.tables.0.2, f.tables.0.3), (f.tables.1.0, length-set _ _ _ ∙ f.tables.1.1, f.tables.1.2, f.tables.1.3));
  balanced = λ i h. at_set (λ (r : Series). Balanced r.cells) s.series.rows s.series.count i (new_series c) past_series (new_balanced c) (f.balanced i h);
  waiting = λ i j. at_set (λ (r : Series). Waiting s.stage (get_or r.cells j no_cell)) s.series.rows s.series.count i (new_series c) past_series (subst (λ g. Waiting g (get_or (new_series c).cells j no_cell)) (sym input) (calm c j)) (f.waiting i j);
  strikes = λ i. at_set (λ (r : Series). r.contract.strike ≤ 1_000_000) s.series.rows s.series.count i (new_series c) past_series small (f.strikes i);
  unlisted = λ i n h. let o : i ≢ s.series.count = omega arith in ap (λ (r : Series). total_longs r.cells) (get_or-set_other s.series.rows s.series.count i _ past_series o) ∙ f.unlisted i (omega arith) h;
  valid = λ k h. let v = f.valid k h in (more_known s (with_listing s (one_series_more s.series (new_series c))) _ _ (omega arith) (omega arith) v.0, v.1);
  asked = f.asked;
  collateral = f.collateral;
}

-- ── the cells of one series ──

pub facts_cells : (s : State) (n : ℕ) (cells : List Cell) → Facts s → 1 ≤ n → n ≤ s.series.count → Balanced cells → ((j : ℕ) → Waiting s.stage (get_or cells j no_cell)) → Facts (with_cells s (n - 1) cells)
facts_cells s n cells f from to b w = record {
  ranges = f.ranges;
  tables = (f.tables.0, (f.tables.1.0, length-set _ _ _ ∙ f.tables.1.1, f.tables.1.2, f.tables.1.3));
  balanced = λ i h. at_set (λ (r : Series). Balanced r.cells) s.series.rows (n - 1) i _ past_series b (f.balanced i h);
  waiting = λ i j. at_set (λ (r : Series). Waiting s.stage (get_or r.cells j no_cell)) s.series.rows (n - 1) i _ past_series (w j) (f.waiting i j);
  strikes = λ i. at_set (λ (r : Series). r.contract.strike ≤ 1_000_000) s.series.rows (n - 1) i _ past_series (f.strikes (n - 1)) (f.strikes i);
  unlisted = λ i u h. let o : i ≢ n - 1 = omega arith in ap (λ (r : Series). total_longs r.cells) (get_or-set_other s.series.rows (n - 1) i _ past_series o) ∙ f.unlisted i u h;
  valid = f.valid;
  asked = f.asked;
  collateral = f.collateral;
}

-- ── the legs ──

pub facts_legs : (s : State) (t : Legs) → Facts s → t.count ≤ 256 → length t.rows ≡ 256 → ((k : ℕ) → k < t.count → ValidLeg s (get_or t.rows k no_leg)) → Facts (with_legs s t)
facts_legs s t f count size valid = record {
  ranges = f.ranges;
  tables = ((f.tables.0.0, f.tables.0.1, count, f.tables.0.3), (f.tables.1.0, f.tables.1.1, size, f.tables.1.3));
  balanced = f.balanced;
  waiting = f.waiting;
  strikes = f.strikes;
  unlisted = f.unlisted;
  valid = valid;
  asked = f.asked;
  collateral = f.collateral;
}

-- what holds of each of the first n and of a new one holds of each of the first n + 1
pub each_push : {X : Type 0} (P : X → Type 0) (xs : List X) (n : ℕ) (y d : X) → n < length xs → ((k : ℕ) → k < n → P (get_or xs k d)) → P y → (k : ℕ) → k < n + 1 → P (get_or (set xs n y) k d)
each_push P xs n y d lt old new k h =
    elim (cases_eq k n) [
      | inl same ↦ subst (λ (i : ℕ). P (get_or (set xs n y) i d)) (sym same) (subst P (sym (get_or-set_same xs n y d lt)) new)
      | inr other ↦ subst P (sym (get_or-set_other xs n k y d other)) (old k (omega arith))
    ]
