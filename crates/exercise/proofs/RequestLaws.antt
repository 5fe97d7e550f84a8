-- Accepted exercise requests, rejections and denials.
use Rattle.std.proofs.Common.{◌≡◌, ℕ, zero, suc, ◌-◌, ◌<◌, ◌≤◌, true, List, [], ◌∷◌, length, get_or, set, None, refl, ◌∙◌, arith, length-set}
use Rattle.std.proofs.lemmas.Bool.{and_parts, leb-true, ltb-true}
use Rattle.draws.specs.Checks.{first_refusal}
use Rattle.draws.proofs.Passes.{all_pass}
use Rattle.positions.specs.declared.cell.Cell.{Cell}
use Rattle.positions.specs.Cells.{no_cell, with_denied}
use Rattle.positions.proofs.RowLaws.{at_set, sum_kept}
use Rattle.ledger.specs.declared.state.Request.{Request}
use Rattle.ledger.specs.declared.state.Stage.{Stage}
use Rattle.ledger.specs.declared.state.Stage.TheVariants.{Input, Cut, Assigned}
use Rattle.ledger.specs.declared.state.State.{State}
use Rattle.ledger.specs.Tables.{Requests, cells_of, no_request}
use Rattle.ledger.specs.Lookups.{within, has_account, has_series, expiring}
use Rattle.exercise.specs.Requests.{with_requests, request_of, request_checks, new_request, request_added, rejection_checks, request_rejected, denial_checks, denial_noted}
use Rattle.ledger.specs.Sound.{Balanced, Waiting, Facts}
use Rattle.ledger.proofs.FactLaws.{Placed, within_parts, account_placed, series_placed}
use Rattle.ledger.proofs.KeepLaws.{facts_cells}
use Rattle.ledger.proofs.CalmLaws.{Aside, settled_set}

pub facts_requests : (s : State) (t : Requests) → Facts s → t.count ≤ 128 → length t.rows ≡ 128 → ((k : ℕ) → (get_or t.rows k no_request).quantity ≤ 100_000) → Facts (with_requests s t)
facts_requests s t f count size asked = record {
  ranges = f.ranges;
  tables = ((f.tables.0.0, f.tables.0.1, f.tables.0.2, count), (f.tables.1.0, f.tables.1.1, f.tables.1.2, size));
  balanced = f.balanced;
  waiting = f.waiting;
  strikes = f.strikes;
  unlisted = f.unlisted;
  valid = f.valid;
  asked = asked;
  collateral = f.collateral;
}

-- ── request ──

pub record Requestable (s : State) (a i q : ℕ) : Type 0 where
  pub small : q ≤ 100_000
  pub known : has_account s a ≡ true
  pub listed : has_series s i ≡ true
  pub room : s.requests.count < 128

pub requestable : (s : State) (a i q : ℕ) → first_refusal (request_checks s a i q) ≡ None → Requestable s a i q
requestable s a i q h =
    let p = all_pass (request_checks s a i q) h in
    record { small = (within_parts q 1 100_000 p.0).1; known = p.1.0; listed = p.1.1.0; room = ltb-true _ _ p.1.1.1.1.0 }

pub facts_requested : (s : State) (a i q : ℕ) → Facts s → Requestable s a i q → Facts (request_added s a i q)
facts_requested s a i q f r =
    facts_requests s _ f (omega (arith, r.room)) (length-set _ _ _ ∙ f.tables.1.3)
    (λ k. at_set (λ (r : Request). r.quantity ≤ 100_000) s.requests.rows s.requests.count k (new_request a i q) no_request r.small (f.asked k))

-- ── rejection ──

pub record Rejectable (s : State) (n : ℕ) : Type 0 where
  pub from : 1 ≤ n
  pub to : n ≤ s.requests.count
  pub pending : (request_of s n).pending ≡ true

pub rejectable : (s : State) (n : ℕ) → first_refusal (rejection_checks s n) ≡ None → Rejectable s n
rejectable s n h =
    let p = and_parts (within n 1 s.requests.count) (request_of s n).pending (all_pass (rejection_checks s n) h).0 in
    let w = within_parts n 1 s.requests.count p.0 in
    record { from = w.0; to = w.1; pending = p.1 }

-- the table has that row
pub request_placed : (s : State) (n : ℕ) → Facts s → Rejectable s n → n ≤ 128
request_placed s n f r = omega (arith, r.to, f.tables.0.3)

pub facts_request_rejected : (s : State) (n : ℕ) → Facts s → Facts (request_rejected s n)
facts_request_rejected s n f =
    facts_requests s _ f f.tables.0.3 (length-set _ _ _ ∙ f.tables.1.3)
    (λ k. at_set (λ (r : Request). r.quantity ≤ 100_000) s.requests.rows (n - 1) k _ no_request (f.asked (n - 1)) (f.asked k))

-- ── denial ──

pub record Deniable (s : State) (a i q : ℕ) : Type 0 where
  pub small : q ≤ 100_000
  pub known : has_account s a ≡ true
  pub listed : has_series s i ≡ true
  pub today : expiring s i ≡ true

pub deniable : (s : State) (a i q : ℕ) → first_refusal (denial_checks s a i q) ≡ None → Deniable s a i q
deniable s a i q h =
    let p = all_pass (denial_checks s a i q) h in
    record { small = leb-true q 100_000 p.0; known = p.1.0; listed = p.1.1.0; today = p.1.1.1.1.0 }

-- a denial touches no other count
pub aside_denied : (c : Cell) (q : ℕ) → Aside c (with_denied c q)
aside_denied c q = record { due = refl; exercised = refl; assigned = refl; covered = refl }

-- longs and shorts of each place stay
pub denied_sides : (cells : List Cell) (at q j : ℕ) → ((get_or (set cells at (with_denied (get_or cells at no_cell) q)) j no_cell).longs ≡ (get_or cells j no_cell).longs) × ((get_or (set cells at (with_denied (get_or cells at no_cell) q)) j no_cell).shorts ≡ (get_or cells j no_cell).shorts)
denied_sides [] at q j = (refl, refl)
denied_sides (c ∷ cells) zero q zero = (refl, refl)
denied_sides (c ∷ cells) zero q (suc j) = (refl, refl)
denied_sides (c ∷ cells) (suc at) q zero = (refl, refl)
denied_sides (c ∷ cells) (suc at) q (suc j) = denied_sides cells at q j

waiting_denied : (g : Stage) (c : Cell) (q : ℕ) → Waiting g c → Waiting g (with_denied c q)
waiting_denied Input c q w = w
waiting_denied Cut c q w = w
waiting_denied Assigned c q w = w

module _ (s : State) (a i q : ℕ) (f : Facts s) (known : has_account s a ≡ true) (listed : has_series s i ≡ true) where
  abbrev cells : List Cell
  cells = cells_of s (i - 1)

  abbrev after : List Cell
  after = set cells (a - 1) (with_denied (get_or cells (a - 1) no_cell) q)

  x : Placed a s.accounts.count
  x = account_placed s a f known

  n : Placed i s.series.count
  n = series_placed s i f listed

  b : Balanced cells
  b = f.balanced (i - 1) (omega (arith, n.from, n.row))

  at : a - 1 < length cells
  at = omega (arith, b.0, x.from, x.row)

  denied_balanced : Balanced after
  denied_balanced =
      let c = get_or cells (a - 1) no_cell in
      let l = sum_kept (λ (c : Cell). c.longs) cells (a - 1) (with_denied c q) at refl in
      let r = sum_kept (λ (c : Cell). c.shorts) cells (a - 1) (with_denied c q) at refl in
      (length-set cells _ _ ∙ b.0, (omega (arith, l, r, b.1.0), omega (arith, l, b.1.1)), settled_set cells (a - 1) (with_denied c q) (aside_denied c q) at b.2)

  pub facts_denied : Facts (denial_noted s a i q)
  facts_denied =
      facts_cells s i after f n.from n.to denied_balanced
      (λ j. at_set (Waiting s.stage) cells (a - 1) j (with_denied (get_or cells (a - 1) no_cell) q) no_cell (waiting_denied s.stage (get_or cells (a - 1) no_cell) q (f.waiting (i - 1) (a - 1))) (f.waiting (i - 1) j))
