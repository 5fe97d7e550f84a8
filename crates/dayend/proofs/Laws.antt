-- The assignment of a day.
use Rattle.std.proofs.Common.{◌≡◌, ℕ, ◌-◌, ◌<◌, ◌≤◌, List, [], ◌∷◌, get_or, sum_by, sym, refl, ap, ◌∙◌, subst, ⊎_elim, arith}
use Rattle.std.proofs.lemmas.List.{get_or_past, get_or-map}
use Rattle.std.proofs.lemmas.Bool.{cases_lt}
use Rattle.draws.specs.Meaning.{Meaning, Below, Agree}
use Rattle.positions.specs.declared.cell.Cell.{Cell}
use Rattle.settlement.specs.Assignment.{total_due, series_outcome}
use Rattle.settlement.proofs.AssignmentLaws.{series_same}
use Rattle.ledger.specs.declared.state.Account.{Account}
use Rattle.ledger.specs.declared.state.Series.{Series}
use Rattle.ledger.specs.declared.state.Stage.TheVariants.{Cut, Assigned}
use Rattle.ledger.specs.declared.state.State.{State}
use Rattle.ledger.specs.declared.state.Terms.{Terms}
use Rattle.ledger.specs.Tables.{cells_of, no_account, past_series}
use Rattle.ledger.specs.Lookups.{expires}
use Rattle.ledger.specs.Sound.{Facts}
use Rattle.ledger.proofs.FactLaws.{facts}
use Rattle.dayend.specs.Assignment.{needed, RowsReady, Assigning, assigned_rows, lodged_shares, with_shares, assigning, assigned_state}
use Rattle.dayend.specs.Laws.{DaySettled, DaySettles, AssignmentRests}
use Rattle.dayend.proofs.AssignLaws.{assignable, settled_here, ready_then, rows_ready}
use Rattle.dayend.proofs.AssignedLaws.{at_place, past, shares_fall, account_at, accounts_size}

-- ── what it comes to ──

module _ (s : State) (m : Meaning) (f : Facts s) (cut : s.stage ≡ Cut) (below : Below m) (supplied : needed s ≤ m.supply) where
  -- a sum over the cells of a series, where it is what was due in each series of the table
  of_due : (g : Cell → ℕ) → ((i : ℕ) → i < 32 → sum_by g (cells_of (assigned_state s m) i) ≡ total_due (cells_of s i)) → (i : ℕ) → sum_by g (cells_of (assigned_state s m) i) ≡ total_due (cells_of s i)
  of_due g listed i =
      ⊎_elim
      (λ (lt : i < 32). listed i lt)
      (λ (le : 32 ≤ i).
      ap (λ (r : Series). sum_by g r.cells) (past s m f cut below supplied i le) ∙ sym (ap (λ (r : Series). total_due r.cells) (get_or_past s.series.rows i past_series (omega (arith, f.tables.1.1)))))
      (cases_lt i 32)

  lodged_fall : (k : ℕ) → (get_or (assigned_state s m).accounts.rows k no_account).collateral ≤ (get_or s.accounts.rows k no_account).collateral
  lodged_fall k =
      ⊎_elim
      (λ (lt : k < 32).
      let fall = shares_fall s.terms s.previous s.day s.series.rows m (lodged_shares s.accounts.rows) below (rows_ready s m f cut supplied) k in
      let was = get_or-map (λ (a : Account). a.collateral) s.accounts.rows k no_account 0 (omega (arith, f.tables.1.0)) in
      rw (account_at s m f cut below supplied k lt) (omega (arith, fall, was)))
      (λ (le : 32 ≤ k). rw (get_or_past (assigned_state s m).accounts.rows k no_account (omega (arith, accounts_size s m f cut below supplied))) (omega arith))
      (cases_lt k 32)

  day_settled : DaySettled s (assigned_state s m)
  day_settled = record {
    exercised = of_due (λ (c : Cell). c.exercised) (λ i lt. let p = at_place s m f cut below supplied i lt in ap (λ (r : Series). sum_by (λ (c : Cell). c.exercised) r.cells) p.is ∙ p.settled.exercised);
    assigned = of_due (λ (c : Cell). c.assigned) (λ i lt. let p = at_place s m f cut below supplied i lt in ap (λ (r : Series). sum_by (λ (c : Cell). c.assigned) r.cells) p.is ∙ p.settled.assigned);
    lodged = λ n. lodged_fall (n - 1);
  }

pub day_settles : DaySettles
day_settles s m sound cut below supplied = day_settled s m (facts s sound) cut below supplied

-- ── what it rests on ──

record SameRows (a b : Assigning) : Type 0 where
  pub rows : a.rows ≡ b.rows
  pub collateral : a.collateral ≡ b.collateral
  pub source : Agree a.source b.source

module _ (t : Terms) (previous day : ℕ) where
  same_rows : (rows : List Series) (m m' : Meaning) (c : List ℕ) → Below m → RowsReady t m rows → Agree m m' → SameRows (assigned_rows t previous day m c rows) (assigned_rows t previous day m' c rows)
  same_rows [] m m' c below ready agree = record { rows = refl; collateral = refl; source = agree }
  same_rows (r ∷ rs) m m' c below ready agree =
      let lapses = expires r.contract previous day in
      let o = series_outcome m r.cells c r.contract.right t.size t.block lapses in
      let o' = series_outcome m' r.cells c r.contract.right t.size t.block lapses in
      let same = series_same m m' r.cells c r.contract.right t.size t.block lapses below (assignable t previous day m c r rs below ready) agree in
      let others = same_rows rs o.source o'.source o.collateral (settled_here t previous day m c r rs below ready).below (ready_then t previous day m c r rs below ready) same.source in
      let rest = subst (λ (shares : List ℕ). SameRows (assigned_rows t previous day o.source o.collateral rs) (assigned_rows t previous day o'.source shares rs)) same.collateral others in
      record {
        rows =
            ap (λ (cells : List Cell). record { contract = r.contract; cells = cells } ∷ (assigned_rows t previous day o.source o.collateral rs).rows) same.cells
            ∙ ap (λ (rows : List Series). record { contract = r.contract; cells = o'.cells } ∷ rows) rest.rows;
        collateral = rest.collateral;
        source = rest.source;
      }

-- a book with these shares lodged and these series
abbrev left : State → List ℕ → List Series → State
left s shares rows = record s { stage = Assigned; accounts = record s.accounts { rows = with_shares s.accounts.rows shares }; series = record s.series { rows = rows } }

pub assignment_rests : AssignmentRests
assignment_rests s m m' sound cut below agree supplied =
    let same = same_rows s.terms s.previous s.day s.series.rows m m' (lodged_shares s.accounts.rows) below (rows_ready s m (facts s sound) cut supplied) agree in
    record {
      state =
          ap (λ (shares : List ℕ). left s shares (assigning s m).rows) same.collateral
          ∙ ap (λ (rows : List Series). left s (assigning s m').collateral rows) same.rows;
      source = same.source;
    }
