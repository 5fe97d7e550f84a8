-- The cut, the assignment, the next day and the calls on exercise keep the count of the register and the book together.
use Rattle.std.proofs.Common.{◌≡◌, ℕ, ◌+◌, ◌-◌, ◌≤◌, Bool, true, false, cond, eqb, [], get_or, set, ℤ, pos, ◌+ℤ◌, neg_ℤ, sym, refl, ◌∙◌, subst, arith}
use Rattle.std.proofs.lemmas.Int.{ints}
use Rattle.std.proofs.lemmas.Bool.{cond_both}
use Rattle.draws.specs.Meaning.{Meaning, Below}
use Rattle.positions.specs.declared.cell.Cell.{Cell}
use Rattle.positions.specs.declared.leg.Leg.{Leg}
use Rattle.positions.specs.Cells.{no_cell, with_denied}
use Rattle.positions.specs.Legs.{no_leg}
use Rattle.settlement.specs.Laws.{CellSettled}
use Rattle.ledger.specs.declared.state.Series.{Series}
use Rattle.ledger.specs.declared.state.Stage.TheVariants.{Cut}
use Rattle.ledger.specs.declared.state.State.{State}
use Rattle.ledger.specs.Tables.{cells_of}
use Rattle.ledger.specs.Lookups.{expiring}
use Rattle.exercise.specs.Requests.{denial_noted}
use Rattle.exercise.specs.Criteria.{criterion_set}
use Rattle.dayend.specs.Cutoff.{cut}
use Rattle.dayend.specs.Assignment.{needed, assigned_state}
use Rattle.dayend.specs.NextDay.{next_day}
use Rattle.ledger.specs.Sound.{Facts}
use Rattle.ledger.proofs.FactLaws.{series_placed}
use Rattle.exercise.proofs.RequestLaws.{Deniable, denied_sides}
use Rattle.dayend.proofs.CutLaws.{SameLeg, cut_even, cut_leg}
use Rattle.dayend.proofs.AssignedLaws.{at_place}
use Rattle.dayend.proofs.NextDayLaws.{carried_at}
use Rattle.register.specs.Balance.{Count, assignment_counted}
use Rattle.register.proofs.BalanceLaws.{Differs, as_listed, Tied}
use Rattle.register.proofs.CountLaws.{agrees_cells}

-- ── longs less shorts stay ──

differs_same : (c d : Cell) (z : ℤ) → d.longs ≡ c.longs → d.shorts ≡ c.shorts → Differs c z → Differs d z
differs_same c d z l s h = omega (arith, ints, h, l, s)

differs_even : (c d : Cell) (z : ℤ) → d.longs + c.shorts ≡ c.longs + d.shorts → Differs c z → Differs d z
differs_even c d z e h = omega (arith, ints, h, e)

pub tied_denied : (y : Count) (s : State) (a i q : ℕ) → Facts s → Deniable s a i q → Tied y s → Tied y (denial_noted s a i q)
tied_denied y s a i q f ok d =
    let n = series_placed s i f ok.listed in
    record {
      cells = agrees_cells s i _ y.balance y.balance f n d.cells
          (λ b bl bh. let k = denied_sides (cells_of s (i - 1)) (a - 1) q (b - 1) in differs_same (get_or (cells_of s (i - 1)) (b - 1) no_cell) (get_or (set (cells_of s (i - 1)) (a - 1) (with_denied (get_or (cells_of s (i - 1)) (a - 1) no_cell) q)) (b - 1) no_cell) (y.balance b i) k.0 k.1 (d.cells i n.from n.row b bl bh))
          (λ b j o. refl);
      legs = d.legs;
    }

pub tied_criterion : (y : Count) (s : State) (account right form value : ℕ) → Tied y s → Tied y (criterion_set s account right form value)
tied_criterion y s account right form value d =
    cond_both (eqb account 0) _ _ (λ (t : State). Tied y t) (λ h. record { cells = d.cells; legs = d.legs }) (λ h. record { cells = d.cells; legs = d.legs })

same_listed : (l m : Leg) → SameLeg l m → as_listed l ≡ as_listed m
same_listed l m k = rw (k.account, k.series, k.side, k.quantity) refl

pub tied_cut : (y : Count) (s : State) → Tied y s → Tied y (cut s)
tied_cut y s d = record {
  cells = λ i il ih a al ah. differs_even (get_or (cells_of s (i - 1)) (a - 1) no_cell) (get_or (cells_of (cut s) (i - 1)) (a - 1) no_cell) (y.balance a i) (cut_even s (i - 1) (a - 1)) (d.cells i il ih a al ah);
  legs = record { number = d.legs.number; each = λ k h. d.legs.each k h ∙ same_listed (get_or s.legs.rows k no_leg) (get_or (cut s).legs.rows k no_leg) (cut_leg s k) };
}

pub tied_next_day : (y : Count) (s : State) (day : ℕ) → Tied y s → Tied (record { balance = y.balance; legs = [] }) (next_day s day)
tied_next_day y s day d = record {
  cells = λ i il ih a al ah. let k = carried_at s day (i - 1) (a - 1) in differs_same (get_or (cells_of s (i - 1)) (a - 1) no_cell) (get_or (cells_of (next_day s day) (i - 1)) (a - 1) no_cell) (y.balance a i) k.longs k.shorts (d.cells i il ih a al ah);
  legs = record { number = refl; each = λ k h. absurd (omega arith) };
}

-- ── the assignment ──

-- one cell: a series that lapses has neither longs nor shorts; in another, exercised leave and assigned join
by_lapse : (lapses : Bool) (c c' : Cell) (z : ℤ) → CellSettled lapses c c' → Differs c z → Differs c' (cond lapses (pos 0) ((z +ℤ neg_ℤ (pos c'.exercised)) +ℤ pos c'.assigned))
by_lapse true c c' z k h = let g = k.gone refl in omega (arith, ints, g.0, g.1)
by_lapse false c c' z k h = let g = k.moved refl in omega (arith, ints, g, h)

module _ (y : Count) (s : State) (m : Meaning) (f : Facts s) (is_cut : s.stage ≡ Cut) (below : Below m) (supplied : needed s ≤ m.supply) (d : Tied y s) where
  pub tied_assigned : Tied (assignment_counted s (assigned_state s m) y) (assigned_state s m)
  tied_assigned = record {
    cells = λ i il ih a al ah.
        let p = at_place s m f is_cut below supplied (i - 1) (omega arith) in
        let k = p.settled.each (a - 1) in
        subst (λ (r : Series). Differs (get_or r.cells (a - 1) no_cell) (cond (expiring s i) (pos 0) ((y.balance a i +ℤ neg_ℤ (pos (get_or r.cells (a - 1) no_cell).exercised)) +ℤ pos (get_or r.cells (a - 1) no_cell).assigned))) (sym p.is)
        (by_lapse (expiring s i) (get_or (cells_of s (i - 1)) (a - 1) no_cell) (get_or p.out.cells (a - 1) no_cell) (y.balance a i) k (d.cells i il ih a al ah));
    legs = d.legs;
  }
