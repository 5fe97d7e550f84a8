-- The table of kinds, by the place of a row.
use Rattle.std.proofs.Common.{◌≡◌, ℕ, zero, suc, ◌+◌, ◌*◌, ◌/◌, ◌%◌, ◌<◌, Bool, true, false, eqb, List, [], ◌∷◌, get_or, Some, None, sym, refl, ◌∙◌, subst, ⊎_elim, arith}
use Rattle.std.specs.List.{list_any}
use Rattle.std.proofs.lemmas.Bool.{cond-true, cond-false, cases_Bool, eq-eqb, ne_eqb, eqb-true, false≢true}
use Rattle.lines.specs.declared.kinds.Row.{Row}
use Rattle.lines.specs.Kinds.{FirstPlace, arity}
use Rattle.lines.specs.Grammar.{Piece, Lines, Stuck, Table, StartRead, Leads}

pub found : (rows : List Row) (k i : ℕ) → FirstPlace rows k (Some i) → arity rows k ≡ Some (get_or rows i (record { kind = 0; fields = 0 })).fields
found [] k i h = absurd (omega (arith, h.0))
found (r ∷ rs) k zero h = cond-true (eqb r.kind k) _ _ (eq-eqb r.kind k h.1)
found (r ∷ rs) k (suc i) h = cond-false (eqb r.kind k) _ _ (ne_eqb r.kind k (h.2 0 (omega arith))) ∙ found rs k i (omega (arith, h.0), h.1, λ j l. h.2 (suc j) (omega arith))

pub not_found : (rows : List Row) (k : ℕ) → FirstPlace rows k None → arity rows k ≡ None
not_found [] k h = refl
not_found (r ∷ rs) k h = cond-false (eqb r.kind k) _ _ (ne_eqb r.kind k (h 0 (omega arith))) ∙ not_found rs k (λ j l. h (suc j) (omega arith))

-- the table by another name
pub table_at : (rows other : List Row) → rows ≡ other → Table other → Table rows
table_at rows other e t = subst Table (sym e) t

pub stuck_at : (rows other : List Row) (t : List Piece) (xs : List ℕ) (left : ℕ) → rows ≡ other → Stuck (Lines rows t) xs left → Stuck (Lines other t) xs left
stuck_at rows other t xs left e st = subst (λ r. Stuck (Lines r t) xs left) e st

pub start_at : (rows other : List Row) (xs : List ℕ) (k : ℕ) (texts : List (List ℕ)) (rest : List ℕ) → rows ≡ other → StartRead rows xs k texts rest → StartRead other xs k texts rest
start_at rows other xs k texts rest e s = subst (λ r. StartRead r xs k texts rest) e s

-- some row has a kind with the tens digit t, or none has
leads_some : (rows : List Row) (t : ℕ) → list_any (λ r. eqb (r.kind / 10) t) rows ≡ true → (d : ℕ) × (n : ℕ) × (d < 10) × (arity rows (10 * t + d) ≡ Some n)
leads_some [] t e = absurd (false≢true e)
leads_some (r ∷ rs) t e =
    ⊎_elim
    (λ y. (r.kind % 10, r.fields, omega arith, cond-true (eqb r.kind (10 * t + r.kind % 10)) _ _ (eq-eqb _ _ (omega (arith, eqb-true _ _ y)))))
    (λ n.
    let p = leads_some rs t (rw n at e) in
    ⊎_elim
    (λ y. (p.0, r.fields, p.2, cond-true (eqb r.kind (10 * t + p.0)) _ _ y))
    (λ m. (p.0, p.1, p.2, cond-false (eqb r.kind (10 * t + p.0)) _ _ m ∙ p.3))
    (cases_Bool (eqb r.kind (10 * t + p.0))))
    (cases_Bool (eqb (r.kind / 10) t))

leads_none : (rows : List Row) (t d : ℕ) → list_any (λ r. eqb (r.kind / 10) t) rows ≡ false → d < 10 → arity rows (10 * t + d) ≡ None
leads_none [] t d e l = refl
leads_none (r ∷ rs) t d e l =
    ⊎_elim
    (λ y. absurd (false≢true (sym (rw y at e))))
    (λ n.
    let m : r.kind ≡ 10 * t + d → ⊥ = λ same. let q : r.kind / 10 ≡ t = omega arith in false≢true (sym n ∙ eq-eqb _ _ q) in
    cond-false (eqb r.kind (10 * t + d)) _ _ (ne_eqb _ _ m) ∙ leads_none rs t d (rw n at e) l)
    (cases_Bool (eqb (r.kind / 10) t))

pub leads_any : (rows : List Row) (t : ℕ) (b : Bool) → b ≡ list_any (λ r. eqb (r.kind / 10) t) rows → Leads rows t b
leads_any rows t true e = leads_some rows t (sym e)
leads_any rows t false e = λ d l. leads_none rows t d (sym e) l
