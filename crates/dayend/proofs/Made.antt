-- An array made by calls of a closure, one at each place.
use Rattle.std.proofs.Common.{◌≡◌, ℕ, zero, suc, ◌+◌, ◌<◌, ◌≤◌, List, get_or, inl, inr, sym, subst, arith}
use Rattle.std.specs.Array.{IsFromFnResultFrom, IsFromFnResult}
use Rattle.std.specs.Fn.{Called}
use Rattle.std.proofs.lemmas.Bool.{cases_eq}
use denote.Param.Members.{Mut}

module _ {F B : Type 0} (g : Mut F (ℕ × Unit {0}) B) (P : ℕ → B → Type 0) (f : F) (call : (i : ℕ) (y : B) (q : F) → Called g f (i, tt) y q → (q ≡ f) × P i y) (ys : List B) (d : B) where
  made_from : (i n : ℕ) → IsFromFnResultFrom g f ys i n → (k : ℕ) → i ≤ k → k < i + n → P k (get_or ys k d)
  made_from i zero r k low high = absurd (omega arith)
  made_from i (suc n) r k low high =
      let c = call i r.1 r.0 r.3 in
      elim (cases_eq i k) [
        | inl e ↦ subst (λ (j : ℕ). P j (get_or ys j d)) e (subst (P i) (sym (r.2.1 d)) c.1)
        | inr o ↦ made_from (i + 1) n (subst (λ (p : F). IsFromFnResultFrom g p ys (i + 1) n) c.0 r.4) k (omega arith) (omega arith)
      ]

-- what a call that leaves the closure as it was gives at a place holds of the element there
pub made : {F B : Type 0} {g : Mut F (ℕ × Unit {0}) B} {f : F} {ys : List B} {n : ℕ} (P : ℕ → B → Type 0) (d : B) → IsFromFnResult g f ys n → ((i : ℕ) (y : B) (q : F) → Called g f (i, tt) y q → (q ≡ f) × P i y) → (k : ℕ) → k < n → P k (get_or ys k d)
made {F} {B} {g} {f} {ys} {n} P d r call k lt = made_from g P f call ys d 0 n r.each k (omega arith) (omega arith)
