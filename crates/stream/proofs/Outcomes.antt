-- Clauses on a Result.
use Rattle.std.proofs.Common.{◌≡◌, Result, Ok, Err, OnOk, OnErr, IsErr, is_err, sym, ap, ◌∙◌}

pub on_ok_any : {T E P : Type 0} (r : Result T E) → P → OnOk r P
on_ok_any (Ok v) p = p
on_ok_any (Err e) p = tt

pub on_err_any : {T E P : Type 0} (r : Result T E) → P → OnErr r P
on_err_any (Ok v) p = tt
on_err_any (Err e) p = p

-- two facts at Ok
pub on_ok_both : {T E P Q R : Type 0} (r : Result T E) → (P → Q → R) → OnOk r P → OnOk r Q → OnOk r R
on_ok_both (Ok v) f p q = f p q
on_ok_both (Err e) f p q = tt

pub not_both : {T E : Type 0} (r : Result T E) (v : T) → r ≡ Ok v → IsErr r → ⊥
not_both r v e h = cc (sym (ap is_err e) ∙ h)
