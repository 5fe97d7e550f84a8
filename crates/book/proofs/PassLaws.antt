-- A pass that fits says in which stage the book is.
use Rattle.std.proofs.Common.{◌≡◌, ◌≤◌, Bool, true, false, List, Some, None, Option, Ok, Err, sym, refl, ap}
use Rattle.std.proofs.lemmas.Bool.{and_parts, true≢false, leb-true}
use Rattle.draws.specs.Checks.{unless, first_refusal, passed as answered}
use Rattle.draws.specs.Meaning.{Meaning}
use Rattle.draws.proofs.Passes.{unless_none, all_pass}
use Rattle.ledger.specs.declared.ledger.Ledger.{Ledger}
use Rattle.ledger.specs.declared.refusal.Refusal.{Refusal}
use Rattle.ledger.specs.declared.refusal.Refusal.TheVariants.{PassMisfit}
use Rattle.ledger.specs.declared.state.Stage.{Stage}
use Rattle.ledger.specs.declared.state.Stage.TheVariants.{Input, Cut, Assigned}
use Rattle.ledger.specs.declared.state.State.{State}
use Rattle.dayend.specs.Assignment.{needed, assignment_checks}
use Rattle.book.specs.declared.pass.InputPass.{InputPass}
use Rattle.book.specs.declared.pass.CutPass.{CutPass}
use Rattle.book.specs.Calls.{in_input, in_cut, fits_input, refused}
use Rattle.book.specs.Stages.{fits_cut, handed}

only_input : (g : Stage) → in_input g ≡ true → g ≡ Input
only_input Input h = refl
only_input Cut h = absurd (true≢false (sym h))
only_input Assigned h = absurd (true≢false (sym h))

pub input_stage : (s : State) (p : InputPass) → fits_input s p ≡ true → s.stage ≡ Input
input_stage s p h = only_input s.stage (and_parts (in_input s.stage) _ h).0

-- an accepted call has a pass that fits, and has passed its own checks
pub passed : (s : State) (p : InputPass) (checks : List (Bool × Refusal)) → refused s p checks ≡ None → (s.stage ≡ Input) × (first_refusal checks ≡ None)
passed s p checks h = let u = unless_none (fits_input s p) PassMisfit (first_refusal checks) h in (input_stage s p u.0, u.1)

only_cut : (g : Stage) → in_cut g ≡ true → g ≡ Cut
only_cut Input h = absurd (true≢false (sym h))
only_cut Cut h = refl
only_cut Assigned h = absurd (true≢false (sym h))

pub cut_stage : (s : State) (p : CutPass) → fits_cut s p ≡ true → s.stage ≡ Cut
cut_stage s p h = only_cut s.stage (and_parts (in_cut s.stage) _ h).0

-- an assignment that is not turned back has the draws it needs
pub enough_draws : (s : State) (m : Meaning) → first_refusal (assignment_checks s m) ≡ None → needed s ≤ m.supply
enough_draws s m h = leb-true (needed s) m.supply (all_pass (assignment_checks s m) h).0

-- ── what a call's checks answered ──

-- that the pass does not fit
pub misfit : (b : Bool) (r : Refusal) → Err r ≡ answered (unless b PassMisfit None) → (b ≡ false) × (r ≡ PassMisfit)
misfit true r e = absurd (cc e)
misfit false r e = (refl, cc)

-- that nothing stands against it
pub accepted : (o : Option Refusal) → Ok tt ≡ answered o → o ≡ None
accepted None e = refl
accepted (Some r) e = absurd (cc e)

-- that the pass fits, so that the book is in the input stage
pub in_input_stage : (b d : Ledger) (p : InputPass) → b ≡ d → Ok tt ≡ answered (unless (fits_input d.state p) PassMisfit None) → b.state.stage ≡ Input
in_input_stage b d p e h = rw e (input_stage d.state p (unless_none _ PassMisfit None (accepted _ h)).0)

-- that it fits, and the refusal of another check
pub turned_back : (b : Bool) (o : Option Refusal) (r : Refusal) → Ok tt ≡ answered (unless b PassMisfit None) → Err r ≡ answered o → unless b PassMisfit o ≡ Some r
turned_back true None r h e = absurd (cc e)
turned_back true (Some q) r h e = cc
turned_back false o r h e = absurd (cc h)

-- that the pass is handed back with the refusal
pub handed_back : {P Q : Type 0} (o : Option Refusal) (p b : P) (q : Q) (r : Refusal) → Err (b, r) ≡ handed o p q → (o ≡ Some r) × (b ≡ p)
handed_back None p b q r e = absurd (cc e)
handed_back {P} (Some x) p b q r e = let d : (b, r) ≡ (p, x) = cc in (ap (λ (z : P × Refusal). Some z.1) (sym d), ap (λ (z : P × Refusal). z.0) d)
