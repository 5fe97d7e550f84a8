-- The tables of kinds.
use Rattle.std.proofs.Common.{◌≡◌, ℕ, ◌<◌, ◌≤◌, Bool, true, ◌&&◌, eqb, ltb, leb, List, [], ◌∷◌, ◌++◌, length, Some, None, Option, sym, refl, ◌∙◌, ⊎_elim, arith}
use Rattle.std.proofs.lemmas.Bool.{cond_both, cond-true, cond-false, cases_Bool, eqb-true, and_parts, leb-true, ltb-true}
use Rattle.lines.specs.declared.kinds.Row.{Row}
use Rattle.lines.specs.declared.kinds.Sort.{Sort}
use Rattle.lines.specs.declared.kinds.Sort.TheVariants.{Input, Filled}
use Rattle.lines.specs.Kinds.{arity, kinds, filled_kinds, kinds_of}
use Rattle.lines.specs.Grammar.{Table}
use Rattle.lines.specs.declared.line.Line.{Line}
use Rattle.lines.specs.declared.line.Line.TheVariants.{Open, Account, Series, Trade, TradeTransfer, GiveUp, TakeUp, PositionTransfer, Request, Reject, Criterion, Denial, FixingPrice, Lodge, Withdraw, CloseTrading, Cut, TapeNumber, Assignment, Statement, NextDay}
use Rattle.lines.specs.Parts.{kind_of, parts_of}

-- a test of the table, which antt computes
abbrev fine : List Row → Bool
fine [] = true
fine (r ∷ rs) = leb 10 r.kind && (ltb r.kind 100 && (leb r.fields 7 && fine rs))

fine_at : (rows : List Row) (k n : ℕ) → fine rows ≡ true → arity rows k ≡ Some n → (10 ≤ k) × (k < 100) × (n ≤ 7)
fine_at [] k n f e = let y : ◌≡◌ {A = ℕ} 0 1 = cc e in absurd (omega arith)
fine_at (r ∷ rs) k n f e =
    let a = and_parts (leb 10 r.kind) (ltb r.kind 100 && (leb r.fields 7 && fine rs)) f in
    let b = and_parts (ltb r.kind 100) (leb r.fields 7 && fine rs) a.1 in
    let d = and_parts (leb r.fields 7) (fine rs) b.1 in
    cond_both (eqb r.kind k) (Some r.fields) (arity rs k) (λ o. o ≡ Some n → (10 ≤ k) × (k < 100) × (n ≤ 7))
    (λ t s. let same = eqb-true r.kind k t in let m : r.fields ≡ n = cc s in (omega (arith, leb-true 10 r.kind a.0), omega (arith, ltb-true r.kind 100 b.0), omega (arith, leb-true r.fields 7 d.0)))
    (λ t s. fine_at rs k n d.1 s) e

pub input_table : Table kinds
input_table = record { two_digits = λ k n e. fine_at kinds k n refl e; some = (10, 4, refl) }

pub filled_table : Table filled_kinds
filled_table = record { two_digits = λ k n e. fine_at filled_kinds k n refl e; some = (10, 4, refl) }

pub table_of : (s : Sort) → Table (kinds_of s)
table_of Input = input_table
table_of Filled = filled_table

arity_more : (xs ys : List Row) (k n : ℕ) → arity xs k ≡ Some n → arity (xs ++ ys) k ≡ Some n
arity_more [] ys k n e = let y : ◌≡◌ {A = ℕ} 0 1 = cc e in absurd (omega arith)
arity_more (r ∷ xs) ys k n e =
    ⊎_elim
    (λ t. cond-true (eqb r.kind k) _ _ t ∙ sym (cond-true (eqb r.kind k) _ _ t) ∙ e)
    (λ f. cond-false (eqb r.kind k) _ _ f ∙ arity_more xs ys k n (sym (cond-false (eqb r.kind k) _ _ f) ∙ e))
    (cases_Bool (eqb r.kind k))

pub known_filled : (k n : ℕ) → arity kinds k ≡ Some n → arity filled_kinds k ≡ Some n
known_filled k n e = arity_more kinds (record { kind = 99; fields = 0 } ∷ []) k n e

-- kind 99 is the one kind more
more_known : (xs : List Row) (k n : ℕ) → arity xs k ≡ None → arity (xs ++ (record { kind = 99; fields = 0 } ∷ [])) k ≡ Some n → (k ≡ 99) × (n ≡ 0)
more_known [] k n none e =
    cond_both (eqb 99 k) (Some 0) None (λ o. o ≡ Some n → (k ≡ 99) × (n ≡ 0))
    (λ t s. let z : 0 ≡ n = cc s in (sym (eqb-true 99 k t), sym z))
    (λ t s. let y : ◌≡◌ {A = ℕ} 0 1 = cc s in absurd (omega arith)) e
more_known (r ∷ xs) k n none e =
    ⊎_elim
    (λ t. let z : ◌≡◌ {A = Option ℕ} (Some r.fields) None = sym (cond-true (eqb r.kind k) _ _ t) ∙ none in let y : ◌≡◌ {A = ℕ} 0 1 = cc z in absurd (omega arith))
    (λ f. more_known xs k n (sym (cond-false (eqb r.kind k) _ _ f) ∙ none) (sym (cond-false (eqb r.kind k) _ _ f) ∙ e))
    (cases_Bool (eqb r.kind k))

-- a kind of input lines has as many fields among filled lines
pub known_input : (k m n : ℕ) → arity kinds k ≡ Some m → arity filled_kinds k ≡ Some n → m ≡ n
known_input k m n e f = let s : ◌≡◌ {A = Option ℕ} (Some m) (Some n) = sym (known_filled k m e) ∙ f in cc s

pub line_known : (l : Line) → arity kinds (kind_of l) ≡ Some (length (parts_of l))
line_known (Open a b c d) = refl
line_known (Account a b) = refl
line_known (Series a b c) = refl
line_known (Trade a b c d e f g) = refl
line_known (TradeTransfer a b) = refl
line_known (GiveUp a b) = refl
line_known (TakeUp a b c) = refl
line_known (PositionTransfer a b c d e) = refl
line_known (Request a b c) = refl
line_known (Reject a) = refl
line_known (Criterion a b c d) = refl
line_known (Denial a b c) = refl
line_known (FixingPrice a) = refl
line_known (Lodge a b) = refl
line_known (Withdraw a b) = refl
line_known CloseTrading = refl
line_known Cut = refl
line_known (TapeNumber a) = refl
line_known Assignment = refl
line_known Statement = refl
line_known (NextDay a) = refl

pub only_faulty : (k n : ℕ) → arity kinds k ≡ None → arity filled_kinds k ≡ Some n → (k ≡ 99) × (n ≡ 0)
only_faulty k n none e = more_known kinds k n none e
