-- The law, whole.
use Rattle.std.proofs.Common.{◌≡◌, ℕ, ◌+◌, ◌-◌, ◌<◌, ◌≤◌, Bool, true, false, cond, leb, List, [], ◌∷◌, get_or, Some, None, Option, sym, refl, ap, ◌∙◌, subst, ⊎_elim, arith}
use Rattle.std.proofs.lemmas.Int.{ints}
use Rattle.std.proofs.lemmas.Bool.{true≢false, le-leb, lt-leb, cases_lt}
use Rattle.draws.specs.declared.Reply.{Reply}
use Rattle.draws.specs.Replies.{accepted, is_accepted, replied}
use Rattle.draws.specs.Checks.{first_refusal}
use Rattle.draws.specs.Meaning.{Meaning, Below}
use Rattle.positions.specs.declared.cell.Cell.{Cell}
use Rattle.positions.specs.Cells.{no_cell}
use Rattle.ledger.specs.declared.refusal.Refusal.{Refusal}
use Rattle.ledger.specs.declared.refusal.Refusal.TheVariants.{PassMisfit, DrawsShort}
use Rattle.ledger.specs.declared.state.Series.{Series as Listed}
use Rattle.ledger.specs.declared.state.Opening.{Opening}
use Rattle.ledger.specs.declared.state.State.{State}
use Rattle.ledger.specs.Replies.{reply_of}
use Rattle.ledger.specs.Tables.{cell_at}
use Rattle.dayend.specs.Assignment.{needed, assigning, assigned_state}
use Rattle.dayend.specs.Statement.{statement_lines}
use Rattle.ledger.specs.Sound.{Facts}
use Rattle.dayend.proofs.AssignedLaws.{at_place, supply_spent}
use Rattle.book.specs.declared.pass.CutPass.{CutPass}
use Rattle.book.specs.declared.pass.Pass.{Pass}
use Rattle.book.specs.declared.pass.Pass.TheVariants.{ForInput, ForCut, ForAssigned}
use Rattle.register.specs.declared.calls.Call.{Call}
use Rattle.register.specs.declared.calls.Call.TheVariants.{Open, OfInput, OfExercise, CutOff, Assign, GiveStatement, BeginDay}
use Rattle.book.specs.Stages.{fits_cut, kept_or, result_unless, assignment_refusal, statement_refusal}
use Rattle.register.specs.Register.{Entry, answer, given, Truthful}
use Rattle.register.specs.Balance.{count}
use Rattle.register.specs.Law.{of_assignment, in_assignments, Drawn, EvenLines, Law}
use Rattle.book.proofs.PassLaws.{cut_stage}
use Rattle.register.proofs.RegisterLaws.{Kept, always}
use Rattle.register.proofs.LineSums.{statement_even, none_even}

-- ── contracts exercised and assigned ──

-- after every call as many are exercised as assigned, so in every assignment too
by_call : (c : Call) (x y : ℕ) → x ≡ y → of_assignment c x ≡ of_assignment c y
by_call c x y e = ap (of_assignment c) e

settled_always : (o : Opening) (r : List Entry) (i : ℕ) → Truthful o r → i - 1 < 32 → in_assignments (λ (c : Cell). c.exercised) o r i ≡ in_assignments (λ (c : Cell). c.assigned) o r i
settled_always o [] i h lt = refl
settled_always o (e ∷ r) i h lt =
    let b = (always o (e ∷ r) h).sound.balanced (i - 1) lt in
    let a = by_call e.call _ _ b.2.0 in
    let d = settled_always o r i h.1 lt in
    omega (arith, d, ap (λ (n : ℕ). cond (is_accepted e.reply) n 0) a)

-- ── the draws of an assignment whose pass fits ──

when_short : (f g : Bool) (n : ℕ) → f ≡ true → g ≡ false → first_refusal ((f, PassMisfit) ∷ (g, DrawsShort n) ∷ []) ≡ Some (DrawsShort n)
when_short true false n hf hg = refl
when_short true true n hf hg = absurd (true≢false hg)
when_short false g n hf hg = absurd (true≢false (sym hf))

when_enough : (f g : Bool) (n : ℕ) → f ≡ true → g ≡ true → first_refusal ((f, PassMisfit) ∷ (g, DrawsShort n) ∷ []) ≡ None
when_enough true true n hf hg = refl
when_enough true false n hf hg = absurd (true≢false (sym hg))
when_enough false g n hf hg = absurd (true≢false (sym hf))

module _ (s t : State) (p : CutPass) (e : Entry) (f : Facts s) (fits : fits_cut s p ≡ true) (below : Below e.before)
    (replies : e.reply ≡ replied reply_of (result_unless (assignment_refusal s p e.before) (needed s)))
    (leaves : e.after ≡ kept_or (assignment_refusal s p e.before) e.before (assigning s e.before).source)
    (shows : t ≡ kept_or (assignment_refusal s p e.before) s (assigned_state s e.before)) where
  abbrev m : Meaning
  m = e.before

  abbrev n : ℕ
  n = needed s

  short_refusal : m.supply < n → assignment_refusal s p m ≡ Some (DrawsShort n)
  short_refusal lt = when_short (fits_cut s p) (leb n m.supply) n fits (lt-leb n m.supply lt)

  no_refusal : n ≤ m.supply → assignment_refusal s p m ≡ None
  no_refusal le = when_enough (fits_cut s p) (leb n m.supply) n fits (le-leb n m.supply le)

  reply_short : m.supply < n → e.reply ≡ reply_of (DrawsShort n)
  reply_short lt = replies ∙ ap (λ (o : Option Refusal). replied reply_of (result_unless o n)) (short_refusal lt)

  reply_enough : n ≤ m.supply → e.reply ≡ accepted n
  reply_enough le = replies ∙ ap (λ (o : Option Refusal). replied reply_of (result_unless o n)) (no_refusal le)

  after_enough : n ≤ m.supply → e.after ≡ (assigning s m).source
  after_enough le = leaves ∙ ap (λ (o : Option Refusal). kept_or o m (assigning s m).source) (no_refusal le)

  state_enough : n ≤ m.supply → t ≡ assigned_state s m
  state_enough le = shows ∙ ap (λ (o : Option Refusal). kept_or o s (assigned_state s m)) (no_refusal le)

  drawn : Drawn s t e
  drawn = record {
    short = reply_short;
    enough = reply_enough;
    spent = λ le. ap (λ (k : Meaning). k.supply + n) (after_enough le) ∙ supply_spent s m f (cut_stage s p fits) below le;
    unspent = λ lt. (leaves ∙ ap (λ (o : Option Refusal). kept_or o m (assigning s m).source) (short_refusal lt), shows ∙ ap (λ (o : Option Refusal). kept_or o s (assigned_state s m)) (short_refusal lt));
    result = ⊎_elim (λ (lt : m.supply < n). ap (λ (r : Reply). r.result) (reply_short lt)) (λ (le : n ≤ m.supply). ap (λ (r : Reply). r.result) (reply_enough le)) (cases_lt m.supply n);
    within = λ le a i here.
        let q = at_place s m f (cut_stage s p fits) below le (i - 1) (omega (arith, here.0, here.1, f.tables.0.1)) in
        let k = q.settled.each (a - 1) in
        let P : Cell → Type 0 = λ c. (c.exercised ≤ (cell_at s a i).longs) × (c.assigned ≤ (cell_at s a i).shorts) in
        subst P (sym (ap (λ (x : State). cell_at x a i) (state_enough le) ∙ ap (λ (r : Listed). get_or r.cells (a - 1) no_cell) q.is)) (k.held, k.short);
  }

-- ── the lines of a statement ──

kept_even : (o : Option Refusal) (s : State) → Facts s → EvenLines (kept_or o [] (statement_lines s))
kept_even None s f = statement_even s f
kept_even (Some r) s f = none_even

even_lines : (s : State) (m : Meaning) (room : ℕ) (p : Pass) (c : Call) → Facts s → EvenLines (answer s m room p c).lines
even_lines s m room (ForInput p) (Open o) f = none_even
even_lines s m room (ForInput p) (OfInput c) f = none_even
even_lines s m room (ForInput p) (OfExercise c) f = none_even
even_lines s m room (ForInput p) CutOff f = none_even
even_lines s m room (ForInput p) Assign f = none_even
even_lines s m room (ForInput p) GiveStatement f = none_even
even_lines s m room (ForInput p) (BeginDay day) f = none_even
even_lines s m room (ForCut p) (Open o) f = none_even
even_lines s m room (ForCut p) (OfInput c) f = none_even
even_lines s m room (ForCut p) (OfExercise c) f = none_even
even_lines s m room (ForCut p) CutOff f = none_even
even_lines s m room (ForCut p) Assign f = none_even
even_lines s m room (ForCut p) GiveStatement f = none_even
even_lines s m room (ForCut p) (BeginDay day) f = none_even
even_lines s m room (ForAssigned p) (Open o) f = none_even
even_lines s m room (ForAssigned p) (OfInput c) f = none_even
even_lines s m room (ForAssigned p) (OfExercise c) f = none_even
even_lines s m room (ForAssigned p) CutOff f = none_even
even_lines s m room (ForAssigned p) Assign f = none_even
even_lines s m room (ForAssigned p) GiveStatement f = kept_even (statement_refusal s p room) s f
even_lines s m room (ForAssigned p) (BeginDay day) f = none_even

-- ── the law ──

pub law : Law
law o r s l =
    let k = subst (λ (t : State). Kept (count o r) t) (sym l.shows) (always o r l.replies) in
    let f = k.sound in (
      record {
        even = λ i n. (f.balanced (i - 1) (omega (arith, n.0, n.1, f.tables.0.1))).1.0;
        settled = λ i n. settled_always o r i l.replies (omega (arith, n.0, n.1, f.tables.0.1));
        balanced = λ a i b n.
            let d = k.tied.cells i n.0 (omega (arith, n.1, f.tables.0.1)) a b.0 (omega (arith, b.1, f.tables.0.0)) in
            omega (arith, ints, d);
      },
      λ e p t n under is fits.
          let h = n.replies.0 in
          let P : State → Pass → Call → Type 0 = λ x q c. (e.reply ≡ replied reply_of (answer x e.before e.room q c).reply) × (e.after ≡ (answer x e.before e.room q c).source) × (t ≡ (answer x e.before e.room q c).state) in
          let w = subst (λ (c : Call). P s (ForCut p) c) is (subst (λ (q : Pass). P s q e.call) under (subst (λ (x : State). P x e.pass e.call) (sym l.shows) (h.reply, h.after, n.shows))) in
          drawn s t p e f fits h.below w.0 w.1 w.2,
      λ e t n.
          let h = n.replies.0 in
          subst EvenLines (sym h.lines) (even_lines (given o r) e.before e.room e.pass e.call (always o r l.replies).sound),
    )
