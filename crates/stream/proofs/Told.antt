-- One line is answered.
use Rattle.std.proofs.Common.{◌≡◌, ℕ, List, [], ◌∷◌, ◌++◌, length, sym, refl, ap, subst, ◌∙◌, ⊎_elim, inl, take, Bool, true, false, eqb, arith}
use Rattle.std.proofs.lemmas.Bool.Decides.{nat_tests}
use Rattle.std.proofs.lemmas.List.{nil_from_length}
use Rattle.lines.specs.Texts.{cut}
use Rattle.lines.proofs.Cuts.{cut_more}
use Rattle.host.specs.Steps.{Shown}
use Rattle.host.specs.Hosts.{Answers}
use Rattle.archive.specs.Archive.{Exchange, Written, Archive, AreWritten}
use Rattle.archive.proofs.Archived.{answered_archives}
use Rattle.stream.specs.Outputs.{Puts, Fails}
use Rattle.stream.specs.Streams.{joined, Seen, Shows, Longer, Adds, AddsFront, statements_text}
use Rattle.stream.proofs.Statements.{texts_joined}

pub shown_answers : (g h : Shown) (line w text : List ℕ) (n : ℕ) → Shows line w → Answers g line text n h → ((v : List ℕ) → cut v ≡ line → Answers g v text n h) → Answers g w text n h
shown_answers g h line w text n s whole begun =
    ⊎_elim (λ e. subst (λ (v : List ℕ). Answers g v text n h) (sym e) whole) (λ e. begun w e) s

module _ (old new : Seen) (w text : List ℕ) (n : ℕ) (answers : Answers old.host w text n new.host) (xs : List Exchange) (a : List Written) (archive : Archive xs a old.host) where
  abbrev Answer : (Exchange → Type 0) → Type 0
  Answer P = (x : Exchange) × Longer xs a w new.host x × P x

  answered : (P : List ℕ → Type 0) → P (text ++ statements_text new.host.places n) → Answer (λ x. P (x.filled ++ joined x.behind))
  answered P p =
      let t = answered_archives old.host new.host w text n answers xs a archive in
      let lines = subst (λ (m : ℕ). AreWritten (take m new.host.places) t.0) t.2 t.3.2.lines in
      let same = texts_joined new.host.places n t.0 t.2 lines in
      (record { piece = w; filled = text; behind = t.0 }, record { tells = t.1; piece = refl; archive = t.3 }, subst (λ (l : List ℕ). P (text ++ l)) (sym same) p)

pub adds : (old new : Seen) (w text : List ℕ) (n : ℕ) → Answers old.host w text n new.host → Puts old.out (text ++ statements_text new.host.places n) new.out → Adds old w new
adds old new w text n answers p = record { added = λ xs a ar. answered old new w text n answers xs a ar (λ l. Puts old.out l new.out) p }

pub adds_front : (old new : Seen) (w text : List ℕ) (n : ℕ) → Answers old.host w text n new.host → Fails old.out (text ++ statements_text new.host.places n) new.out → AddsFront old w new
adds_front old new w text n answers p = record { added = λ xs a ar. answered old new w text n answers xs a ar (λ l. Fails old.out l new.out) p }

-- what is kept of a line that has not ended is of no account
pub adds_begun : (old : Seen) (b w : List ℕ) (new : Seen) → Adds (record old { begun = b }) w new → Adds old w new
adds_begun old b w new a = record { added = a.added }

pub adds_front_begun : (old : Seen) (b w : List ℕ) (new : Seen) → AddsFront (record old { begun = b }) w new → AddsFront old w new
adds_front_begun old b w new a = record { added = a.added }

-- ── a line that has begun ──

nothing_cut : (rest : List ℕ) → cut rest ≡ [] → rest ≡ []
nothing_cut [] e = refl
nothing_cut (x ∷ rest) e = cc e

pub none_left : (begun rest : List ℕ) → begun ≡ cut rest → begun ≡ [] → rest ≡ []
none_left begun rest e n = nothing_cut rest (sym e ∙ n)

-- a line of which nothing came before
pub shows_alone : (begun rest line : List ℕ) → begun ≡ cut rest → begun ≡ [] → Shows line (rest ++ line)
shows_alone begun rest line e n = inl (ap (λ l. l ++ line) (none_left begun rest e n))

-- the beginning of a line gets more of it
pub begun_more : (begun rest line new : List ℕ) → begun ≡ cut rest → new ≡ cut (begun ++ line) → new ≡ cut (rest ++ line)
begun_more begun rest line new e f = cut_more 170 begun new [] rest line e f

-- a text that is read as empty, and one that is not
pub none_read : (b bytes : List ℕ) (r : Bool) → r ≡ true → r ≡ eqb (length bytes) 0 → bytes ≡ b → b ≡ []
none_read b bytes r t e s =
    let z : length bytes ≡ 0 = grind (arith, nat_tests) in
    sym s ∙ nil_from_length bytes z

pub some_read : (b bytes : List ℕ) (r : Bool) → r ≡ false → r ≡ eqb (length bytes) 0 → bytes ≡ b → b ≡ [] → ⊥
some_read b bytes r f e s n =
    let z : length bytes ≡ 0 = ap length (s ∙ n) in
    grind (arith, nat_tests)
