-- An answered piece, an input line or a faulty one, is one more line of any archive.
use Rattle.std.proofs.Common.{◌≡◌, ℕ, ◌≤◌, List, [], ◌∷◌, map, length, take, Some, None, sym, refl, ◌∙◌, subst, ⊎_elim, arith}
use Rattle.std.specs.List.{AllByRecursion}
use Rattle.std.proofs.lemmas.List.{length-map, length-take-le}
use Rattle.std.proofs.lemmas.List.Elements.{All-take, recursion_from_All}
use Rattle.settlement.specs.declared.line.Line.{Line}
use Rattle.register.specs.Register.{Fits}
use Rattle.lines.specs.declared.line.Line.{Line as ReadLine}
use Rattle.lines.specs.Parts.{kind_of, numbers_of}
use Rattle.lines.specs.Lines.{faulty, statement_line, InputLine, IsInput, LongestStart}
use Rattle.host.specs.Instructions.{instruction_of}
use Rattle.host.specs.Places.{line_numbers}
use Rattle.host.specs.Steps.{Shown}
use Rattle.host.specs.Hosts.{host_step, statements_after, Answers}
use Rattle.host.proofs.Fitting.{has_text}
use Rattle.host.proofs.Following.{few_follow}
use Rattle.archive.specs.Archive.{Written, AreWritten, Exchange, Answered, Tells, Archive, Archives, numbers_taken, numbers_used, register_of}
use Rattle.archive.proofs.Keeping.{step_kept}
use Rattle.archive.proofs.Archiving.{told}

abbrev texts : List Line → List (List ℕ)
texts ls = map (λ l. statement_line (line_numbers l)) ls

have_texts : (ls : List Line) → AllByRecursion Fits ls → AreWritten ls (texts ls)
have_texts [] f = tt
have_texts (l ∷ ls) f = (has_text l f.0, have_texts ls f.1)

-- so many of the places are there, and each can be written
record Writable (n : ℕ) (places : List Line) : Type 0 where
  there : n ≤ length places
  fit : AllByRecursion Fits (take n places)

writable : (xs : List Exchange) (a : List Written) (g : Shown) (l : ReadLine) → Archive xs a g → Writable (statements_after (instruction_of l) (host_step g l).reply) (host_step g l).after.places
writable xs a g l r =
    let i = instruction_of l in
    let n = statements_after i (host_step g l).reply in
    let ps = (host_step g l).after.places in
    let old = told xs a g r in
    let k = step_kept (register_of a) (numbers_taken a) (numbers_used a) a g i old in
    let before : length g.places ≡ 256 = old.places in
    let after : length ps ≡ 256 = k.places in
    record {
      there = let few : n ≤ length g.places = few_follow g i in omega arith;
      fit = recursion_from_All Fits (take n ps) (All-take Fits n ps k.fit);
    }

abbrev exchange : List ℕ → List ℕ → List (List ℕ) → Exchange
exchange piece text behind = record { piece = piece; filled = text; behind = behind }

module _ (g h : Shown) (piece text : List ℕ) (n : ℕ) (answers : Answers g piece text n h) (xs : List Exchange) (a : List Written) (r : Archive xs a g) where
  -- an archive that is one line longer, with n statement lines behind it
  abbrev Longer : Type 0
  Longer = (behind : List (List ℕ)) × (w : Written) × (length behind ≡ n) × Archive (exchange piece text behind ∷ xs) (w ∷ a) h

  read_archived : (l : ReadLine) → InputLine (kind_of l) (numbers_of l) piece → Longer
  read_archived l i =
      let f = answers.fills l i in
      let N : ℕ → Type 0 = λ m. Writable m h.places in
      let H : Shown → Type 0 = λ j. Writable (statements_after (instruction_of l) (host_step g l).reply) j.places in
      let fits = subst N (sym f.follow) (subst H (sym f.held) (writable xs a g l r)) in
      let ls = take n h.places in
      let size : length (texts ls) ≡ n = length-map ls (λ l. statement_line (line_numbers l)) ∙ length-take-le n h.places fits.there in
      let A : ℕ → Type 0 = λ m. Answers g piece text m h in
      let B : ℕ → Type 0 = λ m. AreWritten (take m h.places) (texts ls) in
      let told = have_texts ls fits.fit in
      let x = exchange piece text (texts ls) in
      let w : Written = record { asked = Some (instruction_of l); reply = (host_step g l).reply; lines = ls } in
      let by : Answered g x h = record { answers = subst A (sym size) answers; lines = subst B (sym size) told } in
      let tells : Tells x w = record { filled = (Some l, refl, f.text_is); lines = told } in
      (texts ls, w, size, (g, r, by, tells))

  faulty_archived : (m : ℕ) → LongestStart IsInput piece m → Longer
  faulty_archived m s =
      let f = answers.faults m s in
      let A : ℕ → Type 0 = λ m. Answers g piece text m h in
      let x = exchange piece text [] in
      let w : Written = record { asked = None; reply = faulty m; lines = [] } in
      let by : Answered g x h = record { answers = subst A f.follow answers; lines = tt } in
      let tells : Tells x w = record { filled = (None, refl, f.text_is); lines = tt } in
      ([], w, sym f.follow, (g, r, by, tells))

pub answered_archives : (g h : Shown) (piece text : List ℕ) (n : ℕ) → Answers g piece text n h → Archives g piece text n h
answered_archives g h piece text n answers xs a r =
    ⊎_elim
    (λ i. read_archived g h piece text n answers xs a r i.0 i.1)
    (λ s. faulty_archived g h piece text n answers xs a r s.0 s.1)
    answers.one
