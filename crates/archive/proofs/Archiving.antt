-- Every archive is a register of its book, by induction over its lines.
use Rattle.std.proofs.Common.{ℕ, List, [], ◌∷◌, take, Some, None, sym, refl, subst, ⊎_elim}
use Rattle.lines.specs.declared.line.Line.{Line as ReadLine}
use Rattle.lines.specs.Parts.{kind_of, numbers_of}
use Rattle.lines.specs.Lines.{faulty, InputLine, IsInput, LongestStart}
use Rattle.host.specs.Instructions.{instruction_of}
use Rattle.host.specs.Steps.{Shown}
use Rattle.host.specs.Hosts.{host_step, statements_after}
use Rattle.archive.specs.Archive.{Written, Exchange, Tells, Answered, AreWritten, Archive, numbers_taken, numbers_used, register_of, ArchiveLaw}
use Rattle.archive.proofs.Telling.{texts_tell}
use Rattle.archive.proofs.Keeping.{line_of, faulty_kept, step_kept, Told, first_told}

read_told : (a : List Written) (g h : Shown) (x : Exchange) (w : Written) (l : ReadLine) → Told a g → Answered g x h → Tells x w → InputLine (kind_of l) (numbers_of l) x.piece → Told (w ∷ a) h
read_told a g h x w l old by z i =
    let f = by.answers.fills l i in
    let y = host_step g l in
    let v = line_of (instruction_of l) y in
    let N : ℕ → Type 0 = λ n. AreWritten (take n h.places) x.behind in
    let H : Shown → Type 0 = λ j. AreWritten (take (statements_after (instruction_of l) y.reply) j.places) x.behind in
    let tells : Tells x v = record { filled = (Some l, refl, f.text_is); lines = subst H f.held (subst N f.follow by.lines) } in
    let P : Written → Type 0 = λ u. Told (u ∷ a) y.after in
    let Q : Shown → Type 0 = λ j. Told (w ∷ a) j in
    subst Q (sym f.held) (subst P (texts_tell x v w tells z) (step_kept (register_of a) (numbers_taken a) (numbers_used a) a g (instruction_of l) old))

faulty_told : (a : List Written) (g h : Shown) (x : Exchange) (w : Written) (n : ℕ) → Told a g → Answered g x h → Tells x w → LongestStart IsInput x.piece n → Told (w ∷ a) h
faulty_told a g h x w n old by z start =
    let f = by.answers.faults n start in
    let v : Written = record { asked = None; reply = faulty n; lines = w.lines } in
    let tells : Tells x v = record { filled = (None, refl, f.text_is); lines = z.lines } in
    let P : Written → Type 0 = λ u. Told (u ∷ a) g in
    let Q : Shown → Type 0 = λ j. Told (w ∷ a) j in
    subst Q (sym f.held) (subst P (texts_tell x v w tells z) (faulty_kept (register_of a) (numbers_taken a) (numbers_used a) a g n w.lines old))

pub told : (xs : List Exchange) (a : List Written) (h : Shown) → Archive xs a h → Told a h
told [] [] h e = subst (λ (z : Shown). Told [] z) (sym e) first_told
told [] (w ∷ a) h r = absurd r
told (x ∷ xs) [] h r = absurd r
told (x ∷ xs) (w ∷ a) h r =
    let old = told xs a r.0 r.1 in
    ⊎_elim
    (λ i. read_told a r.0 h x w i.0 old r.2 r.3 i.1)
    (λ s. faulty_told a r.0 h x w s.0 old r.2 r.3 s.1)
    r.2.answers.one

pub archive_law : ArchiveLaw
archive_law xs a h r = let k = told xs a h r in record { book = k.book; before = k.before; tape = k.unread }
