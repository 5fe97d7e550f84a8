-- A read line and a faulty one, as the host answers them.
use Rattle.std.proofs.Common.{◌≡◌, ℕ, ◌<◌, ◌≤◌, ◌⊎◌, inl, inr, List, ◌++◌, length, take, sym, refl, ap, ◌∙◌, subst, ⊎_elim, arith}
use Rattle.std.proofs.lemmas.List.{length-append, take_all, take-take, length-take-le}
use Rattle.std.proofs.lemmas.Bool.{cases_lt}
use Rattle.draws.specs.declared.Reply.{Reply}
use Rattle.register.specs.Register.{Brief}
use Rattle.lines.specs.declared.line.Line.{Line}
use Rattle.lines.specs.Parts.{kind_of, numbers_of}
use Rattle.lines.specs.Lines.{InputLine, FilledLine, FaultyLine, IsInput, Begins, LongestStart, answer_text, before_feed, faulty_line}
use Rattle.lines.specs.Reads.{ReadsInput}
use Rattle.lines.specs.Texts.{cut}
use Rattle.lines.proofs.Filling.{fills, fills_faulty}
use Rattle.lines.proofs.Lengths.{input_length, input_start}
use Rattle.host.specs.declared.instruction.Instruction.{Instruction}
use Rattle.host.specs.Instructions.{instruction_of}
use Rattle.host.specs.Steps.{Shown, instruction_step}
use Rattle.host.specs.Hosts.{host_step, statements_after, Fills, Answers}
use Rattle.host.proofs.ByKind.{same_instruction}

-- the host has done as the line asks, and has filled it with the reply
pub fills_of : (h : Shown) (l : Line) (w : List ℕ) (i : Instruction) (r : Reply) (text : List ℕ) (statements : ℕ) (after : Shown)
    → InputLine (kind_of l) (numbers_of l) w → i ≡ instruction_of l
    → r ≡ (instruction_step h i).reply → Brief r → after ≡ (instruction_step h i).after
    → text ≡ cut (before_feed w ++ answer_text r.number r.result) → statements ≡ statements_after i r
    → Fills h l text statements after
fills_of h l w i r text statements after line ei er b ea t f =
    let P : List ℕ → Type 0 = λ x. FilledLine (kind_of l) (numbers_of l) r.number r.result x in
    let R : Reply → Type 0 = λ x. FilledLine (kind_of l) (numbers_of l) x.number x.result text in
    let reply : r ≡ (host_step h l).reply = er ∙ ap (λ x. (instruction_step h x).reply) ei in
    record {
      text_is = subst R reply (subst P (sym t) (fills (kind_of l) (numbers_of l) w r.number r.result line b.0 b.1));
      follow = f ∙ ap (λ x. statements_after x r) ei ∙ ap (statements_after (instruction_of l)) reply;
      held = ea ∙ ap (λ x. (instruction_step h x).after) ei;
    }

-- a line with the same kind and numbers is filled alike
fills_alike : (h : Shown) (l m : Line) (text : List ℕ) (n : ℕ) (after : Shown) → kind_of m ≡ kind_of l → numbers_of m ≡ numbers_of l → Fills h l text n after → Fills h m text n after
fills_alike h l m text n after k ns f =
    let e : instruction_of l ≡ instruction_of m = same_instruction l m k ns in
    let K : ℕ → Type 0 = λ x. FilledLine x (numbers_of l) (host_step h l).reply.number (host_step h l).reply.result text in
    let N : List ℕ → Type 0 = λ x. FilledLine (kind_of m) x (host_step h l).reply.number (host_step h l).reply.result text in
    let I : Instruction → Type 0 = λ i. FilledLine (kind_of m) (numbers_of m) (instruction_step h i).reply.number (instruction_step h i).reply.result text in
    record {
      text_is = subst I e (subst N (sym ns) (subst K (sym k) f.text_is));
      follow = f.follow ∙ ap (λ i. statements_after i (instruction_step h i).reply) e;
      held = f.held ∙ ap (λ i. (instruction_step h i).after) e;
    }

-- a line that is read is no faulty one, and any other line that it writes has its kind and numbers
pub read_answers : (h : Shown) (w : List ℕ) (l : Line) (text : List ℕ) (n : ℕ) (after : Shown) → ReadsInput w l → Fills h l text n after → Answers h w text n after
read_answers h w l text n after reads f =
    record {
      fills = λ m i. let o = reads.only (kind_of m) (numbers_of m) i in fills_alike h l m text n after o.0 o.1 f;
      faults = λ m s. absurd (s.no_line (kind_of l, numbers_of l, reads.is));
      one = inl (l, reads.is);
    }

one_start : (w : List ℕ) (m n : ℕ) → LongestStart IsInput w m → LongestStart IsInput w n → m < n → ⊥
one_start w m n s t h = s.longest n h t.within t.begins

same_start : (w : List ℕ) (m n : ℕ) → LongestStart IsInput w m → LongestStart IsInput w n → m ≡ n
same_start w m n s t =
    ⊎_elim
    (λ l. absurd (one_start w m n s t l))
    (λ l. ⊎_elim (λ g. absurd (one_start w n m t s g)) (λ g. omega arith) (cases_lt n m))
    (cases_lt m n)

pub faulty_answers : (h : Shown) (w : List ℕ) (m : ℕ) (text : List ℕ) → LongestStart IsInput w m × (m ≤ 66) → text ≡ cut (faulty_line m) → Answers h w text 0 h
faulty_answers h w m text s t =
    let F : List ℕ → Type 0 = λ x. FaultyLine m x in
    let line = subst F (sym t) (fills_faulty m s.1) in
    record {
      fills = λ l i. absurd (s.0.no_line (kind_of l, numbers_of l, i));
      faults = λ n r.
          let P : ℕ → Type 0 = λ x. FaultyLine x text in
          record { text_is = subst P (same_start w m n s.0 r) line; follow = refl; held = refl };
      one = inr (m, s.0);
    }

-- ── a line that is cut to its first 170 bytes ──

-- where starts of at most 170 bytes are looked at, a line and its first 170 bytes are alike
begins_cut : (w : List ℕ) (m : ℕ) → m ≤ 170 → Begins IsInput (take m w) → Begins IsInput (take m (cut w))
begins_cut w m few b = let P : List ℕ → Type 0 = λ x. Begins IsInput x in subst P (sym (take-take m 170 w few)) b

begins_whole : (w : List ℕ) (m : ℕ) → m ≤ 170 → Begins IsInput (take m (cut w)) → Begins IsInput (take m w)
begins_whole w m few b = let P : List ℕ → Type 0 = λ x. Begins IsInput x in subst P (take-take m 170 w few) b

begun_few : (w : List ℕ) (m : ℕ) → m ≤ length w → Begins IsInput (take m w) → m ≤ 66
begun_few w m within b =
    let whole = take m w ++ b.0 in
    let few = input_length b.1.0 b.1.1 whole b.1.2 in
    omega (arith, length-append (take m w) b.0, length-take-le m w within)

-- the longest start of a long line is that of its first 170 bytes
cut_start : (w : List ℕ) (n : ℕ) → 170 < length w → LongestStart IsInput w n → LongestStart IsInput (cut w) n
cut_start w n long s =
    let few = input_start w n s in
    let size : length (cut w) ≡ 170 = length-take-le 170 w (omega arith) in
    record {
      no_line = λ l. let m = input_length l.0 l.1 (cut w) l.2 in absurd (omega arith);
      within = omega arith;
      begins = begins_cut w n (omega arith) s.begins;
      longest = λ m lt within b. s.longest m lt (omega arith) (begins_whole w m (omega arith) b);
    }

whole_start : (w : List ℕ) (n : ℕ) → 170 < length w → LongestStart IsInput (cut w) n → LongestStart IsInput w n
whole_start w n long s =
    let size : length (cut w) ≡ 170 = length-take-le 170 w (omega arith) in
    let within = s.within in
    record {
      no_line = λ l. let m = input_length l.0 l.1 w l.2 in absurd (omega arith);
      within = omega arith;
      begins = begins_whole w n (omega arith) s.begins;
      longest = λ m lt in_w b. let few = begun_few w m in_w b in s.longest m lt (omega arith) (begins_cut w m (omega arith) b);
    }

-- such a line is answered as the whole line
begun_answers : (h : Shown) (w line text : List ℕ) (n : ℕ) (after : Shown) → cut w ≡ line → Answers h line text n after → Answers h w text n after
begun_answers h w line text n after e a =
    let A : List ℕ → Type 0 = λ x. Answers h x text n after in
    let O : Type 0 = ((l : Line) × InputLine (kind_of l) (numbers_of l) w) ⊎ ((m : ℕ) × LongestStart IsInput w m) in
    ⊎_elim
    (λ (long : 170 < length w).
    let c = subst A (sym e) a in
    let size : length (cut w) ≡ 170 = length-take-le 170 w (omega arith) in
    record {
      fills = λ l i. let m = input_length (kind_of l) (numbers_of l) w i in absurd (omega arith);
      faults = λ m s. c.faults m (cut_start w m long s);
      one =
          elim c.one as (λ _. O) [
            | inl p ↦ let m = input_length (kind_of p.0) (numbers_of p.0) (cut w) p.1 in absurd (omega arith)
            | inr p ↦ inr (p.0, whole_start w p.0 long p.1)
          ];
    })
    (λ (short : length w ≤ 170). subst A (sym e ∙ take_all 170 w (omega arith)) a)
    (cases_lt 170 (length w))

pub read_begun : (h : Shown) (w : List ℕ) (l : Line) (text : List ℕ) (n : ℕ) (after : Shown) → ReadsInput w l → Fills h l text n after → (v : List ℕ) → cut v ≡ w → Answers h v text n after
read_begun h w l text n after reads f v e = begun_answers h v w text n after e (read_answers h w l text n after reads f)

pub faulty_begun : (h : Shown) (w : List ℕ) (m : ℕ) (text : List ℕ) → LongestStart IsInput w m × (m ≤ 66) → text ≡ cut (faulty_line m) → (v : List ℕ) → cut v ≡ w → Answers h v text 0 h
faulty_begun h w m text s t v e = begun_answers h v w text 0 h e (faulty_answers h w m text s t)
