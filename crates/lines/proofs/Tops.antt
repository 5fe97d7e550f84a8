-- Whole lines: from a scan to what was written.
use Rattle.std.proofs.Common.{◌≡◌, ℕ, zero, suc, ◌+◌, ◌-◌, ◌<◌, ◌≤◌, min, List, [], ◌∷◌, ◌++◌, map, length, take, drop, Some, None, Option, Ok, Err, decimal, Result, MatchResult, IsErrAnd, sym, refl, ap, ◌∙◌, subst, append_assoc, append-nil, arith, Bor}
use Rattle.std.specs.List.{AllByRecursion}
use Rattle.std.proofs.lemmas.List.{take_at, take-append-drop, length-append, length-map, same_from_push, nil_from_length}
use Rattle.lines.specs.declared.kinds.Sort.{Sort}
use Rattle.lines.specs.declared.kinds.Sort.TheVariants.{Input, Filled}
use Rattle.lines.specs.Kinds.{arity, kinds, filled_kinds, kinds_of, Short}
use Rattle.lines.specs.Lines.{fields_text, InputLine, FilledLine, IsInput, IsFilled, LongestStart}
use Rattle.lines.specs.Grammar.{Piece, Writes, shape, feed, answer, Lines, first, Stuck, StartRead, Done, AnswerRead}
use Rattle.lines.specs.declared.line.Line.{Line}
use Rattle.lines.specs.Parts.{kind_of, parts_of, numbers_of, kind_in, parts_in, numbers_in, Made}
use Rattle.lines.specs.Reads.{ReadsInput, reply_of, result_of, ReadsFilled}
use Rattle.lines.specs.declared.line.Filled as read
use Rattle.lines.specs.declared.read.Faulty.{Faulty}
use Rattle.lines.proofs.Cuts.{take_past}
use Rattle.lines.proofs.Lengths.{input_start}
use Rattle.lines.proofs.Tables.{known_filled, known_input, only_faulty, line_known}
use Rattle.lines.proofs.Steps.{done_after, not_digit_10, answer_delim}

-- fields and what follows them
pub writes_to : (d : ℕ) (ns ms : List ℕ) (t : List Piece) (v : List ℕ) → AllByRecursion (Short d) ns → Writes t ms v → Writes (shape d (length ns) t) (ns ++ ms) (fields_text ns ++ v)
writes_to d [] ms t v s h = h
writes_to d (n ∷ ns) ms t v s h =
    (decimal n ++ (fields_text ns ++ v), ap (λ l. 32 ∷ l) (append_assoc (decimal n) (fields_text ns) v), (n, ns ++ ms, fields_text ns ++ v, refl, s.0, refl, writes_to d ns ms t v s.1 h))

pub writes_from : (d n : ℕ) (t : List Piece) (ms v : List ℕ) → Writes (shape d n t) ms v → (ns : List ℕ) × (ks : List ℕ) × (w : List ℕ) × (length ns ≡ n) × AllByRecursion (Short d) ns × (ms ≡ ns ++ ks) × (v ≡ fields_text ns ++ w) × Writes t ks w
writes_from d zero t ms v h = ([], ms, v, refl, tt, refl, refl, h)
writes_from d (suc n) t ms v h =
    let g = h.2 in
    let p = writes_from d n t g.1 g.2 g.6 in
    (g.0 ∷ p.0, p.1, p.2, ap suc p.3, (g.4, p.4), g.3 ∙ ap (λ l. g.0 ∷ l) p.5, h.1 ∙ ap (λ l. 32 ∷ l) (g.5 ∙ ap (λ l. decimal g.0 ++ l) p.6 ∙ sym (append_assoc (decimal g.0) (fields_text p.0) p.2)), p.7)

pub input_to : (k : ℕ) (ns w : List ℕ) → InputLine k ns w → Lines kinds feed (k ∷ ns) w
input_to k ns w h = (k, length ns, ns, fields_text ns ++ (10 ∷ []), refl, h.known, h.is, subst (λ l. Writes (shape 8 (length ns) feed) l (fields_text ns ++ (10 ∷ []))) (append-nil ns) (writes_to 8 ns [] feed (10 ∷ []) h.short ([], refl, (refl, refl))))

pub input_from : (ms w : List ℕ) → Lines kinds feed ms w → (k : ℕ) × (ns : List ℕ) × (ms ≡ k ∷ ns) × InputLine k ns w
input_from ms w h =
    let p = writes_from 8 h.1 feed h.2 h.3 h.7 in
    let q = p.7 in
    let rest : p.2 ≡ 10 ∷ [] = q.1 ∙ ap (λ l. 10 ∷ l) q.2.1 in
    let same : h.2 ≡ p.0 = p.5 ∙ ap (λ l. p.0 ++ l) q.2.0 ∙ append-nil p.0 in (
      h.0,
      p.0,
      h.4 ∙ ap (λ l. h.0 ∷ l) same,
      record {
        known = h.5 ∙ ap Some (sym p.3);
        short = p.4;
        is = h.6 ∙ ap (λ l. decimal h.0 ++ l) (p.6 ∙ ap (λ l. fields_text p.0 ++ l) rest);
      },
    )

pub filled_to : (k : ℕ) (ns : List ℕ) (a b : ℕ) (w : List ℕ) → FilledLine k ns a b w → Lines filled_kinds answer (k ∷ (ns ++ (a ∷ b ∷ []))) w
filled_to k ns a b w h =
    let t = decimal a ++ (32 ∷ (decimal b ++ (10 ∷ []))) in (
      k,
      length ns,
      ns ++ (a ∷ b ∷ []),
      fields_text ns ++ (32 ∷ 58 ∷ 32 ∷ t),
      refl,
      h.known,
      h.is,
      writes_to 8 ns (a ∷ b ∷ []) answer (32 ∷ 58 ∷ 32 ∷ t) h.short
          (58 ∷ 32 ∷ t, refl, (32 ∷ t, refl, (t, refl, (a, b ∷ [], 32 ∷ (decimal b ++ (10 ∷ [])), refl, h.reply_short, refl, (decimal b ++ (10 ∷ []), refl, (b, [], 10 ∷ [], refl, h.result_short, refl, ([], refl, (refl, refl)))))))),
    )

pub filled_from : (ms w : List ℕ) → Lines filled_kinds answer ms w → (k : ℕ) × (ns : List ℕ) × (a : ℕ) × (b : ℕ) × (ms ≡ k ∷ (ns ++ (a ∷ b ∷ []))) × FilledLine k ns a b w
filled_from ms w h =
    let p = writes_from 8 h.1 answer h.2 h.3 h.7 in
    let q₁ = p.7 in
    let q₂ = q₁.2 in
    let q₃ = q₂.2 in
    let q₄ = q₃.2 in
    let q₅ = q₄.6 in
    let q₆ = q₅.2 in
    let q₇ = q₆.6 in
    let end : q₆.2 ≡ 10 ∷ [] = q₇.1 ∙ ap (λ l. 10 ∷ l) q₇.2.1 in
    let nums : p.1 ≡ q₄.0 ∷ q₆.0 ∷ [] = q₄.3 ∙ ap (λ l. q₄.0 ∷ l) (q₆.3 ∙ ap (λ l. q₆.0 ∷ l) q₇.2.0) in
    let text : p.2 ≡ 32 ∷ 58 ∷ 32 ∷ (decimal q₄.0 ++ (32 ∷ (decimal q₆.0 ++ (10 ∷ [])))) =
    q₁.1 ∙ ap (λ l. 32 ∷ l) (q₂.1 ∙ ap (λ l. 58 ∷ l) (q₃.1 ∙ ap (λ l. 32 ∷ l) (q₄.5 ∙ ap (λ l. decimal q₄.0 ++ l) (q₅.1 ∙ ap (λ l. 32 ∷ l) (q₆.5 ∙ ap (λ l. decimal q₆.0 ++ l) end))))) in (
      h.0,
      p.0,
      q₄.0,
      q₆.0,
      h.4 ∙ ap (λ l. h.0 ∷ l) (p.5 ∙ ap (λ l. p.0 ++ l) nums),
      record {
        known = h.5 ∙ ap Some (sym p.3);
        short = p.4;
        reply_short = q₄.4;
        result_short = q₆.4;
        is = h.6 ∙ ap (λ l. decimal h.0 ++ l) (p.6 ∙ ap (λ l. fields_text p.0 ++ l) text);
      },
    )

first_take : (m : ℕ) (xs r : List ℕ) → 0 < m → 0 < length xs → first (take m xs ++ r) ≡ first xs
first_take zero xs r z l = absurd (omega arith)
first_take (suc m) [] r z l = absurd (omega arith)
first_take (suc m) (x ∷ xs) r z l = refl

-- a scan that is stuck says where the line becomes faulty
pub faulty : (L : List ℕ → Type 0) (G : List ℕ → List ℕ → Type 0) (s : List ℕ) (left n : ℕ) → ((ms w : List ℕ) → G ms w → L w) → ((w : List ℕ) → L w → (ms : List ℕ) × G ms w) → Stuck G s left → n ≡ length s - left → LongestStart L s n
faulty L G s left n to from st e =
    let long : length s ≡ length st.front + length st.rest = ap length st.split ∙ length-append st.front st.rest in
    let at : n ≡ length st.front = omega (arith, st.count) in
    let front : take n s ≡ st.front = ap (take n) st.split ∙ take_at st.front st.rest n (sym at) in
    record {
      no_line = λ l. let p = from s l in st.stops p.0 st.rest refl (subst (G p.0) st.split p.1);
      within = omega arith;
      begins = (st.begins.0, subst (λ l. L (l ++ st.begins.0)) (sym front) (to st.begins.1 (st.front ++ st.begins.0) st.begins.2));
      longest = λ m more within b.
          let p = from (take m s ++ b.0) b.1 in
          let is : m ≡ length st.front + (m - n) = omega arith in
          let split : take m s ≡ st.front ++ take (m - n) st.rest = ap (λ x. take x s) is ∙ ap (take (length st.front + (m - n))) st.split ∙ take_past (m - n) st.front st.rest in
          let whole : take m s ++ b.0 ≡ st.front ++ (take (m - n) st.rest ++ b.0) = ap (λ l. l ++ b.0) split ∙ append_assoc st.front (take (m - n) st.rest) b.0 in
          st.stops p.0 (take (m - n) st.rest ++ b.0) (first_take (m - n) st.rest b.0 (omega arith) (omega arith)) (subst (G p.0) whole p.1);
    }

take_own : {X : Type 0} (f : ℕ) (xs : List X) → take (length (take f xs)) xs ≡ take f xs
take_own f xs = ap (take (length (take f xs))) (sym (take-append-drop f xs)) ∙ take_at (take f xs) (drop f xs) (length (take f xs)) refl

known_of : (s : Sort) (k n : ℕ) → arity (kinds_of s) k ≡ Some n → arity filled_kinds k ≡ Some n
known_of Input k n e = known_filled k n e
known_of Filled k n e = e

-- what `line_of` makes of the fields that were read
pub start_made : (s : Sort) (w : List ℕ) (k f : ℕ) (out : List (Bor (List ℕ))) (rest : List ℕ) (o : Option Line) → StartRead (kinds_of s) w k (map (λ d. d.now) (take f out)) rest → Made k out o → StartRead (kinds_of s) w (kind_in o) (parts_in o) rest
start_made s w k f out rest None start made =
    let p = only_faulty k _ made (known_of s k _ start.known) in
    let none : map (λ d. d.now) (take f out) ≡ [] = nil_from_length _ p.1 in
    subst (λ j. StartRead (kinds_of s) w j [] rest) p.0 (subst (λ t. StartRead (kinds_of s) w k t rest) none start)
start_made s w k f out rest (Some l) start made =
    let known : arity kinds k ≡ Some (length (parts_of l)) = ap (arity kinds) (sym made.0) ∙ line_known l in
    let n = known_input k _ _ known (known_of s k _ start.known) ∙ length-map (take f out) (λ d. d.now) in
    let parts : parts_of l ≡ map (λ d. d.now) (take f out) = made.1 _ known ∙ ap (λ x. map (λ d. d.now) (take x out)) n ∙ ap (map (λ d. d.now)) (take_own f out) in
    rw (made.0, parts) start

-- an input line is none of kind 99
pub input_some : (w rest : List ℕ) → StartRead kinds w 99 [] rest → ⊥
input_some w rest start = let e : ◌≡◌ {A = Option ℕ} None (Some 0) = start.known in let y : ◌≡◌ {A = ℕ} 0 1 = cc e in omega arith

pub input_read : (w : List ℕ) (rest : List ℕ) (l : Line) → StartRead kinds w (kind_of l) (parts_of l) rest → Done (Writes feed) rest [] → ReadsInput w l
input_read w rest l start end =
    let k = kind_of l in
    let ns = numbers_of l in
    let all : Done (Lines kinds feed) w ((k ∷ ns) ++ []) = rw start.split (done_after _ _ _ _ rest [] (start.reached feed not_digit_10) end) in
    let p = input_from _ w all.is in
    let e : ◌≡◌ {A = List ℕ} (k ∷ ns) (p.0 ∷ p.1) = sym (append-nil (k ∷ ns)) ∙ p.2 in
    let ek : p.0 ≡ k = cc e in
    let en : p.1 ≡ ns = cc e in
    record {
      digits = start.numbers;
      is = subst (λ x. InputLine x ns w) ek (subst (λ x. InputLine p.0 x w) en p.3);
      only = λ j ms h.
          let o = all.only (j ∷ ms) (input_to j ms w h) ∙ p.2 in
          let ok : j ≡ p.0 = cc o in
          let on : ms ≡ p.1 = cc o in
          (ok ∙ ek, on ∙ en);
    }

head_same : (x y : ℕ) (xs ys : List ℕ) → ◌≡◌ {A = List ℕ} (x ∷ xs) (y ∷ ys) → x ≡ y
head_same x y xs ys e = cc e

tail_same : (x y : ℕ) (xs ys : List ℕ) → ◌≡◌ {A = List ℕ} (x ∷ xs) (y ∷ ys) → xs ≡ ys
tail_same x y xs ys e = cc e

same_two : (xs ys : List ℕ) (a b a' b' : ℕ) → xs ++ (a ∷ b ∷ []) ≡ ys ++ (a' ∷ b' ∷ []) → (xs ≡ ys) × (a ≡ a') × (b ≡ b')
same_two xs ys a b a' b' e =
    let p = same_from_push (xs ++ (a ∷ [])) (ys ++ (a' ∷ [])) b b' (append_assoc xs (a ∷ []) (b ∷ []) ∙ e ∙ sym (append_assoc ys (a' ∷ []) (b' ∷ []))) in
    let q = same_from_push xs ys a a' p.0 in
    (q.0, q.1, p.1)

pub filled_read : (w : List ℕ) (rest : List ℕ) (f : read.Filled) → StartRead filled_kinds w (kind_in f.line) (parts_in f.line) rest → AnswerRead rest f.reply.now f.result.now → ReadsFilled w f
filled_read w rest f start end =
    let all : Done (Lines filled_kinds answer) w ((kind_in f.line ∷ numbers_in f.line) ++ (reply_of f ∷ result_of f ∷ [])) = rw start.split (done_after _ _ _ _ rest _ (start.reached answer answer_delim) end.done) in
    let p = filled_from ((kind_in f.line ∷ numbers_in f.line) ++ (reply_of f ∷ result_of f ∷ [])) w all.is in
    let e = p.4 in
    let ek : p.0 ≡ kind_in f.line = sym (head_same _ _ _ _ e) in
    let tl : numbers_in f.line ++ (reply_of f ∷ result_of f ∷ []) ≡ p.1 ++ (p.2 ∷ p.3 ∷ []) = tail_same _ _ _ _ e in
    let q = same_two (numbers_in f.line) p.1 _ _ _ _ tl in
    record {
      digits = start.numbers;
      answer_digits = end.numbers;
      is = subst (λ x. FilledLine x (numbers_in f.line) (reply_of f) (result_of f) w) ek (subst (λ x. FilledLine p.0 x (reply_of f) (result_of f) w) (sym q.0) (subst (λ x. FilledLine p.0 p.1 x (result_of f) w) (sym q.1) (subst (λ x. FilledLine p.0 p.1 p.2 x w) (sym q.2) p.5)));
      only = λ k' ns a b h.
          let o = all.only _ (filled_to k' ns a b w h) ∙ e in
          let ok : k' ≡ p.0 = head_same _ _ _ _ o in
          let ot : ns ++ (a ∷ b ∷ []) ≡ p.1 ++ (p.2 ∷ p.3 ∷ []) = tail_same _ _ _ _ o in
          let r = same_two ns p.1 _ _ _ _ ot in
          (ok ∙ ek, r.0 ∙ sym q.0, r.1 ∙ sym q.1, r.2 ∙ sym q.2);
    }

pub input_faulty : (s : List ℕ) (left : ℕ) → Stuck (Lines kinds feed) s left → LongestStart IsInput s (length s - left)
input_faulty s left st = faulty IsInput (Lines kinds feed) s left _ (λ ms w h. let p = input_from ms w h in (p.0, p.1, p.3)) (λ w l. (l.0 ∷ l.1, input_to _ _ _ l.2)) st refl

pub filled_faulty : (s : List ℕ) (left : ℕ) → Stuck (Lines filled_kinds answer) s left → LongestStart IsFilled s (length s - left)
filled_faulty s left st = faulty IsFilled (Lines filled_kinds answer) s left _ (λ ms w h. let p = filled_from ms w h in (p.0, p.1, p.2, p.3, p.5)) (λ w l. (_, filled_to _ _ _ _ _ l.4)) st refl

-- the start of a fault has room for what any line has
start_told : (L : List ℕ → Type 0) (most : ℕ) (s : List ℕ) (left : ℕ) (f : Faulty) → LongestStart L s (length s - left) → ((n : ℕ) → LongestStart L s n → n ≤ most) → most ≤ 170 → f.start ≡ min (length s - left) 170 → LongestStart L s f.start × (f.start ≤ most)
start_told L most s left f h short fits e =
    let m = short _ h in
    let same : length s - left ≡ f.start = omega arith in
    (subst (LongestStart L s) same h, omega arith)

-- a scan that got stuck, told by the start of the fault
pub told : {X : Type 0} (L : List ℕ → Type 0) (most : ℕ) (s : List ℕ) (r : Result X ℕ) (q : Result X Faulty) (P : X → Type 0) (S : ℕ → Type 0) (G : ℕ → Faulty → Type 0) → MatchResult r P S → MatchResult r (λ x. q ≡ Ok x) (λ e. IsErrAnd q (G e)) → ((e : ℕ) → S e → LongestStart L s (length s - e)) → ((n : ℕ) → LongestStart L s n → n ≤ most) → most ≤ 170 → ((e : ℕ) (f : Faulty) → G e f → f.start ≡ min (length s - e) 170) → MatchResult q P (λ f. LongestStart L s f.start × (f.start ≤ most))
told L most s (Ok x) q P S G h same st short fits by = subst (λ o. MatchResult o P (λ f. LongestStart L s f.start × (f.start ≤ most))) (sym same) h
told L most s (Err e) (Ok x) P S G h at st short fits by = absurd at
told L most s (Err e) (Err f) P S G h at st short fits by = start_told L most s e f (st e h) short fits (by e f at)

pub input_told : {X : Type 0} (w : List ℕ) (r : Result X ℕ) (q : Result X Faulty) (P : X → Type 0) (G : ℕ → Faulty → Type 0) → MatchResult r P (Stuck (Lines kinds feed) w) → MatchResult r (λ x. q ≡ Ok x) (λ e. IsErrAnd q (G e)) → ((e : ℕ) (f : Faulty) → G e f → f.start ≡ min (length w - e) 170) → MatchResult q P (λ f. LongestStart IsInput w f.start × (f.start ≤ 66))
input_told w r q P G h at by = told IsInput 66 w r q P (Stuck (Lines kinds feed) w) G h at (input_faulty w) (input_start w) (omega arith) by
