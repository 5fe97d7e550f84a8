-- The same bytes are the same lines, and have the same answer.
use Rattle.std.proofs.Common.{Option, ◌≡◌, ◌≢◌, ℕ, false, cond, eqb, List, [], ◌∷◌, ◌++◌, map, length, take, sym, refl, ap, subst, ◌∙◌, ⊎_elim, append_assoc, append-nil, arith}
use Rattle.std.proofs.lemmas.Bool.Decides.{nat_tests}
use Rattle.settlement.specs.declared.line.Line.{Line}
use Rattle.lines.specs.Lines.{InputLine, IsInput, LongestStart}
use Rattle.lines.specs.Texts.{cut}
use Rattle.host.specs.Steps.{Shown}
use Rattle.host.specs.Hosts.{Answers}
use Rattle.lines.specs.declared.line.Line.{Line as ReadLine}
use Rattle.lines.specs.Parts.{kind_of, numbers_of}
use Rattle.archive.specs.Archive.{Exchange, Written, AreWritten, Answered, Archive}
use Rattle.stream.specs.Pieces.{NoFeed, IsLine, IsLast}
use Rattle.stream.specs.Streams.{pieces_of, answers_of, AreLines, ArePieces, Seen, Streams, Stream, OneAnswer}

-- ── the pieces ──

-- the lines, the newest first, and what has come of the next
record Cuts : Type 0 where
  whole : List (List ℕ)
  rest : List ℕ

step : Cuts → ℕ → Cuts
step c b = cond (eqb b 10) (record { whole = (c.rest ++ (b ∷ [])) ∷ c.whole; rest = [] }) (record { whole = c.whole; rest = c.rest ++ (b ∷ []) })

cuts : Cuts → List ℕ → Cuts
cuts c [] = c
cuts c (b ∷ bytes) = cuts (step c b) bytes

cuts_append : (c : Cuts) (xs ys : List ℕ) → cuts c (xs ++ ys) ≡ cuts (cuts c xs) ys
unfolding cuts
cuts_append c [] ys = refl
cuts_append c (x ∷ xs) ys = cuts_append (step c x) xs ys

abbrev cut_at : List (List ℕ) → List ℕ → Cuts
cut_at whole rest = record { whole = whole; rest = rest }

step_on : (w : List (List ℕ)) (r : List ℕ) (b : ℕ) → b ≢ 10 → step (cut_at w r) b ≡ cut_at w (r ++ (b ∷ []))
unfolding step
step_on w r b n = let e : eqb b 10 ≡ false = grind (arith, nat_tests) in rw e refl

cuts_on : (w : List (List ℕ)) (r xs : List ℕ) → NoFeed xs → cuts (cut_at w r) xs ≡ cut_at w (r ++ xs)
unfolding cuts
cuts_on w r [] h = ap (cut_at w) (sym (append-nil r))
cuts_on w r (x ∷ xs) h =
    ap (λ c. cuts c xs) (step_on w r x h.0) ∙ cuts_on w (r ++ (x ∷ [])) xs h.1 ∙ ap (cut_at w) (append_assoc r (x ∷ []) xs)

cuts_line : (w : List (List ℕ)) (line : List ℕ) → IsLine line → cuts (cut_at w []) line ≡ cut_at (line ∷ w) []
unfolding cuts step
cuts_line w line l =
    ap (cuts (cut_at w [])) l.2 ∙ cuts_append (cut_at w []) l.0 (10 ∷ []) ∙ ap (λ c. cuts c (10 ∷ [])) (cuts_on w [] l.0 l.1) ∙ ap (λ p. cut_at (p ∷ w) []) (sym l.2)

abbrev pieces : List Exchange → List (List ℕ)
pieces xs = map (λ x. x.piece) xs

cuts_lines : (xs : List Exchange) → AreLines xs → cuts (cut_at [] []) (pieces_of xs) ≡ cut_at (pieces xs) []
unfolding cuts
cuts_lines [] h = refl
cuts_lines (x ∷ xs) h =
    cuts_append (cut_at [] []) (pieces_of xs) x.piece ∙ ap (λ c. cuts c x.piece) (cuts_lines xs h.1) ∙ cuts_line (pieces xs) x.piece h.0

cuts_last : (x : Exchange) (xs : List Exchange) → IsLast x.piece → AreLines xs → cuts (cut_at [] []) (pieces_of (x ∷ xs)) ≡ cut_at (pieces xs) x.piece
cuts_last x xs l h =
    cuts_append (cut_at [] []) (pieces_of xs) x.piece ∙ ap (λ c. cuts c x.piece) (cuts_lines xs h) ∙ cuts_on (pieces xs) [] x.piece l.0

-- all is lines, or the last has no line feed
data Ending (c : Cuts) (xs : List Exchange) : Type 0 where
  clean : (c ≡ cut_at (pieces xs) []) → Ending c xs
  open_end : (x : Exchange) → (ys : List Exchange) → (xs ≡ x ∷ ys) → (x.piece ≢ []) → (c ≡ cut_at (pieces ys) x.piece) → Ending c xs

ended : (xs : List Exchange) → ArePieces xs → Ending (cuts (cut_at [] []) (pieces_of xs)) xs
ended [] h = clean (cuts_lines [] tt)
ended (x ∷ xs) h =
    ⊎_elim (λ l. clean (cuts_lines (x ∷ xs) (l, h.1))) (λ l. open_end x xs refl l.1 (cuts_last x xs l h.1)) h.0

same_pieces : (c : Cuts) (xs ys : List Exchange) → Ending c xs → Ending c ys → pieces xs ≡ pieces ys
same_pieces c xs ys (clean e) (clean f) = ap (λ c. c.whole) (sym e ∙ f)
same_pieces c xs ys (clean e) (open_end y vs q n f) = absurd (n (ap (λ c. c.rest) (sym f ∙ e)))
same_pieces c xs ys (open_end x us p n e) (clean f) = absurd (n (ap (λ c. c.rest) (sym e ∙ f)))
same_pieces c xs ys (open_end x us p n e) (open_end y vs q m f) =
    ap pieces p ∙ ap (λ c. c.rest ∷ c.whole) (sym e ∙ f) ∙ sym (ap pieces q)

-- ── the answers ──

same_texts : (ls : List Line) (ts us : List (List ℕ)) → AreWritten ls ts → AreWritten ls us → ts ≡ us
same_texts [] [] [] g h = refl
same_texts [] [] (u ∷ us) g h = absurd h
same_texts [] (t ∷ ts) us g h = absurd g
same_texts (l ∷ ls) [] us g h = absurd g
same_texts (l ∷ ls) (t ∷ ts) [] g h = absurd h
same_texts (l ∷ ls) (t ∷ ts) (u ∷ us) g h =
    ap (λ w. w ∷ ts) (g.0.is ∙ sym h.0.is) ∙ ap (λ ws. u ∷ ws) (same_texts ls ts us g.1 h.1)

record Same (x y : Exchange) (h k : Shown) : Type 0 where
  filled : x.filled ≡ y.filled
  lines : length x.behind ≡ length y.behind
  held : h ≡ k

same_answer : (g h k : Shown) (x y : Exchange) → x.piece ≡ y.piece → Answered g x h → Answered g y k → Same x y h k
same_answer g h k x y p a b =
    let c = subst (λ (w : List ℕ). Answers g w y.filled (length y.behind) k) (sym p) b.answers in
    ⊎_elim
    (λ (i : (l : ReadLine) × InputLine (kind_of l) (numbers_of l) x.piece).
    let f = a.answers.fills i.0 i.1 in
    let e = c.fills i.0 i.1 in
    record { filled = f.text_is.is ∙ sym e.text_is.is; lines = f.follow ∙ sym e.follow; held = f.held ∙ sym e.held })
    (λ (s : (n : ℕ) × LongestStart IsInput x.piece n).
    let f = a.answers.faults s.0 s.1 in
    let e = c.faults s.0 s.1 in
    record { filled = f.text_is.is ∙ sym e.text_is.is; lines = f.follow ∙ sym e.follow; held = f.held ∙ sym e.held })
    a.answers.one

same_behind : (g h k : Shown) (x y : Exchange) → Answered g x h → Answered g y k → Same x y h k → x.behind ≡ y.behind
same_behind g h k x y a b s =
    let W = λ (n : ℕ) (v : Shown). AreWritten (take n v.places) y.behind in
    let l = subst (λ (v : Shown). W (length x.behind) v) (sym s.held) (subst (λ (n : ℕ). W n k) (sym s.lines) b.lines) in
    same_texts (take (length x.behind) h.places) x.behind y.behind a.lines l

-- the same exchanges lead to the same host
same_host : (xs : List Exchange) (a b : List Written) (g h : Shown) → Archive xs a g → Archive xs b h → g ≡ h
same_host [] [] [] g h r q = r ∙ sym q
same_host [] [] (v ∷ b) g h r q = absurd q
same_host [] (w ∷ a) b g h r q = absurd r
same_host (x ∷ xs) [] b g h r q = absurd r
same_host (x ∷ xs) (w ∷ a) [] g h r q = absurd q
same_host (x ∷ xs) (w ∷ a) (v ∷ b) g h r q =
    let d = subst (λ (u : Shown). Answered u x h) (sym (same_host xs a b r.0 q.0 r.1 q.1)) q.2 in
    (same_answer r.0 g h x x refl r.2 d).held

-- the same pieces, behind the same exchanges
same_archive : (before xs ys : List Exchange) (a b : List Written) (g h : Shown) → pieces xs ≡ pieces ys → Archive (xs ++ before) a g → Archive (ys ++ before) b h → (answers_of xs ≡ answers_of ys) × (g ≡ h)
same_archive before [] [] a b g h p r q = (refl, same_host before a b g h r q)
same_archive before [] (y ∷ ys) a b g h p r q = absurd (cc p)
same_archive before (x ∷ xs) [] a b g h p r q = absurd (cc p)
same_archive before (x ∷ xs) (y ∷ ys) [] b g h p r q = absurd r
same_archive before (x ∷ xs) (y ∷ ys) (w ∷ a) [] g h p r q = absurd q
same_archive before (x ∷ xs) (y ∷ ys) (w ∷ a) (v ∷ b) g h p r q =
    let e : x.piece ≡ y.piece = cc p in
    let t : pieces xs ≡ pieces ys = cc p in
    let one = same_archive before xs ys a b r.0 q.0 t r.1 q.1 in
    let d = subst (λ (u : Shown). Answered u y h) (sym one.1) q.2 in
    let s = same_answer r.0 g h x y e r.2 d in
    let l = same_behind r.0 g h x y r.2 d s in
    (cc (one.0, s.filled, l), s.held)

-- ── input ──

cuts_of : (bytes : List ℕ) (xs : List Exchange) (rest : List ℕ) → bytes ≡ pieces_of xs ++ rest → AreLines xs → NoFeed rest → cuts (cut_at [] []) bytes ≡ cut_at (pieces xs) rest
cuts_of bytes xs rest e l n =
    ap (cuts (cut_at [] [])) e ∙ cuts_append (cut_at [] []) (pieces_of xs) rest ∙ ap (λ c. cuts c rest) (cuts_lines xs l) ∙ cuts_on (pieces xs) [] rest n

one_so_far : (before : List Exchange) (bytes : List ℕ) (start other : Option (List ℕ)) (d e : Seen) (s : Streams before bytes start d) (r : Streams before bytes other e)
    → (answers_of s.exchanges ≡ answers_of r.exchanges) × (d.host ≡ e.host) × (d.begun ≡ e.begun)
one_so_far before bytes start other d e s r =
    let same = sym (cuts_of bytes s.exchanges s.rest s.whole s.lines s.unended) ∙ cuts_of bytes r.exchanges r.rest r.whole r.lines r.unended in
    let one = same_archive before s.exchanges r.exchanges s.told r.told d.host e.host (ap (λ c. c.whole) same) s.archive r.archive in
    (one.0, one.1, s.kept ∙ ap (λ c. cut c.rest) same ∙ sym r.kept)

one_ended : (before : List Exchange) (bytes t u : List ℕ) (g h : Shown) → Stream before bytes t g → Stream before bytes u h → (t ≡ u) × (g ≡ h)
one_ended before bytes t u g h a b =
    let c = cuts (cut_at [] []) bytes in
    let x = subst (λ (l : List ℕ). Ending (cuts (cut_at [] []) l) a.exchanges) (sym a.whole) (ended a.exchanges a.pieces) in
    let y = subst (λ (l : List ℕ). Ending (cuts (cut_at [] []) l) b.exchanges) (sym b.whole) (ended b.exchanges b.pieces) in
    let one = same_archive before a.exchanges b.exchanges a.told b.told g h (same_pieces c a.exchanges b.exchanges x y) a.archive b.archive in
    (a.text_is ∙ one.0 ∙ sym b.text_is, one.1)

pub one_answer : OneAnswer
one_answer = record { so_far = one_so_far; ended = one_ended }
