-- Input gets a line more, or more of a line, or ends.
use Rattle.std.proofs.Common.{◌≡◌, ◌≢◌, ℕ, List, [], ◌∷◌, ◌++◌, Option, None, replicate, false, sym, refl, ap, subst, ◌∙◌, inl, inr, append_assoc, append-nil}
use Rattle.std.specs.Io.KnownBytes.{Appends}
use Rattle.std.proofs.KnownBytes.{Appends-nil}
use Rattle.lines.specs.Texts.{cut}
use Rattle.settlement.specs.declared.line.Line.{Line}
use Rattle.ledger.specs.declared.state.State.{State}
use Rattle.book.specs.declared.pass.Pass.{Pass}
use Rattle.host.specs.Places.{empty_line}
use Rattle.host.specs.Steps.{Shown}
use Rattle.archive.specs.Archive.{Exchange, Written, Archive}
use Rattle.stream.specs.Pieces.{NoFeed, IsLine, IsLast}
use Rattle.stream.specs.Outputs.{Out, Puts, AppendsFront, Fails}
use Rattle.stream.specs.Streams.{answer_of, pieces_of, answers_of, AreLines, ArePieces, Seen, Streams, Ended, Broken, Adds, AddsFront}
use Rattle.stream.proofs.Putting.{puts_more, puts_fail}

no_feed_append : (xs ys : List ℕ) → NoFeed xs → NoFeed ys → NoFeed (xs ++ ys)
no_feed_append [] ys h k = k
no_feed_append (x ∷ xs) ys h k = (h.0, no_feed_append xs ys h.1 k)

line_from : (rest line : List ℕ) → NoFeed rest → IsLine line → IsLine (rest ++ line)
line_from rest line n l = (rest ++ l.0, no_feed_append rest l.0 n l.1, ap (λ b. rest ++ b) l.2 ∙ sym (append_assoc rest l.0 (10 ∷ [])))

-- bytes that are pieces and a rest are, with a line more, one piece more
one_more : (bytes ps rest line w : List ℕ) → bytes ≡ ps ++ rest → w ≡ rest ++ line → bytes ++ line ≡ ps ++ w
one_more bytes ps rest line w e f = ap (λ l. l ++ line) e ∙ append_assoc ps rest line ∙ ap (λ l. ps ++ l) (sym f)

-- a writer as the input began
abbrev at : Option (List ℕ) → Out
at start = record { held = start; waiting = []; failed = false }

-- nothing waits
all_put : (start : Option (List ℕ)) (bytes : List ℕ) (o : Out) → Puts (at start) bytes o → o.waiting ≡ [] → Appends start o.held bytes
all_put start bytes o p e =
    let all : p.gone ≡ bytes = sym (append-nil p.gone) ∙ ap (λ l. p.gone ++ l) (sym e) ∙ sym p.split in
    subst (λ (l : List ℕ). Appends start o.held l) all p.written

put_all : (start : Option (List ℕ)) (bytes : List ℕ) (o : Out) → Appends start o.held bytes → o.waiting ≡ [] → o.failed ≡ false → Puts (at start) bytes o
put_all start bytes o h e f = record {
  gone = bytes;
  split = sym (append-nil bytes) ∙ ap (λ l. bytes ++ l) (sym e);
  written = h;
  able = f;
}

-- input within a piece, of which some answers may wait
pub record Going (before : List Exchange) (bytes : List ℕ) (start : Option (List ℕ)) (d : Seen) : Type 0 where
  pub exchanges : List Exchange
  pub told : List Written
  pub rest : List ℕ
  pub whole : bytes ≡ pieces_of exchanges ++ rest
  pub lines : AreLines exchanges
  pub unended : NoFeed rest
  pub archive : Archive (exchanges ++ before) told d.host
  pub put : Puts (at start) (answers_of exchanges) d.out
  pub kept : d.begun ≡ cut rest

pub streams_going : (before : List Exchange) (bytes : List ℕ) (start : Option (List ℕ)) (d : Seen) → Streams before bytes start d → Going before bytes start d
streams_going before bytes start d s = record {
  exchanges = s.exchanges;
  told = s.told;
  rest = s.rest;
  whole = s.whole;
  lines = s.lines;
  unended = s.unended;
  archive = s.archive;
  put = put_all start (answers_of s.exchanges) d.out s.written s.flushed s.able;
  kept = s.kept;
}

same_shown : (h : Shown) (d : Option (State × Pass)) (u : List ℕ) (p : List Line) → h.desk ≡ d → h.unread ≡ u → h.places ≡ p → h ≡ record { desk = d; unread = u; places = p }
same_shown h d u p k l m =
    ap (λ x. record { desk = x; unread = h.unread; places = h.places }) k ∙ ap (λ x. record { desk = d; unread = x; places = h.places }) l ∙ ap (λ x. record { desk = d; unread = u; places = x }) m

-- input that begins behind an archive
pub begins : (before : List Exchange) (told : List Written) (start : Option (List ℕ)) (d : Seen) → Archive before told d.host → Appends start d.out.held [] → d.out.waiting ≡ [] → d.out.failed ≡ false → d.begun ≡ []
    → Streams before [] start d
begins before told start d a w e f b = record {
  exchanges = [];
  told = told;
  rest = [];
  whole = refl;
  lines = tt;
  unended = tt;
  archive = a;
  written = w;
  flushed = e;
  able = f;
  kept = b;
}

-- a new host, and a new output
pub begins_new : (start : Option (List ℕ)) (d : Seen) → d.host.desk ≡ None → d.host.unread ≡ [] → d.host.places ≡ replicate 256 empty_line → d.begun ≡ [] → d.out ≡ at start → Streams [] [] start d
begins_new start d k u p b o =
    begins [] [] start d (same_shown d.host None [] (replicate 256 empty_line) k u p) (subst (λ (n : Out). Appends start n.held []) (sym o) (Appends-nil start)) (ap (λ n. n.waiting) o) (ap (λ n. n.failed) o) b

module _ (before : List Exchange) (bytes : List ℕ) (start : Option (List ℕ)) (d e : Seen) where
  pub line_added : (line : List ℕ) (s : Going before bytes start d) → IsLine line → Adds d (s.rest ++ line) e → e.begun ≡ [] → Going before (bytes ++ line) start e
  line_added line s l adds b =
      let t = adds.added (s.exchanges ++ before) s.told s.archive in
      record {
        exchanges = t.0 ∷ s.exchanges;
        told = t.1.tells ∷ s.told;
        rest = [];
        whole = one_more bytes (pieces_of s.exchanges) s.rest line t.0.piece s.whole t.1.piece ∙ sym (append-nil (pieces_of s.exchanges ++ t.0.piece));
        lines = (subst IsLine (sym t.1.piece) (line_from s.rest line s.unended l), s.lines);
        unended = tt;
        archive = t.1.archive;
        put = puts_more (at start) d.out e.out (answers_of s.exchanges) (answer_of t.0) s.put t.2;
        kept = b;
      }

  pub line_broken : (line more : List ℕ) (s : Going before bytes start d) → IsLine line → AddsFront d (s.rest ++ line) e → Broken before (bytes ++ (line ++ more)) start e
  line_broken line more s l adds =
      let t = adds.added (s.exchanges ++ before) s.told s.archive in
      let f = puts_fail (at start) d.out e.out (answers_of s.exchanges) (answer_of t.0) s.put t.2 in
      record {
        exchanges = t.0 ∷ s.exchanges;
        told = t.1.tells ∷ s.told;
        more = more;
        whole = sym (append_assoc bytes line more) ∙ ap (λ b. b ++ more) (one_more bytes (pieces_of s.exchanges) s.rest line t.0.piece s.whole t.1.piece);
        pieces = inl (subst IsLine (sym t.1.piece) (line_from s.rest line s.unended l), s.lines);
        archive = t.1.archive;
        written = f.front;
        dropped = f.dropped;
        failed = f.failed;
      }

  -- more bytes, of which none is a line feed, and what waits is written
  pub rest_added : (more : List ℕ) (s : Going before bytes start d) → NoFeed more → e.host ≡ d.host → e.begun ≡ cut (s.rest ++ more) → Puts d.out [] e.out → e.out.waiting ≡ [] → Streams before (bytes ++ more) start e
  rest_added more s n h b p w =
      let q = puts_more (at start) d.out e.out (answers_of s.exchanges) [] s.put p in
      let all = append-nil (answers_of s.exchanges) in
      record {
        exchanges = s.exchanges;
        told = s.told;
        rest = s.rest ++ more;
        whole = ap (λ l. l ++ more) s.whole ∙ append_assoc (pieces_of s.exchanges) s.rest more;
        lines = s.lines;
        unended = no_feed_append s.rest more s.unended n;
        archive = subst (λ (g : Shown). Archive (s.exchanges ++ before) s.told g) (sym h) s.archive;
        written = subst (λ (l : List ℕ). Appends start e.out.held l) all (all_put start (answers_of s.exchanges ++ []) e.out q w);
        flushed = w;
        able = q.able;
        kept = b;
      }

  pub rest_broken : (more : List ℕ) (s : Going before bytes start d) → e.host ≡ d.host → Fails d.out [] e.out → Broken before (bytes ++ more) start e
  rest_broken more s h p =
      let f = puts_fail (at start) d.out e.out (answers_of s.exchanges) [] s.put p in
      record {
        exchanges = s.exchanges;
        told = s.told;
        more = s.rest ++ more;
        whole = ap (λ l. l ++ more) s.whole ∙ append_assoc (pieces_of s.exchanges) s.rest more;
        pieces = inl s.lines;
        archive = subst (λ (g : Shown). Archive (s.exchanges ++ before) s.told g) (sym h) s.archive;
        written = subst (λ (l : List ℕ). AppendsFront start e.out.held l) (append-nil (answers_of s.exchanges)) f.front;
        dropped = f.dropped;
        failed = f.failed;
      }

lines_pieces : (xs : List Exchange) → AreLines xs → ArePieces xs
lines_pieces [] h = tt
lines_pieces (x ∷ xs) h = (inl h.0, h.1)

-- ── the end ──

module _ (before : List Exchange) (bytes : List ℕ) (start : Option (List ℕ)) (d e : Seen) (s : Streams before bytes start d) where
  -- nothing is left
  pub ends_clean : s.rest ≡ [] → e.host ≡ d.host → e.begun ≡ [] → Puts d.out [] e.out → e.out.waiting ≡ [] → Ended before (bytes ++ []) start e
  unfolding streams_going rest_added
  ends_clean n h b p w =
      let r = rest_added before bytes start d e [] (streams_going before bytes start d s) tt h (b ∙ ap cut (sym (append-nil s.rest ∙ n))) p w in
      record {
        text = answers_of s.exchanges;
        answered = record {
          exchanges = s.exchanges;
          told = s.told;
          whole = append-nil bytes ∙ s.whole ∙ ap (λ l. pieces_of s.exchanges ++ l) n ∙ append-nil (pieces_of s.exchanges);
          pieces = lines_pieces s.exchanges s.lines;
          archive = r.archive;
          text_is = refl;
        };
        written = r.written;
        next = begins (s.exchanges ++ before) s.told e.out.held e r.archive (Appends-nil e.out.held) w r.able b;
      }

  -- what is left is answered, and what waits is written
  pub ends_last : (m : Seen) → s.rest ≢ [] → Adds d s.rest m → e.host ≡ m.host → e.begun ≡ [] → Puts m.out [] e.out → e.out.waiting ≡ [] → Ended before (bytes ++ []) start e
  unfolding streams_going
  ends_last m n adds h b p w =
      let g = streams_going before bytes start d s in
      let t = adds.added (s.exchanges ++ before) s.told s.archive in
      let text = answers_of s.exchanges ++ answer_of t.0 in
      let q = puts_more (at start) m.out e.out text [] (puts_more (at start) d.out m.out (answers_of s.exchanges) (answer_of t.0) g.put t.2) p in
      let a = subst (λ (j : Shown). Archive (t.0 ∷ (s.exchanges ++ before)) (t.1.tells ∷ s.told) j) (sym h) t.1.archive in
      record {
        text = text;
        answered = record {
          exchanges = t.0 ∷ s.exchanges;
          told = t.1.tells ∷ s.told;
          whole = append-nil bytes ∙ s.whole ∙ ap (λ l. pieces_of s.exchanges ++ l) (sym t.1.piece);
          pieces = (inr (subst IsLast (sym t.1.piece) (s.unended, n)), s.lines);
          archive = a;
          text_is = refl;
        };
        written = subst (λ (l : List ℕ). Appends start e.out.held l) (append-nil text) (all_put start (text ++ []) e.out q w);
        next = begins (t.0 ∷ (s.exchanges ++ before)) (t.1.tells ∷ s.told) e.out.held e a (Appends-nil e.out.held) w q.able b;
      }

  -- the last answer, of which the writer gets a front
  breaks_last : s.rest ≢ [] → (x : Exchange) (told : Written) → x.piece ≡ s.rest → Archive (x ∷ (s.exchanges ++ before)) (told ∷ s.told) e.host → Fails (at start) (answers_of s.exchanges ++ answer_of x) e.out → Broken before (bytes ++ []) start e
  breaks_last n x told i a f = record {
    exchanges = x ∷ s.exchanges;
    told = told ∷ s.told;
    more = [];
    whole = ap (λ l. l ++ []) (s.whole ∙ ap (λ l. pieces_of s.exchanges ++ l) (sym i));
    pieces = inr ((inr (subst IsLast (sym i) (s.unended, n)), s.lines), refl);
    archive = a;
    written = f.front;
    dropped = f.dropped;
    failed = f.failed;
  }

  -- the writer fails over the answer
  pub last_broken : s.rest ≢ [] → AddsFront d s.rest e → Broken before (bytes ++ []) start e
  unfolding streams_going
  last_broken n adds =
      let t = adds.added (s.exchanges ++ before) s.told s.archive in
      breaks_last n t.0 t.1.tells t.1.piece t.1.archive (puts_fail (at start) d.out e.out (answers_of s.exchanges) (answer_of t.0) (streams_going before bytes start d s).put t.2)

  -- or as what waits is written
  pub last_unwritten : (m : Seen) → s.rest ≢ [] → Adds d s.rest m → e.host ≡ m.host → Fails m.out [] e.out → Broken before (bytes ++ []) start e
  unfolding streams_going
  last_unwritten m n adds h p =
      let t = adds.added (s.exchanges ++ before) s.told s.archive in
      let text = answers_of s.exchanges ++ answer_of t.0 in
      let q = puts_more (at start) d.out m.out (answers_of s.exchanges) (answer_of t.0) (streams_going before bytes start d s).put t.2 in
      breaks_last n t.0 t.1.tells t.1.piece (subst (λ (j : Shown). Archive (t.0 ∷ (s.exchanges ++ before)) (t.1.tells ∷ s.told) j) (sym h) t.1.archive)
      (subst (λ (l : List ℕ). Fails (at start) l e.out) (append-nil text) (puts_fail (at start) m.out e.out text [] q p))

-- ── within a piece ──

within : (bytes done rest piece line more : List ℕ) → done ++ rest ≡ piece → rest ≡ line ++ more → (bytes ++ done) ++ (line ++ more) ≡ bytes ++ piece
within bytes done rest piece line more e f = append_assoc bytes done (line ++ more) ∙ ap (λ l. bytes ++ l) (ap (λ l. done ++ l) (sym f) ∙ e)

module _ (before : List Exchange) (bytes done rest piece : List ℕ) (start : Option (List ℕ)) (d e : Seen) (q : done ++ rest ≡ piece) (s : Going before (bytes ++ done) start d) where
  pub added_within : (line more : List ℕ) → rest ≡ line ++ more → IsLine line → Adds d (s.rest ++ line) e → e.begun ≡ [] → (now : List ℕ) × (now ++ more ≡ piece) × Going before (bytes ++ now) start e
  added_within line more r l adds b = (
    done ++ line,
    append_assoc done line more ∙ ap (λ l. done ++ l) (sym r) ∙ q,
    subst (λ (l : List ℕ). Going before l start e) (append_assoc bytes done line) (line_added before (bytes ++ done) start d e line s l adds b),
  )

  pub broken_within : (line more : List ℕ) → rest ≡ line ++ more → IsLine line → AddsFront d (s.rest ++ line) e → Broken before (bytes ++ piece) start e
  broken_within line more r l adds =
      subst (λ (b : List ℕ). Broken before b start e) (within bytes done rest piece line more q r) (line_broken before (bytes ++ done) start d e line more s l adds)

  pub rest_within : NoFeed rest → e.host ≡ d.host → e.begun ≡ cut (s.rest ++ rest) → Puts d.out [] e.out → e.out.waiting ≡ [] → Streams before (bytes ++ piece) start e
  rest_within n h b p w =
      subst (λ (b : List ℕ). Streams before b start e) (append_assoc bytes done rest ∙ ap (λ l. bytes ++ l) q) (rest_added before (bytes ++ done) start d e rest s n h b p w)

  pub rest_breaks : e.host ≡ d.host → Fails d.out [] e.out → Broken before (bytes ++ piece) start e
  rest_breaks h p =
      subst (λ (b : List ℕ). Broken before b start e) (append_assoc bytes done rest ∙ ap (λ l. bytes ++ l) q) (rest_broken before (bytes ++ done) start d e rest s h p)
