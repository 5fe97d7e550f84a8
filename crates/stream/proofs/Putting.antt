-- Bytes that are put behind what waits, one after another.
use Rattle.std.proofs.Common.{◌≡◌, ℕ, ◌+◌, ◌-◌, ◌≤◌, List, [], ◌++◌, length, take, drop, Option, refl, ap, sym, ◌∙◌, subst, append_assoc, append-nil, take-add, length-append, length-take, arith}
use Rattle.std.specs.Io.KnownBytes.{Appends}
use Rattle.std.proofs.KnownBytes.{Appends-nil, Appends-trans, Appends-kept}
use Rattle.std.proofs.lemmas.List.{take-append-drop, take_all}
use Rattle.few.specs.declared.Few.{Few}
use Rattle.few.specs.Contents.{contents}
use Rattle.lines.specs.declared.text.Text.{Text}
use Rattle.lines.specs.Texts.{text_of}
use Rattle.stream.specs.Outputs.{Out, Puts, AppendsFront, Fails, Stops}

-- ── fronts ──

pub front_more : (a b : Option (List ℕ)) (xs ys : List ℕ) → AppendsFront a b xs → AppendsFront a b (xs ++ ys)
front_more a b xs ys f = (f.0, f.1 ++ ys, sym (append_assoc f.0 f.1 ys) ∙ ap (λ l. l ++ ys) f.2, f.3)

pub front_after : (a b c : Option (List ℕ)) (xs ys : List ℕ) → Appends a b xs → AppendsFront b c ys → AppendsFront a c (xs ++ ys)
front_after a b c xs ys h f = (xs ++ f.0, f.1, append_assoc xs f.0 f.1 ∙ ap (λ l. xs ++ l) f.2, Appends-trans a b c xs f.0 h f.3)

-- ── one write after another ──

pub more_sent : (a b c : Option (List ℕ)) (all now : List ℕ) (s n : ℕ) → Appends a b (take s all) → now ≡ all → Appends b c (take n (drop s now)) → Appends a c (take (s + n) all)
more_sent a b c all now s n h e k =
    subst (λ (l : List ℕ). Appends a c l) (sym (take-add s n all))
    (Appends-trans a b c (take s all) (take n (drop s all)) h (subst (λ (l : List ℕ). Appends b c (take n (drop s l))) e k))

pub all_sent : (old new : Out) (s : ℕ) → Appends old.held new.held (take s old.waiting) → length old.waiting ≤ s → new.waiting ≡ [] → new.failed ≡ old.failed → Puts old [] new
all_sent old new s h le e f = record {
  gone = old.waiting;
  split = ap (λ l. old.waiting ++ l) (sym e);
  written = subst (λ (l : List ℕ). Appends old.held new.held l) (take_all s old.waiting le) h;
  able = f;
}

pub stops_after : (old mid new : Out) (s : ℕ) → Appends old.held mid.held (take s old.waiting) → Stops mid new → Fails old [] new
stops_after old mid new s h k = record {
  front = front_more old.held new.held old.waiting [] (take s old.waiting, drop s old.waiting, take-append-drop s old.waiting, Appends-kept old.held mid.held new.held (take s old.waiting) h k.kept);
  dropped = k.dropped;
  failed = k.failed;
}

-- ── what is put ──

pub puts_nothing : (o : Out) → Puts o [] o
puts_nothing o = record {
  gone = [];
  split = append-nil o.waiting;
  written = Appends-nil o.held;
  able = refl;
}

pub puts_more : (old mid new : Out) (xs ys : List ℕ) → Puts old xs mid → Puts mid ys new → Puts old (xs ++ ys) new
puts_more old mid new xs ys p q = record {
  gone = p.gone ++ q.gone;
  split =
      sym (append_assoc old.waiting xs ys) ∙ ap (λ l. l ++ ys) p.split ∙ append_assoc p.gone mid.waiting ys
      ∙ ap (λ l. p.gone ++ l) q.split ∙ sym (append_assoc p.gone q.gone new.waiting);
  written = Appends-trans old.held mid.held new.held p.gone q.gone p.written q.written;
  able = q.able ∙ p.able;
}

-- bytes that wait behind what waited
pub puts_waiting : (old new : Out) (bytes : List ℕ) → new.held ≡ old.held → new.waiting ≡ old.waiting ++ bytes → new.failed ≡ old.failed → Puts old bytes new
puts_waiting old new bytes h w f = record {
  gone = [];
  split = sym w;
  written = subst (λ (o : Option (List ℕ)). Appends old.held o []) (sym h) (Appends-nil old.held);
  able = f;
}

-- ── a text in a buffer of so many places ──

pub text_short : (t : Text) → length (text_of t) ≤ 170
text_short t = omega (arith, length-take 170 (take t.bytes.count t.bytes.items))

pub fits_empty : (waiting bytes text : List ℕ) → waiting ≡ [] → bytes ≡ text → length text ≤ 170 → length waiting + length bytes ≤ 65_536
fits_empty waiting bytes text e f h = omega (arith, ap length e, ap length f)

pub fits_room : (waiting : Few ℕ 65_536) (bytes : List ℕ) (room : ℕ) → room ≡ 65_536 - length (contents waiting) → length bytes ≤ room → length (contents waiting) + length bytes ≤ 65_536
fits_room waiting bytes room e h = omega (arith, length-take 65_536 (take waiting.count waiting.items))

pub puts_text : (old mid new : Out) (size : ℕ) (bytes text : List ℕ) → Puts old [] mid → length mid.waiting + length bytes ≤ size → bytes ≡ text
    → new.held ≡ mid.held → new.waiting ≡ take size (mid.waiting ++ bytes) → new.failed ≡ mid.failed → Puts old text new
puts_text old mid new size bytes text p le e h w f =
    let fits : length (mid.waiting ++ bytes) ≤ size = omega (arith, length-append mid.waiting bytes) in
    let all : new.waiting ≡ mid.waiting ++ text = w ∙ take_all size (mid.waiting ++ bytes) fits ∙ ap (λ l. mid.waiting ++ l) e in
    puts_more old mid new [] text p (puts_waiting mid new text h all f)

pub puts_fail : (old mid new : Out) (xs ys : List ℕ) → Puts old xs mid → Fails mid ys new → Fails old (xs ++ ys) new
puts_fail old mid new xs ys p q =
    let split = sym (append_assoc p.gone mid.waiting ys) ∙ ap (λ l. l ++ ys) (sym p.split) ∙ append_assoc old.waiting xs ys in
    record {
      front = subst (λ (l : List ℕ). AppendsFront old.held new.held l) split (front_after old.held mid.held new.held p.gone (mid.waiting ++ ys) p.written q.front);
      dropped = q.dropped;
      failed = q.failed;
    }

pub puts_stop : (old mid new : Out) (bytes : List ℕ) → Puts old bytes mid → Stops mid new → Fails old bytes new
puts_stop old mid new bytes p k = record {
  front = (p.gone, mid.waiting, sym p.split, Appends-kept old.held mid.held new.held p.gone p.written k.kept);
  dropped = k.dropped;
  failed = k.failed;
}

pub fails_more : (old new : Out) (xs ys : List ℕ) → Fails old xs new → Fails old (xs ++ ys) new
fails_more old new xs ys f = record {
  front = subst (λ (l : List ℕ). AppendsFront old.held new.held l) (append_assoc old.waiting xs ys) (front_more old.held new.held (old.waiting ++ xs) ys f.front);
  dropped = f.dropped;
  failed = f.failed;
}
