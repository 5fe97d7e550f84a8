-- The steps of a scan.
use Rattle.std.proofs.Common.{◌≡◌, ℕ, zero, suc, ◌+◌, ◌^◌, ◌<◌, ◌≤◌, true, false, eqb, ltb, ◌⊎◌, List, [], ◌∷◌, ◌++◌, map, length, get_or, take, drop, Some, None, decimal, Option, sym, refl, ap, ◌∙◌, subst, inl, inr, ⊎_elim, append_assoc, append-nil, arith, rules, tests}
use native.Mathlib.Nat.{pow-le-pow_right}
use Rattle.std.specs.Str.Parse.{digits_value, AllDigits as Digits}
use Rattle.std.specs.Int.{IsInRange}
use Rattle.std.specs.Char.{digit_value, is_ascii_digit}
use Rattle.std.specs.List.{flat_map, prefix_len}
use Rattle.std.proofs.ByRecursion.{All-push}
use Rattle.std.proofs.lemmas.List.Sums.{prefix_len-le-length, prefix_len_passes, prefix_len_stops}
use Rattle.std.proofs.lemmas.List.{length-append, length-take, length-take-le, take-append-drop, get_or-take, drop_all, drop_more, flat_map_more, map_push}
use Rattle.std.proofs.lemmas.Bool.{cond_both, cond-true, cond-false, le-ltb, lt-ltb, eqb-true, eq-eqb, cases_eq, cases_lt}
use Rattle.std.proofs.lemmas.Str.Parse.{IsNumeralModel, numerals_by_value, tells_by_index, digits_value_short, digit_at}
use Rattle.std.proofs.lemmas.Fmt.{digits_decimal, digits_value-decimal, decimal-digits_value, decimal_digit, decimal_nonempty, first_decimal, length-decimal-le}
use Rattle.lines.specs.declared.kinds.Row.{Row}
use Rattle.lines.specs.Kinds.{Short, IsNumber}
use Rattle.lines.specs.Grammar.{Piece, byte, num, Writes, Wide, shape, first, AllDigits, Ends, Delim, room, Run, Reached, Stuck, NumberRead, FieldsRead, blanked, Lines, KindRead, StartRead, Done, answer}

-- digits, in the words of the library
pub own : IsNumeralModel AllDigits (digits_value 10)
own = numerals_by_value AllDigits (search rules)

first_after : (front w rest : List ℕ) → first w ≡ first rest → first (front ++ w) ≡ first (front ++ rest)
first_after [] w rest e = e
first_after (x ∷ xs) w rest e = refl

pub reached_more : (G H K : List ℕ → List ℕ → Type 0) (f₁ n₁ f₂ n₂ rest : List ℕ) → Reached G H f₁ n₁ (f₂ ++ rest) → Reached H K f₂ n₂ rest → Reached G K (f₁ ++ f₂) (n₁ ++ n₂) rest
reached_more G H K f₁ n₁ f₂ n₂ rest a b = record {
  to = λ ms w h. rw (append_assoc n₁ n₂ ms, append_assoc f₁ f₂ w) (a.to (n₂ ++ ms) (f₂ ++ w) (b.to ms w h));
  from = λ ms w e h.
      let p = a.from ms (f₂ ++ w) (first_after f₂ w rest e) (rw (append_assoc f₁ f₂ w) at h) in
      let q = b.from p.0 w e p.2 in
      (q.0, p.1 ∙ ap (λ l. n₁ ++ l) q.1 ∙ sym (append_assoc n₁ n₂ q.0), q.2);
}

pub stuck_after : (G H : List ℕ → List ℕ → Type 0) (f₁ n₁ rest : List ℕ) (left : ℕ) → Reached G H f₁ n₁ rest → Stuck H rest left → Stuck G (f₁ ++ rest) left
stuck_after G H f₁ n₁ rest left a b = record {
  front = f₁ ++ b.front;
  rest = b.rest;
  split = ap (λ l. f₁ ++ l) b.split ∙ sym (append_assoc f₁ b.front b.rest);
  count = b.count;
  begins = (b.begins.0, n₁ ++ b.begins.1, rw (append_assoc f₁ b.front b.begins.0) (a.to b.begins.1 (b.front ++ b.begins.0) b.begins.2));
  stops = λ ms r e h.
      let p = a.from ms (b.front ++ r) (first_after b.front r b.rest e ∙ ap first (sym b.split)) (rw (append_assoc f₁ b.front r) at h) in
      b.stops p.0 r e p.2;
}

ten_some : (d : ℕ) → 0 < 10 ^ d
ten_some d = omega (arith, pow-le-pow_right {n = 10} (omega arith) {i = 0} {j = d} (omega arith))

-- numbers of the widths in use have 64 bits
pub short_fits : (d n : ℕ) → Wide d → Short d n → n < 2 ^ 64
short_fits d n w s = omega (arith, pow-le-pow_right {n = 10} (omega arith) {i = d} {j = 16} w.1)

-- every position has a completion
pub completes : (ps : List Piece) → (r : List ℕ) × (ms : List ℕ) × Writes ps ms r
completes [] = ([], [], (refl, refl))
completes (byte b ∷ ps) = let p = completes ps in (b ∷ p.0, p.1, (p.0, refl, p.2))
completes (num d ∷ ps) = let p = completes ps in (decimal 0 ++ p.0, 0 ∷ p.1, (0, p.1, p.0, refl, ten_some d, refl, p.2))

pub reached_byte : (b : ℕ) (ps : List Piece) (rest : List ℕ) → Reached (Writes (byte b ∷ ps)) (Writes ps) (b ∷ []) [] rest
reached_byte b ps rest = record {
  to = λ ms w h. (w, refl, h);
  from = λ ms w e h. (ms, refl, (let same : h.0 ≡ w = cc h.1 in rw same at h.2));
}

pub stuck_byte : (b : ℕ) (ps : List Piece) (xs : List ℕ) → (first xs ≡ Some b → ⊥) → Stuck (Writes (byte b ∷ ps)) xs (length xs)
stuck_byte b ps xs other = record {
  front = [];
  rest = xs;
  split = refl;
  count = refl;
  begins = completes (byte b ∷ ps);
  stops = λ ms r e h. other (sym e ∙ ap first h.1);
}

pub stuck_end : (xs : List ℕ) → 0 < length xs → Stuck (Writes []) xs (length xs)
stuck_end [] l = absurd (omega arith)
stuck_end (x ∷ xs) l = record {
  front = [];
  rest = x ∷ xs;
  split = refl;
  count = refl;
  begins = completes [];
  stops = λ ms r e h. let z : ◌≡◌ {A = Option ℕ} None (Some x) = sym (ap first h.1) ∙ e in let y : ◌≡◌ {A = ℕ} 0 1 = cc z in omega arith;
}

writes_ends : (ps : List Piece) (ms w : List ℕ) → Delim ps → Writes ps ms w → Ends w
writes_ends [] ms w d h = rw h.1 tt
writes_ends (byte b ∷ ps) ms w d h = rw h.1 d
writes_ends (num e ∷ ps) ms w d h = absurd d

pub decimal_digits : (d n : ℕ) → Wide d → Short d n → AllDigits (decimal n)
decimal_digits d n w s = digits_decimal own n (short_fits d n w s)

-- two numbers that begin the same text are the same
same_front : (k : ℕ) (a b u v : List ℕ) → a ++ u ≡ b ++ v → AllDigits a → length a ≤ k → Ends u → AllDigits b → (length b ≡ k) ⊎ Ends v → (a ≡ b) × (u ≡ v)
same_front k [] [] u v e da la eu db st = (refl, e)
same_front k [] (y ∷ b) u v e da la eu db st = absurd ((rw e at eu) db.0)
same_front k (x ∷ a) [] u v e da la eu db st = ⊎_elim (λ z. absurd (omega arith)) (λ ev. absurd ((rw (sym e) at ev) da.0)) st
same_front zero (x ∷ a) (y ∷ b) u v e da la eu db st = absurd (omega arith)
same_front (suc k) (x ∷ a) (y ∷ b) u v e da la eu db st =
    let hd : x ≡ y = cc e in
    let tl : a ++ u ≡ b ++ v = cc e in
    let p = same_front k a b u v tl da.1 (omega arith) eu db.1 (⊎_elim (λ z. inl (omega arith)) inr st) in
    (cc (hd, p.0), p.1)

room_wide : (d : ℕ) (ds v : List ℕ) → length ds ≤ d → 0 < length ds → (get_or ds 0 0 ≡ 48 → length ds ≡ 1) → length ds ≤ room d (ds ++ v)
room_wide d [] v a b c = absurd (omega arith)
room_wide d (x ∷ xs) v a b c = cond_both (eqb x 48) 1 d (λ m. length (x ∷ xs) ≤ m) (λ e. omega (arith, c (eqb-true x 48 e))) (λ e. a)

pub room_most : (d : ℕ) (xs : List ℕ) → 0 < d → room d xs ≤ d
room_most d [] l = omega arith
room_most d (x ∷ xs) l = cond_both (eqb x 48) 1 d (λ m. m ≤ d) (λ e. omega arith) (λ e. omega arith)

room_zero : (d : ℕ) (ds v : List ℕ) → 0 < length ds → get_or ds 0 0 ≡ 48 → room d (ds ++ v) ≡ 1
room_zero d [] v l z = absurd (omega arith)
room_zero d (x ∷ xs) v l z = cond-true (eqb x 48) 1 d (eq-eqb x 48 z)

room_front : (d : ℕ) (ds v w : List ℕ) → 0 < length ds → room d (ds ++ v) ≡ room d (ds ++ w)
room_front d [] v w l = absurd (omega arith)
room_front d (x ∷ xs) v w l = refl

one_digit : (n : ℕ) → n < 2 ^ 64 → get_or (decimal n) 0 0 ≡ 48 → length (decimal n) ≡ 1
one_digit n s z =
    ⊎_elim (λ e. rw (e, decimal_digit 0 (omega arith)) refl) (λ ne. absurd (omega (arith, first_decimal n (omega arith) s))) (cases_eq n 0)

-- a number has at most d digits, and one that begins with 0 has one
decimal_room : (d n : ℕ) (v : List ℕ) → Wide d → Short d n → length (decimal n) ≤ room d (decimal n ++ v)
decimal_room d n v w s =
    let f = short_fits d n w s in
    room_wide d (decimal n) v (length-decimal-le d n w.0 s f) (decimal_nonempty n f) (one_digit n f)

some_digit : (n : ℕ) → n < 2 ^ 64 → (x : ℕ) × (xs : List ℕ) × (decimal n ≡ x ∷ xs)
some_digit n s = go (decimal n) (decimal_nonempty n s)
  where
    go : (ds : List ℕ) → 0 < length ds → (x : ℕ) × (xs : List ℕ) × (ds ≡ x ∷ xs)
    go [] l = absurd (omega arith)
    go (x ∷ xs) l = (x, xs, refl)

ends_first : (xs : List ℕ) (x : ℕ) → Ends xs → first xs ≡ Some x → IsInRange 48 57 x → ⊥
ends_first [] x nd e d = let z : ◌≡◌ {A = ℕ} 0 1 = cc e in omega arith
ends_first (y ∷ xs) x nd e d = let z : x ≡ y = cc e in nd (rw z at d)

ends_same : (v w : List ℕ) → first w ≡ first v → Ends v → Ends w
ends_same v [] e nd = tt
ends_same v (x ∷ w) e nd = ends_first v x nd (sym e)

-- a run that is no number
pub stuck_num : (d : ℕ) (ps : List Piece) (xs : List ℕ) → Wide d → Ends xs → Stuck (Writes (num d ∷ ps)) xs (length xs)
stuck_num d ps xs w nd = record {
  front = [];
  rest = xs;
  split = refl;
  count = refl;
  begins = completes (num d ∷ ps);
  stops = λ ms r e h.
      let p = some_digit h.0 (short_fits d h.0 w h.4) in
      ends_first xs p.0 nd (sym e ∙ ap first h.5 ∙ ap (λ l. first (l ++ h.2)) p.2) (rw p.2 at (decimal_digits d h.0 w h.4)).0;
}

-- digits of a run are the writing of their value
pub run_value : (d : ℕ) (ds rest : List ℕ) → Wide d → 0 < length ds → Run d (ds ++ rest) ds rest → IsNumber d ds
run_value d ds rest w some run =
    let short : length ds ≤ d = omega (arith, run.fits, room_most d (ds ++ rest) w.0) in
    let small = digits_value_short own ds d run.digits short in
    (small, decimal-digits_value own ds run.digits some (λ z. omega (arith, run.fits, room_zero d ds rest some z)) (short_fits d (digits_value 10 ds) w small))

-- the number that a run is read as
pub reached_num : (d : ℕ) (ps : List Piece) (ds rest : List ℕ) → Wide d → Delim ps → 0 < length ds → Run d (ds ++ rest) ds rest → Reached (Writes (num d ∷ ps)) (Writes ps) ds (digits_value 10 ds ∷ []) rest
reached_num d ps ds rest wd dl some run = record {
  to = λ ms w h. let v = run_value d ds rest wd some run in (digits_value 10 ds, ms, w, refl, v.0, ap (λ l. l ++ w) (sym v.1), h);
  from = λ ms w e h.
      let same = same_front (room d (ds ++ w)) (decimal h.0) ds h.2 w (sym h.5) (decimal_digits d h.0 wd h.4)
      (subst (λ l. length (decimal h.0) ≤ room d l) (sym h.5) (decimal_room d h.0 h.2 wd h.4))
      (writes_ends ps h.1 h.2 dl h.6) run.digits
      (⊎_elim (λ full. inl (full ∙ room_front d ds rest w some)) (λ nd. inr (ends_same rest w e nd)) run.stops) in
      let n : digits_value 10 ds ≡ h.0 = ap (digits_value 10) (sym same.0) ∙ digits_value-decimal own h.0 (short_fits d h.0 wd h.4) in
      (h.1, h.3 ∙ ap (λ x. x ∷ h.1) (sym n), subst (λ l. Writes ps h.1 l) same.1 h.6);
}

by_index : IsNumeralModel (λ ds. (i : ℕ) → i < length ds → IsInRange 48 57 (get_or ds i 0)) (digits_value 10)
by_index = numerals_by_value _ tells_by_index

-- what a loop over the digits finds
run_from : (d : ℕ) (s : List ℕ) (n : ℕ) → n ≤ room d s → n ≤ length s → ((k : ℕ) → k < n → IsInRange 48 57 (get_or s k 0)) → (n ≡ room d s) ⊎ (length s ≤ n) ⊎ (IsInRange 48 57 (get_or s n 0) → ⊥) → Run d s (take n s) (drop n s)
run_from d s n small within digits stop =
    let long = length-take-le n s within in
    record {
      split = sym (take-append-drop n s);
      digits = own.from (take n s) (by_index.to (take n s) (λ i l. rw (get_or-take n s i 0 (omega (arith, long))) (digits i (omega (arith, long)))));
      fits = omega (arith, long);
      stops = ⊎_elim (λ e. inl (long ∙ e)) (λ r. inr (⊎_elim (λ l. rw (drop_all n s l) tt) (λ nd. past nd (cases_lt n (length s))) r)) stop;
    }
  where
    past : (IsInRange 48 57 (get_or s n 0) → ⊥) → (n < length s) ⊎ (length s ≤ n) → Ends (drop n s)
    past nd (inl l) = rw (drop_more s n 0 l) nd
    past nd (inr l) = rw (drop_all n s l) tt

-- as many digits as stand at the front, and have room
pub run_front : (d : ℕ) (s : List ℕ) (n : ℕ) → n ≡ prefix_len is_ascii_digit (take (room d s) s) → Run d s (take n s) (drop n s)
run_front d s n e =
    let m = room d s in
    let long = length-take m s in
    let most = prefix_len-le-length is_ascii_digit (take m s) in
    run_from d s n (omega arith) (omega arith)
    (λ k h.
    let p : is_ascii_digit (get_or (take m s) k 0) ≡ true = prefix_len_passes is_ascii_digit (take m s) k 0 (omega arith) in
    let same = get_or-take m s k 0 (omega arith) in
    rw (sym same) (search (rules, tests, p)))
    (⊎_elim
    (λ l.
    let p : is_ascii_digit (get_or (take m s) n 0) ≡ false = rw e (prefix_len_stops is_ascii_digit (take m s) 0 (omega arith)) in
    let same = get_or-take m s n 0 (omega arith) in
    inr (inr (λ h. let d : IsInRange 48 57 (get_or (take m s) n 0) = rw same h in search (rules, tests))))
    (λ g. ⊎_elim (λ l. inr (inl (omega arith))) (λ l. inl (omega arith)) (cases_lt (length s) m))
    (cases_lt n (length (take m s))))

room_some : (d : ℕ) (xs : List ℕ) → 0 < d → 0 < room d xs
room_some d [] l = l
room_some d (x ∷ xs) l = cond_both (eqb x 48) 1 d (λ m. 0 < m) (λ e. omega arith) (λ e. l)

pub run_stuck : (d : ℕ) (xs ds rest : List ℕ) → Wide d → Run d xs ds rest → length ds ≡ 0 → (ps : List Piece) → Stuck (Writes (num d ∷ ps)) xs (length xs)
run_stuck d xs [] rest w run z ps = stuck_num d ps xs w (rw run.split (⊎_elim (λ full. absurd (omega (arith, room_some d xs w.0))) (λ nd. nd) run.stops))
run_stuck d xs (x ∷ ds) rest w run z ps = absurd (omega arith)

pub run_read : (d : ℕ) (xs ds rest : List ℕ) → Wide d → Run d xs ds rest → 0 < length ds → NumberRead d xs ds rest
run_read d xs ds rest w run some =
    let here : Run d (ds ++ rest) ds rest = subst (λ l. Run d l ds rest) run.split run in
    record {
      split = run.split;
      number = run_value d ds rest w some here;
      reached = λ ps dl. reached_num d ps ds rest w dl some here;
    }

-- a blank and a number are a field
pub field_read : (w : ℕ) (s xs ds rest : List ℕ) → s ≡ 32 ∷ xs → NumberRead w xs ds rest → FieldsRead w 1 0 s (ds ∷ []) rest
field_read w s xs ds rest e n = record {
  split = e ∙ ap (λ l. 32 ∷ l) n.split ∙ ap (λ l. 32 ∷ l ++ rest) (sym (append-nil ds));
  numbers = (n.number, tt);
  reached = λ t d.
      rw (append-nil ds)
      (reached_more _ _ _ (32 ∷ []) [] ds (digits_value 10 ds ∷ []) rest (reached_byte 32 (num w ∷ t) (ds ++ rest)) (n.reached t d));
}

pub field_stuck : (w : ℕ) (s xs : List ℕ) (left : ℕ) (ps : List Piece) → s ≡ 32 ∷ xs → Stuck (Writes (num w ∷ ps)) xs left → Stuck (Writes (byte 32 ∷ num w ∷ ps)) s left
field_stuck w s xs left ps e st = rw e (stuck_after _ _ (32 ∷ []) [] xs left (reached_byte 32 (num w ∷ ps) xs) st)

pub stuck_byte_at : (b : ℕ) (ps : List Piece) (xs : List ℕ) (left : ℕ) → left ≡ length xs → (first xs ≡ Some b → ⊥) → Stuck (Writes (byte b ∷ ps)) xs left
stuck_byte_at b ps xs left e other = rw e (stuck_byte b ps xs other)

delim_shape : (w m : ℕ) (t : List Piece) → Delim t → Delim (shape w m t)
delim_shape w zero t d = d
delim_shape w (suc m) t d = λ r. omega (arith, r.0)

-- one field more
pub fields_more : (w n m k : ℕ) (xs : List ℕ) (texts : List (List ℕ)) (mid ds rest : List ℕ) → k ≡ suc m → FieldsRead w n k xs texts mid → FieldsRead w 1 0 mid (ds ∷ []) rest → FieldsRead w n m xs (texts ++ (ds ∷ [])) rest
fields_more w n m k xs texts mid ds rest e a b =
    let j : flat_map blanked (texts ++ (ds ∷ [])) ≡ flat_map blanked texts ++ flat_map blanked (ds ∷ []) = sym (flat_map_more blanked [] texts ds) ∙ ap (λ l. flat_map blanked texts ++ (32 ∷ l)) (sym (append-nil ds)) in
    record {
      split = a.split ∙ ap (λ l. flat_map blanked texts ++ l) b.split ∙ sym (append_assoc (flat_map blanked texts) _ rest) ∙ ap (λ l. l ++ rest) (sym j);
      numbers = All-push (IsNumber w) texts ds a.numbers b.numbers.0;
      reached = λ t d.
          let here = subst (λ l. Reached (Writes (shape w n t)) (Writes (shape w k t)) (flat_map blanked texts) (map (digits_value 10) texts) l) b.split (a.reached t d) in
          rw (j, map_push (digits_value 10) texts ds)
          (reached_more _ (Writes (shape w (suc m) t)) _ _ _ _ _ rest (rw e at here) (b.reached (shape w m t) (delim_shape w m t d)));
    }

pub fields_stuck : (w n m k : ℕ) (xs : List ℕ) (texts : List (List ℕ)) (mid : List ℕ) (left : ℕ) → k ≡ suc m → FieldsRead w n k xs texts mid → ((ps : List Piece) → Delim ps → Stuck (Writes (shape w 1 ps)) mid left) → (ps : List Piece) → Delim ps → Stuck (Writes (shape w n ps)) xs left
fields_stuck w n m k xs texts mid left e a st ps d =
    rw a.split (stuck_after _ (Writes (shape w (suc m) ps)) _ _ mid left (rw e at (a.reached ps d)) (st (shape w m ps) (delim_shape w m ps d)))

pub stuck_after_byte : (b : ℕ) (ps : List Piece) (s xs : List ℕ) (left : ℕ) → s ≡ b ∷ xs → Stuck (Writes ps) xs left → Stuck (Writes (byte b ∷ ps)) s left
stuck_after_byte b ps s xs left e st = rw e (stuck_after _ _ (b ∷ []) [] xs left (reached_byte b ps xs) st)

pub done_after : (G H : List ℕ → List ℕ → Type 0) (front ns rest ks : List ℕ) → Reached G H front ns rest → Done H rest ks → Done G (front ++ rest) (ns ++ ks)
done_after G H front ns rest ks a b = record {
  is = a.to ks rest b.is;
  only = λ ms h. let p = a.from ms rest refl h in p.1 ∙ ap (λ l. ns ++ l) (b.only p.0 p.2);
}

pub done_after_byte : (b : ℕ) (ps : List Piece) (s xs ks : List ℕ) → s ≡ b ∷ xs → Done (Writes ps) xs ks → Done (Writes (byte b ∷ ps)) s ks
done_after_byte b ps s xs ks e d = rw e (done_after _ _ (b ∷ []) [] xs ks (reached_byte b ps xs) d)

pub stuck_end_at : (xs : List ℕ) (left : ℕ) → left ≡ length xs → (length xs ≡ 0 → ⊥) → Stuck (Writes []) xs left
stuck_end_at xs left e other = rw e (stuck_end xs (omega (arith, other)))

-- after the kind, its fields
pub start_read : (rows : List Row) (xs : List ℕ) (k n m : ℕ) (mid : List ℕ) (texts : List (List ℕ)) (rest : List ℕ) → m ≡ n → length texts ≡ n → KindRead rows xs k n mid → FieldsRead 8 m 0 mid texts rest → StartRead rows xs k texts rest
start_read rows xs k n m mid texts rest e long a b = record {
  known = a.known ∙ ap Some (sym long);
  numbers = b.numbers;
  split = a.split ∙ ap (λ l. decimal k ++ l) b.split ∙ sym (append_assoc (decimal k) (flat_map blanked texts) rest);
  reached = λ t d.
      let here = b.reached t d in
      reached_more _ (Writes (shape 8 n t)) _ (decimal k) (k ∷ []) (flat_map blanked texts) (map (digits_value 10) texts) rest (rw b.split at (a.reached t)) (rw e at here);
}

pub start_stuck : (rows : List Row) (xs : List ℕ) (k n m : ℕ) (mid : List ℕ) (left : ℕ) → m ≡ n → KindRead rows xs k n mid → ((ps : List Piece) → Delim ps → Stuck (Writes (shape 8 m ps)) mid left) → (t : List Piece) → Delim t → Stuck (Lines rows t) xs left
start_stuck rows xs k n m mid left e a st t d =
    let here = st t d in
    rw a.split (stuck_after _ (Writes (shape 8 n t)) (decimal k) (k ∷ []) mid left (a.reached t) (rw e at here))

pub done_after_field : (w : ℕ) (ps : List Piece) (s ds rest ks : List ℕ) → Delim ps → FieldsRead w 1 0 s (ds ∷ []) rest → Done (Writes ps) rest ks → Done (Writes (byte 32 ∷ num w ∷ ps)) s (digits_value 10 ds ∷ ks)
done_after_field w ps s ds rest ks d a b = rw a.split (done_after _ _ _ _ rest ks (a.reached ps d) b)

pub stuck_after_field : (w : ℕ) (ps : List Piece) (s ds rest : List ℕ) (left : ℕ) → Delim ps → FieldsRead w 1 0 s (ds ∷ []) rest → Stuck (Writes ps) rest left → Stuck (Writes (byte 32 ∷ num w ∷ ps)) s left
stuck_after_field w ps s ds rest left d a st = rw a.split (stuck_after _ _ _ _ rest left (a.reached ps d) st)

pub not_digit_10 : Delim (byte 10 ∷ [])
not_digit_10 r = omega (arith, r.0)

pub not_digit_32 : (ps : List Piece) → Delim (byte 32 ∷ ps)
not_digit_32 ps r = omega (arith, r.0)

pub stuck_fits : (G : List ℕ → List ℕ → Type 0) (s : List ℕ) (left : ℕ) → Stuck G s left → left ≤ length s
stuck_fits G s left st = omega (arith, st.count, ap length st.split ∙ length-append st.front st.rest)

pub answer_delim : Delim answer
answer_delim r = omega (arith, r.0)

-- the digits of a number
pub is_digits : (d : ℕ) (ds : List ℕ) → Wide d → IsNumber d ds → Digits 10 ds × (length ds ≤ d)
is_digits d ds w h =
    let P : List ℕ → Type 0 = λ l. Digits 10 l × (length l ≤ d) in
    let f = short_fits d (digits_value 10 ds) w h.0 in
    subst P h.1 (own.to (decimal (digits_value 10 ds)) (decimal_digits d (digits_value 10 ds) w h.0), length-decimal-le d (digits_value 10 ds) w.0 h.0 f)

pub digit_is : (b d : ℕ) → d < 10 → b ≡ 48 + d → digit_value b ≡ d
digit_is b d l e = cond-false (ltb b 48) _ _ (le-ltb b 48 (omega arith)) ∙ cond-true (ltb b 58) _ _ (lt-ltb b 58 (omega arith)) ∙ (omega arith)

pub eight : Wide 8
eight = (omega arith, omega arith)

pub sixteen : Wide 16
sixteen = (omega arith, omega arith)

pub digit_in : (d : ℕ) (ds : List ℕ) (i : ℕ) → Wide d → IsNumber d ds → i < length ds → IsInRange 48 57 (get_or ds i 0)
digit_in d ds i w h l = digit_at ds i (is_digits d ds w h).0 l

-- the first m digits at most
pub short_before : (m : ℕ) (ds : List ℕ) (i : ℕ) → ((k : ℕ) → k < i → IsInRange 48 57 (get_or ds k 0)) → i ≤ length ds → i ≤ m → digits_value 10 (take i ds) < 10 ^ m
short_before m ds i digits within most =
    let n = length-take-le i ds within in
    digits_value_short by_index (take i ds) m (λ k l. rw (get_or-take i ds k 0 (omega (arith, n))) (digits k (omega (arith, n)))) (omega (arith, n))

-- a text is a number where its digits are at most as many as the first allows
pub number_from : (d : ℕ) (ds : List ℕ) → Wide d → 0 < length ds → length ds ≤ room d ds → ((i : ℕ) → i < length ds → IsInRange 48 57 (get_or ds i 0)) → IsNumber d ds
number_from d ds w some fits digits =
    let run : Run d ds ds [] = record { split = sym (append-nil ds); digits = own.from ds (by_index.to ds digits); fits = fits; stops = inr tt } in
    (run_read d ds ds [] w run some).number

-- and only there
pub number_to : (d : ℕ) (ds : List ℕ) → Wide d → IsNumber d ds → (0 < length ds) × (length ds ≤ room d ds)
number_to d ds w h =
    let P : List ℕ → Type 0 = λ l. (0 < length l) × (length l ≤ room d l) in
    let n = digits_value 10 ds in
    subst P h.1 (decimal_nonempty n (short_fits d n w h.0), rw (append-nil (decimal n)) at (decimal_room d n [] w h.0))
