-- A text is the filled line of one kind, list of numbers, reply and result alone, and the statement line of one list of
-- numbers alone.
use Rattle.std.proofs.Common.{◌≡◌, ℕ, zero, suc, List, [], ◌∷◌, ◌++◌, length, Some, Option, decimal, sym, refl, ap, ◌∙◌, subst, append_assoc, append-nil, arith}
use Rattle.std.specs.Str.Parse.{digits_value}
use Rattle.std.proofs.lemmas.List.{same_from_push}
use Rattle.std.proofs.lemmas.Fmt.{digits_value-decimal}
use Rattle.lines.specs.Kinds.{arity, filled_kinds, Short}
use Rattle.lines.specs.Lines.{fields_text, FilledLine, StatementText}
use Rattle.lines.specs.Grammar.{Piece, byte, num, Delim, Writes, Wide, shape, feed, answer, ten_numbers, Lines, AllDigits, Ends}
use Rattle.lines.proofs.Steps.{own, short_fits, decimal_digits, not_digit_10, not_digit_32, answer_delim}
use Rattle.lines.proofs.Tables.{filled_table}
use Rattle.lines.proofs.Tops.{writes_to, filled_to}

-- digits before what is no digit
same_digits : (a b u v : List ℕ) → a ++ u ≡ b ++ v → AllDigits a → Ends u → AllDigits b → Ends v → (a ≡ b) × (u ≡ v)
same_digits [] [] u v e da eu db ev = (refl, e)
same_digits [] (y ∷ b) u v e da eu db ev = absurd ((rw e at eu) db.0)
same_digits (x ∷ a) [] u v e da eu db ev = absurd ((rw (sym e) at ev) da.0)
same_digits (x ∷ a) (y ∷ b) u v e da eu db ev =
    let hd : x ≡ y = cc e in
    let tl : a ++ u ≡ b ++ v = cc e in
    let p = same_digits a b u v tl da.1 eu db.1 ev in
    (cc (hd, p.0), p.1)

same_decimal : (d n m : ℕ) → Wide d → Short d n → Short d m → decimal n ≡ decimal m → n ≡ m
same_decimal d n m w s t e = sym (digits_value-decimal own n (short_fits d n w s)) ∙ ap (digits_value 10) e ∙ digits_value-decimal own m (short_fits d m w t)

same_number : (d n m : ℕ) (u v : List ℕ) → Wide d → Short d n → Short d m → Ends u → Ends v → decimal n ++ u ≡ decimal m ++ v → (n ≡ m) × (u ≡ v)
same_number d n m u v w s t eu ev e =
    let p = same_digits (decimal n) (decimal m) u v e (decimal_digits d n w s) eu (decimal_digits d m w t) ev in
    (same_decimal d n m w s t p.0, p.1)

ends : (ps : List Piece) (ms w : List ℕ) → Delim ps → Writes ps ms w → Ends w
ends [] ms w d h = rw h.1 tt
ends (byte b ∷ ps) ms w d h = rw h.1 d
ends (num e ∷ ps) ms w d h = absurd d

-- no digit follows a number
abbrev Apart : List Piece → Type 0
Apart [] = Unit {0}
Apart (byte b ∷ ps) = Apart ps
Apart (num d ∷ ps) = Wide d × Delim ps × Apart ps

once : (ps : List Piece) (ns ms w : List ℕ) → Apart ps → Writes ps ns w → Writes ps ms w → ns ≡ ms
once [] ns ms w a g h = g.0 ∙ sym h.0
once (byte b ∷ ps) ns ms w a g h =
    let e : ◌≡◌ {A = List ℕ} (b ∷ g.0) (b ∷ h.0) = sym g.1 ∙ h.1 in
    let t : g.0 ≡ h.0 = cc e in
    once ps ns ms g.0 a g.2 (subst (λ v. Writes ps ms v) (sym t) h.2)
once (num d ∷ ps) ns ms w a g h =
    let p = same_number d g.0 h.0 g.2 h.2 a.0 g.4 h.4 (ends ps g.1 g.2 a.1 g.6) (ends ps h.1 h.2 a.1 h.6) (sym g.5 ∙ h.5) in
    let r = once ps g.1 h.1 g.2 a.2 g.6 (subst (λ v. Writes ps h.1 v) (sym p.1) h.6) in
    g.3 ∙ ap (λ n. n ∷ g.1) p.0 ∙ ap (λ l. h.0 ∷ l) r ∙ sym h.3

eight : Wide 8
eight = (omega arith, omega arith)

sixteen : Wide 16
sixteen = (omega arith, omega arith)

apart_answer : Apart answer
apart_answer = (eight, not_digit_32 (num 8 ∷ byte 10 ∷ []), (eight, not_digit_10, tt))

apart_shape : (d n : ℕ) (t : List Piece) → Wide d → Delim t → Apart t → Delim (shape d n t) × Apart (shape d n t)
apart_shape d zero t w a b = (a, b)
apart_shape d (suc n) t w a b = let r = apart_shape d n t w a b in (not_digit_32 (num d ∷ shape d n t), (w, r.0, r.1))

-- ── filled lines ──

kind_short : (k n : ℕ) → arity filled_kinds k ≡ Some n → Short 8 k
kind_short k n e = let b = filled_table.two_digits k n e in omega (arith, b.1)

same_arity : (k j m n : ℕ) → k ≡ j → arity filled_kinds k ≡ Some m → arity filled_kinds j ≡ Some n → m ≡ n
same_arity k j m n e p q = let s : ◌≡◌ {A = Option ℕ} (Some m) (Some n) = sym p ∙ ap (arity filled_kinds) e ∙ q in cc s

fields_apart : (n : ℕ) → Delim (shape 8 n answer) × Apart (shape 8 n answer)
fields_apart n = apart_shape 8 n answer eight answer_delim apart_answer

lines_once : (ns ms w : List ℕ) → Lines filled_kinds answer ns w → Lines filled_kinds answer ms w → ns ≡ ms
lines_once ns ms w g h =
    let p = same_number 8 g.0 h.0 g.3 h.3 eight (kind_short g.0 g.1 g.5) (kind_short h.0 h.1 h.5) (ends (shape 8 g.1 answer) g.2 g.3 (fields_apart g.1).0 g.7) (ends (shape 8 h.1 answer) h.2 h.3 (fields_apart h.1).0 h.7) (sym g.6 ∙ h.6) in
    let n = same_arity g.0 h.0 g.1 h.1 p.0 g.5 h.5 in
    let here : Writes (shape 8 g.1 answer) h.2 g.3 = rw (n, p.1) h.7 in
    let r = once (shape 8 g.1 answer) g.2 h.2 g.3 (fields_apart g.1).1 g.7 here in
    g.4 ∙ ap (λ k. k ∷ g.2) p.0 ∙ ap (λ l. h.0 ∷ l) r ∙ sym h.4

same_two : (xs ys : List ℕ) (a b c d : ℕ) → xs ++ (a ∷ b ∷ []) ≡ ys ++ (c ∷ d ∷ []) → (xs ≡ ys) × (a ≡ c) × (b ≡ d)
same_two xs ys a b c d e =
    let p = same_from_push (xs ++ (a ∷ [])) (ys ++ (c ∷ [])) b d (append_assoc xs (a ∷ []) (b ∷ []) ∙ e ∙ sym (append_assoc ys (c ∷ []) (d ∷ []))) in
    let q = same_from_push xs ys a c p.0 in
    (q.0, q.1, p.1)

pub filled_once : (k j : ℕ) (ns ms : List ℕ) (a b c d : ℕ) (w : List ℕ) → FilledLine k ns a b w → FilledLine j ms c d w → (k ≡ j) × (ns ≡ ms) × (a ≡ c) × (b ≡ d)
filled_once k j ns ms a b c d w g h =
    let e = lines_once (k ∷ (ns ++ (a ∷ b ∷ []))) (j ∷ (ms ++ (c ∷ d ∷ []))) w (filled_to k ns a b w g) (filled_to j ms c d w h) in
    let hd : k ≡ j = cc e in
    let tl : ns ++ (a ∷ b ∷ []) ≡ ms ++ (c ∷ d ∷ []) = cc e in
    let p = same_two ns ms a b c d tl in
    (hd, p.0, p.1, p.2)

-- ── statement lines ──

statement_to : (ns w : List ℕ) → StatementText ns w → Writes ten_numbers ns w
statement_to [] w h = absurd (omega (arith, h.ten))
statement_to (n ∷ ns) w h =
    let nine : length ns ≡ 9 = omega (arith, h.ten) in
    let v = fields_text ns ++ (10 ∷ []) in
    let tail : Writes (shape 16 9 feed) ns v = subst (λ m. Writes (shape 16 m feed) ns v) nine (subst (λ l. Writes (shape 16 (length ns) feed) l v) (append-nil ns) (writes_to 16 ns [] feed (10 ∷ []) h.short.1 ([], refl, (refl, refl)))) in
    (n, ns, v, refl, h.short.0, h.is, tail)

pub statement_once : (ns ms w : List ℕ) → StatementText ns w → StatementText ms w → ns ≡ ms
statement_once ns ms w g h =
    let r = apart_shape 16 9 feed sixteen not_digit_10 tt in
    once ten_numbers ns ms w (sixteen, r.0, r.1) (statement_to ns w g) (statement_to ms w h)
