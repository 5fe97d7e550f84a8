-- How long lines are.
use Rattle.std.proofs.Common.{ℕ, ◌*◌, ◌≤◌, List, [], ◌∷◌, ◌++◌, length, take, decimal, ap, arith}
use Rattle.std.specs.List.{AllByRecursion}
use Rattle.std.proofs.lemmas.List.{length-append, length-take-le}
use Rattle.std.proofs.lemmas.Fmt.{length-decimal-le}
use Rattle.lines.specs.Kinds.{Short}
use Rattle.lines.specs.Lines.{fields_text, answer_text, InputLine, FilledLine, IsInput, IsFilled, LongestStart}
use Rattle.lines.specs.Grammar.{Wide}
use Rattle.lines.proofs.Steps.{short_fits}
use Rattle.lines.proofs.Tables.{input_table, filled_table}

pub len_number : (d n : ℕ) → Wide d → Short d n → length (decimal n) ≤ d
len_number d n w s = length-decimal-le d n w.0 s (short_fits d n w s)

len_fields_8 : (ns : List ℕ) → AllByRecursion (Short 8) ns → length (fields_text ns) ≤ 9 * length ns
len_fields_8 [] h = omega arith
len_fields_8 (n ∷ ns) h =
    let a = length-append (decimal n) (fields_text ns) in
    let b = len_number 8 n (omega arith, omega arith) h.0 in
    let e = len_fields_8 ns h.1 in
    omega arith

pub input_length : (k : ℕ) (ns w : List ℕ) → InputLine k ns w → length w ≤ 66
input_length k ns w h =
    let t = input_table.two_digits k (length ns) h.known in
    let d = len_number 2 k (omega arith, omega arith) t.1 in
    let f = len_fields_8 ns h.short in
    let e = ap length h.is in
    let a = length-append (decimal k) (fields_text ns ++ (10 ∷ [])) in
    let b = length-append (fields_text ns) (10 ∷ []) in
    omega (arith, t.2)

answer_length : (a b : ℕ) → Short 8 a → Short 8 b → length (answer_text a b) ≤ 21
answer_length a b ha hb =
    let p = len_number 8 a (omega arith, omega arith) ha in
    let q = len_number 8 b (omega arith, omega arith) hb in
    let x = length-append (decimal a) (32 ∷ (decimal b ++ (10 ∷ []))) in
    let y = length-append (decimal b) (10 ∷ []) in
    omega arith

pub filled_length : (k : ℕ) (ns : List ℕ) (a b : ℕ) (w : List ℕ) → FilledLine k ns a b w → length w ≤ 86
filled_length k ns a b w h =
    let t = filled_table.two_digits k (length ns) h.known in
    let d = len_number 2 k (omega arith, omega arith) t.1 in
    let f = len_fields_8 ns h.short in
    let g = answer_length a b h.reply_short h.result_short in
    let e = ap length h.is in
    let x = length-append (decimal k) (fields_text ns ++ answer_text a b) in
    let y = length-append (fields_text ns) (answer_text a b) in
    omega (arith, t.2)

-- a start that begins a line is no longer than a line can be
pub start_length : (L : List ℕ → Type 0) (most : ℕ) (s : List ℕ) (n : ℕ) → ((w : List ℕ) → L w → length w ≤ most) → LongestStart L s n → n ≤ most
start_length L most s n long h =
    let a = long _ h.begins.1 in
    let b = length-append (take n s) h.begins.0 in
    let l = length-take-le n s h.within in
    omega arith

pub input_start : (s : List ℕ) (n : ℕ) → LongestStart IsInput s n → n ≤ 66
input_start s n h = start_length IsInput 66 s n (λ w l. input_length l.0 l.1 w l.2) h

pub filled_start : (s : List ℕ) (n : ℕ) → LongestStart IsFilled s n → n ≤ 86
filled_start s n h = start_length IsFilled 86 s n (λ w l. filled_length l.0 l.1 l.2 l.3 w l.4) h
