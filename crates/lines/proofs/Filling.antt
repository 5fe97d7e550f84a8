-- Filled lines made from the bytes of their input lines.
use Rattle.std.proofs.Common.{◌≡◌, ℕ, ◌-◌, ◌≤◌, List, [], ◌∷◌, ◌++◌, length, take, decimal, sym, refl, ap, ◌∙◌, append_assoc, arith}
use Rattle.std.proofs.lemmas.List.{length-append, take_all, take_at}
use Rattle.lines.specs.Kinds.{Short}
use Rattle.lines.specs.Lines.{before_feed, fields_text, answer_text, filled_line, faulty_line, InputLine, FilledLine, FaultyLine}
use Rattle.lines.specs.Texts.{cut}
use Rattle.lines.proofs.Lengths.{filled_length}
use Rattle.lines.proofs.Tables.{known_filled}

-- a filled line has room
fits : (k : ℕ) (ns : List ℕ) (a b : ℕ) → FilledLine k ns a b (filled_line k ns a b) → FilledLine k ns a b (cut (filled_line k ns a b))
fits k ns a b h =
    let l = filled_length k ns a b (filled_line k ns a b) h in
    record { known = h.known; short = h.short; reply_short = h.reply_short; result_short = h.result_short; is = take_all 170 (filled_line k ns a b) (omega arith) }

before : (k : ℕ) (ns w : List ℕ) → InputLine k ns w → before_feed w ≡ decimal k ++ fields_text ns
before k ns w h =
    let front = decimal k ++ fields_text ns in
    let e : w ≡ front ++ (10 ∷ []) = h.is ∙ sym (append_assoc (decimal k) (fields_text ns) (10 ∷ [])) in
    let n = ap length e in
    let m = length-append front (10 ∷ []) in
    ap (take (length w - 1)) e ∙ take_at front (10 ∷ []) (length w - 1) (omega arith)

pub fills : (k : ℕ) (ns w : List ℕ) (reply result : ℕ) → InputLine k ns w → Short 8 reply → Short 8 result → FilledLine k ns reply result (cut (before_feed w ++ answer_text reply result))
fills k ns w a b h ra rb =
    let line = fits k ns a b (record { known = known_filled k (length ns) h.known; short = h.short; reply_short = ra; result_short = rb; is = refl }) in
    let same = ap (λ t. cut (t ++ answer_text a b)) (before k ns w h) ∙ ap cut (append_assoc (decimal k) (fields_text ns) (answer_text a b)) in
    record { known = line.known; short = line.short; reply_short = ra; result_short = rb; is = same ∙ line.is }

pub fills_faulty : (n : ℕ) → n ≤ 66 → FaultyLine n (cut (faulty_line n))
fills_faulty n l = fits 99 [] 2 n (record { known = refl; short = tt; reply_short = omega arith; result_short = omega arith; is = refl })
