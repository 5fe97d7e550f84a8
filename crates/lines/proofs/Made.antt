-- Lines that are put together from their parts.
use Rattle.std.proofs.Common.{◌≡◌, ℕ, ◌≤◌, List, [], ◌∷◌, ◌++◌, length, Some, decimal, refl, ap, ◌∙◌, append_assoc, arith}
use Rattle.std.specs.List.{AllByRecursion}
use Rattle.lines.specs.Kinds.{arity, kinds, filled_kinds, Short}
use Rattle.lines.specs.Lines.{input_line, filled_line, InputLine, FilledLine}
use Rattle.lines.specs.Texts.{cut}
use Rattle.lines.proofs.Cuts.{cut_more, cut_none, cut_all}
use Rattle.lines.proofs.Lengths.{input_length, filled_length}

-- the kind, after nothing, and then the fields
pub started : (k : ℕ) (new t u fs : List ℕ) → new ≡ [] → t ≡ cut (new ++ decimal k) → u ≡ cut (t ++ fs) → u ≡ cut (decimal k ++ fs)
started k new t u fs e f g = cut_more 170 t u [] (decimal k) fs (cut_none 170 new t (decimal k) e f) g

-- one byte, and then others
pub one_before : (b : ℕ) (old t u xs : List ℕ) → t ≡ cut (old ++ (b ∷ [])) → u ≡ cut (t ++ xs) → u ≡ cut (old ++ (b ∷ xs))
one_before b old t u xs e f = cut_more 170 t u old (b ∷ []) xs e f

pub ended : (k : ℕ) (t u fs end : List ℕ) → length (decimal k ++ (fs ++ end)) ≤ 170 → t ≡ cut (decimal k ++ fs) → u ≡ cut (t ++ end) → u ≡ decimal k ++ (fs ++ end)
ended k t u fs end l e f = cut_all 170 u (decimal k ++ (fs ++ end)) l (cut_more 170 t u [] (decimal k ++ fs) end e f ∙ ap cut (append_assoc (decimal k) fs end))

-- what is written of a known kind and short numbers is a line, since no line is longer than a text
pub input_made : (k : ℕ) (ns u : List ℕ) → arity kinds k ≡ Some (length ns) → AllByRecursion (Short 8) ns → u ≡ cut (input_line k ns) → InputLine k ns u
input_made k ns u known short e =
    let l = input_length k ns (input_line k ns) (record { known = known; short = short; is = refl }) in
    record { known = known; short = short; is = cut_all 170 u (input_line k ns) (omega arith) e }

pub filled_made : (k : ℕ) (ns : List ℕ) (a b : ℕ) (u : List ℕ) → arity filled_kinds k ≡ Some (length ns) → AllByRecursion (Short 8) ns → Short 8 a × Short 8 b → u ≡ cut (filled_line k ns a b) → FilledLine k ns a b u
filled_made k ns a b u known short reply e =
    let l = filled_length k ns a b (filled_line k ns a b) (record { known = known; short = short; reply_short = reply.0; result_short = reply.1; is = refl }) in
    record { known = known; short = short; reply_short = reply.0; result_short = reply.1; is = cut_all 170 u (filled_line k ns a b) (omega arith) e }
