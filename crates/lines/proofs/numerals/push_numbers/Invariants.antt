use Rattle.std.proofs.Common.{◌≡◌, ◌∷◌, ◌++◌, take, decimal}
use Rattle.std.specs.List.{flat_map}
use Rattle.lines.specs.Texts.{text_of, cut}
use Rattle.lines.proofs.numerals.push_numbers.Given as goal

abbrev pub invariant-loop-n : goal.invariant-loop-n
invariant-loop-n g l = text_of l.text ≡ cut (text_of l.initial.text ++ flat_map (λ n. 32 ∷ decimal (g.N.Number.value n)) (take l.n-index l.numbers))
