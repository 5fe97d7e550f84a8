use Rattle.std.proofs.Common.{◌∷◌, ◌++◌, decimal, ap, ◌∙◌, arith}
use Rattle.std.specs.List.{flat_map}
use Rattle.std.proofs.lemmas.List.{take_all}
use Rattle.lines.specs.Texts.{text_of, cut}
use Rattle.lines.proofs.Cuts.{cut_same, part_next}
use Rattle.lines.proofs.numerals.push_numbers.Goals as goal

pub loop-n-init : goal.loop-n-init
loop-n-init g c = cut_same 170 _

pub loop-n-preserved : goal.loop-n-preserved
loop-n-preserved g c =
    let value = g.N.Number.value in
    let item = rw (c.value.ensures ∙ ap value c.n-item.is) at c.push_field.ensures in
    part_next 170 (λ n. 32 ∷ decimal (value n)) _ _ _ c.args.numbers.now c.loop-n.n-index c.n-item.result (omega arith) c.loop-n.invariant item

pub returns : goal.returns
returns g c = c.loop-n.invariant ∙ ap (λ l. cut (text_of c.args.text.now ++ flat_map (λ n. 32 ∷ decimal (g.N.Number.value n)) l)) (take_all c.loop-n.n-index c.args.numbers.now (omega arith))
