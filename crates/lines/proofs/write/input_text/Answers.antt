use Rattle.std.proofs.Common.{[], ◌∷◌, ◌++◌, decimal, ap, ◌∙◌, append_assoc}
use Rattle.lines.specs.Lines.{fields_text}
use Rattle.lines.specs.Texts.{cut}
use Rattle.lines.proofs.Cuts.{cut_more}
use Rattle.lines.proofs.write.input_text.Goals as goal

pub returns : goal.returns
returns c =
    let front = fields_text c.args.numbers.now in
    cut_more 170 _ _ [] (decimal c.args.kind ++ front) (10 ∷ []) c.start_text-text.ensures c.push.ensures ∙ ap cut (append_assoc (decimal c.args.kind) front (10 ∷ []))
