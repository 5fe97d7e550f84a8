use Rattle.std.proofs.Common.{[], ◌++◌, decimal, ap, ◌∙◌, append_assoc}
use Rattle.lines.specs.Lines.{fields_text, answer_text}
use Rattle.lines.specs.Texts.{cut}
use Rattle.lines.proofs.Cuts.{cut_more}
use Rattle.lines.proofs.write.filled_text.Goals as goal

pub returns : goal.returns
returns c =
    let front = fields_text c.args.numbers.now in
    let end = answer_text c.args.reply.number c.args.reply.result in
    cut_more 170 _ _ [] (decimal c.args.kind ++ front) end c.start_text-text.ensures c.push_answer.ensures ∙ ap cut (append_assoc (decimal c.args.kind) front end)
