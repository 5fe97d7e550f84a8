use Rattle.std.proofs.Common.{[]}
use Rattle.lines.proofs.Cuts.{cut_none, cut_more}
use Rattle.lines.proofs.write.fill_after.Goals as goal

pub returns : goal.returns
returns c = cut_more 170 _ _ [] c.args.start.now _ (cut_none 170 _ _ _ c.clear.ensures c.push_all.ensures) c.push_answer.ensures
