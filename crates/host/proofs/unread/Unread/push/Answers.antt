use Rattle.std.proofs.Common.{take, arith}
use Rattle.std.proofs.lemmas.List.{length-take}
use Rattle.few.specs.Contents.{contents}
use Rattle.host.specs.Numbers.{unread_of}
use Rattle.host.proofs.Firsts.{one_more}
use Rattle.host.proofs.unread.Unread.push.Goals as goal

pub returns-clause-after : goal.returns-clause-after
returns-clause-after c =
    let few = c.args.self.now.numbers in
    one_more (unread_of c.args.self.now) (contents c.push.new.self) c.args.number (omega (arith, length-take 1_024 (take few.count few.items))) c.push.ensures.after
