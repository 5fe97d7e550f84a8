use Rattle.lines.proofs.Made.{started}
use Rattle.lines.proofs.write.start_text.Goals as goal

pub returns : goal.returns
returns c =
    let kind = rw c.from.ensures at c.push_number.ensures in
    started c.args.kind _ _ _ _ c.new-text.ensures kind c.push_numbers.ensures
