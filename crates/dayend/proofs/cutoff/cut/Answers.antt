use Rattle.std.proofs.Common.{rules}
use Rattle.ledger.proofs.FactLaws.{facts, sound_at}
use Rattle.dayend.specs.Cutoff.{cut}
use Rattle.dayend.proofs.CutLaws.{facts_cut}
use Rattle.dayend.proofs.cutoff.cut.Goals as goal

pub cut_rows-requires : goal.cut_rows-requires
cut_rows-requires c = facts c.args.book.now.state c.args.book.now.sound

pub invariant_of-book : goal.invariant_of-book
invariant_of-book c =
    let s = c.args.book.now.state in
    record { sound = sound_at _ (cut s) (search rules) (facts_cut s (facts s c.args.book.now.sound)) }
