use Rattle.std.proofs.Common.{◌≡◌, ◌+◌, false, rules}
use Rattle.ledger.proofs.KeepLaws.{all_same}
use Rattle.dayend.specs.Cutoff.{automatic}
use Rattle.dayend.proofs.Made.{made}
use Rattle.dayend.proofs.cutoff.automatic_in.Goals as goal

pub returns : goal.returns
returns c = made (λ a y. y ≡ automatic c.args.book.now (a + 1) c.args.series) false c.from_fn.ensures.items (λ a y q w. search rules)

pub returns-in_default : goal.returns-in_default
returns-in_default c a lt = all_same (λ y. y ≡ automatic c.args.book.now (a + 1) c.args.series) 32 false false a (search rules) (search rules)
