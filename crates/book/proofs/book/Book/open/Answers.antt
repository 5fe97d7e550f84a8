use Rattle.ledger.proofs.FactLaws.{sound_at}
use Rattle.dealing.proofs.OpenLaws.{facts_opened}
use Rattle.book.proofs.PassLaws.{accepted}
use Rattle.book.proofs.book.Book.open.Goals as goal

pub invariant_of-book : goal.invariant_of-book
invariant_of-book c = record { sound = sound_at _ _ c.opening-state.ensures (facts_opened c.args.o.now (accepted _ c.in_ok-check_open.ensures)) }
