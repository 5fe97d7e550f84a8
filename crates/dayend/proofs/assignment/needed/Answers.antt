use Rattle.std.proofs.Common.{◌≡◌, ℕ, ◌<◌, ◌≤◌, ◌^◌, length, get_or, ◌∙◌, arith, rules}
use Rattle.std.proofs.lemmas.Iterator.{YieldsList-from_slice}
use Rattle.std.proofs.lemmas.Iterator.Adapters.{serves_from_places, fits_from_length, at_most_from_yields_List}
use Rattle.std.proofs.lemmas.List.{get_or_default}
use Rattle.settlement.specs.Assignment.{total_due}
use Rattle.ledger.specs.declared.state.Series.{Series}
use Rattle.ledger.specs.declared.state.Stage.TheVariants.{Cut}
use Rattle.ledger.specs.declared.state.State.{State}
use Rattle.ledger.specs.Tables.{past_series}
use Rattle.ledger.specs.Sound.{Facts}
use Rattle.ledger.proofs.FactLaws.{facts}
use Rattle.dayend.proofs.AssignLaws.{due_few}
use Rattle.dayend.proofs.assignment.needed.Goals as goal

-- what a series that the walk has come to may be asked
few : (s : State) (r : Series) (k : ℕ) → Facts s → s.stage ≡ Cut → k < length s.series.rows → r ≡ get_or s.series.rows k r → total_due r.cells ≤ 100_000
few s r k f cut lt is = rw (is ∙ get_or_default s.series.rows k r past_series lt) (due_few s k f cut (omega (arith, f.tables.1.1)))

pub sum-requires-clause-can : goal.sum-requires-clause-can
sum-requires-clause-can c = (
  tt,
  serves_from_places (YieldsList-from_slice c.args.book.now.state.series.rows cc) (λ x q r. search rules) (λ x k lt is.
      let due = few c.args.book.now.state x.now k (facts c.args.book.now.state c.args.book.now.sound) c.requires lt is in
      let block = (facts c.args.book.now.state c.args.book.now.sound).ranges.1 in
      search rules),
)

pub sum-requires-clause-fits : goal.sum-requires-clause-fits
sum-requires-clause-fits c =
    fits_from_length _ _ 32 (2 ^ 32)
    (at_most_from_yields_List (YieldsList-from_slice c.args.book.now.state.series.rows cc) (omega (arith, (facts c.args.book.now.state c.args.book.now.sound).tables.1.1)))
    c.map.ensures.closure (omega arith) (λ x r q k. search rules)
