use Rattle.std.proofs.Common.{◌∙◌, arith, rules}
use Rattle.std.proofs.lemmas.Iterator.{YieldsList-from_slice}
use Rattle.std.proofs.lemmas.Iterator.Search.{any_from_yields_List}
use Rattle.ledger.specs.declared.state.Series.{Series}
use Rattle.ledger.specs.Tables.{in_use}
use Rattle.ledger.specs.Lookups.{expires}
use Rattle.ledger.proofs.FactLaws.{facts}
use Rattle.dayend.proofs.CutSteps.{any_row}
use Rattle.dayend.proofs.cutoff.any_expiring.Goals as goal

pub returns : goal.returns
returns c =
    let s = c.args.book.now.state in
    let f = facts s c.args.book.now.sound in
    any_from_yields_List (λ (r : Series). expires r.contract s.previous s.day) _ _ c.any.result c.any.ensures.ran (YieldsList-from_slice (in_use s.series) (search rules)) (λ x b q k. search rules)
    ∙ any_row s s.series.count (omega (arith, f.tables.0.1, f.tables.1.1))
