use Rattle.std.proofs.Common.{sym, ◌∙◌, arith, rules}
use Rattle.std.proofs.lemmas.Iterator.{YieldsList-from_slice, YieldsList-from_map}
use Rattle.std.proofs.lemmas.Iterator.Consumers.{YieldsList-at, fits_by_from_yields_list, sum_by_from_yields_List}
use Rattle.settlement.proofs.LineLaws.{lines_needed, series_counted}
use Rattle.ledger.specs.declared.state.Series.{Series}
use Rattle.ledger.proofs.FactLaws.{facts}
use Rattle.dayend.proofs.StatementLaws.{places_counted, places_few}
use Rattle.dayend.proofs.statement.places_needed.Goals as goal

pub sum-requires-clause-fits : goal.sum-requires-clause-fits
sum-requires-clause-fits c =
    let s = c.args.book.now.state in
    let f = facts s c.args.book.now.sound in
    fits_by_from_yields_list (λ (r : Series). lines_needed r.cells) s.series.rows c.map.result _
    (YieldsList-from_map _ (λ (r : Series). lines_needed r.cells) (YieldsList-at c.map.ensures.source (YieldsList-from_slice s.series.rows cc)) c.map.ensures.closure (λ x r q k. search (rules, series_counted)))
    (omega (arith, places_counted s f, places_few s f))

pub returns : goal.returns
returns c =
    let s = c.args.book.now.state in
    sum_by_from_yields_List (λ (r : Series). lines_needed r.cells) s.series.rows c.map.result c.sum.result c.sum.ensures.ran
    (YieldsList-from_map _ (λ (r : Series). lines_needed r.cells) (YieldsList-at c.map.ensures.source (YieldsList-from_slice s.series.rows cc)) c.map.ensures.closure (λ x r q k. search (rules, series_counted)))
    ∙ sym (places_counted s (facts s c.args.book.now.sound))
