use Rattle.std.proofs.Common.{◌∙◌, sym, rules, arith}
use Rattle.std.proofs.lemmas.Iterator.{YieldsList-from_slice, YieldsList-from_map}
use Rattle.std.proofs.lemmas.Iterator.Consumers.{YieldsList-at, fits_by_from_yields_list, sum_by_from_yields_List}
use Rattle.settlement.proofs.LineLaws.{line_count, lines_needed_le, account_counted, length_series}
use Rattle.settlement.proofs.statement.count_series.Goals as goal

pub sum-requires-clause-fits : goal.sum-requires-clause-fits
sum-requires-clause-fits c =
    fits_by_from_yields_list line_count c.args.cells.now c.map.result _
    (YieldsList-from_map _ line_count (YieldsList-at c.map.ensures.source (YieldsList-from_slice c.args.cells.now cc)) c.map.ensures.closure (λ x r q k. search (rules, account_counted)))
    (omega (arith, lines_needed_le c.args.cells.now))

pub returns : goal.returns
returns c t =
    sum_by_from_yields_List line_count c.args.cells.now c.map.result c.sum.result c.sum.ensures.ran
    (YieldsList-from_map _ line_count (YieldsList-at c.map.ensures.source (YieldsList-from_slice c.args.cells.now cc)) c.map.ensures.closure (λ x r q k. search (rules, account_counted)))
    ∙ sym (length_series t c.args.cells.now)
