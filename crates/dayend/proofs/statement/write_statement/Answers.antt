use Rattle.std.proofs.Common.{◌≡◌, ◌+◌, ◌≤◌, length, get_or, sym, ap, ◌∙◌, subst, arith, length-append}
use Rattle.settlement.specs.declared.line.SeriesTerms.{SeriesTerms}
use Rattle.settlement.specs.Lines.{series_lines, written}
use Rattle.settlement.proofs.Written.{written_next}
use Rattle.ledger.specs.Tables.{past_series}
use Rattle.ledger.proofs.FactLaws.{facts}
use Rattle.dayend.specs.Statement.{lines_at, first_lines, places_needed}
use Rattle.dayend.proofs.StatementLaws.{countable, places_few, lines_more, lines_within}
use Rattle.dayend.proofs.statement.write_statement.Goals as goal
use Rattle.dayend.proofs.statement.write_statement.Goals.{After-loop-i}

pub write_series-next-requires-clause-fits : goal.write_series-next-requires-clause-fits
write_series-next-requires-clause-fits c =
    let s = c.args.book.now.state in
    let size = s.terms.size in
    let rows = s.series.rows in
    let i = c.loop-i.i in
    let here = ap (λ (t : SeriesTerms). length (series_lines t (get_or rows i past_series).cells)) c.terms_of-terms.ensures in
    let more = ap length (lines_more size s.day rows i) in
    let sizes = length-append (first_lines i size s.day rows) (lines_at size s.day rows i) in
    let most = lines_within s (facts s c.args.book.now.sound) (i + 1) (omega arith) in
    omega (arith, here, more, sizes, most, c.requires, c.loop-i.invariant.0, c.loop-i.auto.lines)

pub write_series-next-requires-clause-counts : goal.write_series-next-requires-clause-counts
write_series-next-requires-clause-counts c j =
    let s = c.args.book.now.state in
    let f = facts s c.args.book.now.sound in
    countable s f c.loop-i.i j (omega (arith, f.tables.1.1))

pub write_series-next-requires-clause-size : goal.write_series-next-requires-clause-size
write_series-next-requires-clause-size c =
    subst (λ (t : SeriesTerms). t.size ≤ 10_000) (sym c.terms_of-terms.ensures) (facts c.args.book.now.state c.args.book.now.sound).ranges.0.1

pub loop-i-preserved : goal.loop-i-preserved
loop-i-preserved c =
    let s = c.args.book.now.state in
    let size = s.terms.size in
    let rows = s.series.rows in
    let i = c.loop-i.i in
    let here = ap (λ (t : SeriesTerms). length (series_lines t (get_or rows i past_series).cells)) c.terms_of-terms.ensures in
    let more = lines_more size s.day rows i in
    let sizes = length-append (first_lines i size s.day rows) (lines_at size s.day rows i) in
    let most = lines_within s (facts s c.args.book.now.sound) (i + 1) (omega arith) in
    let after = c.write_series-next.ensures.after ∙ ap (λ (t : SeriesTerms). written c.loop-i.lines c.loop-i.next (series_lines t (get_or rows i past_series).cells)) c.terms_of-terms.ensures in (
      omega (arith, here, ap length more, sizes, c.write_series-next.ensures.place, c.loop-i.invariant.0),
      after ∙ written_next c.args.lines.now 0 (first_lines i size s.day rows) (lines_at size s.day rows i) c.loop-i.lines c.loop-i.next (first_lines (i + 1) size s.day rows) c.loop-i.invariant.1 (omega (arith, c.loop-i.invariant.0)) more (omega (arith, most, c.requires)),
    )

-- after the last series there are as many lines as the statement has
count : (c : After-loop-i) → c.loop-i.next ≡ places_needed c.args.book.now.state
count c =
    let s = c.args.book.now.state in
    let whole : c.loop-i.i ≡ 32 = omega arith in
    c.loop-i.invariant.0 ∙ ap (λ n. length (first_lines n s.terms.size s.day s.series.rows)) whole

pub overflow_cast-result : goal.overflow_cast-result
overflow_cast-result c =
    let s = c.args.book.now.state in
    omega (arith, count c, places_few s (facts s c.args.book.now.sound))

pub returns-clause-count : goal.returns-clause-count
returns-clause-count c = count c
