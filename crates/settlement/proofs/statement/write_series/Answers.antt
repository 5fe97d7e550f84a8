use Rattle.std.proofs.Common.{◌≡◌, ◌+◌, ◌≤◌, length, get_or, refl, ap, ◌∙◌, rules, arith, length-append}
use Rattle.positions.specs.Cells.{no_cell}
use Rattle.settlement.specs.Lines.{cell_lines, lines_of_first, series_lines, written}
use Rattle.settlement.proofs.Written.{written_none, written_next, length_written}
use Rattle.settlement.proofs.LineLaws.{first_more, length_first_le, length_series}
use Rattle.settlement.proofs.EvenLaws.{lines_even, worked_lines}
use Rattle.settlement.proofs.SmallLaws.{lines_small}
use Rattle.settlement.proofs.statement.write_series.Goals as goal

pub loop-i-init : goal.loop-i-init
loop-i-init c = record { same_slice = refl; place = omega arith; after = written_none c.args.lines.now c.args.at }

pub put_account-requires-clause-counts : goal.put_account-requires-clause-counts
put_account-requires-clause-counts c = c.requires.counts c.loop-i.i

pub put_account-requires-clause-fits : goal.put_account-requires-clause-fits
put_account-requires-clause-fits c =
    let t = c.args.terms.now in
    let cells = c.args.cells.now in
    let i = c.loop-i.i in
    let done = lines_of_first i t cells in
    let more = ap length (first_more t cells i) in
    let sizes = length-append done (cell_lines t (i + 1) (get_or cells i no_cell)) in
    let room = length_first_le t cells (i + 1) (omega (arith, c.told-cells)) in
    let same : length c.loop-i.writer.lines.now ≡ length c.args.lines.now = ap length c.loop-i.invariant.after ∙ length_written c.args.lines.now c.args.at done (omega (arith, more, sizes, room, c.requires.fits)) in
    omega (arith, more, sizes, room, same, c.requires.fits, c.loop-i.invariant.place)

pub loop-i-preserved : goal.loop-i-preserved
loop-i-preserved c =
    let t = c.args.terms.now in
    let cells = c.args.cells.now in
    let i = c.loop-i.i in
    let done = lines_of_first i t cells in
    let new = cell_lines t (i + 1) (get_or cells i no_cell) in
    let more = first_more t cells i in
    let fits : c.args.at + length (lines_of_first (i + 1) t cells) ≤ length c.args.lines.now = omega (arith, length_first_le t cells (i + 1) (omega (arith, c.told-cells)), c.requires.fits) in
    record {
      same_slice = c.put_account.ensures.same_slice ∙ c.loop-i.invariant.same_slice;
      place = omega (arith, ap length more, length-append done new, c.put_account.ensures.place, c.loop-i.invariant.place);
      after = c.put_account.ensures.after ∙ written_next c.args.lines.now c.args.at done new _ _ (lines_of_first (i + 1) t cells) c.loop-i.invariant.after c.loop-i.invariant.place more fits;
    }

pub returns-clause-place : goal.returns-clause-place
returns-clause-place c =
    let t = c.args.terms.now in
    let cells = c.args.cells.now in
    let all : c.loop-i.i ≡ length cells = omega (arith, c.told-cells) in
    omega (arith, c.loop-i.invariant.place, ap (λ n. length (lines_of_first n t cells)) all, length_series t cells)

pub returns-clause-after : goal.returns-clause-after
returns-clause-after c =
    let t = c.args.terms.now in
    let cells = c.args.cells.now in
    let all : c.loop-i.i ≡ length cells = omega (arith, c.told-cells) in
    let whole : c.loop-i.writer.lines.now ≡ written c.args.lines.now c.args.at (series_lines t cells) = c.loop-i.invariant.after ∙ ap (λ n. written c.args.lines.now c.args.at (lines_of_first n t cells)) all in
    search (rules, whole)

pub returns-clause-even : goal.returns-clause-even
returns-clause-even c = lines_even

pub returns-clause-small : goal.returns-clause-small
returns-clause-small c = lines_small

pub returns-clause-worked : goal.returns-clause-worked
returns-clause-worked c = worked_lines
