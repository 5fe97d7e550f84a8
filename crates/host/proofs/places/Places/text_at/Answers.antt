use Rattle.std.proofs.Common.{List, ℕ, sym, ap, ◌∙◌, subst}
use Rattle.lines.specs.Lines.{StatementText, statement_line}
use Rattle.host.specs.Places.{empty_line, line_numbers, numbers_at}
use Rattle.host.proofs.Fitting.{fits_at, has_text}
use Rattle.host.proofs.places.Places.text_at.Goals as goal

pub unreachable-requires : goal.unreachable-requires
unreachable-requires c =
    let ns = numbers_at c.args.self.now.lines c.args.i in
    let e = c.numbers_of.ensures ∙ ap line_numbers (c.in_ok-line.ensures.lookup.3.1 empty_line) in
    let P : List ℕ → Type 0 = λ x. StatementText x (statement_line ns) in
    c.in_default.ensures (statement_line ns) (subst P (sym e) (has_text _ (fits_at c.args.self.now.lines c.args.i c.args.self.now.fitting)))
