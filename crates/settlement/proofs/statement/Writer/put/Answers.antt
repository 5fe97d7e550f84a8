use Rattle.std.proofs.Common.{◌≡◌, eqb, [], ◌∷◌, length, sym, ap, ◌∙◌, arith}
use Rattle.std.proofs.lemmas.Bool.{cond-false}
use Rattle.settlement.specs.Lines.{if_any, written}
use Rattle.settlement.proofs.Written.{written_one}
use Rattle.settlement.proofs.statement.Writer.put.Goals as goal

pub returns-then-not-is_empty-clause-after : goal.returns-then-not-is_empty-clause-after
returns-then-not-is_empty-clause-after c =
    let w = c.args.self.now in
    let l = c.args.line in
    let one : if_any l ≡ l ∷ [] = cond-false (eqb l.contracts 0) [] (l ∷ []) (sym c.if-not-is_empty.ensures) in
    written_one w.lines.now w.at l (omega (arith, c.requires, ap length one)) ∙ ap (written w.lines.now w.at) (sym one)
