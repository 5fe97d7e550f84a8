use Rattle.std.proofs.Common.{rules}
use Rattle.std.proofs.lemmas.Result.{err_from_is_err_and, MatchResult-at_ok, MatchResult-at_err}
use Rattle.lines.proofs.Statements.{statement_told, statement_read}
use Rattle.lines.proofs.statement.read_statement.Goals as goal

pub returns : goal.returns
returns c =
    let told = statement_told c.args.line.now c.read_ten.result c.map_err.result _ c.read_ten.ensures c.map_err.ensures.cases (λ e f g. search rules) in
    statement_read _ _ _ (MatchResult-at_ok _ _ _ c.in_ok-numbers.was told) c.from.ensures

pub returns-in_err-numbers : goal.returns-in_err-numbers
returns-in_err-numbers c =
    let told = statement_told c.args.line.now c.read_ten.result c.map_err.result _ c.read_ten.ensures c.map_err.ensures.cases (λ e f g. search rules) in
    let p = err_from_is_err_and c.from_residual.result c.from_residual.ensures.1 in
    rw (p.1, p.2) (MatchResult-at_err _ _ _ c.in_err-numbers.was told)
