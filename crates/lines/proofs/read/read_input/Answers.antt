use Rattle.std.proofs.Common.{rules}
use Rattle.std.proofs.lemmas.Result.{err_from_is_err_and, MatchResult-at_ok, MatchResult-at_err}
use Rattle.lines.specs.declared.kinds.Sort.TheVariants.{Input}
use Rattle.lines.proofs.Tops.{input_told, start_made, input_some, input_read}
use Rattle.lines.proofs.read.read_input.Goals as goal

pub returns-in_err-head : goal.returns-in_err-head
returns-in_err-head c =
    let told = input_told c.args.line.now c.scan_input.result c.map_err.result _ _ c.scan_input.ensures c.map_err.ensures.cases (λ e f g. search rules) in
    let p = err_from_is_err_and c.from_residual.result c.from_residual.ensures.1 in
    rw (p.1, p.2) (MatchResult-at_err _ _ _ c.in_err-head.was told)

pub unreachable-requires : goal.unreachable-requires
unreachable-requires c =
    let told = input_told c.args.line.now c.scan_input.result c.map_err.result _ _ c.scan_input.ensures c.map_err.ensures.cases (λ e f g. search rules) in
    let read = MatchResult-at_ok _ _ _ c.in_ok-head.was told in
    let made = start_made Input _ _ _ _ _ _ read.0 c.line_of.ensures in
    input_some _ _ (rw c.in_default.is at made)

pub returns : goal.returns
returns c =
    let told = input_told c.args.line.now c.scan_input.result c.map_err.result _ _ c.scan_input.ensures c.map_err.ensures.cases (λ e f g. search rules) in
    let read = MatchResult-at_ok _ _ _ c.in_ok-head.was told in
    let made = start_made Input _ _ _ _ _ _ read.0 c.line_of.ensures in
    input_read _ _ _ (rw c.in-Some.is at made) read.1
