use Rattle.std.proofs.lemmas.Result.{err_from_is_err_and}
use Rattle.lines.specs.Grammar.{feed}
use Rattle.lines.proofs.Steps.{stuck_after, not_digit_10}
use Rattle.lines.proofs.read.scan_input.Goals as goal

pub returns-in_err-read_feed : goal.returns-in_err-read_feed
returns-in_err-read_feed c =
    let p = err_from_is_err_and c.from_residual-in_err-read_feed.result c.from_residual-in_err-read_feed.ensures.1 in
    let start = c.in_ok-head.ensures in
    rw (p.1, p.2, start.split) (stuck_after _ _ _ _ _ _ (start.reached feed not_digit_10) c.in_err-read_feed.ensures)
