use Rattle.std.proofs.Common.{◌∙◌, arith}
use Rattle.std.proofs.lemmas.Result.{err_from_is_err_and, MatchResult-weaker}
use Rattle.std.proofs.lemmas.List.{length-map}
use Rattle.lines.specs.Grammar.{feed}
use Rattle.lines.proofs.Steps.{not_digit_10}
use Rattle.lines.proofs.Tens.{first_and_rest, ten_read, ten_stuck, ten_end_stuck}
use Rattle.lines.proofs.ten.scan_ten.Goals as goal

pub returns-in_err-end : goal.returns-in_err-end
returns-in_err-end c =
    let p = err_from_is_err_and c.from_residual-in_err-end.result c.from_residual-in_err-end.ensures.1 in
    rw (p.1, p.2) (ten_stuck _ _ _ _ _ (omega arith) c.in_ok-first.ensures (c.in_err-end.ensures feed not_digit_10))

pub returns : goal.returns
returns c =
    MatchResult-weaker c.read_feed.result c.read_feed.ensures
    (λ u end.
    let all = first_and_rest c.args.out.now c.in_ok-first.first c.read_fields.new.out (omega arith) in
    rw all (ten_read _ _ _ _ _ _ (omega arith) (length-map c.read_fields.new.out (λ d. d.now) ∙ (omega arith)) c.in_ok-first.ensures c.in_ok-end.ensures end))
    (λ left st. ten_end_stuck _ _ _ _ _ _ _ (omega arith) c.in_ok-first.ensures c.in_ok-end.ensures st)
