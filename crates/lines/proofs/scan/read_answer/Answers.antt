use Rattle.std.proofs.Common.{◌∷◌}
use Rattle.std.proofs.lemmas.Result.{err_from_is_err_and}
use Rattle.lines.specs.Grammar.{byte, num, feed}
use Rattle.lines.proofs.Steps.{stuck_byte_at, stuck_after_byte, stuck_after_field, done_after_byte, done_after_field, not_digit_10, not_digit_32}
use Rattle.lines.proofs.scan.read_answer.Goals as goal

pub returns-in_err-mark : goal.returns-in_err-mark
returns-in_err-mark c =
    let p = err_from_is_err_and c.from_residual.result c.from_residual.ensures.1 in
    rw (p.1, p.2) (stuck_byte_at 32 (byte 58 ∷ byte 32 ∷ num 8 ∷ byte 32 ∷ num 8 ∷ feed) _ _ c.in_err-mark.ensures.0 c.in_err-mark.ensures.1)

pub returns-in_err-blank : goal.returns-in_err-blank
returns-in_err-blank c =
    let p = err_from_is_err_and c.from_residual-in_err-blank.result c.from_residual-in_err-blank.ensures.1 in
    rw (p.1, p.2)
    (stuck_after_byte 32 (byte 58 ∷ byte 32 ∷ num 8 ∷ byte 32 ∷ num 8 ∷ feed) _ _ _ c.in_ok-mark.ensures
    (stuck_byte_at 58 (byte 32 ∷ num 8 ∷ byte 32 ∷ num 8 ∷ feed) _ _ c.in_err-blank.ensures.0 c.in_err-blank.ensures.1))

pub returns-in_err-reply : goal.returns-in_err-reply
returns-in_err-reply c =
    let p = err_from_is_err_and c.from_residual-in_err-reply.result c.from_residual-in_err-reply.ensures.1 in
    rw (p.1, p.2)
    (stuck_after_byte 32 (byte 58 ∷ byte 32 ∷ num 8 ∷ byte 32 ∷ num 8 ∷ feed) _ _ _ c.in_ok-mark.ensures
    (stuck_after_byte 58 (byte 32 ∷ num 8 ∷ byte 32 ∷ num 8 ∷ feed) _ _ _ c.in_ok-blank.ensures
    (c.in_err-reply.ensures (byte 32 ∷ num 8 ∷ feed) (not_digit_32 (num 8 ∷ feed)))))

pub returns-in_err-result : goal.returns-in_err-result
returns-in_err-result c =
    let p = err_from_is_err_and c.from_residual-in_err-result.result c.from_residual-in_err-result.ensures.1 in
    rw (p.1, p.2)
    (stuck_after_byte 32 (byte 58 ∷ byte 32 ∷ num 8 ∷ byte 32 ∷ num 8 ∷ feed) _ _ _ c.in_ok-mark.ensures
    (stuck_after_byte 58 (byte 32 ∷ num 8 ∷ byte 32 ∷ num 8 ∷ feed) _ _ _ c.in_ok-blank.ensures
    (stuck_after_field 8 (byte 32 ∷ num 8 ∷ feed) _ _ _ _ (not_digit_32 (num 8 ∷ feed)) c.in_ok-reply.ensures
    (c.in_err-result.ensures feed not_digit_10))))

pub returns-in_err-read_feed : goal.returns-in_err-read_feed
returns-in_err-read_feed c =
    let p = err_from_is_err_and c.from_residual-in_err-read_feed.result c.from_residual-in_err-read_feed.ensures.1 in
    rw (p.1, p.2)
    (stuck_after_byte 32 (byte 58 ∷ byte 32 ∷ num 8 ∷ byte 32 ∷ num 8 ∷ feed) _ _ _ c.in_ok-mark.ensures
    (stuck_after_byte 58 (byte 32 ∷ num 8 ∷ byte 32 ∷ num 8 ∷ feed) _ _ _ c.in_ok-blank.ensures
    (stuck_after_field 8 (byte 32 ∷ num 8 ∷ feed) _ _ _ _ (not_digit_32 (num 8 ∷ feed)) c.in_ok-reply.ensures
    (stuck_after_field 8 feed _ _ _ _ not_digit_10 c.in_ok-result.ensures
    c.in_err-read_feed.ensures))))

pub returns : goal.returns
returns c = record {
  numbers = (c.in_ok-reply.ensures.numbers.0, c.in_ok-result.ensures.numbers.0);
  done =
      done_after_byte 32 (byte 58 ∷ byte 32 ∷ num 8 ∷ byte 32 ∷ num 8 ∷ feed) _ _ _ c.in_ok-mark.ensures
      (done_after_byte 58 (byte 32 ∷ num 8 ∷ byte 32 ∷ num 8 ∷ feed) _ _ _ c.in_ok-blank.ensures
      (done_after_field 8 (byte 32 ∷ num 8 ∷ feed) _ _ _ _ (not_digit_32 (num 8 ∷ feed)) c.in_ok-reply.ensures
      (done_after_field 8 feed _ _ _ _ not_digit_10 c.in_ok-result.ensures
      c.in_ok-read_feed.ensures)));
}
