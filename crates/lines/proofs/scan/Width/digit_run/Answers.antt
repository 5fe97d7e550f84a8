use Rattle.std.proofs.Common.{◌≡◌, min, length, take, ap, ◌∙◌, rules, tests, arith}
use Rattle.std.specs.Char.{is_ascii_digit}
use Rattle.std.specs.List.{prefix_len}
use Rattle.std.proofs.lemmas.List.{take_min}
use Rattle.std.proofs.lemmas.List.Folds.{length-prefix_len}
use Rattle.std.proofs.lemmas.Iterator.{YieldsList-from_slice}
use Rattle.std.proofs.lemmas.Iterator.Consumers.{YieldsList-at, count_from_yields_List}
use Rattle.std.proofs.lemmas.Iterator.Search.{YieldsList-from_take_while}
use Rattle.lines.specs.Grammar.{room}
use Rattle.lines.proofs.Steps.{run_front}
use Rattle.lines.proofs.scan.Width.digit_run.Goals as goal

pub returns : goal.returns
returns c =
    let s = c.args.s.now in
    let front = take c.min-most.result s in
    let n =
    count_from_yields_List c.take_while.result _ c.count-n.ensures.ran
    (YieldsList-from_take_while _ is_ascii_digit (YieldsList-at c.take_while.ensures.source (YieldsList-from_slice front c.iter.ensures.rest)) c.take_while.ensures.closure c.take_while.ensures.done (λ x b q k. search (rules, tests))) in
    let most : c.min-most.result ≡ min (room c.args.self.digits s) (length s) = omega (arith, c.min-most.ensures, c.room_at.ensures) in
    let same : front ≡ take (room c.args.self.digits s) s = ap (λ m. take m s) most ∙ take_min (room c.args.self.digits s) s in
    rw (c.split_at.ensures.front, c.split_at.ensures.back) (run_front c.args.self.digits s _ (n ∙ length-prefix_len is_ascii_digit front ∙ ap (prefix_len is_ascii_digit) same))
