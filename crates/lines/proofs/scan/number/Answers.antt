use Rattle.std.proofs.Common.{get_or, arith, rules, below_more, true-eqb, false-eqb, ◌∙◌, ap}
use Rattle.std.proofs.lemmas.Int.Digits.{digits_value_more}
use Rattle.std.proofs.lemmas.List.{take_all}
use Rattle.std.specs.Str.Parse.{digits_value}
use Rattle.lines.proofs.Steps.{eight, room_most, digit_in, digit_is, short_before, number_from, number_to}
use Rattle.lines.proofs.scan.number.Goals as goal
use Rattle.lines.proofs.scan.number.Goals.{then-is_empty-via-then-is_empty, then-is_empty-via-else-is_empty+then-field-room_at}

pub returns-then-is_empty : goal.returns-then-is_empty
returns-then-is_empty c h =
    let p = number_to 8 c.args.field.now eight h in
    elim c.then-is_empty.branch [
      | then-is_empty-via-then-is_empty w ↦ let z = true-eqb _ 0 w.if-is_empty.ensures in omega (arith, p.0)
      | then-is_empty-via-else-is_empty+then-field-room_at w ↦ omega (arith, p.1, w.room_at.ensures)
    ]

pub overflow_mul-n : goal.overflow_mul-n
overflow_mul-n c =
    let most = room_most 8 c.args.field.now (omega arith) in
    let s = short_before 7 c.args.field.now c.loop-b.b-index c.loop-b.invariant.1 (omega arith) (omega (arith, c.room_at.ensures)) in
    let e = c.loop-b.invariant.0 in
    search rules

pub overflow_add-n : goal.overflow_add-n
overflow_add-n c =
    let most = room_most 8 c.args.field.now (omega arith) in
    let s = short_before 7 c.args.field.now c.loop-b.b-index c.loop-b.invariant.1 (omega arith) (omega (arith, c.room_at.ensures)) in
    let e = c.loop-b.invariant.0 in
    let d = c.in_ok-digit.ensures in
    search rules

pub returns-in_err-digit : goal.returns-in_err-digit
returns-in_err-digit c = rw c.from_residual.ensures (λ h. c.in_err-digit.ensures (digit_in 8 c.args.field.now c.loop-b.b-index eight h (omega arith)))

pub loop-b-preserved : goal.loop-b-preserved
loop-b-preserved c =
    let ds = c.args.field.now in
    let i = c.loop-b.b-index in
    let d = c.in_ok-digit.ensures in
    let v = digit_is (get_or ds i 0) c.in_ok-digit.field-0 d.0 d.1 in
    let e = digits_value_more 10 ds i (omega arith) in
    (omega (arith, e, v, c.from.ensures, c.loop-b.invariant.0), below_more _ _ c.loop-b.invariant.1 (omega arith))

pub returns : goal.returns
returns c =
    let ds = c.args.field.now in
    let i = c.loop-b.b-index in
    let some = false-eqb _ 0 c.if-is_empty.ensures in
    (number_from 8 ds eight (omega arith) (omega (arith, c.room_at.ensures)) (λ k l. c.loop-b.invariant.1 k (omega arith)), c.loop-b.invariant.0 ∙ ap (digits_value 10) (take_all i ds (omega arith)))
