use Rattle.std.proofs.Common.{ℕ, ◌^◌, ◌-◌, ◌<◌, List, length, get_or, take, arith, rules}
use Rattle.std.specs.Str.Parse.{digits_value}
use Rattle.lines.specs.Kinds.{IsNumber}
use Rattle.std.proofs.lemmas.Int.Digits.{digits_value_more}
use Rattle.lines.proofs.Steps.{sixteen, is_digits, digit_in, short_before, digit_is}
use Rattle.lines.proofs.scan.value_of.Goals as goal

pub overflow_sub-b : goal.overflow_sub-b
overflow_sub-b c = (digit_in 16 c.args.digits.now c.loop-b.b-index sixteen c.requires (omega arith)).0

-- the value before a digit leaves room for one more
before : (ds : List ℕ) (i : ℕ) → IsNumber 16 ds → i < length ds → digits_value 10 (take i ds) < 10 ^ 15
before ds i h l =
    let p = is_digits 16 ds sixteen h in
    short_before 15 ds i (λ k m. digit_in 16 ds k sixteen h (omega arith)) (omega arith) (omega (arith, p.1))

pub overflow_mul-n : goal.overflow_mul-n
overflow_mul-n c = let s = before c.args.digits.now c.loop-b.b-index c.requires (omega arith) in let e = c.loop-b.invariant in search rules

pub overflow_add-n : goal.overflow_add-n
overflow_add-n c = let s = before c.args.digits.now c.loop-b.b-index c.requires (omega arith) in let e = c.loop-b.invariant in let d = digit_in 16 c.args.digits.now c.loop-b.b-index sixteen c.requires (omega arith) in search rules

pub loop-b-preserved : goal.loop-b-preserved
loop-b-preserved c =
    let ds = c.args.digits.now in
    let i = c.loop-b.b-index in
    let d = digit_in 16 ds i sixteen c.requires (omega arith) in
    let v = digit_is (get_or ds i 0) (get_or ds i 0 - 48) (omega arith) (omega arith) in
    let e = digits_value_more 10 ds i (omega arith) in
    omega (arith, e, v, c.loop-b.invariant)
