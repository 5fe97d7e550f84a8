use Rattle.std.proofs.Common.{◌%◌, refl, arith}
use Rattle.lines.proofs.Heads.{stuck_first, stuck_second, kind_of_second, first_none, first_is, not_there}
use Rattle.lines.proofs.scan.read_kind.Goals as goal

pub returns-in_default : goal.returns-in_default
returns-in_default c t = stuck_first _ c.requires t _ _ refl (λ k n known f. first_none _ _ c.in_default.ensures.cases f)

pub returns-in_default-digit : goal.returns-in_default-digit
returns-in_default-digit c t =
    stuck_first _ c.requires t _ _ refl
    (λ k n known f.
    let e = first_is _ _ _ _ c.in-Some.ensures.cases.0 f in
    let b = c.requires.two_digits k n known in
    c.in_default-digit.ensures (omega arith, omega arith))

pub returns-in-Some-second_digit : goal.returns-in-Some-second_digit
returns-in-Some-second_digit c =
    let b = c.in-Some-digit.ensures in
    kind_of_second _ c.requires _ _ _ _ _ _ _ b.0 b.1 c.in-Some.ensures.cases.0 c.in-Some-second_digit.ensures

pub returns-in-None : goal.returns-in-None
returns-in-None c t =
    let b = c.in-Some-digit.ensures in
    stuck_second _ c.requires t _ _ _ _ _ c.in-Some.ensures.cases.0 refl b.0 b.1 c.if-leads.ensures c.in-None.ensures

pub returns-in-None-2 : goal.returns-in-None-2
returns-in-None-2 c t =
    stuck_first _ c.requires t _ _ refl
    (λ k n known f.
    let e = first_is _ _ _ _ c.in-Some.ensures.cases.0 f in
    let b = c.in-Some-digit.ensures in
    not_there _ k _ _ n known (omega arith) refl (c.if-leads.ensures (k % 10) (omega arith)))
