use Rattle.std.proofs.Common.{◌≡◌, map, length, take, ◌∙◌, arith}
use Rattle.std.proofs.lemmas.Result.{err_from_is_err_and}
use Rattle.std.proofs.lemmas.List.{take_at, length-map, length-take-le}
use Rattle.lines.proofs.Rows.{table_at, stuck_at, start_at}
use Rattle.lines.proofs.Tables.{table_of}
use Rattle.lines.proofs.Steps.{start_read, start_stuck}
use Rattle.lines.proofs.scan.read_start.Goals as goal

pub read_kind-requires : goal.read_kind-requires
read_kind-requires c = table_at _ _ c.kinds_of.ensures (table_of c.args.sort)

pub returns-in_err-rest : goal.returns-in_err-rest
returns-in_err-rest c =
    let p = err_from_is_err_and c.from_residual-in_err-rest.result c.from_residual-in_err-rest.ensures.1 in
    let kind = c.in_ok-head.ensures in
    let n = c.in_ok-head.head.fields in
    let few : length (take n c.args.out.now) ≡ n = length-take-le n c.args.out.now (omega (arith, kind.few)) in
    rw (p.1, p.2) (λ t d. stuck_at _ _ t _ _ c.kinds_of.ensures (start_stuck _ _ _ _ _ _ _ few kind c.in_err-rest.ensures t d))

pub returns : goal.returns
returns c =
    let kind = c.in_ok-head.ensures in
    let n = c.in_ok-head.head.fields in
    let few : length (take n c.args.out.now) ≡ n = length-take-le n c.args.out.now (omega (arith, kind.few)) in
    let long : length c.read_fields.new.out ≡ n = c.read_fields.auto.out ∙ few in
    rw (take_at c.read_fields.new.out _ n long)
    (start_at _ _ _ _ _ _ c.kinds_of.ensures
    (start_read _ _ _ n _ _ (map (λ d. d.now) c.read_fields.new.out) _ few (length-map c.read_fields.new.out (λ d. d.now) ∙ long) kind c.in_ok-rest.ensures))
