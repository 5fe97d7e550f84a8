use Rattle.std.proofs.Common.{◌≡◌, ◌+◌, ◌-◌, [], ◌∷◌, ◌++◌, map, length, take, set, ap, ◌∙◌, arith}
use Rattle.std.proofs.lemmas.Result.{err_from_is_err_and}
use Rattle.std.proofs.lemmas.List.{take_more_set, map_push}
use Rattle.lines.proofs.Steps.{fields_more, fields_stuck}
use Rattle.lines.proofs.scan.Width.read_fields.Goals as goal

pub returns-in_err-place : goal.returns-in_err-place
returns-in_err-place c =
    let p = err_from_is_err_and c.from_residual.result c.from_residual.ensures.1 in
    rw (p.1, p.2) (fields_stuck _ _ (length c.args.out.now - (c.loop-place.place-index + 1)) _ _ _ _ _ (omega arith) c.loop-place.invariant c.in_err-place.ensures)

pub loop-place-preserved : goal.loop-place-preserved
loop-place-preserved c =
    let i = c.loop-place.place-index in
    let ds = c.in_ok-place.field-0-0 in
    let e : map (λ d. d.now) (take (i + 1) (set c.loop-place.out i ds)) ≡ map (λ d. d.now) (take i c.loop-place.out) ++ (ds.now ∷ []) =
    ap (map (λ d. d.now)) (take_more_set c.loop-place.out i ds (omega arith)) ∙ map_push (λ d. d.now) (take i c.loop-place.out) ds in
    rw e (fields_more _ _ _ _ _ _ _ _ _ (omega arith) c.loop-place.invariant c.in_ok-place.ensures)
