use Rattle.std.proofs.Common.{◌≡◌, ℕ, List, [], map, take, sym, ap, ◌∙◌, arith, Bor}
use Rattle.std.specs.Str.Parse.{digits_value}
use Rattle.std.proofs.ByRecursion.{All-get_or, All-more, All-map}
use Rattle.std.proofs.lemmas.List.{take_all}
use Rattle.lines.specs.Kinds.{IsNumber}
use Rattle.lines.specs.Lists.{nine}
use Rattle.lines.proofs.Maps.{all_of_map, map_map}
use Rattle.lines.proofs.Cuts.{map_next}
use Rattle.lines.proofs.numbers.values.Goals as goal

pub returns-in_err-number : goal.returns-in_err-number
returns-in_err-number c =
    let d : Bor (List ℕ) = record { ref_ptr = (0, 0); now = [] } in
    rw c.from_residual.ensures
    (λ h. c.in_err-number.ensures (All-get_or (λ f. IsNumber 8 f.now) c.args.fields.now c.loop-f.f-index d (omega arith) (all_of_map (IsNumber 8) (λ f. f.now) c.args.fields.now h)))

pub loop-f-preserved : goal.loop-f-preserved
loop-f-preserved c =
    let d : Bor (List ℕ) = record { ref_ptr = (0, 0); now = [] } in
    let fs = c.args.fields.now in
    let i = c.loop-f.f-index in
    let read = c.in_ok-number.ensures in
    (All-more (λ f. IsNumber 8 f.now) fs i d (omega arith) c.loop-f.invariant.0 read.0, map_next 9 (λ f. digits_value 10 f.now) _ _ c.in_ok-number.field-0 fs i d (omega arith) c.loop-f.invariant.1 read.1 c.push.ensures)

pub returns : goal.returns
returns c =
    let fs = c.args.fields.now in
    let i = c.loop-f.f-index in
    let all : take i fs ≡ fs = take_all i fs (omega arith) in
    (All-map (IsNumber 8) (λ f. f.now) fs (rw all at c.loop-f.invariant.0), c.loop-f.invariant.1 ∙ ap (λ l. nine (map (λ f. digits_value 10 f.now) l)) all ∙ ap nine (sym (map_map (digits_value 10) (λ f. f.now) fs)))
