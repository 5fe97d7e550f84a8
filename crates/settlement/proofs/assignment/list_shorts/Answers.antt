use Rattle.std.proofs.Common.{ℕ, get_or, ap, ◌∙◌, map, sym, rules}
use Rattle.std.specs.List.{range_with_len}
use Rattle.positions.specs.declared.cell.Cell.{Cell}
use Rattle.positions.specs.Cells.{no_cell}
use Rattle.settlement.proofs.Filling.{map_places, made_all}
use Rattle.settlement.proofs.assignment.list_shorts.Goals as goal

pub returns : goal.returns
returns c =
    let cells = c.args.cells.now in
    let h : ℕ → ℕ = λ i. (get_or cells i no_cell).shorts in
    made_all _ h _ (λ k x q w. search rules) _ 32 0 c.from_fn.ensures.items
    ∙ ap (λ n. map h (range_with_len 0 n)) (sym c.told-cells) ∙ map_places (λ (x : Cell). x.shorts) cells no_cell 0
