use Rattle.std.proofs.Common.{◌≡◌, ℕ, ◌≤◌, List, get_or, None, sum, sym, refl, ap, ◌∙◌, subst, arith}
use Rattle.draws.specs.Meaning.{behind_all}
use Rattle.allocation.specs.Assigned.{draws_needed, bounds}
use Rattle.allocation.specs.Allocation.{refusal}
use Rattle.positions.specs.Cells.{no_cell}
use Rattle.settlement.specs.Assignment.{total_due, shorts_of, draws_for}
use Rattle.settlement.proofs.Allocated.{due_few, sum_shorts, allocated, assigned_within, handed_out}
use Rattle.settlement.proofs.AssignmentLaws.{series_settled, series_same}
use Rattle.settlement.proofs.NothingDue.{none_cells, none_collateral, none_source}
use Rattle.settlement.proofs.assignment.assign_series.Goals as goal

pub total_exercised-exercised-requires : goal.total_exercised-exercised-requires
total_exercised-exercised-requires g c = due_few _ _ _ _ c.requires

none_due : (g : _) (c : goal.After-settle_none g) → total_due c.args.cells.now ≡ 0
none_due g c = sym c.total_exercised-exercised.ensures ∙ c.if-exercised-eq0.true

pub returns-then-exercised-eq0-clause-cells : goal.returns-then-exercised-eq0-clause-cells
returns-then-exercised-eq0-clause-cells g c = c.settle_none.ensures ∙ none_cells _ _ _ _ _ _ _ c.requires (none_due g c)

pub returns-then-exercised-eq0-clause-collateral : goal.returns-then-exercised-eq0-clause-collateral
returns-then-exercised-eq0-clause-collateral g c = none_collateral _ _ _ _ _ _ c.args.terms.now.lapses c.requires (none_due g c) (omega (arith, c.told-collateral, c.told-cells))

pub returns-then-exercised-eq0-clause-source : goal.returns-then-exercised-eq0-clause-source
returns-then-exercised-eq0-clause-source g c = none_source _ _ c.args.collateral.now c.args.terms.now.right _ _ c.args.terms.now.lapses c.requires (none_due g c)

pub hand_out-used-requires : goal.hand_out-used-requires
hand_out-used-requires g c =
    let m = g.S.Draws.meaning c.args.source.now in
    let block = c.args.terms.now.block in
    subst (λ (xs : List ℕ). refusal m xs c.total_exercised-exercised.result block 32 ≡ None) (sym c.list_shorts-shorts.ensures)
    (subst (λ (e : ℕ). refusal m (shorts_of c.args.cells.now) e block 32 ≡ None) (sym c.total_exercised-exercised.ensures)
    (allocated m c.args.cells.now c.args.terms.now.size block c.requires 32 refl))

pub settle_all-requires-clause-within : goal.settle_all-requires-clause-within
settle_all-requires-clause-within g c =
    let m = g.S.Draws.meaning c.args.source.now in
    let cells = c.args.cells.now in
    let block = c.args.terms.now.block in
    let given = handed_out m cells block _ _ _ c.hand_out-used.ensures.shares c.total_exercised-exercised.ensures c.list_shorts-shorts.ensures in
    subst (λ (xs : List ℕ). (j : ℕ) → get_or xs j 0 ≤ (get_or cells j no_cell).shorts) (sym given) (assigned_within m cells c.args.terms.now.size block c.requires (g.S.Draws.below c.args.source.now))

pub returns-clause-source : goal.returns-clause-source
returns-clause-source g c =
    let m = g.S.Draws.meaning c.args.source.now in
    let cells = c.args.cells.now in
    let block = c.args.terms.now.block in
    c.hand_out-used.ensures.drawn
    ∙ ap (λ (e : ℕ). behind_all (bounds (draws_needed e block) (sum c.list_shorts-shorts.result) block) m) c.total_exercised-exercised.ensures
    ∙ ap (λ (n : ℕ). behind_all (bounds (draws_for cells block) n block) m) (ap sum c.list_shorts-shorts.ensures ∙ sum_shorts cells)

-- the theorems hold however the call returns
pub returns-then-exercised-eq0-clause-settles : goal.returns-then-exercised-eq0-clause-settles
returns-then-exercised-eq0-clause-settles g c = series_settled

pub returns-then-exercised-eq0-clause-rests : goal.returns-then-exercised-eq0-clause-rests
returns-then-exercised-eq0-clause-rests g c = series_same

pub returns-clause-settles : goal.returns-clause-settles
returns-clause-settles g c = series_settled

pub returns-clause-rests : goal.returns-clause-rests
returns-clause-rests g c = series_same
