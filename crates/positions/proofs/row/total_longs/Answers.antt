use Rattle.std.proofs.Common.{◌≤◌, length, ◌^◌, rules, arith}
use Rattle.std.proofs.lemmas.Iterator.{YieldsList-from_slice}
use Rattle.std.proofs.lemmas.Iterator.Adapters.{fits_from_length, at_most_from_yields_List}
use Rattle.positions.proofs.row.total_longs.Goals as goal

pub sum-requires-clause-fits : goal.sum-requires-clause-fits
sum-requires-clause-fits c =
    let few : length c.args.cells.now ≤ 32 = omega arith in
    fits_from_length _ _ 32 (2 ^ 64) (at_most_from_yields_List (YieldsList-from_slice c.args.cells.now cc) few) c.map.ensures.closure (omega arith) (λ x r q k. search rules)
