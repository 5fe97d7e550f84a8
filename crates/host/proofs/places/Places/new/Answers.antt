use Rattle.std.proofs.Common.{arith}
use Rattle.std.proofs.lemmas.List.Elements.{All-replicate}
use Rattle.register.specs.Register.{Fits}
use Rattle.host.specs.declared.places.TheConstants.{NO_LINE}
use Rattle.host.proofs.places.Places.new.Goals as goal

pub invariant_of-result : goal.invariant_of-result
invariant_of-result c =
    let fits : Fits NO_LINE = record { series = omega arith; account = omega arith; contracts = omega arith; received = omega arith; delivered = omega arith; paid = omega arith; earned = omega arith; day = omega arith } in
    record { fitting = All-replicate Fits 256 NO_LINE fits }
