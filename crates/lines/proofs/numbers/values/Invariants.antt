use Rattle.std.proofs.Common.{◌≡◌, map, take}
use Rattle.std.specs.Str.Parse.{digits_value}
use Rattle.std.specs.List.{AllByRecursion}
use Rattle.lines.specs.Kinds.{IsNumber}
use Rattle.lines.specs.Lists.{nine, list_of}
use Rattle.lines.proofs.numbers.values.Given as goal

abbrev pub invariant-loop-f : goal.invariant-loop-f
invariant-loop-f l = AllByRecursion (λ f. IsNumber 8 f.now) (take l.f-index l.fields) × (list_of l.numbers ≡ nine (map (λ f. digits_value 10 f.now) (take l.f-index l.fields)))
