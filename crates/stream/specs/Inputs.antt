-- What a reader has left.
use Rattle.std.specs.Prelude.{ℕ, Bool, List, Option}
use Rattle.stream.specs.declared.input.Input.{Input}

-- what the reader will still give, where that is known, and whether it has failed
pub record In : Type 0 where
  pub left : Option (List ℕ)
  pub failed : Bool

-- left says what a reader will give
abbrev pub in_of : {R : Type 0} → (R → Option (List ℕ)) → Input R → In
in_of left i = record { left = left i.reader; failed = i.failed }
