-- What a list of at most N items holds.
use Rattle.std.specs.Prelude.{ℕ, ◌-◌, cond, List, length, take, drop, nat_lt, Ok, Err, Result}
use Rattle.few.specs.declared.Few.{Few}
use Rattle.few.specs.declared.Full.{Full}

-- the items, of which there is room for N
abbrev pub contents : {T : Type 0} {N : ℕ} → Few T N → List T
contents {N} f = take N (take f.count f.items)

-- a full list takes no item
abbrev pub pushed : {T : Type 0} → ℕ → List T → Result (Unit {0}) Full
pushed n xs = cond (nat_lt (length xs) n) (Ok tt) (Err (record {}))

-- the last n of xs
abbrev pub last : {T : Type 0} → ℕ → List T → List T
last n xs = drop (length xs - n) xs
