-- One number for a list.
use Rattle.std.specs.Prelude.{ℕ, ◌+◌, ◌*◌, ◌%◌, ◌^◌, List, fold}

abbrev pub digest : List ℕ → ℕ
digest xs = fold (λ a x. ((a * 31) % 2 ^ 64 + x) % 2 ^ 64) 0 xs
