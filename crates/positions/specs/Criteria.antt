-- When an expiring series is exercised without a request.
use Rattle.std.specs.Prelude.{ℕ, ◌*◌, Bool, cond, ℤ, pos, ◌-ℤ◌, ◌*ℤ◌, int_le, ◌==◌}
use Rattle.positions.specs.declared.kinds.Right.{Right}
use Rattle.positions.specs.declared.kinds.Right.TheVariants.{Call, Put}
use Rattle.positions.specs.declared.criterion.Criterion.{Criterion}
use Rattle.positions.specs.declared.criterion.Criterion.TheVariants.{Percent, Amount}

-- the difference: fixing price less strike for a call, the reverse for a put
abbrev pub difference : Right → ℕ → ℕ → ℤ
difference Call strike price = pos price -ℤ pos strike
difference Put strike price = pos strike -ℤ pos price

-- it reaches so many hundredths of a percent of the strike, or so large an amount; below 0 it reaches neither
abbrev pub reaches : Criterion → ℕ → ℤ → Bool
reaches (Percent value) strike d = int_le (pos (value * strike)) (d *ℤ pos 10_000)
reaches (Amount value) strike d = int_le (pos value) d

abbrev pub meets : Criterion → Right → ℕ → ℕ → Bool
meets c right strike price = reaches c strike (difference right strike price)

-- form 1 is hundredths of a percent, form 2 an amount
abbrev pub criterion_of_form : ℕ → ℕ → Criterion
criterion_of_form form value = cond (form == 1) (Percent value) (Amount value)
