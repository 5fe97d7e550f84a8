-- One account in the assignment of a series.
use Rattle.std.specs.Prelude.{ℕ, ◌-◌, ◌*◌, ◌/◌, min, Bool, cond}
use Rattle.positions.specs.declared.cell.Cell.{Cell}
use Rattle.positions.specs.declared.kinds.Right.{Right}
use Rattle.positions.specs.declared.kinds.Right.TheVariants.{Call, Put}
use Rattle.positions.specs.Cells.{with_sides}

-- how many of the assigned contracts the shares lodged cover: of calls as many as there are the shares for, of puts none
abbrev pub covering : Right → ℕ → ℕ → ℕ → ℕ
covering Call size shares assigned = min assigned (shares / size)
covering Put size shares assigned = 0

-- the shares lodged, less those that the covered contracts deliver
abbrev pub shares_after : Right → ℕ → ℕ → ℕ → ℕ
shares_after right size shares assigned = shares - covering right size shares assigned * size

-- what is due is exercised, and so many of the shorts are assigned
abbrev pub settled : Cell → ℕ → ℕ → Cell
settled c assigned covered = record { longs = c.longs - c.due; shorts = c.shorts - assigned; denied = c.denied; due = 0; exercised = c.due; assigned = assigned; covered = covered }

-- no longs and shorts are left
abbrev pub lapsed : Cell → Cell
lapsed c = with_sides c 0 0

-- a series that expires lapses
abbrev pub at_end : Bool → Cell → Cell
at_end lapses c = cond lapses (lapsed c) c
