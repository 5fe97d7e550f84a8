-- Number and result of each cause for which nothing is assigned.
use Rattle.draws.specs.declared.Reply.{Reply}
use Rattle.allocation.specs.declared.Unassigned.{Unassigned}
use Rattle.allocation.specs.declared.Unassigned.TheVariants.{DrawsShort}

-- want of draws gives the draws needed; every other cause lies outside a range
abbrev pub reply_of : Unassigned → Reply
reply_of (DrawsShort needed) = record { number = 16; result = needed }
reply_of _ = record { number = 3; result = 0 }
