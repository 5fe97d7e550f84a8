-- What a draw replies, and what it leaves.
use Rattle.std.specs.Prelude.{ℕ, cond, [], Ok, Err, Result, ◌==◌}
use Rattle.draws.specs.declared.Reply.{Reply}
use Rattle.draws.specs.declared.Refusal.{Refusal}
use Rattle.draws.specs.declared.Refusal.TheVariants.{ZeroBound, NoSupply}
use Rattle.draws.specs.Meaning.{Meaning, behind}

-- the reply number and the result of each refusal
abbrev pub reply_of : Refusal → Reply
reply_of ZeroBound = record { number = 3; result = 0 }
reply_of NoSupply = record { number = 16; result = 1 }

-- the answer, or why there is none
abbrev pub drawn : ℕ → Meaning → Result ℕ Refusal
drawn n m = cond (n == 0) (Err ZeroBound) (cond (m.supply == 0) (Err NoSupply) (Ok (m.answer [] n)))

-- what the source means afterwards: a refused draw changes nothing
abbrev pub after : ℕ → Meaning → Meaning
after n m = cond (n == 0) m (cond (m.supply == 0) m (behind n m))
