-- Number and result of an answer, as a line of the archive has them.
use Rattle.std.specs.Prelude.{ℕ, Bool, Ok, Err, Result, ◌==◌}
use Rattle.draws.specs.declared.Reply.{Reply}

-- an accepted call: number 0, and the result that it gives
abbrev pub accepted : ℕ → Reply
accepted result = record { number = 0; result = result }

abbrev pub is_accepted : Reply → Bool
is_accepted r = r.number == 0

-- the reply of an answer, by the replies of its refusals
abbrev pub replied : {R : Type 0} → (R → Reply) → Result ℕ R → Reply
replied reply_of (Ok result) = accepted result
replied reply_of (Err refusal) = reply_of refusal
