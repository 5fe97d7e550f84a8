-- The tape numbers that no assignment has read.
use Rattle.std.specs.Prelude.{ℕ, ◌-◌, cond, List, [], ◌∷◌, ◌++◌, length, drop, nat_lt}
use Rattle.draws.specs.declared.Reply.{Reply}
use Rattle.draws.specs.Replies.{accepted}
use Rattle.few.specs.Contents.{contents}
use Rattle.ledger.specs.declared.refusal.Refusal.TheVariants.{Full}
use Rattle.ledger.specs.Replies.{reply_of}
use Rattle.host.specs.declared.unread.Unread.{Unread}

-- there is room for 1,024
abbrev pub unread_of : Unread → List ℕ
unread_of u = contents u.numbers

-- a full list takes no number
abbrev pub number_reply : List ℕ → Reply
number_reply xs = cond (nat_lt (length xs) 1_024) (accepted 0) (reply_of Full)

abbrev pub with_number : List ℕ → ℕ → List ℕ
with_number xs n = cond (nat_lt (length xs) 1_024) (xs ++ (n ∷ [])) xs

-- the last n of xs
abbrev pub last : ℕ → List ℕ → List ℕ
last n xs = drop (length xs - n) xs
