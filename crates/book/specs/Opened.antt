-- What an opening answers.
use Rattle.std.specs.Prelude.{Some, None, Ok, Err, Option, Result}
use Rattle.draws.specs.Checks.{first_refusal}
use Rattle.ledger.specs.declared.refusal.Refusal.{Refusal}
use Rattle.ledger.specs.declared.state.Opening.{Opening}
use Rattle.ledger.specs.declared.state.State.{State}
use Rattle.ledger.specs.Tables.{opening}
use Rattle.dealing.specs.Listings.{open_checks}
use Rattle.book.specs.declared.pass.InputPass.{InputPass}
use Rattle.book.specs.declared.book.Book.{Book}

-- the book's state and the pass, where there is a book
abbrev pub opened : Result (Book × InputPass) Refusal → Result (State × InputPass) Refusal
opened (Ok b) = Ok (b.0.state, b.1)
opened (Err r) = Err r

abbrev pub answer_open : Option Refusal → State → InputPass → Result (State × InputPass) Refusal
answer_open None s p = Ok (s, p)
answer_open (Some r) s p = Err r

abbrev pub open_refusal : Opening → Option Refusal
open_refusal o = first_refusal (open_checks o)

-- a new book with an Input pass of its number and day, or a refusal
abbrev pub open_call : Opening → Result (State × InputPass) Refusal
open_call o = answer_open (open_refusal o) (opening o) (record { number = o.number; day = o.day })
