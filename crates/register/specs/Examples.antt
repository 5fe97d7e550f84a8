-- Worked examples.
use Rattle.std.specs.Prelude.{◌≡◌, true, false, List, [], ◌∷◌, Ok}
use Rattle.draws.specs.Sources.{tape}
use Rattle.allocation.specs.Laws as allocation
use Rattle.positions.specs.declared.cell.Cell.{Cell}
use Rattle.positions.specs.declared.criterion.Criterion.TheVariants.{Percent}
use Rattle.positions.specs.declared.kinds.Right.TheVariants.{Call}
use Rattle.positions.specs.declared.kinds.Side.TheVariants.{Buy}
use Rattle.positions.specs.declared.kinds.Effect.TheVariants.{Closing}
use Rattle.positions.specs.Cells.{booked, with_due}
use Rattle.positions.specs.Criteria.{meets}
use Rattle.settlement.specs.Laws as settlement
use Rattle.ledger.specs.declared.state.State.{State}
use Rattle.ledger.specs.Tables.{cell_at}
use Rattle.book.specs.declared.pass.Pass.TheVariants.{ForInput, ForCut}
use Rattle.register.specs.declared.calls.Call.{Call as Calls}
use Rattle.register.specs.declared.calls.Call.TheVariants.{OfInput, OfExercise, CutOff, Assign}
use Rattle.register.specs.declared.calls.InputCall.TheVariants.{AddAccount, ListSeries, BookTrade}
use Rattle.register.specs.declared.calls.ExerciseCall.TheVariants.{FixPrice}
use Rattle.register.specs.Register.{After, answer}
use Rattle.ledger.specs.Tables.{opening}

-- a book that is open: number 7, day 100, size 500, block 3; a house account and an omnibus account; a call of strike
-- 50,000 that expires on day 100; the first buys 4 of the second; fixing price 52,000
abbrev pub after_calls : State → List Calls → State
after_calls s [] = s
after_calls s (c ∷ cs) = after_calls (answer s (tape [] 0) 0 (ForInput (record { number = 7; day = 100 })) c).state cs

abbrev pub session : State
session = after_calls (opening (record { number = 7; day = 100; size = 500; block = 3 }))
    (OfInput (AddAccount 11 1)
    ∷ OfInput (AddAccount 12 4)
    ∷ OfInput (ListSeries 1 50_000 100)
    ∷ OfInput (BookTrade (record { series = 1; buyer = 1; buyer_effect = 1; seller = 2; seller_effect = 1; quantity = 4; price = 1_200 }))
    ∷ OfExercise (FixPrice 52_000)
    ∷ CutOff
    ∷ [])

-- its assignment with the tape 2, 7
abbrev pub assigned_session : After
assigned_session = answer session (tape (2 ∷ 7 ∷ []) 0) 0 (ForCut (record { number = 7; day = 100 })) Assign

pub record Examples : Type 0 where
  -- 4 exercised against an omnibus short, block 3: two draws
  pub draws : assigned_session.reply ≡ Ok 2
  pub holder : (cell_at assigned_session.state 1 1).exercised ≡ 4
  pub writer : (cell_at assigned_session.state 2 1).assigned ≡ 4
  -- shorts 5 and 4, exercised 7, block 3, answers 8, 4, 2: assigned 3 and 4
  pub three_draws : allocation.Worked
  -- strike 50,000, form 1, value 150: a difference of 750 meets, 749 does not
  pub met : meets (Percent 150) Call 50_000 50_750 ≡ true
  pub not_met : meets (Percent 150) Call 50_000 50_749 ≡ false
  -- shorts 4, closing buy of 10: shorts 0, longs 6
  pub closing : (c : Cell) → c.longs ≡ 0 → c.shorts ≡ 4 → ((booked c Buy Closing 10).shorts ≡ 0) × ((booked c Buy Closing 10).longs ≡ 6)
  -- longs 9, denied 2, requested 1, criterion met: due 8
  pub denied : (c : Cell) → c.longs ≡ 9 → c.denied ≡ 2 → (with_due c 1 true).due ≡ 8
  -- longs 5, requested 9, not expiring: due 5
  pub requested : (c : Cell) → c.longs ≡ 5 → (with_due c 9 false).due ≡ 5
  -- size 500, collateral 1,200, 4 calls assigned: covered 2, collateral 200
  pub covered : settlement.Worked
  -- nothing exercised, whatever the source has: accepted, with 0 draws
  pub nothing : allocation.NothingExercised
