-- What an input line asks for.
use Rattle.std.specs.Prelude.{ℕ, List}
use Rattle.std.specs.Borrow.{Bor}
use Rattle.std.specs.Str.Parse.{digits_value}
use Rattle.lines.specs.declared.line.Line.{Line}
use Rattle.lines.specs.declared.line.Line.TheVariants as line
use Rattle.register.specs.declared.calls.InputCall.{InputCall}
use Rattle.register.specs.declared.calls.InputCall.TheVariants.{AddAccount, ListSeries, BookTrade, TransferTrade, GiveUpLeg, TakeUpLeg, TransferPosition}
use Rattle.register.specs.declared.calls.ExerciseCall.{ExerciseCall}
use Rattle.register.specs.declared.calls.ExerciseCall.TheVariants.{RequestExercise, RejectRequest, SetCriterion, DenyExercise, FixPrice, LodgeShares, WithdrawShares, CloseTrading}
use Rattle.register.specs.declared.calls.Call.TheVariants.{Open, OfInput, OfExercise, CutOff, Assign, GiveStatement, BeginDay}
use Rattle.host.specs.declared.instruction.Instruction.{Instruction}
use Rattle.host.specs.declared.instruction.Instruction.TheVariants.{OfBook, TapeNumber}

-- the number that a field writes
abbrev pub value : Bor (List ℕ) → ℕ
value field = digits_value 10 field.now

abbrev of_input : InputCall → Instruction
of_input c = OfBook (OfInput c)

abbrev of_exercise : ExerciseCall → Instruction
of_exercise c = OfBook (OfExercise c)

-- the call of the book that a line asks for, or the tape number that it brings
abbrev pub instruction_of : Line → Instruction
instruction_of (line.Open book day size block) = OfBook (Open (record { number = value book; day = value day; size = value size; block = value block }))
instruction_of (line.Account participant account_type) = of_input (AddAccount (value participant) (value account_type))
instruction_of (line.Series right strike expiry) = of_input (ListSeries (value right) (value strike) (value expiry))
instruction_of (line.Trade series buyer buyer_effect seller seller_effect quantity price) = of_input (BookTrade (record { series = value series; buyer = value buyer; buyer_effect = value buyer_effect; seller = value seller; seller_effect = value seller_effect; quantity = value quantity; price = value price }))
instruction_of (line.TradeTransfer leg account) = of_input (TransferTrade (value leg) (value account))
instruction_of (line.GiveUp leg participant) = of_input (GiveUpLeg (value leg) (value participant))
instruction_of (line.TakeUp leg answer account) = of_input (TakeUpLeg (value leg) (value answer) (value account))
instruction_of (line.PositionTransfer from to series side quantity) = of_input (TransferPosition (record { from = value from; to = value to; series = value series; side = value side; quantity = value quantity }))
instruction_of (line.Request account series quantity) = of_exercise (RequestExercise (value account) (value series) (value quantity))
instruction_of (line.Reject request) = of_exercise (RejectRequest (value request))
instruction_of (line.Criterion account right form limit) = of_exercise (SetCriterion (value account) (value right) (value form) (value limit))
instruction_of (line.Denial account series quantity) = of_exercise (DenyExercise (value account) (value series) (value quantity))
instruction_of (line.FixingPrice price) = of_exercise (FixPrice (value price))
instruction_of (line.Lodge account shares) = of_exercise (LodgeShares (value account) (value shares))
instruction_of (line.Withdraw account shares) = of_exercise (WithdrawShares (value account) (value shares))
instruction_of line.CloseTrading = of_exercise CloseTrading
instruction_of line.Cut = OfBook CutOff
instruction_of (line.TapeNumber number) = TapeNumber (value number)
instruction_of line.Assignment = OfBook Assign
instruction_of line.Statement = OfBook GiveStatement
instruction_of (line.NextDay day) = OfBook (BeginDay (value day))
