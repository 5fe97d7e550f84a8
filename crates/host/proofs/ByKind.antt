-- Lines of the same kind with the same numbers ask for the same.
use Rattle.std.proofs.Common.{◌≡◌, ℕ, eqb, cond, List, slice_index, sym, refl, ap, ◌∙◌}
use Rattle.lines.specs.declared.line.Line.{Line}
use Rattle.lines.specs.declared.line.Line.TheVariants as line
use Rattle.lines.specs.Parts.{kind_of, numbers_of}
use Rattle.register.specs.declared.calls.InputCall.{InputCall}
use Rattle.register.specs.declared.calls.InputCall.TheVariants.{AddAccount, ListSeries, BookTrade, TransferTrade, GiveUpLeg, TakeUpLeg, TransferPosition}
use Rattle.register.specs.declared.calls.ExerciseCall.{ExerciseCall}
use Rattle.register.specs.declared.calls.ExerciseCall.TheVariants.{RequestExercise, RejectRequest, SetCriterion, DenyExercise, FixPrice, LodgeShares, WithdrawShares, CloseTrading}
use Rattle.register.specs.declared.calls.Call.TheVariants.{Open, OfInput, OfExercise, CutOff, Assign, GiveStatement, BeginDay}
use Rattle.host.specs.declared.instruction.Instruction.{Instruction}
use Rattle.host.specs.declared.instruction.Instruction.TheVariants.{OfBook, TapeNumber}
use Rattle.host.specs.Instructions.{instruction_of}

abbrev at : List ℕ → ℕ → ℕ
at n i = slice_index n i

abbrev input : InputCall → Instruction
input c = OfBook (OfInput c)

abbrev exercise : ExerciseCall → Instruction
exercise c = OfBook (OfExercise c)

-- what a line of kind k with the numbers n asks for
abbrev instruction_by : ℕ → List ℕ → Instruction
instruction_by k n =
    cond (eqb k 10) (OfBook (Open (record { number = at n 0; day = at n 1; size = at n 2; block = at n 3 })))
    (cond (eqb k 11) (input (AddAccount (at n 0) (at n 1)))
    (cond (eqb k 12) (input (ListSeries (at n 0) (at n 1) (at n 2)))
    (cond (eqb k 13) (input (BookTrade (record { series = at n 0; buyer = at n 1; buyer_effect = at n 2; seller = at n 3; seller_effect = at n 4; quantity = at n 5; price = at n 6 })))
    (cond (eqb k 15) (input (TransferTrade (at n 0) (at n 1)))
    (cond (eqb k 16) (input (GiveUpLeg (at n 0) (at n 1)))
    (cond (eqb k 17) (input (TakeUpLeg (at n 0) (at n 1) (at n 2)))
    (cond (eqb k 19) (input (TransferPosition (record { from = at n 0; to = at n 1; series = at n 2; side = at n 3; quantity = at n 4 })))
    (cond (eqb k 20) (exercise (RequestExercise (at n 0) (at n 1) (at n 2)))
    (cond (eqb k 21) (exercise (RejectRequest (at n 0)))
    (cond (eqb k 22) (exercise (SetCriterion (at n 0) (at n 1) (at n 2) (at n 3)))
    (cond (eqb k 23) (exercise (DenyExercise (at n 0) (at n 1) (at n 2)))
    (cond (eqb k 24) (exercise (FixPrice (at n 0)))
    (cond (eqb k 25) (exercise (LodgeShares (at n 0) (at n 1)))
    (cond (eqb k 26) (exercise (WithdrawShares (at n 0) (at n 1)))
    (cond (eqb k 27) (exercise CloseTrading)
    (cond (eqb k 28) (OfBook CutOff)
    (cond (eqb k 30) (OfBook Assign)
    (cond (eqb k 31) (OfBook GiveStatement)
    (cond (eqb k 32) (OfBook (BeginDay (at n 0)))
    (TapeNumber (at n 0)))))))))))))))))))))

by_kind : (l : Line) → instruction_by (kind_of l) (numbers_of l) ≡ instruction_of l
by_kind (line.Open book day size block) = refl
by_kind (line.Account participant account_type) = refl
by_kind (line.Series right strike expiry) = refl
by_kind (line.Trade series buyer buyer_effect seller seller_effect quantity price) = refl
by_kind (line.TradeTransfer leg account) = refl
by_kind (line.GiveUp leg participant) = refl
by_kind (line.TakeUp leg answer account) = refl
by_kind (line.PositionTransfer from to series side quantity) = refl
by_kind (line.Request account series quantity) = refl
by_kind (line.Reject request) = refl
by_kind (line.Criterion account right form limit) = refl
by_kind (line.Denial account series quantity) = refl
by_kind (line.FixingPrice price) = refl
by_kind (line.Lodge account shares) = refl
by_kind (line.Withdraw account shares) = refl
by_kind line.CloseTrading = refl
by_kind line.Cut = refl
by_kind (line.TapeNumber number) = refl
by_kind line.Assignment = refl
by_kind line.Statement = refl
by_kind (line.NextDay day) = refl

pub same_instruction : (l m : Line) → kind_of m ≡ kind_of l → numbers_of m ≡ numbers_of l → instruction_of l ≡ instruction_of m
same_instruction l m k n = sym (by_kind l) ∙ ap (λ x. instruction_by x (numbers_of l)) (sym k) ∙ ap (instruction_by (kind_of m)) (sym n) ∙ by_kind m
