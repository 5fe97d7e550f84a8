-- A read line, as its kind and the texts of its fields.
use Rattle.std.specs.Prelude.{◌≡◌, ℕ, List, [], ◌∷◌, map, take, Some, None, Option, MatchOption}
use Rattle.std.specs.Borrow.{Bor}
use Rattle.std.specs.Str.Parse.{digits_value as value}
use Rattle.lines.specs.Kinds.{arity, kinds}
use Rattle.lines.specs.declared.line.Line.{Line}
use Rattle.lines.specs.declared.line.Line.TheVariants.{Open, Account, Series, Trade, TradeTransfer, GiveUp, TakeUp, PositionTransfer, Request, Reject, Criterion, Denial, FixingPrice, Lodge, Withdraw, CloseTrading, Cut, TapeNumber, Assignment, Statement, NextDay}

abbrev pub kind_of : Line → ℕ
kind_of (Open book day size block) = 10
kind_of (Account participant account_type) = 11
kind_of (Series right strike expiry) = 12
kind_of (Trade series buyer buyer_effect seller seller_effect quantity price) = 13
kind_of (TradeTransfer leg account) = 15
kind_of (GiveUp leg participant) = 16
kind_of (TakeUp leg answer account) = 17
kind_of (PositionTransfer from to series side quantity) = 19
kind_of (Request account series quantity) = 20
kind_of (Reject request) = 21
kind_of (Criterion account right form value) = 22
kind_of (Denial account series quantity) = 23
kind_of (FixingPrice price) = 24
kind_of (Lodge account shares) = 25
kind_of (Withdraw account shares) = 26
kind_of CloseTrading = 27
kind_of Cut = 28
kind_of (TapeNumber number) = 29
kind_of Assignment = 30
kind_of Statement = 31
kind_of (NextDay day) = 32

abbrev pub parts_of : Line → List (List ℕ)
parts_of (Open book day size block) = book.now ∷ day.now ∷ size.now ∷ block.now ∷ []
parts_of (Account participant account_type) = participant.now ∷ account_type.now ∷ []
parts_of (Series right strike expiry) = right.now ∷ strike.now ∷ expiry.now ∷ []
parts_of (Trade series buyer buyer_effect seller seller_effect quantity price) = series.now ∷ buyer.now ∷ buyer_effect.now ∷ seller.now ∷ seller_effect.now ∷ quantity.now ∷ price.now ∷ []
parts_of (TradeTransfer leg account) = leg.now ∷ account.now ∷ []
parts_of (GiveUp leg participant) = leg.now ∷ participant.now ∷ []
parts_of (TakeUp leg answer account) = leg.now ∷ answer.now ∷ account.now ∷ []
parts_of (PositionTransfer from to series side quantity) = from.now ∷ to.now ∷ series.now ∷ side.now ∷ quantity.now ∷ []
parts_of (Request account series quantity) = account.now ∷ series.now ∷ quantity.now ∷ []
parts_of (Reject request) = request.now ∷ []
parts_of (Criterion account right form value) = account.now ∷ right.now ∷ form.now ∷ value.now ∷ []
parts_of (Denial account series quantity) = account.now ∷ series.now ∷ quantity.now ∷ []
parts_of (FixingPrice price) = price.now ∷ []
parts_of (Lodge account shares) = account.now ∷ shares.now ∷ []
parts_of (Withdraw account shares) = account.now ∷ shares.now ∷ []
parts_of CloseTrading = []
parts_of Cut = []
parts_of (TapeNumber number) = number.now ∷ []
parts_of Assignment = []
parts_of Statement = []
parts_of (NextDay day) = day.now ∷ []

-- o is the input line of kind k with its fields from the front of fs, or none where no input line has that kind
abbrev pub Made : ℕ → List (Bor (List ℕ)) → Option Line → Type 0
Made k fs o = MatchOption o (arity kinds k ≡ None) (λ l. (kind_of l ≡ k) × ((n : ℕ) → arity kinds k ≡ Some n → parts_of l ≡ map (λ d. d.now) (take n fs)))

-- the numbers of a read line
abbrev pub numbers_of : Line → List ℕ
numbers_of l = map (value 10) (parts_of l)

-- what a filled line has before its answer: with no line, kind 99 without fields
abbrev pub kind_in : Option Line → ℕ
kind_in None = 99
kind_in (Some l) = kind_of l

abbrev pub parts_in : Option Line → List (List ℕ)
parts_in None = []
parts_in (Some l) = parts_of l

abbrev pub numbers_in : Option Line → List ℕ
numbers_in o = map (value 10) (parts_in o)
