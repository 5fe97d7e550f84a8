-- The codes of an archive line, and what they stand for.
use Rattle.std.specs.Prelude.{ℕ, Bool, true, false, cond, ◌&&◌, ◌==◌, nat_le, Result, Ok, Err}
use Rattle.positions.specs.declared.kinds.Right.{Right}
use Rattle.positions.specs.declared.kinds.Right.TheVariants.{Call, Put}
use Rattle.positions.specs.declared.kinds.Side.{Side}
use Rattle.positions.specs.declared.kinds.Side.TheVariants.{Buy, Sell}
use Rattle.positions.specs.declared.kinds.Effect.{Effect}
use Rattle.positions.specs.declared.kinds.Effect.TheVariants.{Opening, Closing}
use Rattle.positions.specs.declared.kinds.AccountType.{AccountType}
use Rattle.positions.specs.declared.kinds.AccountType.TheVariants.{House, MarketMaker, IndividualClient, OmnibusClient}
use Rattle.positions.specs.declared.kinds.NoCode.{NoCode}

-- 1 is a call, 2 a put
abbrev pub right_of_code : ℕ → Right
right_of_code n = cond (n == 1) Call Put

-- 1 is a buy (longs), 2 a sale (shorts)
abbrev pub side_of_code : ℕ → Side
side_of_code n = cond (n == 1) Buy Sell

-- 1 opens, 2 closes
abbrev pub effect_of_code : ℕ → Effect
effect_of_code n = cond (n == 1) Opening Closing

-- 1 House, 2 Market Maker, 3 Individual Client, 4 Omnibus Client
abbrev pub type_of_code : ℕ → AccountType
type_of_code n = cond (n == 1) House (cond (n == 2) MarketMaker (cond (n == 3) IndividualClient OmnibusClient))

-- what a code from 1 to the last one stands for; any other number is an error, and is its value
abbrev pub decoded : {K : Type 0} → ℕ → (ℕ → K) → ℕ → Result K NoCode
decoded last of_code n = cond (nat_le 1 n && nat_le n last) (Ok (of_code n)) (Err (record { 0 = n }))

-- an omnibus account is gross, the others are net
abbrev pub is_net : AccountType → Bool
is_net House = true
is_net MarketMaker = true
is_net IndividualClient = true
is_net OmnibusClient = false

abbrev pub same_right : Right → Right → Bool
same_right Call Call = true
same_right Call Put = false
same_right Put Call = false
same_right Put Put = true
