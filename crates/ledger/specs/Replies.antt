-- The reply number and the result of each refusal.
use Rattle.std.specs.Prelude.{ℕ}
use Rattle.draws.specs.declared.Reply.{Reply}
use Rattle.ledger.specs.declared.refusal.Refusal.{Refusal}
use Rattle.ledger.specs.declared.refusal.Refusal.TheVariants.{PassMisfit, OutOfRange, NoAccount, NoSeries, NoLeg, NoRequest, Expired, TradingClosed, WrongAccount, LegHeld, LegFree, NotExpiring, ListedAlready, NoFixingPrice, DayNotLater, DrawsShort, StatementShort, Full, TooFew, TooMany}

abbrev plain : ℕ → Reply
plain n = record { number = n; result = 0 }

abbrev pub reply_of : Refusal → Reply
reply_of PassMisfit = plain 1
reply_of OutOfRange = plain 3
reply_of NoAccount = plain 4
reply_of NoSeries = plain 5
reply_of NoLeg = plain 6
reply_of NoRequest = plain 6
reply_of Expired = plain 7
reply_of TradingClosed = plain 8
reply_of WrongAccount = plain 9
reply_of LegHeld = plain 10
reply_of LegFree = plain 10
reply_of NotExpiring = plain 12
reply_of ListedAlready = plain 13
reply_of NoFixingPrice = plain 14
reply_of DayNotLater = plain 15
reply_of (DrawsShort needed) = record { number = 16; result = needed }
reply_of (StatementShort needed) = record { number = 17; result = needed }
reply_of Full = plain 18
reply_of TooFew = plain 19
reply_of TooMany = plain 20
