use Rattle.std.proofs.Common.{rules}
use Rattle.book.proofs.PassLaws.{handed_back}
use Rattle.register.proofs.performing.under_input.Goals as goal

pub returns-in-Err-clause-reply : goal.returns-in-Err-clause-reply
returns-in-Err-clause-reply g c = let h = handed_back _ _ _ _ _ c.in-Err.ensures.reply in search rules

pub returns-in-Err-clause-pass : goal.returns-in-Err-clause-pass
returns-in-Err-clause-pass g c = let h = handed_back _ _ _ _ _ c.in-Err.ensures.reply in search rules
