use Rattle.std.proofs.Common.{◌/◌, eqb, rules, tests}
use Rattle.std.proofs.lemmas.Iterator.{YieldsList-from_slice}
use Rattle.std.proofs.lemmas.Iterator.Search.{any_from_yields_List}
use Rattle.lines.proofs.Rows.{leads_any}
use Rattle.lines.proofs.scan.leads.Goals as goal

pub returns : goal.returns
returns c = leads_any _ _ _ (any_from_yields_List (λ r. eqb (r.kind / 10) c.args.tens) _ _ _ c.any.ensures.ran (YieldsList-from_slice c.args.rows.now cc) (λ x b q k. search (rules, tests)))
