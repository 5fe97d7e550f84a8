-- The theorems hold however the call returns.
use Rattle.allocation.proofs.Laws.{always_settled, rests_on_answers, worked, nothing_exercised}
use Rattle.allocation.proofs.allocate.Goals as goal

pub returns-in_err-used-clause-settled : goal.returns-in_err-used-clause-settled
returns-in_err-used-clause-settled g c = always_settled

pub returns-in_err-used-clause-rests : goal.returns-in_err-used-clause-rests
returns-in_err-used-clause-rests g c = rests_on_answers

pub returns-in_err-used-clause-worked : goal.returns-in_err-used-clause-worked
returns-in_err-used-clause-worked g c = worked

pub returns-in_err-used-clause-nothing : goal.returns-in_err-used-clause-nothing
returns-in_err-used-clause-nothing g c = nothing_exercised

pub returns-clause-settled : goal.returns-clause-settled
returns-clause-settled g c = always_settled

pub returns-clause-rests : goal.returns-clause-rests
returns-clause-rests g c = rests_on_answers

pub returns-clause-worked : goal.returns-clause-worked
returns-clause-worked g c = worked

pub returns-clause-nothing : goal.returns-clause-nothing
returns-clause-nothing g c = nothing_exercised
