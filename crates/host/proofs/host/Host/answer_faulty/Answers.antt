use Rattle.host.proofs.Answering.{faulty_answers, faulty_begun}
use Rattle.host.proofs.host.Host.answer_faulty.Goals as goal

pub returns-clause-whole : goal.returns-clause-whole
returns-clause-whole c = faulty_answers _ c.args.line.now c.args.start _ c.requires c.fill_faulty.ensures

pub returns-clause-begun : goal.returns-clause-begun
returns-clause-begun c = faulty_begun _ c.args.line.now c.args.start _ c.requires c.fill_faulty.ensures
