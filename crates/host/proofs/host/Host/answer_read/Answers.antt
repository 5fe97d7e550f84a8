use Rattle.std.proofs.Common.{sym, ap, ◌∙◌, subst}
use Rattle.lines.specs.Texts.{text_of}
use Rattle.register.specs.Register.{Brief}
use Rattle.host.specs.Hosts.{shown, statements_after, Fills}
use Rattle.host.proofs.Answering.{fills_of, read_answers, read_begun}
use Rattle.host.proofs.host.Host.answer_read.Goals as goal

filled : (c : goal.After-statements_after) → Fills (shown c.args.self.now) c.args.read.now (text_of c.fill.new.text) c.statements_after.result (shown c.take-answer.new.self)
filled c =
    fills_of
    (shown c.args.self.now) c.args.read.now c.args.line.now c.instruction_of-instruction.result
    c.reply_of.result (text_of c.fill.new.text) c.statements_after.result (shown c.take-answer.new.self)
    c.requires.is c.instruction_of-instruction.ensures
    (c.reply_of.ensures ∙ c.take-answer.ensures.reply) (subst Brief (sym c.reply_of.ensures) c.take-answer.ensures.brief) c.take-answer.ensures.after
    c.fill.ensures (c.statements_after.ensures ∙ ap (statements_after c.instruction_of-instruction.result) (sym c.reply_of.ensures))

pub returns-clause-whole : goal.returns-clause-whole
returns-clause-whole c = read_answers (shown c.args.self.now) c.args.line.now c.args.read.now _ _ _ c.requires (filled c)

pub returns-clause-begun : goal.returns-clause-begun
returns-clause-begun c = read_begun (shown c.args.self.now) c.args.line.now c.args.read.now _ _ _ c.requires (filled c)
