use Rattle.std.proofs.Common.{Result, ℕ, length, sym, ap, ◌∙◌, subst}
use Rattle.draws.specs.Replies.{replied}
use Rattle.ledger.specs.declared.refusal.Refusal.{Refusal}
use Rattle.ledger.specs.declared.state.State.{State}
use Rattle.ledger.specs.Replies.{reply_of}
use Rattle.register.specs.Register.{answer, Brief}
use Rattle.ledger.proofs.FactLaws.{facts}
use Rattle.register.proofs.BriefLaws.{answer_brief}
use Rattle.register.proofs.FitLaws.{answer_fits}
use Rattle.register.proofs.Worked.{examples}
use Rattle.register.proofs.WholeLaw.{law}
use Rattle.register.proofs.performing.perform.Goals as goal

pub returns : goal.returns
returns g c =
    let m = g.S.Draws.meaning c.args.source.now in
    let p = c.args.pass in
    let q = c.args.call.now in
    let n = length c.args.lines.now in
    let e = c.dispatch.ensures in
    let s = c.args.book.now.state in
    let P : Result ℕ Refusal → Type 0 = λ a. Brief (replied reply_of a) in
    let number = ap (λ (a : Result ℕ Refusal). replied reply_of a) e.reply in
    record {
      reply = e.reply;
      number = number;
      pass = e.pass;
      book = e.book;
      source = e.source;
      lines = e.lines;
      register = λ o r l. record {
        replies = (
          record {
            reply = number ∙ ap (λ (s : State). replied reply_of (answer s m n p q).reply) l.shows;
            after = e.source ∙ ap (λ (s : State). (answer s m n p q).source) l.shows;
            lines = ap (λ (s : State). (answer s m n p q).lines) l.shows;
            below = g.S.Draws.below c.args.source.now;
          },
          l.replies,
        );
        shows = e.book ∙ ap (λ (s : State). (answer s m n p q).state) l.shows;
      };
      brief = subst P (sym e.reply) (answer_brief s (facts s c.args.book.now.sound) m n p q);
      fits = answer_fits s (facts s c.args.book.now.sound) m n p q;
      law = law;
      examples = examples;
    }
