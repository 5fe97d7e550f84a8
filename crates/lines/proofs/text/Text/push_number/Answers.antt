use Rattle.std.proofs.Common.{◌≡◌, ◌+◌, ◌/◌, ◌%◌, [], ◌∷◌, ◌++◌, decimal, sym, ap, ◌∙◌, arith}
use Rattle.std.proofs.lemmas.Fmt.{decimal_digit, decimal_step}
use Rattle.lines.specs.Texts.{text_of, cut}
use Rattle.lines.proofs.text.Text.push_number.Goals as goal

pub returns-then-n-lt10 : goal.returns-then-n-lt10
returns-then-n-lt10 c = c.push.ensures ∙ ap (λ d. cut (text_of c.args.self.now ++ d)) (sym (decimal_digit c.args.n (omega arith)))

pub returns-then-n-lt100 : goal.returns-then-n-lt100
returns-then-n-lt100 c =
    let n = c.args.n in
    let two : decimal n ≡ (48 + n / 10) ∷ (48 + n % 10) ∷ [] = decimal_step n (omega arith) (omega arith) ∙ ap (λ d. d ++ ((48 + n % 10) ∷ [])) (decimal_digit (n / 10) (omega arith)) in
    c.push_all.ensures ∙ ap (λ d. cut (text_of c.args.self.now ++ d)) (sym two)
