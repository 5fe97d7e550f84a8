use Rattle.std.proofs.Common.{◌≡◌, ◌+◌, ◌/◌, ◌%◌, [], ◌∷◌, ◌++◌, decimal, sym, ap, ◌∙◌, arith}
use Rattle.std.proofs.lemmas.Fmt.{decimal_digit, decimal_step}
use Rattle.lines.specs.Texts.{text_of, cut}
use Rattle.lines.proofs.Cuts.{cut_more}
use Rattle.lines.proofs.text.Text.+push_digits.Goals as goal
use Rattle.lines.proofs.text.Text.+push_digits.Goals.{then-n-ge10, else-n-ge10}

pub returns : goal.returns
returns t c =
    let n = c.args.n in
    let old = text_of c.args.self.now in
    elim c.if-n-ge10.branch [
      | then-n-ge10 w ↦
          let before : text_of c.if-n-ge10.self ≡ cut (old ++ decimal (n / 10)) = ap text_of w.self-is ∙ w.push_digits.ensures in
          cut_more 170 _ _ old (decimal (n / 10)) ((48 + n % 10) ∷ []) before c.push.ensures ∙ ap (λ d. cut (old ++ d)) (sym (decimal_step n (omega arith) (omega arith)))
      | else-n-ge10 w ↦
          let digit : decimal n ≡ (48 + n % 10) ∷ [] = decimal_digit n (omega arith) ∙ ap (λ d. (48 + d) ∷ []) (omega arith) in
          c.push.ensures ∙ ap (λ s. cut (text_of s ++ ((48 + n % 10) ∷ []))) w.self-is ∙ ap (λ d. cut (old ++ d)) (sym digit)
    ]
