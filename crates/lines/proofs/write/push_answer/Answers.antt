use Rattle.std.proofs.Common.{◌≡◌, [], ◌∷◌, ◌++◌, decimal, ap, ◌∙◌, append_assoc}
use Rattle.lines.specs.Lines.{answer_text}
use Rattle.lines.specs.Texts.{text_of, cut}
use Rattle.lines.proofs.Cuts.{cut_more}
use Rattle.lines.proofs.write.push_answer.Goals as goal

pub returns : goal.returns
returns c =
    let a = decimal c.args.reply.number in
    let b = decimal c.args.reply.result in
    let old = text_of c.args.text.now in
    let mark = 32 ∷ 58 ∷ 32 ∷ [] in
    let first = rw c.from.ensures at c.push_number.ensures in
    let second = rw c.from-2.ensures at c.push_number-2.ensures in
    let colon = cut_more 170 _ _ old (32 ∷ []) (58 ∷ []) c.push.ensures c.push-2.ensures in
    let opened = cut_more 170 _ _ old (32 ∷ 58 ∷ []) (32 ∷ []) colon c.push-3.ensures in
    let reply = cut_more 170 _ _ old mark a opened first in
    let blank = cut_more 170 _ _ old (mark ++ a) (32 ∷ []) reply c.push-4.ensures in
    let result = cut_more 170 _ _ old ((mark ++ a) ++ (32 ∷ [])) b blank second in
    let all = cut_more 170 _ _ old (((mark ++ a) ++ (32 ∷ [])) ++ b) (10 ∷ []) result c.push-5.ensures in
    let same : (((mark ++ a) ++ (32 ∷ [])) ++ b) ++ (10 ∷ []) ≡ answer_text c.args.reply.number c.args.reply.result = simp append_assoc in
    all ∙ ap (λ t. cut (old ++ t)) same
