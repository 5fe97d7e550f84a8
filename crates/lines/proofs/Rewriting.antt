-- A line read and written again.
use Rattle.std.proofs.Common.{◌≡◌, ℕ, List, [], ◌∷◌, ◌++◌, length, sym, ap, ◌∙◌, arith}
use Rattle.std.proofs.lemmas.List.{length-append, take_all}
use Rattle.lines.specs.Lines.{input_line, filled_line, InputLine, FilledLine}
use Rattle.lines.specs.Parts.{kind_of, numbers_of, kind_in, numbers_in}
use Rattle.lines.specs.Reads.{reply_of, result_of, ReadsInput, ReadsFilled}
use Rattle.lines.specs.Texts.{text_of, cut}
use Rattle.lines.specs.Lists.{list_of, nine}
use Rattle.lines.specs.Rewrites.{Rewrites}
use Rattle.lines.specs.declared.kinds.Sort.TheVariants.{Input, Filled}
use Rattle.lines.specs.declared.again.Rewritten.{Rewritten}
use Rattle.lines.specs.declared.line.Line.{Line}
use Rattle.lines.specs.declared.line.Filled as read
use Rattle.lines.proofs.Cuts.{cut_more, cut_all}
use Rattle.lines.proofs.Lengths.{input_length, filled_length}
use Rattle.lines.proofs.Tables.{filled_table}

pub input_rewrites : (w : List ℕ) (l : Line) (r : Rewritten) → ReadsInput w l → r.kind ≡ kind_of l → list_of r.numbers ≡ numbers_of l → text_of r.text ≡ cut (input_line r.kind (list_of r.numbers)) → Rewrites Input w r
input_rewrites w l r h ek en t =
    let line : InputLine r.kind (list_of r.numbers) w = rw (ek, en) h.is in
    record {
      reads = line;
      only = λ k ns g. let o = h.only k ns g in (o.0 ∙ sym ek, o.1 ∙ sym en);
      same = cut_all 170 (text_of r.text) (input_line r.kind (list_of r.numbers)) (omega (arith, input_length r.kind (list_of r.numbers) w line, ap length line.is)) t ∙ sym line.is;
    }

pub filled_is : (w : List ℕ) (f : read.Filled) (k : ℕ) (ns : List ℕ) (a b : ℕ) → ReadsFilled w f → k ≡ kind_in f.line → ns ≡ numbers_in f.line → a ≡ reply_of f → b ≡ result_of f → FilledLine k ns a b w
filled_is w f k ns a b h ek en ea eb = rw (ek, en, ea, eb) h.is

-- seven fields, reply and result have room
nine_all : (w : List ℕ) (k : ℕ) (ns : List ℕ) (a b : ℕ) → FilledLine k ns a b w → nine (ns ++ (a ∷ b ∷ [])) ≡ ns ++ (a ∷ b ∷ [])
nine_all w k ns a b h =
    let t = filled_table.two_digits k (length ns) h.known in
    let l = length-append ns (a ∷ b ∷ []) in
    take_all 9 (ns ++ (a ∷ b ∷ [])) (omega (arith, t.2))

pub filled_rewrites : (w : List ℕ) (f : read.Filled) (r : Rewritten) (ns more : List ℕ) (a b : ℕ) → ReadsFilled w f → r.kind ≡ kind_in f.line → ns ≡ numbers_in f.line → a ≡ reply_of f → b ≡ result_of f → more ≡ nine (ns ++ (a ∷ [])) → list_of r.numbers ≡ nine (more ++ (b ∷ [])) → text_of r.text ≡ cut (filled_line r.kind ns a b) → Rewrites Filled w r
filled_rewrites w f r ns more a b h ek en ea eb em el t =
    let line : FilledLine r.kind ns a b w = filled_is w f r.kind ns a b h ek en ea eb in
    let all : list_of r.numbers ≡ ns ++ (a ∷ b ∷ []) = cut_more 9 more (list_of r.numbers) ns (a ∷ []) (b ∷ []) em el ∙ nine_all w r.kind ns a b line in
    record {
      reads = (ns, a, b, all, line);
      only = λ k ms g.
          let o = h.only k g.0 g.1 g.2 g.4 in
          (o.0 ∙ sym ek, g.3 ∙ ap (λ l. l ++ (g.1 ∷ g.2 ∷ [])) (o.1 ∙ sym en) ∙ ap (λ x. ns ++ (x ∷ g.2 ∷ [])) (o.2 ∙ sym ea) ∙ ap (λ x. ns ++ (a ∷ x ∷ [])) (o.3 ∙ sym eb) ∙ sym all);
      same = cut_all 170 (text_of r.text) (filled_line r.kind ns a b) (omega (arith, filled_length r.kind ns a b w line, ap length line.is)) t ∙ sym line.is;
    }
