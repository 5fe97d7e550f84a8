use Rattle.std.proofs.Common.{◌≡◌, length, sym, ◌∙◌, subst, arith, rules}
use Rattle.std.specs.Str.Parse.{digits_value}
use Rattle.std.proofs.lemmas.List.{length-map}
use Rattle.lines.specs.Kinds.{IsNumber}
use Rattle.lines.specs.Grammar.{Writes, Done, ten_numbers}
use Rattle.lines.proofs.Maps.{all_of_map, all_come, map_map, mapped_by_all}
use Rattle.lines.proofs.ten.read_ten.Goals as goal

pub map-requires : goal.map-requires
map-requires c =
    let digits = all_of_map (IsNumber 16) (λ f. f.now) c.scan_ten.new.out c.in_ok-scan_ten.ensures.numbers in (
      omega arith,
      (omega arith, (omega arith, record { at = λ xs t q x u y k z. let n = all_come (λ f. IsNumber 16 f.now) _ _ _ _ _ digits y z in search rules })),
    )

pub returns : goal.returns
returns c =
    let texts = c.scan_ten.new.out in
    let long : length texts ≡ 10 = sym (length-map texts (λ f. f.now)) ∙ c.in_ok-scan_ten.ensures.ten in
    let values =
    mapped_by_all (λ f. digits_value 10 f.now) texts c.map.result (c.map.ensures.items.long ∙ sym long)
    (λ i d e l. let m = c.map.ensures.items.at i d e (omega (arith, long)) in search rules) in
    subst (Done (Writes ten_numbers) c.args.line.now) (map_map (digits_value 10) (λ f. f.now) texts ∙ sym values) c.in_ok-scan_ten.ensures.done
