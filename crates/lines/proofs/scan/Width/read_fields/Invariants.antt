use Rattle.std.proofs.Common.{◌-◌, map, length, take}
use Rattle.lines.specs.Grammar.{FieldsRead}
use Rattle.lines.proofs.scan.Width.read_fields.Given as goal

abbrev pub invariant-loop-place : goal.invariant-loop-place
invariant-loop-place l = FieldsRead l.self.digits (length l.initial.out) (length l.initial.out - l.place-index) l.s (map (λ d. d.now) (take l.place-index l.out)) l.rest
