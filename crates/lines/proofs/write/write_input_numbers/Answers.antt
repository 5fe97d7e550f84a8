use Rattle.std.proofs.Common.{refl}
use Rattle.lines.proofs.Made.{input_made}
use Rattle.lines.proofs.write.write_input_numbers.Goals as goal

pub returns : goal.returns
returns c = input_made c.args.kind _ _ (c.if-not-is_known.ensures.0 refl) (c.if-not-are_short.ensures.0 refl) c.input_text.ensures
