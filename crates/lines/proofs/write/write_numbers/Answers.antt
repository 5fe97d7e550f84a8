use Rattle.std.proofs.Common.{refl}
use Rattle.lines.proofs.Made.{filled_made}
use Rattle.lines.proofs.write.write_numbers.Goals as goal

pub returns : goal.returns
returns c = filled_made c.args.kind _ _ _ _ (c.if-not-is_known.ensures.0 refl) (c.if-not-are_short.ensures.0 refl) (c.if-not-is_short.ensures.0 refl) c.filled_text.ensures
