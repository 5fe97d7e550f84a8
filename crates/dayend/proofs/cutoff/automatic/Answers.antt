use Rattle.std.proofs.Common.{◌≡◌, ℕ, ◌+◌, ◌<◌, Bool, false, List, [], get_or, rules}
use Rattle.dayend.specs.Cutoff.{automatic}
use Rattle.dayend.proofs.Made.{made}
use Rattle.dayend.proofs.cutoff.automatic.Goals as goal

pub returns : goal.returns
returns c i a h k =
    made (λ i (ys : List Bool). (a : ℕ) → a < 32 → get_or ys a false ≡ automatic c.args.book.now (a + 1) (i + 1)) [] c.from_fn.ensures.items (λ i y q w. search rules) i h a k
