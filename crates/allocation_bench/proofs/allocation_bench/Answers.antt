use Rattle.std.proofs.Common.{set, replicate, ap, ◌∙◌}
use Rattle.draws.specs.Meaning.{Meaning}
use Rattle.allocation.specs.Allocation.{allocation}
use Rattle.allocation_bench.specs.Digest.{digest}
use Rattle.allocation_bench.proofs.allocation_bench.Goals as goal

pub returns : goal.returns
returns c =
    c.digest_of.ensures
    ∙ ap digest (c.allocate.ensures.assigned
    ∙ ap (λ (m : Meaning). (allocation m (set (replicate 64 1_562) 63 1_594) c.args.exercised 1 (replicate 64 0)).assigned) c.new-source.ensures)
