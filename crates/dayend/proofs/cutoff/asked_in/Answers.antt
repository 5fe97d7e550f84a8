use Rattle.std.proofs.Common.{◌≡◌, ℕ, ◌≤◌, refl, arith}
use Rattle.ledger.proofs.KeepLaws.{all_same}
use Rattle.dayend.proofs.cutoff.asked_in.Goals as goal

pub loop-request-init : goal.loop-request-init
loop-request-init c a h = all_same (λ (n : ℕ). (n ≡ 0) × (n ≤ 0)) 32 0 0 a (refl, omega arith) (refl, omega arith)
