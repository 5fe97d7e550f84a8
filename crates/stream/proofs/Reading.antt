-- One piece after another.
use Rattle.std.proofs.Common.{◌≡◌, ℕ, List, [], ◌++◌, take, Option, sym, subst, append_assoc, append-nil}
use Rattle.std.specs.Io.KnownBytes.{Consumes}
use Rattle.std.proofs.KnownBytes.{Consumes-trans}
use Rattle.stream.specs.Streams.{Seen, Streams, Ended, Broken, Takes, Breaks, Ends}

pub takes_nothing : (d : Seen) → Takes d [] d
takes_nothing d before bytes start s = subst (λ (l : List ℕ). Streams before l start d) (sym (append-nil bytes)) s

module _ (d m e : Seen) (xs ys : List ℕ) (t : Takes d xs m) where
  pub takes_more : Takes m ys e → Takes d (xs ++ ys) e
  takes_more n before bytes start s = subst (λ (l : List ℕ). Streams before l start e) (append_assoc bytes xs ys) (n before (bytes ++ xs) start (t before bytes start s))

  pub takes_break : Breaks m ys e → Breaks d (xs ++ ys) e
  takes_break n before bytes start s = subst (λ (l : List ℕ). Broken before l start e) (append_assoc bytes xs ys) (n before (bytes ++ xs) start (t before bytes start s))

module _ (d m e : Seen) (xs : List ℕ) (t : Takes d xs m) where
  pub takes_end : Ends m [] e → Ends d xs e
  takes_end n before bytes start s = subst (λ (l : List ℕ). Ended before l start e) (append-nil (bytes ++ xs)) (n before (bytes ++ xs) start (t before bytes start s))

  pub takes_end_break : Breaks m [] e → Breaks d xs e
  takes_end_break n before bytes start s = subst (λ (l : List ℕ). Broken before l start e) (append-nil (bytes ++ xs)) (n before (bytes ++ xs) start (t before bytes start s))

-- a read of no byte
pub same_read : (a b c : Option (List ℕ)) (more buf : List ℕ) (n : ℕ) → n ≡ 0 → Consumes a b more → Consumes b c (take n buf) → Consumes a c more
same_read a b c more buf n z h k =
    subst (λ (l : List ℕ). Consumes a c l) (append-nil more) (Consumes-trans a b c more [] h (subst (λ (m : ℕ). Consumes b c (take m buf)) z k))
