-- What a writer behind a buffer holds, and what it gets.
use Rattle.std.specs.Prelude.{◌≡◌, ℕ, ◌+◌, ◌<◌, ◌≤◌, Bool, true, List, [], ◌++◌, length, take, drop, Option}
use Rattle.std.specs.Io.KnownBytes.{Appends, Keeps}
use Rattle.few.specs.Contents.{contents}
use Rattle.stream.specs.declared.output.Output.{Output}

-- what the writer holds, where that is known, what waits for it in the buffer, and whether it has failed
pub record Out : Type 0 where
  pub held : Option (List ℕ)
  pub waiting : List ℕ
  pub failed : Bool

-- held says what a writer holds
abbrev pub out_of : {W : Type 0} → (W → Option (List ℕ)) → Output W → Out
out_of held o = record { held = held o.inner; waiting = contents o.waiting; failed = o.failed }

-- bytes are put behind what waited: the first of all these went to the writer, and the rest waits
pub record Puts (old : Out) (bytes : List ℕ) (new : Out) : Type 0 where
  pub gone : List ℕ
  pub split : old.waiting ++ bytes ≡ gone ++ new.waiting
  pub written : Appends old.held new.held gone
  pub able : new.failed ≡ old.failed

-- a writer that held start, where that is known, has got a front of these bytes
abbrev pub AppendsFront : Option (List ℕ) → Option (List ℕ) → List ℕ → Type 0
AppendsFront start held bytes = (front : List ℕ) × (rest : List ℕ) × (front ++ rest ≡ bytes) × Appends start held front

-- the writer has failed over bytes that were put behind what waited: it has got a front of all these, and nothing waits
pub record Fails (old : Out) (bytes : List ℕ) (new : Out) : Type 0 where
  pub front : AppendsFront old.held new.held (old.waiting ++ bytes)
  pub dropped : new.waiting ≡ []
  pub failed : new.failed ≡ true

-- ── one write ──

-- of the bytes that wait, n more behind the first `sent` went to the writer, and all of them are still there
pub record Sends (old : Out) (sent : ℕ) (new : Out) (n : ℕ) : Type 0 where
  pub some : 0 < n
  pub within : sent + n ≤ length old.waiting
  pub written : Appends old.held new.held (take n (drop sent old.waiting))
  pub waiting : new.waiting ≡ old.waiting
  pub able : new.failed ≡ old.failed

-- the writer has failed, and has got nothing
pub record Stops (old new : Out) : Type 0 where
  pub kept : Keeps old.held new.held
  pub dropped : new.waiting ≡ []
  pub failed : new.failed ≡ true
