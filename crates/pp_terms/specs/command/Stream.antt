-- A source of bytes and a sink for them.
use Rattle.std.specs.Prelude.{◌≡◌, ℕ, ◌<◌, ◌≤◌, Option, Some, None, List, ◌++◌, length, take, drop, Result, IfOk, OnErr}
use Rattle.pp_terms.specs.Count.{HasCause}

-- What is meant by a source: the bytes still to come, where it tells them; and how often a read was refused.
pub record SourceState : Type 0 where
  pub left : Option (List ℕ)
  pub faults : ℕ

-- What is meant by a sink: the bytes that it took, where it tells them; and how often a write was refused.
pub record SinkState : Type 0 where
  pub taken : Option (List ℕ)
  pub faults : ℕ

-- a source gave the first bytes of what was left, as many as were answered; one that doesn't tell says nothing
abbrev pub GivesUp : Option (List ℕ) → ℕ → List ℕ → Option (List ℕ) → Type 0
GivesUp None n into new = new ≡ None
GivesUp (Some left) n into new =
    (n ≤ length left) × (take n into ≡ take n left) × (new ≡ Some (drop n left)) × (0 < length into → 0 < length left → 0 < n)

-- a sink took these bytes more; one that doesn't tell says nothing of them
abbrev pub Gains : Option (List ℕ) → List ℕ → Option (List ℕ) → Type 0
Gains None bytes new = new ≡ None
Gains (Some old) bytes new = new ≡ Some (old ++ bytes)

-- A read of a source into a buffer, which is given as it is afterwards.
pub record DoesTake {E : Type 0} (old : SourceState) (into : List ℕ) (result : Result ℕ E) (new : SourceState) : Type 0 where
  pub within : IfOk result (λ n. n ≤ length into)
  pub given : IfOk result (λ n. GivesUp old.left n into new.left)
  pub refused : OnErr result (new.left ≡ old.left)
  pub cause : HasCause old.faults new.faults result

-- A write of a piece to a sink: it takes at least one byte of a nonempty piece, or refuses.
pub record DoesGive {E : Type 0} (old : SinkState) (piece : List ℕ) (result : Result ℕ E) (new : SinkState) : Type 0 where
  pub within : IfOk result (λ n. n ≤ length piece)
  pub some : IfOk result (λ n. 0 < length piece → 0 < n)
  pub taken : IfOk result (λ n. Gains old.taken (take n piece) new.taken)
  pub refused : OnErr result (new.taken ≡ old.taken)
  pub cause : HasCause old.faults new.faults result
