-- The messages of a datagram, from a place of it on, and what its handshakes say.
use Rattle.std.specs.Prelude.{◌≡◌, ℕ, ◌<◌, ◌≤◌, Option, Some, None, List, [], ◌∷◌, length, drop}
use Rattle.pp_terms.specs.format.Descriptor.{Descriptor}
use Rattle.pp_terms.specs.format.Options.{Options}
use Rattle.pp_terms.specs.format.Messages.{Message, Handshake, messages_at, datagram}

-- all of them, and those from a place on
abbrev pub all : Descriptor → List ℕ → List Message
all d bytes = (datagram d.method d.chunk bytes).messages.read

abbrev pub rest : Descriptor → List ℕ → ℕ → List Message
rest d bytes at = (messages_at d.method d.chunk at (drop at bytes)).read

-- A message stands at the place, and others behind it.
pub record StandsAt (d : Descriptor) (bytes : List ℕ) (at : ℕ) (m : Message) (next : ℕ) : Type 0 where
  pub later : at < next
  pub within : next ≤ length bytes
  pub before : rest d bytes at ≡ m ∷ rest d bytes next

-- the source channel and the options of a handshake
abbrev pub shake_of : Message → Option (ℕ × Options)
shake_of (Handshake source options) = Some (source, options)
shake_of _ = None

-- the source channel and the options of the first message, where it is a handshake
abbrev pub first_shake : List Message → Option (ℕ × Options)
first_shake [] = None
first_shake (m ∷ ms) = shake_of m
