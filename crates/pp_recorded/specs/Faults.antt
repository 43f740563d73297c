-- Whether the messages of a datagram are read to its end, from a place of it on.
use Rattle.std.specs.Prelude.{◌≡◌, ℕ, ◌<◌, ◌≤◌, nat_le, Bool, true, ◌&&◌, Option, is_some, is_none, List, length, drop}
use Rattle.pp_terms.specs.format.Traffic.{Record, Received, Quiet, Sent}
use Rattle.pp_traffic.specs.Past.{read}
use Rattle.pp_promises.specs.Datagrams.{most_bytes}
use Rattle.pp_terms.specs.format.Descriptor.{Descriptor}
use Rattle.pp_terms.specs.format.Messages.{WireKind, messages_at}

abbrev pub fault_from : Descriptor → List ℕ → ℕ → Option (ℕ × WireKind)
fault_from d bytes at = (messages_at d.method d.chunk at (drop at bytes)).fault

-- A message stands at the place, and the others are read as well as those behind it.
pub record PassesTo (d : Descriptor) (bytes : List ℕ) (at next : ℕ) : Type 0 where
  pub later : at < next
  pub within : next ≤ length bytes
  pub same : fault_from d bytes at ≡ fault_from d bytes next

-- A record that was sent is a whole datagram.
abbrev pub is_whole : Descriptor → Record → Bool
is_whole d (Received at sender bytes) = true
is_whole d (Quiet at) = true
is_whole d (Sent moment receiver bytes) = is_some (read d (Sent moment receiver bytes)).channel
    && nat_le (length bytes) most_bytes && is_none (read d (Sent moment receiver bytes)).messages.fault
