-- Steps of a reading that were moved to a place of the datagram, and a datagram that is too short for a channel's number.
use Rattle.std.proofs.Common.{◌≡◌, ℕ, ◌+◌, ◌<◌, None, List, length, refl}
use Rattle.std.proofs.lemmas.Bool.{lt-ltb}
use Rattle.pp_terms.specs.format.Descriptor.{Descriptor}
use Rattle.pp_terms.specs.format.Messages.{Message, WireKind, Step, Read, End, Cut, moved, datagram}

-- the size of the message that was read
pub record Size (at : ℕ) (s : Step) (m : Message) (next : ℕ) : Type 0 where
  pub size : ℕ
  pub is : s ≡ Read m size
  pub ends : next ≡ at + size

pub size_of : (at : ℕ) (s : Step) (m : Message) (next : ℕ) → moved at s ≡ Read m next → Size at s m next
size_of at (Read n size) m next e = record { size = size; is = cc; ends = cc }
size_of at End m next e = absurd cc
size_of at (Cut place kind) m next e = absurd cc

pub moved_end : (at : ℕ) (s : Step) → moved at s ≡ End → s ≡ End
moved_end at (Read n size) e = absurd cc
moved_end at End e = refl
moved_end at (Cut place kind) e = absurd cc

-- where a reading that ends early ends
pub record Place (at : ℕ) (s : Step) (kind : WireKind) : Type 0 where
  pub place : ℕ
  pub is : s ≡ Cut place kind

pub cut_at : (at : ℕ) (s : Step) (place : ℕ) (kind : WireKind) → moved at s ≡ Cut place kind → Place at s kind
cut_at at (Read n size) place kind e = absurd cc
cut_at at End place kind e = absurd cc
cut_at at (Cut there why) place kind e = record { place = there; is = cc }

pub channel_none : (d : Descriptor) (bytes : List ℕ) → length bytes < 4 → (datagram d.method d.chunk bytes).channel ≡ None
unfolding datagram
channel_none d bytes lt = rw (lt-ltb (length bytes) 4 lt) refl
