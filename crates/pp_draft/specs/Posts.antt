-- One datagram that is sent, or refused.
use Rattle.std.specs.Prelude.{◌≡◌, ℕ, ◌+◌, ◌<◌, ◌≤◌, Bool, List, [], ◌∷◌, ◌++◌, length, take, drop, MatchBool}
use Rattle.pp_terms.specs.Count.{HasRisen}
use Rattle.pp_terms.specs.format.Descriptor.{Descriptor}
use Rattle.pp_terms.specs.format.Messages.{Message, Handshake}
use Rattle.pp_terms.specs.format.Traffic as traffic
use Rattle.pp_terms.specs.format.Traffic.{LinkState, Sent, GainsRecords}
use Rattle.pp_draft.specs.declared.note.Note.{Note}
use Rattle.pp_draft.specs.Notes.{own_options, Says, SayAll}
use Rattle.pp_draft.specs.Datagrams.{spelled, IsDatagram}
use Rattle.pp_draft.specs.Puts.{IsFront}

-- Of the first of these notes the messages have no room behind the datagram.
abbrev pub LacksRoom : Descriptor → List ℕ → List Note → Type 0
LacksRoom d bytes [] = Unit {0}
LacksRoom d bytes (note ∷ notes) = (own : List Message) × Says d note own × (16384 < length bytes + length (spelled d.method own))

-- Behind what stood in a buffer up to a place the messages of the first notes came, so many: as many as have room, and one at the
-- least where there are some and the place isn't near the end.
pub record Fills (d : Descriptor) (notes : List Note) (from : ℕ) (old : List ℕ) (count end : ℕ) (new : List ℕ) : Type 0 where
  pub messages : List Message
  pub said : SayAll d (take count notes) messages
  pub front : (channel : ℕ) (before : List Message) → IsFront d channel before from old → IsFront d channel (before ++ messages) end new
  pub end_is : end ≤ length new
  pub within : count ≤ length notes
  pub some : from ≤ 12288 → 0 < length notes → 0 < count
  pub full : LacksRoom d (take end new) (drop count notes)

-- The datagram has the messages of the first notes, so many: of one at least, and of as many as have room.
pub record Packs (d : Descriptor) (channel : ℕ) (notes : List Note) (count : ℕ) (bytes : List ℕ) : Type 0 where
  pub messages : List Message
  pub said : SayAll d (take count notes) messages
  pub written : IsDatagram d channel messages bytes
  pub some : 0 < count
  pub within : count ≤ length notes
  pub full : LacksRoom d bytes (drop count notes)

-- The datagram has a handshake from this channel and behind it the messages of the first notes, so many: of one at least, where there
-- are some, and of as many as have room.
pub record PacksBehind (d : Descriptor) (channel source : ℕ) (notes : List Note) (count : ℕ) (bytes : List ℕ) : Type 0 where
  pub messages : List Message
  pub said : SayAll d (take count notes) messages
  pub written : IsDatagram d channel (Handshake source (own_options d) ∷ messages) bytes
  pub some : 0 < length notes → 0 < count
  pub within : count ≤ length notes
  pub full : LacksRoom d bytes (drop count notes)

-- The link sent the datagram, or refused it.
pub record Sends (receiver : traffic.Address) (bytes : List ℕ) (moment : ℕ) (old new : LinkState) (sent : Bool) : Type 0 where
  pub outcome : MatchBool sent (GainsRecords old.traffic (Sent moment receiver bytes ∷ []) new.traffic)
      ((new.traffic ≡ old.traffic) × HasRisen old.faults new.faults)
  pub nexts : new.nexts ≡ old.nexts
  pub bound : new.bound ≡ old.bound
  pub later : old.faults ≤ new.faults

-- A datagram of the first notes, of which it holds that it was sent, or refused.
pub record Posts (d : Descriptor) (channel : ℕ) (notes : List Note) (count : ℕ) (does : List ℕ → Type 0) : Type 0 where
  pub bytes : List ℕ
  pub packs : Packs d channel notes count bytes
  pub goes : does bytes

-- A datagram of a handshake and the first notes behind it, of which it holds that it was sent, or refused.
pub record PostsBehind (d : Descriptor) (channel source : ℕ) (notes : List Note) (count : ℕ) (does : List ℕ → Type 0) : Type 0 where
  pub bytes : List ℕ
  pub packs : PacksBehind d channel source notes count bytes
  pub goes : does bytes
