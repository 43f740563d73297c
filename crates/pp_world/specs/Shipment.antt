-- Datagrams are atomic: once a chunk has reached a peer that had asked for it, with the hashes that the peer lacked,
-- the chunk is stored there, whatever else was lost, late or out of order.
use Rattle.std.specs.Prelude.{◌≡◌, ◌⊎◌, ℕ, ◌<◌, Bool, true, nat_le, ◌&&◌, ◌||◌, Some, List, [], ◌∷◌, ◌++◌, length, slice_get, Contains}
use Rattle.pp_terms.specs.disk.Image.{holds}
use Rattle.pp_terms.specs.format.Descriptor.{Descriptor}
use Rattle.pp_terms.specs.format.Messages.{Message, Data}
use Rattle.pp_terms.specs.format.Traffic.{Address, Record, Received, Quiet, Sent}
use Rattle.pp_traffic.specs.Life.{Life, greets, comes_on}
use Rattle.pp_traffic.specs.Past.{read}
use Rattle.pp_traffic.specs.Plain.{IsPlainUpTo}
use Rattle.pp_traffic.specs.Serving.{window_of, AnswersOn}
use Rattle.pp_world.specs.Agreement.{HaveClashed, ClashesWithTree}
use Rattle.pp_world.specs.Channel.{AreEnds}
use Rattle.pp_world.specs.Session.{Session}
use Rattle.pp_world.specs.World.{PeerState, World, address_of, reads_of}

-- A datagram that brings a chunk from one peer to another, each named by its number.
pub record Shipment : Type 0 where
  pub sender : ℕ
  pub receiver : ℕ
  pub chunk : ℕ
  pub bytes : List ℕ

-- ---- what was sent

-- A record of a session: the records before it, and those that came after.
pub record IsRecordOf (r : Record) (past : List Record) (s : Session) : Type 0 where
  pub after : List Record
  pub split : s.traffic ≡ after ++ r ∷ past

-- Some session of peer p has sent this datagram to an address.
pub record HasSent (p : ℕ) (to : Address) (bytes : List ℕ) (w : World) : Type 0 where
  pub peer : PeerState
  pub here : slice_get w.peers p ≡ Some peer
  pub session : Session
  pub among : Contains peer.sessions session
  pub moment : ℕ
  pub past : List Record
  pub stands : IsRecordOf (Sent moment to bytes) past session

-- a record came on the channel, or opened it
abbrev pub is_on : Descriptor → Life → (before : List Record) → Record → Bool
is_on d life before r = nat_le life.opening (length before) && (comes_on d life r || greets d life r)

-- Nothing was forged: each datagram that came on the channel to this address, or opened it, was sent by peer q.
abbrev pub IsGenuine : Descriptor → Life → (q : ℕ) → (own : Address) → World → List Record → Type 0
IsGenuine d life q own w [] = Unit {0}
IsGenuine d life q own w (Received at sender bytes ∷ before) =
    (is_on d life before (Received at sender bytes) ≡ true → HasSent q own bytes w) × IsGenuine d life q own w before
IsGenuine d life q own w (Quiet at ∷ before) = IsGenuine d life q own w before
IsGenuine d life q own w (Sent moment receiver bytes ∷ before) = IsGenuine d life q own w before

-- The sender sent the shipment on this channel, behind messages with hashes, as the other peer had asked. Nothing that
-- had come on the channel was forged.
pub record SentChunk (d : Descriptor) (w : World) (it : Shipment) (life : Life) : Type 0 where
  pub peer : PeerState
  pub here : slice_get w.peers it.sender ≡ Some peer
  pub session : Session
  pub among : Contains peer.sessions session
  pub moment : ℕ
  pub past : List Record
  pub stands : IsRecordOf (Sent moment (address_of it.receiver) it.bytes) past session
  pub front : List Message
  pub sent_at : ℕ
  pub content : List ℕ
  pub messages : (read d (Sent moment (address_of it.receiver) it.bytes)).messages.read
      ≡ front ++ Data it.chunk sent_at content ∷ []
  pub number : (read d (Sent moment (address_of it.receiver) it.bytes)).channel ≡ Some life.remote
  pub to : life.address ≡ address_of it.receiver
  pub answers : AnswersOn d (window_of d) past life it.chunk front
  pub genuine : IsGenuine d life it.receiver (address_of it.sender) w past

-- ---- what came

-- The receiver took the shipment in between two worlds, in a turn, on this channel, which was plain up to it.
pub record TookIn (d : Descriptor) (old new : World) (it : Shipment) (life : Life) : Type 0 where
  pub before : PeerState
  pub after : PeerState
  pub was : slice_get old.peers it.receiver ≡ Some before
  pub is : slice_get new.peers it.receiver ≡ Some after
  pub session : Session
  pub session' : Session
  pub earlier : List Session
  pub sessions : before.sessions ≡ session ∷ earlier
  pub sessions' : after.sessions ≡ session' ∷ earlier
  pub sent : List Record
  pub at : ℕ
  pub traffic : session'.traffic ≡ sent ++ Received at (address_of it.sender) it.bytes ∷ session.traffic
  pub from : life.address ≡ address_of it.sender
  pub is_plain : IsPlainUpTo d life session.traffic (Received at (address_of it.sender) it.bytes)

-- Between two worlds each shipment that was sent before and is taken in now is stored: the receiver's disk reads the
-- chunk's bytes, whose gate may still be closed. Else a write or a sync of that disk was refused, or the sender's
-- book clashes with the receiver's book or with the content's tree.
abbrev pub StoresShipments : Descriptor → (content : List ℕ) → (old new : World) → Type 0
StoresShipments d content old new = (it : Shipment) (life life' : Life) → (out : SentChunk d old it life)
    → (took : TookIn d old new it life') → AreEnds life life'
    → (holds d (reads_of took.after) it.chunk ≡ true) ⊎ ((took.before.hard < took.after.hard)
    ⊎ (HaveClashed d out.session.book took.session'.book ⊎ ClashesWithTree d content out.session.book))

-- Shipments are stored between each world and the next; the newest world stands first.
abbrev pub DatagramsAreAtomic : Descriptor → (content : List ℕ) → List World → Type 0
DatagramsAreAtomic d content [] = Unit {0}
DatagramsAreAtomic d content (new ∷ []) = Unit {0}
DatagramsAreAtomic d content (new ∷ old ∷ before) =
    StoresShipments d content old new × DatagramsAreAtomic d content (old ∷ before)
