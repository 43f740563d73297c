-- What a flush tells the other peers, unless the link refuses a datagram.
use Rattle.std.specs.Prelude.{◌≡◌, ◌⊎◌, ℕ, ◌+◌, ◌<◌, ◌≤◌, Bool, true, false, ◌||◌, if◌then◌else◌, unwrap_or, is_some, Some, List, ◌∷◌, ◌++◌, length, slice_get, slice_index_or}
use Rattle.std.specs.List.{AllByRecursion, filter, list_any}
use Rattle.pp_terms.specs.Count.{HasRisen}
use Rattle.pp_terms.specs.format.Descriptor.{Descriptor}
use Rattle.pp_terms.specs.format.Messages.{Message, Handshake, Cancel, Choke, Unchoke, PexReq, Pex4, Pex6}
use Rattle.pp_terms.specs.format.Traffic.{Record, Sent, LinkState, GainsRecords}
use Rattle.pp_terms.specs.tree.Range.{Span, within, has}
use Rattle.pp_promises.specs.Announced.{acknowledges}
use Rattle.pp_promises.specs.OwnSide.{has_in}
use Rattle.pp_requests.specs.declared.asking.Asking.{Asking}
use Rattle.pp_requests.specs.Moments.{entry_of, is_lost}
use Rattle.pp_outside.specs.Outside.{address_of, is_same}
use Rattle.pp_outside.specs.declared.link.Address.{Address}
use Rattle.pp_outside.specs.declared.link.Address.TheVariants.{V4, V6}
use Rattle.pp_pex.specs.Exchange.{answers}
use Rattle.pp_store.specs.Store.{is_committed}
use Rattle.pp_channels.specs.Seats.{channel_at, is_begun}
use Rattle.pp_channels.specs.Timing.{handshake_due, is_over, is_silent}
use Rattle.pp_channels.specs.declared.channel.Channel.{Channel}
use Rattle.pp_lives.specs.Reading.{is_waiting, is_proven}
use Rattle.pp_lives.specs.declared.lives.Far.{Far}
use Rattle.pp_draft.specs.Datagrams.{IsDatagram}
use Rattle.pp_draft.specs.Notes.{own_options}
use Rattle.pp_seat.specs.Own.{IsRested}
use Rattle.pp_seat.specs.Seats.{SeatState}
use Rattle.pp_seat.specs.Turns.{due_turn}
use Rattle.pp_seat.specs.declared.service.Turn.TheVariants as turns
use Rattle.pp_news.specs.News.{has_chunk, of_seat}
use Rattle.pp_agenda.specs.Agendas.{AreRows}
use Rattle.pp_peer.specs.declared.parts.Parts.{Parts}
use Rattle.pp_peer.specs.declared.supporting.Supports.{Supports}
use Rattle.pp_peer.specs.Flushing.{Scene}
use Rattle.pp_peer.specs.Speaking.{is_taken}

-- ---- datagrams on a channel

-- The link gained a datagram to a channel's peer, under its number there, of whose messages this holds.
pub record Tells (d : Descriptor) (far : Far) (says : List Message → Type 0) (link later : LinkState) : Type 0 where
  pub messages : List Message
  pub bytes : List ℕ
  pub written : IsDatagram d far.number messages bytes
  pub holds : says messages
  pub moment : ℕ
  pub newer : List Record
  pub older : List Record
  pub gained : GainsRecords link.traffic (newer ++ Sent moment (address_of far.address) bytes ∷ older) later.traffic

-- where a channel's datagrams go: to number 0 while the reply to this peer's handshake is awaited
abbrev pub end_of : Channel → Far
end_of c = record {
  address = c.address;
  number = if is_waiting c then 0 else unwrap_or c.remote 0;
  proven = is_proven c;
  begun = is_begun c.opening;
}

-- A datagram of whose messages this holds went on a channel, or the link refused one.
abbrev pub IsTold : Channel → (List Message → Type 0) → Scene → LinkState → Type 0
IsTold c says old later =
    Tells old.parts.seats.descriptor (end_of c) says old.link later ⊎ HasRisen old.link.faults later.faults

-- One of the messages passes a test.
abbrev pub HasOne : (Message → Bool) → List Message → Type 0
HasOne test messages = list_any test messages ≡ true

-- ---- channels

-- A seat has the channel, whose time isn't over.
pub record IsLasting (seat : ℕ) (c : Channel) (p : Parts) : Type 0 where
  pub below : seat < 64
  pub there : channel_at p.seats.table seat ≡ Some c
  pub lasts : is_over p.seats.moment (Some c) ≡ false

-- On a seat's channel something may be said: the other peer's number is known, and this peer's handshake was sent or is due.
pub record HasPeer (seat : ℕ) (c : Channel) (p : Parts) : Type 0 where
  pub lasting : IsLasting seat c p
  pub numbered : is_waiting c ≡ false
  pub begun : (is_begun c.opening ≡ true) ⊎ (handshake_due p.seats.moment c ≡ true)
  pub known : SeatState
  pub messages : slice_get p.seats.seats seat ≡ Some known

-- On a seat's channel something may be said, and something came there for this peer's number.
pub record IsProven (seat : ℕ) (c : Channel) (p : Parts) : Type 0 where
  pub peer : HasPeer seat c p
  pub proven : peer.known.proven ≡ true

-- ---- chunks that came

-- a chunk came on a seat's channel and was committed since the last flush, or came once more
abbrev pub is_new_from : (seat i : ℕ) → Parts → Bool
is_new_from seat i p = has_chunk (of_seat seat p.holding.queue.tickets) i || has_chunk (of_seat seat p.holding.queue.repeats) i

-- An ACK of each chunk that came went on the channel that it came on.
abbrev pub Acknowledges : Scene → LinkState → Type 0
Acknowledges old later = (seat i : ℕ) (c : Channel) → IsProven seat c old.parts → is_new_from seat i old.parts ≡ true
    → IsTold c (HasOne (acknowledges i)) old later

-- ---- chunks that are committed

-- A HAVE of a chunk went on a channel.
abbrev pub TellsChunk : Channel → ℕ → Scene → LinkState → Type 0
TellsChunk c i old later = IsTold c (HasOne (has_in i)) old later

-- All committed chunks from a number on were told of, or the next 64 ranges of them.
abbrev pub TellsFrom : ℕ → Channel → Scene → LinkState → Type 0
TellsFrom from c old later =
    ((i : ℕ) → from ≤ i → is_committed old.parts.holding.store i ≡ true → TellsChunk c i old later)
    ⊎ ((rows : List Span) × (length rows ≡ 64) × AreRows from old.parts.holding.store.committed 64 rows
    × ((i : ℕ) → has rows i ≡ true → TellsChunk c i old later))

-- On each proven channel it was told of each chunk that was committed since the last flush, if the channel's cursor had passed it, and
-- of those from the cursor on; and on one that isn't proven, of all from the first on, where this peer's handshake was due.
pub record Announces (old : Scene) (later : LinkState) : Type 0 where
  pub news : (seat i : ℕ) (c : Channel) → (h : IsProven seat c old.parts) → has_chunk old.parts.holding.queue.tickets i ≡ true
      → i < h.peer.known.cursor → TellsChunk c i old later
  pub rest : (seat : ℕ) (c : Channel) → (h : IsProven seat c old.parts) → TellsFrom h.peer.known.cursor c old later
  pub first : (seat : ℕ) (c : Channel) → (h : HasPeer seat c old.parts) → handshake_due old.parts.seats.moment c ≡ true
      → h.known.proven ≡ false → TellsFrom 0 c old later

-- ---- handshakes, and channels on which nothing went for long

-- The first message is this peer's handshake from that number.
abbrev pub BeginsWith : Descriptor → (source : ℕ) → List Message → Type 0
BeginsWith d source messages = (rest : List Message) × (messages ≡ Handshake source (own_options d) ∷ rest)

-- This peer's handshake went on each channel on which it was due; and on each proven channel a datagram went if none had gone for long,
-- or if the other peer awaited one to learn this one's address.
pub record Greets (old : Scene) (later : LinkState) : Type 0 where
  pub due : (seat : ℕ) (c : Channel) → IsLasting seat c old.parts → handshake_due old.parts.seats.moment c ≡ true
      → IsTold c (BeginsWith old.parts.seats.descriptor c.local) old later
  pub silent : (seat : ℕ) (c : Channel) → IsProven seat c old.parts
      → (is_silent old.parts.seats.moment c ≡ true) ⊎ (slice_index_or old.parts.to_prove seat false ≡ true)
      → IsTold c (λ messages. Unit {0}) old later

-- ---- chunks that aren't awaited any more

-- a CANCEL of the chunk
abbrev pub cancels : ℕ → Message → Bool
cancels i (Cancel span) = within span i
cancels i _ = false

-- A CANCEL of each committed chunk went on the channel on which it had been asked for, less than 10 seconds ago, unless that request
-- was lost.
abbrev pub Cancels : Scene → LinkState → Type 0
Cancels old later = (seat i : ℕ) (request : Asking) (c : Channel) → (h : IsProven seat c old.parts)
    → entry_of h.peer.known.own i ≡ Some request → old.parts.seats.moment < request.moment + 10_000_000 → is_lost request ≡ false
    → is_committed old.parts.holding.store i ≡ true → IsTold c (HasOne (cancels i)) old later

-- ---- addresses of other peers

-- a message that brings the address, and one that asks for some
abbrev pub brings : Address → Message → Bool
brings a (Pex4 bytes port) = is_same (V4 bytes port) a
brings a (Pex6 bytes port) = is_same (V6 bytes port) a
brings a _ = false

abbrev pub asks_addresses : Message → Bool
asks_addresses PexReq = true
asks_addresses _ = false

-- A peer that had asked for addresses, and was sent none for 10 seconds, was sent those that it is to be told, but for those that it
-- doesn't take. A peer that fetches asked each that takes it, and wasn't asked for 60 seconds, for addresses.
pub record Exchanges (old : Scene) (later : LinkState) : Type 0 where
  pub answers_all : (seat : ℕ) (c : Channel) (takes : Supports) → (h : IsProven seat c old.parts)
      → slice_get old.parts.supports seat ≡ Some takes → slice_index_or old.parts.questions seat false ≡ true
      → IsRested h.peer.known.answer old.parts.seats.moment 10_000_000
      → AllByRecursion (λ a. IsTold c (HasOne (brings a)) old later)
      (filter (is_taken takes.v6) (answers old.parts.pex.table c.address old.parts.seats.moment))
  pub asks : (seat : ℕ) (c : Channel) (takes : Supports) → (h : IsProven seat c old.parts)
      → slice_get old.parts.supports seat ≡ Some takes → takes.requests ≡ true → is_some old.parts.fetching ≡ true
      → IsRested h.peer.known.question old.parts.seats.moment 60_000_000 → IsTold c (HasOne asks_addresses) old later

-- ---- who may be sent chunks

abbrev pub chokes : Message → Bool
chokes Choke = true
chokes _ = false

abbrev pub unchokes : Message → Bool
unchokes Unchoke = true
unchokes _ = false

-- CHOKE went on each channel on which it was due, and UNCHOKE on each proven one.
pub record TakesTurns (old : Scene) (later : LinkState) : Type 0 where
  pub chokes_due : (seat : ℕ) (c : Channel) → (h : HasPeer seat c old.parts) → due_turn h.known ≡ Some turns.Choke
      → IsTold c (HasOne chokes) old later
  pub unchokes_due : (seat : ℕ) (c : Channel) → (h : IsProven seat c old.parts) → due_turn h.peer.known ≡ Some turns.Unchoke
      → IsTold c (HasOne unchokes) old later
