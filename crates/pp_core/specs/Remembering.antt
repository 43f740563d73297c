-- What a peer remembers of what it wrote and told, and of who has a slot.
use Rattle.std.specs.Prelude.{◌≡◌, ◌⊎◌, ℕ, ◌<◌, ◌≤◌, ◌==◌, nat_le, Bool, true, false, not, ◌&&◌, ◌||◌, is_some, Option, Some, None, List, [], ◌∷◌, length, slice_get}
use Rattle.std.specs.List.{list_any}
use Rattle.pp_terms.specs.format.Descriptor.{Descriptor}
use Rattle.pp_terms.specs.format.Traffic.{Record}
use Rattle.pp_terms.specs.tree.Book.{LookUp}
use Rattle.pp_traffic.specs.Life.{Life}
use Rattle.pp_traffic.specs.Past.{now, EachRecord}
use Rattle.pp_traffic.specs.Plain.{IsPlainNow}
use Rattle.pp_traffic.specs.Story.{story}
use Rattle.pp_promises.specs.Announced.{is_told_of, was_told_of, came_in, is_acknowledged, IsFirst}
use Rattle.pp_promises.specs.Answered.{openings, chokes, writes_on}
use Rattle.pp_promises.specs.Batches.{most_pending, is_pending}
use Rattle.pp_requests.specs.Seats.{since}
use Rattle.pp_outside.specs.Outside.{address_of}
use Rattle.pp_channels.specs.Seats.{Seats, channel_at, is_begun}
use Rattle.pp_channels.specs.declared.channel.Channel.{Channel}
use Rattle.pp_lives.specs.Reading.{is_waiting}
use Rattle.pp_store.specs.Store.{is_committed}
use Rattle.pp_holding.specs.Holding.{batch_of}
use Rattle.pp_holding.specs.Queue.{QueueState}
use Rattle.pp_holding.specs.declared.queue.Ticket.{Ticket}
use Rattle.pp_seat.specs.Seats.{SeatState}
use Rattle.pp_news.specs.News.{has_chunk}
use Rattle.pp_peer.specs.declared.parts.Parts.{Parts}

-- a datagram was written on a channel at a moment or later
abbrev pub wrote_from : Descriptor → Life → ℕ → List Record → Bool
wrote_from d life moment [] = false
wrote_from d life moment (r ∷ before) = (writes_on d life r && nat_le moment (now (r ∷ before))) || wrote_from d life moment before

-- Of each channel on which this peer's handshake was sent it is kept when a datagram last went there: one went then, or later.
abbrev pub KeepsWrote : Descriptor → Parts → List Record → Type 0
KeepsWrote d p past = (n : ℕ) (c : Channel) (life : Life) → channel_at p.seats.table n ≡ Some c → is_begun c.opening ≡ true
    → life.address ≡ address_of c.address → life.local ≡ c.local → (c.remote ≡ None) ⊎ (c.remote ≡ Some life.remote)
    → wrote_from d life c.wrote past ≡ true

-- ---- who has a slot

-- There is a channel, and the other peer's number is known.
abbrev pub known_in : Option Channel → Bool
known_in None = false
known_in (Some c) = not (is_waiting c)

abbrev pub known_at : Seats → ℕ → Bool
known_at t n = known_in (channel_at t n)

-- CHOKE or UNCHOKE is to be sent on the channel of a seat
abbrev pub owes_in : Option SeatState → Bool
owes_in None = false
owes_in (Some s) = s.owes

abbrev pub owes_at : List SeatState → ℕ → Bool
owes_at seats n = owes_in (slice_get seats n)

-- No seat waits for a slot; one that has one has a channel whose other peer's number is known; and on no such channel CHOKE or UNCHOKE
-- is to be sent.
pub record HasSlots (p : Parts) : Type 0 where
  pub sized : (length p.slots.slots ≡ 64) × (length p.slots.waiting ≡ 64)
  pub waits : (n : ℕ) → since p.slots.waiting n ≡ None
  pub slots : (n : ℕ) → is_some (since p.slots.slots n) ≡ true → known_at p.seats.table n ≡ true
  pub idle : (n : ℕ) → known_at p.seats.table n ≡ true → owes_at p.seats.seats n ≡ false

-- no CHOKE is among the records
abbrev pub IsChokeless : Descriptor → List Record → Type 0
IsChokeless d rs = list_any (chokes d) rs ≡ false

-- While at most eight datagrams opened a channel each has its slot, and no CHOKE went.
pub record IsUnchoked (d : Descriptor) (p : Parts) (past : List Record) : Type 0 where
  pub has : HasSlots p
  pub none : IsChokeless d past

abbrev pub StaysUnchoked : Descriptor → Parts → List Record → Type 0
StaysUnchoked d p past = openings d past ≤ 8 → IsUnchoked d p past

-- ---- what was told

-- On each plain channel, proven or not, each chunk was told of that is committed, is below the cursor and didn't come since the last flush.
abbrev pub ToldAll : Descriptor → Parts → List Record → Type 0
ToldAll d p past = (n i : ℕ) (c : Channel) (life : Life) (s : SeatState) → channel_at p.seats.table n ≡ Some c → IsPlainNow d life past
    → life.address ≡ address_of c.address → life.local ≡ c.local → slice_get p.seats.seats n ≡ Some s
    → is_committed p.holding.store i ≡ true → i < s.cursor → has_chunk p.holding.queue.tickets i ≡ false
    → is_told_of i (story d life past) ≡ true

-- On each plain channel each chunk is below the cursor of which a HAVE went behind the peer's first datagram to this peer's number.
abbrev pub PassesTold : Descriptor → Parts → List Record → Type 0
PassesTold d p past = (n i : ℕ) (c : Channel) (life : Life) (s : SeatState) → channel_at p.seats.table n ≡ Some c → IsPlainNow d life past
    → life.address ≡ address_of c.address → life.local ≡ c.local → slice_get p.seats.seats n ≡ Some s
    → was_told_of d life i past ≡ true → i < s.cursor

-- Each chunk was told of on plain channels that is committed and below the cursor, and didn't come since the last flush; fewer chunks
-- wait than are committed at once; and nothing was told of from the cursors on.
pub record KeepsTold (d : Descriptor) (p : Parts) (past : List Record) : Type 0 where
  pub told : ToldAll d p past
  pub few : length p.holding.queue.waiting < most_pending
  pub passes : PassesTold d p past

-- All tickets were taken.
abbrev pub HasNoTicket : Parts → Type 0
HasNoTicket p = p.holding.queue.tickets ≡ []

-- ---- what is to be acknowledged

-- the ticket is for the chunk on the seat
abbrev pub is_ticket : (seat i : ℕ) → Ticket → Bool
is_ticket seat i t = (t.seat == seat) && (t.chunk == i)

-- Such a ticket waits: of a chunk that isn't committed yet, of one that was, or of one that came again.
abbrev pub AwaitsTicket : (seat i : ℕ) → QueueState → Type 0
AwaitsTicket seat i q = (list_any (λ w. is_ticket seat i w.ticket) q.waiting ≡ true)
    ⊎ ((list_any (is_ticket seat i) q.tickets ≡ true) ⊎ (list_any (is_ticket seat i) q.repeats ≡ true))

-- Of a chunk that came first by a record an ACK went on the channel, while that is plain, or the ticket waits with its seat.
abbrev pub AwaitsFor : Descriptor → LookUp → Parts → (whole before : List Record) → Record → Type 0
AwaitsFor d book p whole before r = (n i : ℕ) (c : Channel) (life : Life) (bytes : List ℕ) → channel_at p.seats.table n ≡ Some c
    → IsPlainNow d life whole → life.address ≡ address_of c.address → life.local ≡ c.local → IsFirst d book life before r i bytes
    → (is_acknowledged i (story d life whole) ≡ true) ⊎ AwaitsTicket n i p.holding.queue

-- Of each chunk that came first an ACK went, or its ticket waits.
abbrev pub AwaitsAck : Descriptor → LookUp → Parts → List Record → Type 0
AwaitsAck d book p past = EachRecord (AwaitsFor d book p past) past

-- Each chunk that is pending came.
abbrev pub PendingCame : Descriptor → Parts → List Record → Type 0
PendingCame d p past = (i : ℕ) → is_pending (batch_of p.holding) i ≡ true → list_any (came_in d i) past ≡ true

-- What came first is acknowledged or its ticket waits, and what is pending came.
pub record KeepsAcks (d : Descriptor) (book : LookUp) (p : Parts) (past : List Record) : Type 0 where
  pub awaits : AwaitsAck d book p past
  pub came : PendingCame d p past

-- Nothing that came again is to be acknowledged.
abbrev pub HasNoRepeat : Parts → Type 0
HasNoRepeat p = p.holding.queue.repeats ≡ []
