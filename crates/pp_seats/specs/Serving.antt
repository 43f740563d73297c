-- Chunks that go out on the seats' channels.
use Rattle.std.specs.Prelude.{◌≡◌, ◌⊎◌, ℕ, ◌+◌, ◌<◌, ◌≤◌, Bool, true, false, Some, Ok, Err, List, ◌∷◌, slice_get, slice_set, slice_index_or}
use Rattle.pp_terms.specs.Count.{HasRisen}
use Rattle.pp_terms.specs.disk.Disk.{DiskState, moment_of}
use Rattle.pp_terms.specs.format.Traffic as traffic
use Rattle.pp_terms.specs.format.Traffic.{Record, LinkState, GainsRecords}
use Rattle.pp_terms.specs.format.Descriptor.{Descriptor, chunks_of}
use Rattle.pp_terms.specs.tree.Book.{LookUp, IsRooted}
use Rattle.pp_traffic.specs.Laws.{plan}
use Rattle.pp_traffic.specs.Meter as meters
use Rattle.pp_traffic.specs.Meter.{lets_send}
use Rattle.pp_traffic.specs.Serving.{Serves}
use Rattle.pp_promises.specs.Datagrams.{Plans}
use Rattle.pp_ranges.specs.Edits.{without_below}
use Rattle.pp_requests.specs.Lists.{without, chunk_count}
use Rattle.pp_plan.specs.Told.{knows}
use Rattle.pp_outside.specs.Outside.{address_of}
use Rattle.pp_channels.specs.Seats.{channel_at}
use Rattle.pp_lives.specs.Fars.{far_of}
use Rattle.pp_lives.specs.Sending.{with_datagram}
use Rattle.pp_lives.specs.declared.lives.Far.{Far}
use Rattle.pp_store.specs.Store.{StoreState, KnowsHeld}
use Rattle.pp_draft.specs.Datagrams.{IsDatagram, delivery}
use Rattle.pp_draft.specs.Posts.{Sends}
use Rattle.pp_seat.specs.Seats.{SeatState}
use Rattle.pp_seat.specs.Follows.{IsNext, IsDone}
use Rattle.pp_desk.specs.Stored.{Reads}
use Rattle.pp_terms.specs.tree.Range.{IsRunsFrom}
use Rattle.pp_seats.specs.declared.serving.Next.{Next}
use Rattle.pp_seats.specs.declared.serving.Served.{Served}
use Rattle.pp_seats.specs.declared.serving.Served.TheVariants as outcomes
use Rattle.pp_seats.specs.Standing.{SeatsState, Setting, StandsFor}
use Rattle.pp_seats.specs.Sending.{HoldsAnnounced, IsSilent}

-- The store is one of the swarm, and the book has what goes before each chunk that the store holds.
pub record CanServe (d : Descriptor) (s : StoreState) (book : LookUp) : Type 0 where
  pub swarm : s.descriptor ≡ d
  pub rooted : IsRooted d book
  pub knows : KnowsHeld s book

-- whether the store has committed the chunk
abbrev pub is_committed : StoreState → ℕ → Bool
is_committed s i = slice_index_or s.committed i false

-- On the seat's channel nothing can be said; or its peer's address isn't shown to be no forged one, there is no slot, no room in the
-- window, or no chunk on the list.
abbrev pub HasNothing : SeatsState → ℕ → Type 0
HasNothing p seat = IsSilent (far_of (channel_at p.table seat))
    ⊎ ((s : SeatState) × (slice_get p.seats seat ≡ Some s) × ((s.proven ≡ false) ⊎ IsDone s))

-- A chunk may go next on the seat's channel.
pub record MayGo (p : SeatsState) (seat : ℕ) (far : Far) (s : SeatState) (i : ℕ) : Type 0 where
  pub is_far : far_of (channel_at p.table seat) ≡ Some far
  pub begun : far.begun ≡ true
  pub there : slice_get p.seats seat ≡ Some s
  pub proven : s.proven ≡ true
  pub next : IsNext s i

-- The next chunk does so, to that receiver.
pub record IsReadied (p : SeatsState) (seat : ℕ) (next : Next) : Type 0 where
  pub far : Far
  pub before : SeatState
  pub may : MayGo p seat far before next.chunk
  pub content : next.chunk < chunks_of p.descriptor
  pub runs : IsRunsFrom 0 before.list
  pub address : next.to.address ≡ far.address
  pub number : next.to.channel ≡ far.number

-- Chunks that the store hasn't committed left the list.
pub record PassesOver (seat : ℕ) (store : StoreState) (old new : SeatsState) : Type 0 where
  pub far : Far
  pub before : SeatState
  pub after : SeatState
  pub chunk : ℕ
  pub may : MayGo old seat far before chunk
  pub absent : is_committed store chunk ≡ false
  -- those below this one
  pub end : ℕ
  pub exact : after ≡ record before { list = without_below end before.list }
  pub gap : (i : ℕ) → chunk ≤ i → i < end → is_committed store i ≡ false
  pub is : new ≡ record old { seats = slice_set old.seats seat after }
  pub fewer : chunk_count after.list < chunk_count before.list
  pub stands : (x : Setting) (most : ℕ) (past : List Record) → StandsFor x most old past → HoldsAnnounced x (is_committed store) past
      → StandsFor x most new past

-- A chunk left the list and wasn't sent.
pub record GivesUpChunk (seat : ℕ) (store : StoreState) (chunk : ℕ) (old new : SeatsState) : Type 0 where
  pub far : Far
  pub before : SeatState
  pub after : SeatState
  pub may : MayGo old seat far before chunk
  pub committed : is_committed store chunk ≡ true
  pub exact : after ≡ record before { list = without chunk before.list }
  pub is : new ≡ record old { seats = slice_set old.seats seat after }
  pub fewer : chunk_count after.list + 1 ≡ chunk_count before.list
  pub stands : (x : Setting) (most : ℕ) (past : List Record) → StandsFor x most old past → StandsFor x (most + 1) new past

-- The link refused it.
pub record Refuses (link later : LinkState) : Type 0 where
  pub traffic : later.traffic ≡ link.traffic
  pub risen : HasRisen link.faults later.faults
  pub grows : link.faults ≤ later.faults
  pub nexts : later.nexts ≡ link.nexts
  pub bound : later.bound ≡ link.bound

-- A chunk was sent behind the hashes of its plan: those that the peer lacks. It answers the peer, and the seats stand for it.
pub record SendsChunk (seat : ℕ) (store : StoreState) (book : LookUp) (old new : SeatsState) (link later : LinkState)
    (disk left : DiskState) : Type 0 where
  pub far : Far
  pub before : SeatState
  pub after : SeatState
  pub chunk : ℕ
  pub may : MayGo old seat far before chunk
  pub committed : is_committed store chunk ≡ true
  pub exact : after ≡ record before { list = without chunk before.list; window = meters.sent chunk old.moment before.window }
  pub is : new ≡ record old { table = with_datagram old.table seat false old.moment; seats = slice_set old.seats seat after }
  pub fewer : chunk_count after.list + 1 ≡ chunk_count before.list
  pub bytes : List ℕ
  pub reads : Reads store book chunk (Ok tt) bytes disk left
  pub datagram : List ℕ
  pub written : IsDatagram old.descriptor far.number
      (delivery book (plan before.told.chunks (knows before.told) chunk) chunk old.moment bytes) datagram
  pub sends : Sends (address_of far.address) datagram (moment_of left.history) link later true
  pub stands : (x : Setting) (most : ℕ) (past : List Record) → StandsFor x most old past
      → StandsFor x most new (traffic.Sent (moment_of left.history) (address_of far.address) datagram ∷ past)
  pub serves : (x : Setting) (most : ℕ) (past : List Record) → StandsFor x most old past
      → Serves x.d book (lets_send x.d.chunk) past (traffic.Sent (moment_of left.history) (address_of far.address) datagram)
  pub plans : (x : Setting) (most : ℕ) (past : List Record) → StandsFor x most old past
      → Plans x.d (lets_send x.d.chunk) past (traffic.Sent (moment_of left.history) (address_of far.address) datagram)

-- What became of a seat's next chunk.
abbrev pub Serving : ℕ → StoreState → LookUp → Served → SeatsState → SeatsState → LinkState → LinkState → DiskState → DiskState → Type 0
Serving seat store book outcomes.Done old new link later disk left = (new ≡ old) × (later ≡ link) × (left ≡ disk) × HasNothing old seat
Serving seat store book outcomes.Passed old new link later disk left = (later ≡ link) × (left ≡ disk) × PassesOver seat store old new
Serving seat store book outcomes.Sent old new link later disk left = SendsChunk seat store book old new link later disk left
Serving seat store book outcomes.Refused old new link later disk left =
    (i : ℕ) × (bytes : List ℕ) × Refuses link later × Reads store book i (Ok tt) bytes disk left × GivesUpChunk seat store i old new
Serving seat store book (outcomes.Unread why) old new link later disk left =
    (i : ℕ) × (bytes : List ℕ) × (later ≡ link) × Reads store book i (Err why) bytes disk left × GivesUpChunk seat store i old new

-- A committed chunk is launched: it is sent, refused, or can't be read.
abbrev pub Launches : ℕ → StoreState → LookUp → Served → SeatsState → SeatsState → LinkState → LinkState → DiskState → DiskState → Type 0
Launches seat store book outcomes.Done old new link later disk left = ⊥
Launches seat store book outcomes.Passed old new link later disk left = ⊥
Launches seat store book served old new link later disk left = Serving seat store book served old new link later disk left
