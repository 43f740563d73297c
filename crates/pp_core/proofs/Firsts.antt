-- Each chunk that comes first on a plain channel and is proven has a ticket there until it is acknowledged.
use Rattle.std.proofs.Common.{◌≡◌, inr, ⊎_elim, ℕ, ◌≤◌, true, false, Option, Some, List, [], ◌∷◌, ◌++◌, length, refl, sym, ◌∙◌, ap, subst, arith}
use Rattle.std.specs.Prelude.{slice_get}
use Rattle.std.specs.List.{list_any}
use Rattle.std.proofs.lemmas.Bool.{cases_Bool, both_ways, false≢true}
use Rattle.pp_terms.specs.Count.{HasRisen}
use Rattle.pp_terms.specs.disk.Disk.{DiskState, moment_of}
use Rattle.pp_terms.specs.format.Descriptor.{Descriptor, chunks_of}
use Rattle.pp_terms.specs.format.Messages.{Message, Data, Messages}
use Rattle.pp_terms.specs.format.Options.{IsBytes}
use Rattle.pp_terms.specs.format.Traffic.{Record, Received, LinkState}
use Rattle.pp_terms.specs.tree.Book.{LookUp}
use Rattle.pp_terms.specs.tree.Content.{IsChunkSize}
use Rattle.pp_tree.specs.Book.{entry}
use Rattle.pp_traffic.specs.Life.{Life}
use Rattle.pp_traffic.specs.Plain.{IsPlainNow}
use Rattle.pp_promises.specs.Announced.{came_in, IsFirst}
use Rattle.pp_promises.specs.Batches.{Batch, is_in, is_pending}
use Rattle.pp_promises.specs.Stored.{claimed_before, met_before}
use Rattle.pp_promises.proofs.Growth.{contradictions_stay}
use Rattle.pp_outside.specs.Arrivals.{IsEvent}
use Rattle.pp_outside.specs.Outside.{address_of, record_of}
use Rattle.pp_outside.specs.declared.link.Address.{Address}
use Rattle.pp_outside.specs.declared.link.Event.{Event}
use Rattle.pp_outside.specs.declared.link.Event.TheVariants as events
use Rattle.pp_avail.specs.declared.ranker.Rank.{Rank}
use Rattle.pp_paths.specs.Judge.{KeepsEntries}
use Rattle.pp_channels.specs.Seats.{channel_at}
use Rattle.pp_channels.specs.declared.channel.Channel.{Channel}
use Rattle.pp_lives.specs.Arriving.{Arrives}
use Rattle.pp_lives.specs.declared.arriving.Arrival.{Arrival}
use Rattle.pp_lives.proofs.Arrivals.{contents_read}
use Rattle.pp_lives.proofs.Plainly.{awaits_none}
use Rattle.pp_store.specs.Store.{is_held}
use Rattle.pp_holding.specs.Holding.{HoldingState, batch_of}
use Rattle.pp_holding.specs.Queue.{QueueState}
use Rattle.pp_holding.specs.declared.queue.Ticket.{Ticket}
use Rattle.pp_holding.proofs.Waitings.{is_in-batch}
use Rattle.pp_seats.specs.Hearing.{Prepares}
use Rattle.pp_peer.specs.declared.parts.Parts.{Parts}
use Rattle.pp_peer.specs.Absorbing.{is_quiet}
use Rattle.pp_peer.specs.Events.{TakesDatagram, after_datagram, Absorbs}
use Rattle.pp_peer.specs.Messages.{is_proven_in, InTurn, before_close}
use Rattle.pp_peer.specs.Standing.{Beginning, StandsFor}
use Rattle.pp_peer.specs.Taking.{read_at}
use Rattle.pp_peer.proofs.Arrived.{datagram_is}
use Rattle.pp_core.specs.Remembering.{KeepsTold, HasNoTicket, AwaitsTicket, AwaitsFor, PendingCame, KeepsAcks, HasNoRepeat}
use Rattle.pp_core.specs.Opening.{HasBegun}
use Rattle.pp_core.specs.Paths.{path_heard, path_of}
use Rattle.pp_core.specs.Peers.{PeerState}
use Rattle.pp_core.specs.Storing.{StoresIn}
use Rattle.pp_core.specs.Turning.{after_refusal, Sends}
use Rattle.pp_core.proofs.AbsorbsTold.{same_seat, dial_seat, WasOnSeat, was_on_seat}
use Rattle.pp_core.proofs.Acknowledging.{begun_awaits, refused_awaits, flush_awaits, absorb_earlier}
use Rattle.pp_core.proofs.Arriving.{on_its_seat}
use Rattle.pp_core.proofs.Awaited.{settled_awaits}
use Rattle.pp_core.proofs.Ways.{HasRoomsFor, absorb_ticket, begun_came, refused_came, flush_came, absorb_came}
use Rattle.pp_core.proofs.Judging.{proven_within}
use Rattle.pp_core.proofs.Paths.{Ends, on_path}
use Rattle.pp_core.proofs.Promised.{IsPathOn, heard_path, replied_path, if_some, shown_claims, begun_claims}
use Rattle.pp_core.proofs.Proven.{front_heard, none_claimed}
use Rattle.pp_core.proofs.Roomy.{event_room}
use Rattle.pp_core.proofs.Ticketed.{HasTicketRoom}
use Rattle.pp_core.proofs.Tickets.{ComesFirst, path_has}
use Rattle.pp_core.proofs.Walks.{data_count, closed_count, rooms_fewer, HasIfIn, in_read}

-- ---- room

-- There is room for all tickets where all were taken, and fewer chunks wait than are committed at once.
rooms_for : (d : Descriptor) (bytes : List ℕ) (h : HoldingState) → HasTicketRoom d bytes h → h.queue.repeats ≡ [] → HasRoomsFor d bytes h.queue
rooms_for d bytes h r none start = record {
  tickets = r.room start;
  repeats =
      let empty = ap (λ (ts : List Ticket). length ts) none in
      let room = r.room start in
      omega (arith, empty, room);
}

-- ---- a datagram

module _ (b : Beginning) (most : ℕ) (past : List Record) (sender : Address) (len stamp : ℕ) (bytes : List ℕ) (old new : Parts)
    (a : Absorbs (events.Datagram sender len stamp) bytes old new) (stands : StandsFor b most old past)
    (then : StandsFor b most new (record_of (events.Datagram sender len stamp) bytes ∷ past))
    (same : record_of (events.Datagram sender len stamp) bytes ≡ Received stamp (address_of sender) bytes)
    (rooms : HasRoomsFor old.seats.descriptor bytes old.holding.queue)
    (came : PendingCame b.d old past)
    (stored : StoresIn b.d (entry new.holding.book) new.holding.store past (Received stamp (address_of sender) bytes))
    (book : LookUp) (keeps : KeepsEntries (entry new.holding.book) book) where
  abbrev r : Record
  r = Received stamp (address_of sender) bytes

  abbrev t : TakesDatagram sender bytes stamp (after_datagram old) a.mid
  t = a.takes

  module _ (n i : ℕ) (c : Channel) (life : Life) (text : List ℕ) (there : channel_at new.seats.table n ≡ Some c)
      (plain : IsPlainNow b.d life (r ∷ past)) (local : life.local ≡ c.local) (first : IsFirst b.d book life past r i text) where
    held : is_held new.holding.store i ≡ true
    held = ⊎_elim
        (λ is. is)
        (λ against. absurd (first.agrees
        (contradictions_stay (entry new.holding.book) book (met_before b.d life r past first.brings.front i text) keeps against)))
        (stored life i text first.brings first.proved)

    absent : is_pending (batch_of old.holding) i ≡ false
    absent = ⊎_elim
        (λ was. absurd (both_ways (list_any (came_in b.d i) past) first.none_before (came i was)))
        (λ no. no)
        (cases_Bool (is_pending (batch_of old.holding) i))

    -- the messages up to the chunk's, and those behind it
    abbrev heard : List Message
    heard = first.brings.front ++ Data i first.brings.sent_at text ∷ before_close first.brings.rest

    module _ (seat : ℕ) (long : 4 ≤ length bytes) (p : IsPathOn seat bytes (path_heard t.arrival sender bytes t.slot t.mid a.mid t.hears) t.mid)
        (proven : (q : Parts) → q.seats ≡ t.mid.seats → is_proven_in (slice_get q.seats.seats seat) ≡ true) where
      ends : Ends p.path old a.mid
      ends = if_some (λ path. Ends path old a.mid) (path_of (events.Datagram sender len stamp) bytes old a.mid t) p.path p.is
          (on_path (λ path. Ends path old a.mid) (events.Datagram sender len stamp) bytes old a.mid t (λ path e. e))

      read_is : read_at b.d bytes 4 ≡ first.brings.front ++ Data i first.brings.sent_at text ∷ first.brings.rest
      read_is = ap (λ (m : Messages). m.read) (sym (contents_read b.d bytes long)) ∙ first.brings.messages

      messages : p.path.messages ≡ heard
      messages = p.messages ∙ ap (λ (e : Descriptor). before_close (read_at e bytes 4)) (t.swarm ∙ stands.seats.swarm) ∙ ap before_close read_is
          ∙ front_heard first.brings.front (Data i first.brings.sent_at text ∷ first.brings.rest) first.brings.open_still

      start : ComesFirst b.d i (data_count heard) p.path.first.holding
      start = subst (λ (h : HoldingState). ComesFirst b.d i (data_count heard) h) (sym ends.begins) (record {
        rooms =
            let many = ap data_count (sym messages ∙ p.messages ∙ ap (λ (e : Descriptor). before_close (read_at e bytes 4)) t.swarm) in
            let few = closed_count (read_at old.seats.descriptor bytes 4) in
            rooms_fewer (data_count (read_at old.seats.descriptor bytes 4)) (data_count heard) old.holding.queue (omega (arith, many, few)) (rooms 4);
        absent = absent;
        waits = a.waited;
        swarm = stands.ledger.swarm;
      })

      has_mid : HasIfIn p.path.seat i 0 a.mid.holding
      has_mid = subst (λ (h : HoldingState). HasIfIn p.path.seat i 0 h) (sym ends.holding)
          (path_has p.path.seat i first.brings.sent_at text first.brings.front (before_close first.brings.rest) b.d p.path.first p.path.last
          (subst (λ (ms : List Message). InTurn p.path.seat ms p.path.first p.path.last) messages p.path.in_turn) start
          (ap (λ (m : ℕ). is_proven_in (slice_get p.path.first.seats.seats m)) p.seat_is ∙ proven p.path.first p.seats)
          (proven_within b.d (claimed_before b.d life r past first.brings.front) i text first.proved) first.none_in_front)

      in_mid : is_in (batch_of a.mid.holding) i ≡ true
      in_mid = in_read (is_quiet (events.Datagram sender len stamp)) a.mid.seats.moment i (batch_of a.mid.holding)
          (ap (λ (x : Batch). is_in x i) (sym a.batch) ∙ is_in-batch new.holding.store new.holding.queue.waiting i a.waits ∙ held)

      ticket : AwaitsTicket seat i new.holding.queue
      ticket = subst (λ (m : ℕ). AwaitsTicket m i new.holding.queue) p.seat_is
          (settled_awaits p.path.seat i _ a.mid.holding.queue new.holding.queue a.queue (let room = has_mid.0.tickets in omega (arith, room))
          (has_mid.1 in_mid))

    on : WasOnSeat n c old
    on = was_on_seat b most past (events.Datagram sender len stamp) bytes old new a stands then n c life there local
        (subst (λ (x : Record). IsPlainNow b.d life (x ∷ past)) (sym same) plain)

    first_ticket : AwaitsTicket n i new.holding.queue
    first_ticket = ⊎_elim
        (λ on_seat. subst (λ (m : ℕ). AwaitsTicket m i new.holding.queue)
        (same_seat b.d old.seats.table stands.seats.lives past stands.seats.standing n on.channel life on.there (local ∙ sym on.local) on_seat.has)
        (ticket on_seat.has.seat on_seat.long (heard_path t.arrival sender bytes t.slot t.mid a.mid t.hears on_seat.has.seat on_seat.is)
        (λ q same. (shown_claims b most stands.known_of old.seats t.mid.seats past stands.seats life on_seat.has
        (subst (λ (x : Arrival). Prepares old.seats.descriptor t.slot x
        (record t.mid.seats { seats = old.seats.seats }) t.mid.seats) on_seat.is t.makes) q same).proven)))
        (λ replied. subst (λ (m : ℕ). AwaitsTicket m i new.holding.queue)
        (dial_seat b.d old.seats.table stands.seats.lives past stands.seats.standing n on.channel life on.there (local ∙ sym on.local) replied.has)
        (ticket replied.has.seat replied.long (replied_path t.arrival sender bytes t.slot t.mid a.mid t.hears replied.has.seat replied.is)
        (λ q same. (begun_claims b most stands.known_of old.seats t.mid.seats past stands.seats life replied.has.seat old.seats.descriptor t.slot
        (subst (λ (x : Arrival). Prepares old.seats.descriptor t.slot x
        (record t.mid.seats { seats = old.seats.seats }) t.mid.seats) replied.is t.makes)
        (none_claimed (chunks_of b.d) b.d life past (awaits_none b.d life past replied.of_peer.0 replied.of_peer.1)) q same).proven)))
        (on_its_seat b.d old.seats.table t.mid.seats.table stands.seats.lives past sender stamp t.mid.seats.moment bytes t.arrival life
        stands.seats.standing
        (subst (λ (e : Descriptor). Arrives e old.seats.table sender t.mid.seats.moment bytes t.arrival t.mid.seats.table) stands.seats.swarm t.arrives)
        first.brings.plain first.brings.comes)

-- ---- an event

-- What came first by an event has a ticket then.
event_first : (b : Beginning) (most : ℕ) (past : List Record) (event : Event) (bytes : List ℕ) (old new : Parts)
    → Absorbs event bytes old new → IsEvent event bytes → StandsFor b most old past → StandsFor b most new (record_of event bytes ∷ past)
    → HasRoomsFor old.seats.descriptor bytes old.holding.queue → PendingCame b.d old past
    → StoresIn b.d (entry new.holding.book) new.holding.store past (record_of event bytes)
    → (book : LookUp) → KeepsEntries (entry new.holding.book) book → AwaitsFor b.d book new (record_of event bytes ∷ past) past (record_of event bytes)
event_first b most past (events.Datagram sender len stamp) bytes old new a fits stands then rooms came stored book keeps =
    let same = datagram_is (events.Datagram sender len stamp) bytes sender len stamp refl fits in
    subst (λ (x : Record). AwaitsFor b.d book new (x ∷ past) past x) (sym same)
    (λ n i c life text there plain address local first. inr (first_ticket b most past sender len stamp bytes old new a stands then same rooms came
    (subst (λ (x : Record). StoresIn b.d (entry new.holding.book) new.holding.store past x) same stored) book keeps n i c life text there plain local first))
event_first b most past (events.Quiet stamp) bytes old new a fits stands then rooms came stored book keeps =
    λ n i c life text there plain address local first. absurd (false≢true first.brings.comes)

-- ---- what is kept

pub begun_acks : (d swarm : Descriptor) (random : List ℕ) (asks : Option Rank) (dial : List Address) (p : PeerState)
    → HasBegun swarm random asks dial p → (book : LookUp) → KeepsAcks d book p.parts []
begun_acks d swarm random asks dial p h book =
    record { awaits = begun_awaits d book p.parts; came = begun_came d swarm random asks dial p h }

pub begun_unrepeated : (swarm : Descriptor) (random : List ℕ) (asks : Option Rank) (dial : List Address) (p : PeerState)
    → HasBegun swarm random asks dial p → HasNoRepeat p.parts
begun_unrepeated swarm random asks dial p h = ap (λ (q : QueueState). q.repeats) h.holding.empty

pub refused_acks : (d : Descriptor) (book : LookUp) (p : PeerState) (past : List Record) → KeepsAcks d book p.parts past
    → KeepsAcks d book (after_refusal p).parts past
refused_acks d book p past k = record { awaits = refused_awaits d book p past k.awaits; came = refused_came d p past k.came }

-- It is kept when something comes, where what comes is stored as is promised, and all tickets were taken before,
pub absorb_acks : (b : Beginning) (most : ℕ) (past : List Record) (event : Event) (bytes : List ℕ) (old new : Parts)
    → Absorbs event bytes old new → IsEvent event bytes → IsBytes bytes → IsChunkSize b.d.chunk → StandsFor b most old past
    → StandsFor b most new (record_of event bytes ∷ past) → HasNoTicket old → HasNoRepeat old → KeepsTold b.d old past
    → StoresIn b.d (entry new.holding.book) new.holding.store past (record_of event bytes)
    → (book : LookUp) → KeepsEntries (entry new.holding.book) book → KeepsAcks b.d book old past
    → KeepsAcks b.d book new (record_of event bytes ∷ past)
absorb_acks b most past event bytes old new a is fits size stands then taken unrepeated told stored book keeps k = record {
  awaits = (
    event_first b most past event bytes old new a is stands then rooms k.came stored book keeps,
    absorb_earlier b most past event bytes old new a stands then (absorb_ticket event bytes old new a rooms) book k.awaits,
  );
  came = absorb_came b.d past event bytes old new a is stands.seats.swarm k.came;
}
  where
    rooms : HasRoomsFor old.seats.descriptor bytes old.holding.queue
    rooms = subst (λ (x : Descriptor). HasRoomsFor x bytes old.holding.queue) (sym stands.seats.swarm)
        (rooms_for b.d bytes old.holding (event_room b.d event bytes old.holding size fits is taken told.few) unrepeated)

-- and by a flush in which the link refused no datagram; and then none is to be acknowledged again.
pub flush_acks : (refused : ℕ) (old new : PeerState) (link later : LinkState) (disk left : DiskState)
    → (course : Sends refused old new link later disk left) → (b : Beginning) (most : ℕ) (past before : List Record)
    → b.since ≤ moment_of disk.history → StandsFor b most old.parts past → link.traffic ≡ Some before → (HasRisen link.faults later.faults → ⊥)
    → (book : LookUp) → KeepsAcks b.d book old.parts past → KeepsAcks b.d book new.parts (course.flushes.added ++ past)
flush_acks refused old new link later disk left course b most past before since stands carries none book k = record {
  awaits = flush_awaits refused old new link later disk left course b most past before since stands carries none book k.awaits;
  came = flush_came refused old new link later disk left course b.d past k.came;
}

pub flush_unrepeated : (refused : ℕ) (old new : PeerState) (link later : LinkState) (disk left : DiskState)
    → Sends refused old new link later disk left → HasNoRepeat new.parts
flush_unrepeated refused old new link later disk left course = ap (λ (p : Parts). p.holding.queue.repeats) course.rest
