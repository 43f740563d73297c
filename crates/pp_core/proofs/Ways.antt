-- The messages of a datagram, and what they leave of what waits.
use Rattle.std.proofs.Common.{◌≡◌, ◌⊎◌, inl, inr, ⊎_elim, ℕ, ◌+◌, ◌≤◌, eqb, Bool, true, false, cond, Option, List, [], ◌∷◌, ◌++◌, length, drop, refl, sym, ◌∙◌, ap, subst, arith}
use Rattle.std.specs.List.{list_any}
use Rattle.std.proofs.lemmas.Bool.{cases_Bool, both_ways, false≢true, or_left, or_right, or_cases, or_parts}
use Rattle.std.proofs.lemmas.List.Folds.{list_any-append}
use Rattle.pp_terms.specs.disk.Disk.{DiskState}
use Rattle.pp_terms.specs.format.Descriptor.{Descriptor}
use Rattle.pp_terms.specs.format.Messages.{Message, Handshake, Messages}
use Rattle.pp_terms.specs.format.Traffic.{Record, LinkState}
use Rattle.pp_traffic.specs.Life.{closes}
use Rattle.pp_promises.specs.Announced.{is_data, came_in}
use Rattle.pp_promises.specs.Batches.{Batch, is_pending, is_due}
use Rattle.pp_outside.specs.Arrivals.{IsEvent}
use Rattle.pp_outside.specs.Outside.{record_of}
use Rattle.pp_outside.specs.declared.link.Address.{Address}
use Rattle.pp_outside.specs.declared.link.Event.{Event}
use Rattle.pp_outside.specs.declared.link.Event.TheVariants as events
use Rattle.pp_avail.specs.declared.ranker.Rank.{Rank}
use Rattle.pp_lives.specs.Arriving.{contents, Arrives}
use Rattle.pp_lives.specs.declared.arriving.Arrival.{Arrival}
use Rattle.pp_lives.specs.declared.arriving.Arrival.TheVariants as arrivals
use Rattle.pp_lives.proofs.Arrivals.{contents_read}
use Rattle.pp_lives.proofs.Seated.{behind}
use Rattle.pp_channels.specs.Seats.{Seats}
use Rattle.pp_holding.specs.Holding.{HoldingState, batch_of}
use Rattle.pp_holding.specs.Queue.{QueueState}
use Rattle.pp_peer.specs.declared.parts.Parts.{Parts}
use Rattle.pp_peer.specs.Absorbing.{is_quiet}
use Rattle.pp_peer.specs.Events.{HearsArrival, TakesDatagram, TakesEvent, after_datagram, Absorbs}
use Rattle.pp_peer.specs.Messages.{InTurn, before_close, ReadsAll}
use Rattle.pp_peer.specs.Taking.{read_at}
use Rattle.pp_peer.proofs.Arrived.{datagram_is}
use Rattle.pp_core.specs.Remembering.{AwaitsTicket, PendingCame}
use Rattle.pp_core.specs.Opening.{HasBegun}
use Rattle.pp_core.specs.Peers.{PeerState}
use Rattle.pp_core.specs.Turning.{after_refusal, Sends}
use Rattle.pp_core.proofs.Awaited.{settled_awaits}
use Rattle.pp_core.proofs.Walks.{data_count, closed_count, HasRooms, IsWalk, DataAre, data_any, data_none, turn_walks, WaitsIn, waits_walk, IsNotPending, pending_walk, pending_read}

-- ---- the messages of a datagram

-- the messages before one that closes are among all
closed_any : (test : Message → Bool) (ms : List Message) → list_any test (before_close ms) ≡ true → list_any test ms ≡ true
closed_any test [] e = e
closed_any test (Handshake source options ∷ ms) e = of (eqb source 0) e (closed_any test ms)
  where
    of : (b : Bool) → list_any test (cond b [] (Handshake source options ∷ before_close ms)) ≡ true → (list_any test (before_close ms) ≡ true → list_any test ms ≡ true)
        → list_any test (Handshake source options ∷ ms) ≡ true
    of true e rest = absurd (false≢true e)
    of false e rest = ⊎_elim
        (λ here. or_left (test (Handshake source options)) (list_any test ms) here)
        (λ later. or_right (test (Handshake source options)) (list_any test ms) (rest later))
        (or_cases (test (Handshake source options)) (list_any test (before_close ms)) e)
closed_any test (m ∷ ms) e = ⊎_elim
    (λ here. or_left (test m) (list_any test ms) here)
    (λ later. or_right (test m) (list_any test ms) (closed_any test ms later))
    (or_cases (test m) (list_any test (before_close ms)) e)

any_drop : (test : Message → Bool) (ms : List Message) → list_any test (drop 1 ms) ≡ true → list_any test ms ≡ true
any_drop test [] e = e
any_drop test (m ∷ ms) e = or_right (test m) (list_any test ms) e

-- A datagram's messages did what they do one after the other, on a seat; each is one of the datagram's.
pub record IsWay (d : Descriptor) (bytes : List ℕ) (h : HoldingState) (mid : Parts) : Type 0 where
  pub seat : ℕ
  pub messages : List Message
  pub first : Parts
  pub last : Parts
  pub in_turn : InTurn seat messages first last
  pub begins : first.holding ≡ h
  pub ends : mid.holding ≡ last.holding
  pub start : ℕ
  pub are : messages ≡ before_close (read_at d bytes start)
  pub long : 4 ≤ length bytes
  pub inside : (i : ℕ) → list_any (is_data i) messages ≡ true → list_any (is_data i) (contents d bytes).read ≡ true

read_way : (seat : ℕ) (d e : Descriptor) (bytes : List ℕ) (start : ℕ) (h : HoldingState) (old new : Parts) → ReadsAll seat e bytes start old new
    → e ≡ d → old.holding ≡ h → 4 ≤ length bytes
    → ((i : ℕ) → list_any (is_data i) (read_at d bytes start) ≡ true → list_any (is_data i) (contents d bytes).read ≡ true) → IsWay d bytes h new
read_way seat d e bytes start h old new r swarm begins long inside = record {
  seat = seat;
  messages = before_close (read_at e bytes start);
  first = old;
  last = r.mid;
  in_turn = r.in_turn;
  begins = begins;
  ends = ⊎_elim
      (λ shut. ap (λ (p : Parts). p.holding) (r.shuts shut).rest)
      (λ stays. ap (λ (p : Parts). p.holding) (r.stays stays))
      (cases_Bool (closes (read_at e bytes start)));
  start = start;
  are = ap (λ (x : Descriptor). before_close (read_at x bytes start)) swarm;
  long = long;
  inside = λ i some. inside i (ap (λ (x : Descriptor). list_any (is_data i) (read_at x bytes start)) (sym swarm)
      ∙ closed_any (is_data i) (read_at e bytes start) some);
}

module _ (d : Descriptor) (t seats : Seats) (sender : Address) (now : ℕ) (bytes : List ℕ) (h : HoldingState) where
  -- a datagram has a way, or changes nothing of what is held
  arrival_way : (a : Arrival) (slot : Bool) (old new : Parts) → HearsArrival a sender bytes slot old new → Arrives d t sender now bytes a seats
      → old.seats.descriptor ≡ d → old.holding ≡ h → IsWay d bytes h new ⊎ (new.holding ≡ h)
  arrival_way (arrivals.Opened seat next) slot old new r arrives swarm same =
      inl (read_way seat d old.seats.descriptor bytes next h _ new r swarm same arrives.long
      (λ i some. any_drop (is_data i) (contents d bytes).read
      (ap (λ (ms : List Message). list_any (is_data i) ms) (sym (behind d t seats sender now bytes (arrivals.Opened seat next) arrives).1) ∙ some)))
  arrival_way (arrivals.Replied seat) slot old new r arrives swarm same =
      inl (read_way seat d r.mid.seats.descriptor bytes 4 h r.mid new r.reads (ap (λ (p : Parts). p.seats.descriptor) r.hears.rest ∙ swarm)
      (ap (λ (p : Parts). p.holding) r.hears.rest ∙ same) arrives.long (λ i some. some))
  arrival_way (arrivals.Heard seat) slot old new r arrives swarm same =
      inl (read_way seat d r.mid.seats.descriptor bytes 4 h r.mid new r.reads (ap (λ (p : Parts). p.seats.descriptor) r.hears.rest ∙ swarm)
      (ap (λ (p : Parts). p.holding) r.hears.rest ∙ same) arrives.long (λ i some. some))
  arrival_way a slot old new r arrives swarm same = inr (ap (λ (p : Parts). p.holding) r ∙ same)

datagram_way : (sender : Address) (bytes : List ℕ) (at : ℕ) (old mid : Parts) → TakesDatagram sender bytes at old mid
    → IsWay old.seats.descriptor bytes old.holding mid ⊎ (mid.holding ≡ old.holding)
datagram_way sender bytes at old mid t = arrival_way old.seats.descriptor old.seats.table t.mid.seats.table sender t.mid.seats.moment bytes old.holding
    t.arrival t.slot t.mid mid t.hears t.arrives t.swarm (ap (λ (p : Parts). p.holding) t.rest)

-- ---- a fact that walks

-- There is room for the tickets of all chunks that the datagram can bring.
abbrev pub HasRoomsFor : Descriptor → List ℕ → QueueState → Type 0
HasRoomsFor d bytes q = (start : ℕ) → HasRooms (data_count (read_at d bytes start)) q

module _ (ok : ℕ → Type 0) (K : ℕ → HoldingState → Type 0) (w : (seat : ℕ) → IsWalk seat ok K) where
  way_walks : (d : Descriptor) (bytes : List ℕ) (h : HoldingState) (mid : Parts) (way : IsWay d bytes h mid) → DataAre ok way.messages
      → ((start : ℕ) → K (data_count (read_at d bytes start)) h) → K 0 mid.holding
  way_walks d bytes h mid way are k = subst (K 0) (sym way.ends)
      (turn_walks way.seat ok K (w way.seat) 0 way.messages way.first way.last are way.in_turn
      (subst (K (data_count way.messages + 0)) (sym way.begins)
      ((w way.seat).fewer (data_count (read_at d bytes way.start)) (data_count way.messages + 0) h
      (let many = ap data_count way.are in let few = closed_count (read_at d bytes way.start) in omega (arith, many, few)) (k way.start))))

  none_walks : (d : Descriptor) (bytes : List ℕ) (h g : HoldingState) → g ≡ h → ((start : ℕ) → K (data_count (read_at d bytes start)) h) → K 0 g
  none_walks d bytes h g same k = subst (K 0) (sym same) ((w 0).fewer (data_count (read_at d bytes 0)) 0 h (omega arith) (k 0))

  pub mid_walks : (event : Event) (bytes : List ℕ) (old mid : Parts) → TakesEvent event bytes old mid
      → ((way : IsWay old.seats.descriptor bytes old.holding mid) → DataAre ok way.messages)
      → ((start : ℕ) → K (data_count (read_at old.seats.descriptor bytes start)) old.holding) → K 0 mid.holding
  mid_walks (events.Datagram sender len at) bytes old mid t are k = ⊎_elim
      (λ way. way_walks old.seats.descriptor bytes old.holding mid way (are way) k)
      (λ same. none_walks old.seats.descriptor bytes old.holding mid.holding same k)
      (datagram_way sender bytes at (after_datagram old) mid t)
  mid_walks (events.Quiet at) bytes old mid t are k =
      none_walks old.seats.descriptor bytes old.holding mid.holding (ap (λ (p : Parts). p.holding) t) k

-- ---- tickets

-- a ticket goes on waiting when something comes
pub absorb_ticket : (event : Event) (bytes : List ℕ) (old new : Parts) → Absorbs event bytes old new
    → HasRoomsFor old.seats.descriptor bytes old.holding.queue → (n i : ℕ) → AwaitsTicket n i old.holding.queue → AwaitsTicket n i new.holding.queue
absorb_ticket event bytes old new a rooms n i waits =
    let k = mid_walks (λ k. Unit {0}) (WaitsIn n i) (λ seat. waits_walk seat n i) event bytes old a.mid a.takes (λ way. data_any way.messages)
    (λ start. (rooms start, waits)) in
    let room = k.0.tickets in
    settled_awaits n i (is_due (is_quiet event) a.mid.seats.moment (batch_of a.mid.holding)) a.mid.holding.queue new.holding.queue a.queue
    (omega (arith, room)) k.1

-- ---- chunks that are pending came

pub begun_came : (d swarm : Descriptor) (random : List ℕ) (asks : Option Rank) (dial : List Address) (p : PeerState)
    → HasBegun swarm random asks dial p → PendingCame d p.parts []
begun_came d swarm random asks dial p h i pending =
    absurd (false≢true (sym (ap (λ (q : QueueState). is_pending (batch_of (record p.parts.holding { queue = q })) i) h.holding.empty) ∙ pending))

pub refused_came : (d : Descriptor) (p : PeerState) (past : List Record) → PendingCame d p.parts past → PendingCame d (after_refusal p).parts past
refused_came d p past came = came

pub flush_came : (refused : ℕ) (old new : PeerState) (link later : LinkState) (disk left : DiskState)
    → (course : Sends refused old new link later disk left) → (d : Descriptor) (past : List Record) → PendingCame d old.parts past
    → PendingCame d new.parts (course.flushes.added ++ past)
flush_came refused old new link later disk left course d past came i pending =
    list_any-append (came_in d i) course.flushes.added past
    ∙ or_right (list_any (came_in d i) course.flushes.added) (list_any (came_in d i) past)
    (came i (sym (ap (λ (p : Parts). is_pending (batch_of p.holding) i) course.rest
    ∙ ap (λ (h : HoldingState). is_pending (batch_of h) i) course.flushes.holding) ∙ pending))

-- a message of a datagram came in its record
way_came : (d : Descriptor) (event : Event) (bytes : List ℕ) (h : HoldingState) (mid : Parts) (i : ℕ) → IsEvent event bytes
    → (sender : Address) (len at : ℕ) → event ≡ events.Datagram sender len at → (way : IsWay d bytes h mid)
    → list_any (is_data i) way.messages ≡ true → came_in d i (record_of event bytes) ≡ true
way_came d event bytes h mid i fits sender len at is way some =
    ap (came_in d i) (datagram_is event bytes sender len at is fits)
    ∙ ap (λ (m : Messages). list_any (is_data i) m.read) (contents_read d bytes way.long) ∙ way.inside i some

-- what waits when something came had come
pub absorb_came : (d : Descriptor) (past : List Record) (event : Event) (bytes : List ℕ) (old new : Parts) → Absorbs event bytes old new
    → IsEvent event bytes → old.seats.descriptor ≡ d → PendingCame d old past → PendingCame d new (record_of event bytes ∷ past)
absorb_came d past event bytes old new a fits swarm came i pending = ⊎_elim
    (λ is. is)
    (λ none. absurd (both_ways (is_pending (batch_of new.holding) i)
    (ap (λ (b : Batch). is_pending b i) a.batch ∙ pending_read (is_quiet event) a.mid.seats.moment i (batch_of a.mid.holding) (middle none)) pending))
    (cases_Bool (list_any (came_in d i) (record_of event bytes ∷ past)))
  where
    absent : list_any (came_in d i) past ≡ false → is_pending (batch_of old.holding) i ≡ false
    absent none = ⊎_elim
        (λ was. absurd (both_ways (list_any (came_in d i) past) none (came i was)))
        (λ no. no)
        (cases_Bool (is_pending (batch_of old.holding) i))

    messages : (e : Event) → e ≡ event → came_in d i (record_of event bytes) ≡ false → (way : IsWay old.seats.descriptor bytes old.holding a.mid)
        → list_any (is_data i) way.messages ≡ false
    messages (events.Datagram sender len at) is none way = ⊎_elim
        (λ some. absurd (both_ways (came_in d i (record_of event bytes)) none
        (subst (λ (x : Descriptor). came_in x i (record_of event bytes) ≡ true) swarm
        (way_came old.seats.descriptor event bytes old.holding a.mid i fits sender len at (sym is) way some))))
        (λ no. no)
        (cases_Bool (list_any (is_data i) way.messages))
    messages (events.Quiet at) is none way =
        absurd (let empty = ap (λ (xs : List ℕ). length xs) (subst (λ (x : Event). IsEvent x bytes) (sym is) fits) in
        let long = way.long in
        omega (arith, empty, long))

    middle : list_any (came_in d i) (record_of event bytes ∷ past) ≡ false → is_pending (batch_of a.mid.holding) i ≡ false
    middle none =
        let parts = or_parts (came_in d i (record_of event bytes)) (list_any (came_in d i) past) none in
        mid_walks (λ k. eqb k i ≡ false) (IsNotPending i) (λ seat. pending_walk seat i) event bytes old a.mid a.takes
        (λ way. data_none i way.messages (messages event refl parts.0 way)) (λ start. absent parts.1)
