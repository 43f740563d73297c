-- What an event does to a peer, step by step.
use Rattle.std.specs.Prelude.{◌≡◌, ℕ, ◌==◌, nat_lt, max, map, Bool, true, false, if◌then◌else◌, ◌&&◌, Some, None, List, length, slice_set}
use Rattle.pp_promises.specs.Batches.{is_due, after_read}
use Rattle.pp_outside.specs.declared.link.Address.{Address}
use Rattle.pp_outside.specs.declared.link.Event.{Event}
use Rattle.pp_outside.specs.declared.link.Event.TheVariants.{Datagram, Quiet}
use Rattle.pp_requests.specs.Seats.{Seating, seat_count}
use Rattle.pp_counts.specs.Counts.{after_note}
use Rattle.pp_counts.specs.declared.note.Note.TheVariants as notes
use Rattle.pp_pex.specs.Exchange as exchange
use Rattle.pp_lives.specs.Arriving.{Arrives, contents}
use Rattle.pp_lives.specs.declared.arriving.Arrival.{Arrival}
use Rattle.pp_lives.specs.declared.arriving.Arrival.TheVariants as arrivals
use Rattle.pp_holding.specs.Holding.{batch_of, HasWaiting}
use Rattle.pp_holding.specs.Answers.{queue_settled}
use Rattle.pp_seats.specs.Hearing.{Prepares, looked_up}
use Rattle.pp_peer.specs.declared.parts.Parts.{Parts}
use Rattle.pp_peer.specs.Greeting.{without_seat}
use Rattle.pp_peer.specs.Supporting.{supported_by}
use Rattle.pp_peer.specs.Taking.{after_some}
use Rattle.pp_peer.specs.Messages.{ReadsAll}
use Rattle.pp_peer.specs.Absorbing.{counted, is_quiet}

-- ---- a channel that begins

-- A seat without a slot has one from this moment on.
abbrev pub with_slot : (seat now : ℕ) → Seating → Seating
with_slot seat now s =
    record { slots = slice_set s.slots seat (Some now); waiting = slice_set s.waiting seat None; turned = s.turned }

-- A seat waits for a slot from this moment on.
abbrev pub with_place : (seat now : ℕ) → Seating → Seating
with_place seat now s = record s { waiting = slice_set s.waiting seat (Some now) }

-- a slot may be given, and one is free
abbrev pub has_slot_for : (slot : Bool) → Seating → Bool
has_slot_for slot s = slot && nat_lt (seat_count s.slots) 8

-- What the seat had before is forgotten; then it has a slot, or waits for one.
abbrev pub seated : (slot : Bool) (seat now : ℕ) → Seating → Seating
seated slot seat now s = if has_slot_for slot (without_seat seat s) then with_slot seat now (without_seat seat s)
    else with_place seat now (without_seat seat s)

abbrev pub with_seated : (slot : Bool) (seat : ℕ) → Parts → Parts
with_seated slot seat p = record p { slots = seated slot seat p.seats.moment p.slots }

-- Of a channel that this peer dialled, and whose reply came, the other peer awaits a datagram to learn this one's address. And it takes
-- the messages of peer exchange that its handshake tells.
abbrev pub with_channel : (is_reply : Bool) (seat : ℕ) → List ℕ → Parts → Parts
with_channel is_reply seat bytes p = record p {
  to_prove = slice_set p.to_prove seat is_reply;
  supports = slice_set p.supports seat (supported_by (contents p.seats.descriptor bytes).read);
}

-- ---- a datagram

-- An address was heard on a proven channel, maybe by a keep-alive (RFC 7574, section 3.12).
pub record HearsFrom (sender : Address) (is_bare : Bool) (old new : Parts) : Type 0 where
  pub heard : exchange.Hears old.pex.table sender old.seats.moment new.pex.table
  pub rest : new ≡ record old {
    pex = record { table = new.pex.table; queue = old.pex.queue };
    counts = if is_bare then after_note notes.KeepAlive old.counts else old.counts;
  }

-- On a proven channel the sender is heard, and then the messages do what they do.
pub record HearsProven (sender : Address) (is_bare : Bool) (seat : ℕ) (bytes : List ℕ) (old new : Parts) : Type 0 where
  pub mid : Parts
  pub hears : HearsFrom sender is_bare old mid
  pub reads : ReadsAll seat mid.seats.descriptor bytes 4 mid new

-- What a datagram does on the channel that it is for.
abbrev pub HearsArrival : Arrival → Address → List ℕ → (slot : Bool) → Parts → Parts → Type 0
HearsArrival (arrivals.Opened seat next) sender bytes slot old new =
    ReadsAll seat old.seats.descriptor bytes next (with_channel false seat bytes (with_seated slot seat old)) new
HearsArrival (arrivals.Replied seat) sender bytes slot old new =
    HearsProven sender false seat bytes (with_channel true seat bytes (with_seated slot seat old)) new
HearsArrival (arrivals.Heard seat) sender bytes slot old new = HearsProven sender (length bytes == 4) seat bytes old new
HearsArrival _ sender bytes slot old new = new ≡ old

-- A datagram came: its channel was found, or began, and was counted; then its messages did what they do.
pub record TakesDatagram (sender : Address) (bytes : List ℕ) (at : ℕ) (old new : Parts) : Type 0 where
  pub arrival : Arrival
  pub slot : Bool
  pub free : slot ≡ nat_lt (seat_count old.slots.slots) 8
  pub mid : Parts
  pub moment : mid.seats.moment ≡ max at old.seats.moment
  pub swarm : mid.seats.descriptor ≡ old.seats.descriptor
  pub arrives : Arrives old.seats.descriptor old.seats.table sender mid.seats.moment bytes arrival mid.seats.table
  pub makes : Prepares old.seats.descriptor slot arrival (record mid.seats { seats = old.seats.seats }) mid.seats
  pub rest : mid ≡ record old { seats = mid.seats; counts = after_some (counted arrival) old.counts }
  pub hears : HearsArrival arrival sender bytes slot mid new

-- ---- an event

-- the turn was counted; and a datagram too
abbrev pub after_turn : Parts → Parts
after_turn p = record p { counts = after_note notes.Turn p.counts }

abbrev pub after_datagram : Parts → Parts
after_datagram p = record p { counts = after_note notes.Datagram (after_note notes.Turn p.counts) }

abbrev pub TakesEvent : Event → List ℕ → Parts → Parts → Type 0
TakesEvent (Datagram sender len at) bytes old new = TakesDatagram sender bytes at (after_datagram old) new
TakesEvent (Quiet at) bytes old new = new ≡ record (after_turn old) { seats = record old.seats { moment = max at old.seats.moment } }

-- An event came: a datagram was counted, and its messages did what they do; then what was due was committed, and each seat looked up.
-- Before and after, what waits is what is pending in the store.
pub record Absorbs (event : Event) (bytes : List ℕ) (old new : Parts) : Type 0 where
  pub mid : Parts
  pub takes : TakesEvent event bytes old mid
  pub batch : batch_of new.holding ≡ after_read (is_quiet event) mid.seats.moment (batch_of mid.holding)
  pub queue : new.holding.queue ≡ queue_settled (is_due (is_quiet event) mid.seats.moment (batch_of mid.holding)) mid.holding.queue
  pub book : new.holding.book ≡ mid.holding.book
  pub live : new.holding.store.live ≡ true
  pub waited : HasWaiting old.holding.store old.holding.queue.waiting
  pub waits : HasWaiting new.holding.store new.holding.queue.waiting
  pub rest : new ≡ record mid {
    seats = record mid.seats { seats = map (looked_up mid.seats.moment) mid.seats.seats };
    holding = new.holding;
  }
