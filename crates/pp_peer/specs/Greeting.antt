-- Handshakes, dials, and channels that end.
use Rattle.std.specs.Prelude.{◌≡◌, ◌≢◌, ◌⊎◌, ℕ, zero, suc, ◌+◌, ◌-◌, ◌^◌, ◌<◌, ◌≤◌, ◌==◌, Bool, true, false, cond, not, ◌&&◌, Option, Some, None, position, List, [], ◌∷◌, ◌++◌, length, slice_get, slice_set, slice_index_or}
use Rattle.std.specs.List.{AllByRecursion}
use Rattle.pp_terms.specs.Count.{HasRisen}
use Rattle.pp_terms.specs.disk.Disk.{moment_of}
use Rattle.pp_terms.specs.format.Descriptor.{Descriptor}
use Rattle.pp_terms.specs.format.Messages.{Handshake}
use Rattle.pp_terms.specs.format.Traffic.{Record, Sent, LinkState}
use Rattle.pp_counts.specs.Counts.{after_note}
use Rattle.pp_counts.specs.declared.counts.Counts.{Counts}
use Rattle.pp_counts.specs.declared.note.Note.{Note}
use Rattle.pp_counts.specs.declared.note.Note.TheVariants as notes
use Rattle.pp_outside.specs.Outside.{address_of}
use Rattle.pp_outside.specs.declared.link.Address.{Address}
use Rattle.pp_requests.specs.declared.asking.Asking.{Asking}
use Rattle.pp_requests.specs.Moments.{asked_at, entry_of, NoneExpired, is_lost, NoneLost}
use Rattle.pp_requests.specs.Seats.{Seating, since}
use Rattle.pp_channels.specs.Seats.{channel_at}
use Rattle.pp_channels.specs.Timing.{is_over}
use Rattle.pp_channels.specs.declared.channel.Channel.{Channel}
use Rattle.pp_lives.specs.Fars.{far_of}
use Rattle.pp_lives.specs.declared.lives.Far.{Far}
use Rattle.pp_draft.specs.Datagrams.{IsDatagram}
use Rattle.pp_draft.specs.Notes.{no_options}
use Rattle.pp_avail.specs.Offers as offers
use Rattle.pp_wanting.specs.Wants.{WantState}
use Rattle.pp_fetching.specs.Fetching.{FetchState}
use Rattle.pp_fetching.specs.Owners.{awaits}
use Rattle.pp_seat.specs.Seats.{SeatState}
use Rattle.pp_seats.specs.Greeting.{Greets, Dials, DialsNone}
use Rattle.pp_seats.specs.Reading.{is_due_at}
use Rattle.pp_seats.specs.Serving.{Refuses}
use Rattle.pp_seats.specs.Turning.{ForgetsRequests}
use Rattle.pp_peer.specs.declared.parts.Parts.{Parts}
use Rattle.pp_peer.specs.Standing.{Beginning, own_in, StandsFor}
use Rattle.pp_peer.specs.Flushing.{Scene, Flushes}

-- ---- handshakes

-- This peer's handshake was due on a seat's channel, and was sent.
pub record GreetsDue (seat moment : ℕ) (old new : Parts) (link later : LinkState) : Type 0 where
  pub due : is_due_at old.seats.moment (channel_at old.seats.table seat) ≡ true
  pub greets : Greets seat moment old.seats new.seats link later
  pub rest : new ≡ record old { seats = new.seats; counts = after_note notes.Sent old.counts }

-- A handshake was due, and the link refused it.
pub record IsRefused (seat : ℕ) (old new : Parts) (link later : LinkState) : Type 0 where
  pub due : is_due_at old.seats.moment (channel_at old.seats.table seat) ≡ true
  pub refuses : Refuses link later
  pub rest : new ≡ record old { counts = after_note notes.SendFault old.counts }

-- No handshake was due.
pub record IsNotDue (seat : ℕ) (old new : Parts) (link later : LinkState) : Type 0 where
  pub idle : is_due_at old.seats.moment (channel_at old.seats.table seat) ≡ false
  pub same : new ≡ old
  pub link_same : later ≡ link

abbrev pub IsGreeted : (seat moment : ℕ) → (sent : Bool) → (old new : Parts) → (link later : LinkState) → Type 0
IsGreeted seat moment true old new link later = GreetsDue seat moment old new link later
IsGreeted seat moment false old new link later = IsRefused seat old new link later ⊎ IsNotDue seat old new link later

-- An address was dialled: the handshake was sent, or refused.
pub record IsDialled (to : Address) (moment : ℕ) (sent : Bool) (old new : Parts) (link later : LinkState) : Type 0 where
  pub dials : Dials to moment sent old.seats new.seats link later
  pub rest : new ≡ record old { seats = new.seats; counts = after_note (cond sent notes.Sent notes.SendFault) old.counts }

-- An address wasn't dialled: a channel has it, or all seats are in use.
pub record IsNotDialled (to : Address) (old new : Parts) (link later : LinkState) : Type 0 where
  pub none : DialsNone to old.seats new.seats link later
  pub same : new ≡ old

-- ---- farewells

-- A closing handshake to a channel's peer is among the records.
pub record IsClosed (d : Descriptor) (moment : ℕ) (far : Far) (added : List Record) : Type 0 where
  pub bytes : List ℕ
  pub written : IsDatagram d far.number (Handshake 0 no_options ∷ []) bytes
  pub newer : List Record
  pub older : List Record
  pub among : added ≡ newer ++ Sent moment (address_of far.address) bytes ∷ older

-- A record is a closing handshake to the peer of some proven channel.
pub record IsFarewell (d : Descriptor) (moment : ℕ) (fars : ℕ → Option Far) (r : Record) : Type 0 where
  pub seat : ℕ
  pub far : Far
  pub is_far : fars seat ≡ Some far
  pub proven : far.proven ≡ true
  pub bytes : List ℕ
  pub written : IsDatagram d far.number (Handshake 0 no_options ∷ []) bytes
  pub is : r ≡ Sent moment (address_of far.address) bytes

-- where the datagrams of each seat go
abbrev pub fars_of : Parts → ℕ → Option Far
fars_of p seat = far_of (channel_at p.seats.table seat)

abbrev pub is_proven_at : Option Far → Bool
is_proven_at None = false
is_proven_at (Some far) = far.proven

-- how many proven channels the seats below a number have
unfoldable pub proven_below : (fars : ℕ → Option Far) → ℕ → ℕ
proven_below fars zero = 0
proven_below fars (suc n) = cond (is_proven_at (fars n)) 1 0 + proven_below fars n

-- the counts once a note was taken so many times
abbrev pub after_times : ℕ → Note → Counts → Counts
after_times zero note k = k
after_times (suc n) note k = after_note note (after_times n note k)

-- the counts once so many farewells were sent, and so many refused
abbrev pub after_farewells : (sent refused : ℕ) → Counts → Counts
after_farewells sent refused k = after_times refused notes.SendFault (after_times sent notes.Sent k)

-- On a seat's channel one was sent where it is proven, unless the link refused it, and nothing else was. It is counted as sent or as
-- refused.
pub record PartsAt (seat : ℕ) (old new : Scene) : Type 0 where
  pub flushes : Flushes 0 old new
  pub closes : (far : Far) → fars_of old.parts seat ≡ Some far → far.proven ≡ true
      → IsClosed old.parts.seats.descriptor (moment_of old.disk.history) far flushes.added
      ⊎ HasRisen old.link.faults new.link.faults
  pub others : AllByRecursion (IsFarewell old.parts.seats.descriptor (moment_of old.disk.history) (fars_of old.parts)) flushes.added
  pub once : length flushes.added ≤ cond (is_proven_at (fars_of old.parts seat)) 1 0
  pub counted : new.parts.counts ≡ after_farewells (length flushes.added)
      (cond (is_proven_at (fars_of old.parts seat)) 1 0 - length flushes.added) old.parts.counts
  pub fars : (other : ℕ) → fars_of new.parts other ≡ fars_of old.parts other
  pub rest : new.parts ≡ record old.parts { seats = new.parts.seats; counts = new.parts.counts }

-- On each proven channel of the seats below a number a closing handshake was sent, once, unless the link refused it, and nothing
-- else was. Each is counted as sent or as refused.
pub record Parting (below : ℕ) (old new : Scene) : Type 0 where
  pub flushes : Flushes 0 old new
  pub each : (seat : ℕ) (far : Far) → seat < below → fars_of old.parts seat ≡ Some far → far.proven ≡ true
      → IsClosed old.parts.seats.descriptor (moment_of old.disk.history) far flushes.added
      ⊎ HasRisen old.link.faults new.link.faults
  pub others : AllByRecursion (IsFarewell old.parts.seats.descriptor (moment_of old.disk.history) (fars_of old.parts)) flushes.added
  pub once : length flushes.added ≤ proven_below (fars_of old.parts) below
  pub counted : new.parts.counts ≡ after_farewells (length flushes.added)
      (proven_below (fars_of old.parts) below - length flushes.added) old.parts.counts
  pub fars : (seat : ℕ) → fars_of new.parts seat ≡ fars_of old.parts seat
  pub rest : new.parts ≡ record old.parts { seats = new.parts.seats; counts = new.parts.counts }

-- ---- channels that end

-- the seats of the slots without one of them
abbrev pub without_seat : ℕ → Seating → Seating
without_seat seat s = record { slots = slice_set s.slots seat None; waiting = slice_set s.waiting seat None; turned = s.turned }

-- The seat offers nothing any more, and its own requests are asked for nowhere.
pub record ReleasesIn (seat : ℕ) (own : List Asking) (old new : FetchState) : Type 0 where
  pub had : new.want.had ≡ old.want.had
  pub limit : new.want.limit ≡ old.want.limit
  pub asked : (i : ℕ) → slice_index_or new.want.asked i false ≡ (slice_index_or old.want.asked i false && not (awaits own i))
  pub offers : (s i : ℕ) → offers.has new.offers s i ≡ (not (s == seat) && offers.has old.offers s i)

abbrev pub Releases : ℕ → List Asking → Option FetchState → Option FetchState → Type 0
Releases seat own None new = new ≡ None
Releases seat own (Some old) new = (left : FetchState) × (new ≡ Some left) × ReleasesIn seat own old left

-- Of a seat whose channel was dropped nothing is kept.
pub record Clears (seat : ℕ) (old new : Parts) : Type 0 where
  pub forgets : ForgetsRequests seat old.seats new.seats
  pub releases : Releases seat (own_in old.seats.seats seat) old.fetching new.fetching
  pub rest : new ≡ record old {
    seats = new.seats;
    fetching = new.fetching;
    slots = without_seat seat old.slots;
    questions = slice_set old.questions seat false;
  }

-- which chunks a seat offers; none to a peer that doesn't fetch
abbrev pub offers_of : Option FetchState → ℕ → ℕ → Bool
offers_of None seat i = false
offers_of (Some f) seat i = offers.has f.offers seat i

-- which chunks a peer has, and below which it wants them; nothing of one that doesn't fetch
abbrev pub wanted_of : Option FetchState → Option WantState
wanted_of None = None
wanted_of (Some f) = Some (record { had = f.want.had; asked = []; limit = f.want.limit })

-- The channel is as it was, but for the mark that another one of its address was dropped.
abbrev pub StaysBut : Option Channel → Option Channel → Type 0
StaysBut None new = new ≡ None
StaysBut (Some c) new = (mark : Bool) × (new ≡ Some (record c { shadowed = mark }))

-- All that is kept of a seat is as it was.
pub record IsUntouched (seat : ℕ) (old new : Parts) : Type 0 where
  pub channel : StaysBut (channel_at old.seats.table seat) (channel_at new.seats.table seat)
  pub messages : slice_get new.seats.seats seat ≡ slice_get old.seats.seats seat
  pub slot : since new.slots.slots seat ≡ since old.slots.slots seat
  pub waits : since new.slots.waiting seat ≡ since old.slots.waiting seat
  pub offers : (i : ℕ) → offers_of new.fetching seat i ≡ offers_of old.fetching seat i
  pub question : slice_index_or new.questions seat false ≡ slice_index_or old.questions seat false

-- A seat is free, waits for nothing, has no slot and no place in the line, offers nothing, and asked for no addresses.
pub record IsCleared (seat : ℕ) (p : Parts) : Type 0 where
  pub channel : channel_at p.seats.table seat ≡ None
  pub own : own_in p.seats.seats seat ≡ []
  pub slot : since p.slots.slots seat ≡ None
  pub waits : since p.slots.waiting seat ≡ None
  pub offers : (i : ℕ) → offers_of p.fetching seat i ≡ false
  pub question : slice_index_or p.questions seat false ≡ false

-- Some channels whose time was over were dropped, and no others, with all that was kept of them.
pub record Drops (old new : Parts) : Type 0 where
  pub moment : new.seats.moment ≡ old.seats.moment
  pub swarm : new.seats.descriptor ≡ old.seats.descriptor
  pub turned : new.slots.turned ≡ old.slots.turned
  pub sizes : (length new.slots.slots ≡ length old.slots.slots) × (length new.slots.waiting ≡ length old.slots.waiting)
  pub wanted : wanted_of new.fetching ≡ wanted_of old.fetching
  pub rest : new ≡ record old { seats = new.seats; fetching = new.fetching; slots = new.slots; questions = new.questions }
  pub each : (seat : ℕ) → seat < 64
      → IsUntouched seat old new ⊎ ((is_over old.seats.moment (channel_at old.seats.table seat) ≡ true) × IsCleared seat new)
  pub stands : (b : Beginning) (most : ℕ) (past : List Record) → StandsFor b most old past → StandsFor b most new past

-- No channel's time is over.
abbrev pub HasNoneOver : Parts → Type 0
HasNoneOver p = position (is_over p.seats.moment) p.seats.table.channels ≡ None

-- ---- own requests that expired, or were lost

-- A chunk was asked for 10 seconds ago or longer.
abbrev pub IsExpired : ℕ → Option ℕ → Type 0
IsExpired now None = ⊥
IsExpired now (Some moment) = moment + 10_000_000 ≤ now

-- A request was sent 10 seconds ago or longer, or three others overtook it.
abbrev pub IsSpent : ℕ → Option Asking → Type 0
IsSpent now None = ⊥
IsSpent now (Some x) = (x.moment + 10_000_000 ≤ now) ⊎ (is_lost x ≡ true)

-- Some own requests of a seat that expired or were lost were taken out, where there were any; where one expired the channel is only
-- probed from then on.
pub record LetsGo (now : ℕ) (old new : SeatState) : Type 0 where
  pub own : (i : ℕ)
      → (entry_of new.own i ≡ entry_of old.own i) ⊎ (IsSpent now (entry_of old.own i) × (entry_of new.own i ≡ None))
  pub rest : new ≡ record old { own = new.own; stopped = new.stopped }
  pub stopped : (new.stopped ≡ old.stopped) ⊎ ((i : ℕ) × IsExpired now (asked_at old.own i) × (new.stopped ≡ true))

abbrev pub LetsGoAt : ℕ → Option SeatState → Option SeatState → Type 0
LetsGoAt now None new = new ≡ None
LetsGoAt now (Some old) new = (left : SeatState) × (new ≡ Some left) × LetsGo now old left

-- Some own requests that expired or were lost were given up, and nothing else changed.
pub record GivesUp (old new : Parts) : Type 0 where
  pub each : (seat : ℕ) → LetsGoAt old.seats.moment (slice_get old.seats.seats seat) (slice_get new.seats.seats seat)
  pub rest : new ≡ record old { seats = record old.seats { seats = new.seats.seats }; fetching = new.fetching }
  pub wanted : wanted_of new.fetching ≡ wanted_of old.fetching
  pub offers : (seat i : ℕ) → offers_of new.fetching seat i ≡ offers_of old.fetching seat i
  pub stands : (b : Beginning) (most : ℕ) (past : List Record) → StandsFor b most old past → StandsFor b most new past

-- What was given up were requests of one seat.
pub record GivesUpAt (seat : ℕ) (old new : Parts) : Type 0 where
  pub gives_up : GivesUp old new
  pub others : (other : ℕ) → other ≢ seat → slice_get new.seats.seats other ≡ slice_get old.seats.seats other

-- None of a seat's own requests expired, or was lost.
abbrev pub HasNoneSpent : ℕ → Parts → Type 0
HasNoneSpent seat p = (s : SeatState) → slice_get p.seats.seats seat ≡ Some s → NoneExpired s.own p.seats.moment × NoneLost s.own

-- how many chunks below a number are asked for
unfoldable pub open_below : List Asking → ℕ → ℕ
open_below own zero = 0
open_below own (suc n) = cond (awaits own n) 1 0 + open_below own n

-- how many are on a seat
abbrev pub open_at : Parts → ℕ → ℕ
open_at p seat = open_below (own_in p.seats.seats seat) (2 ^ 32)
