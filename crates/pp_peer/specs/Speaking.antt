-- What is said on the channels beside handshakes and chunks.
use Rattle.std.specs.Prelude.{◌≡◌, ◌⊎◌, ℕ, zero, suc, ◌+◌, ◌≤◌, nat_lt, if◌then◌else◌, slice_set, Bool, true, false, not, ◌&&◌, ◌||◌, is_some, Option, Some, None, List, [], ◌∷◌, length, slice_get, slice_index_or}
use Rattle.std.specs.List.{filter}
use Rattle.pp_terms.specs.disk.Disk.{moment_of}
use Rattle.pp_terms.specs.format.Traffic.{LinkState}
use Rattle.pp_terms.specs.tree.Range.{Span, has, IsRunsFrom}
use Rattle.pp_requests.specs.Moments.{IsRisingFrom}
use Rattle.pp_requests.specs.declared.asking.Asking.{Asking}
use Rattle.pp_counts.specs.Counts.{after_notes}
use Rattle.pp_counts.specs.declared.note.Note.TheVariants as counted
use Rattle.pp_outside.specs.declared.link.Address.{Address}
use Rattle.pp_outside.specs.declared.link.Address.TheVariants as variants
use Rattle.pp_pex.specs.Exchange.{answers}
use Rattle.pp_store.specs.Store.{is_committed}
use Rattle.pp_channels.specs.Seats.{channel_at}
use Rattle.pp_lives.specs.Fars.{far_of}
use Rattle.pp_lives.specs.declared.lives.Far.{Far}
use Rattle.pp_avail.specs.declared.ranker.Rank.{Rank}
use Rattle.pp_fetching.specs.Fetching.{FetchState, GivesBack, HasPicked, ArePicked}
use Rattle.pp_fetching.specs.Owners.{awaits}
use Rattle.pp_draft.specs.declared.note.Note.{Note}
use Rattle.pp_promises.specs.OwnSide.{most_asked}
use Rattle.pp_seat.specs.Own.{IsRested, room_of}
use Rattle.pp_seat.specs.Seats.{SeatState}
use Rattle.pp_seat.specs.Turns.{due_turn}
use Rattle.pp_seat.specs.declared.service.Turn.{Turn}
use Rattle.pp_seat.specs.declared.service.Turn.TheVariants.{Choke}
use Rattle.pp_desk.specs.declared.steps.Delivered.{Delivered}
use Rattle.pp_seats.specs.Reading.{is_silent_at, is_due_at}
use Rattle.pp_seats.specs.Sending.{Speaks}
use Rattle.pp_seats.specs.Turning.{Rewinds}
use Rattle.pp_news.specs.News.{of_seat, AreRunsOf, AreAcknowledged}
use Rattle.pp_agenda.specs.Agendas.{IsAgenda}
use Rattle.pp_agenda.specs.declared.agenda.Due.{Due}
use Rattle.pp_peer.specs.declared.parts.Parts.{Parts}
use Rattle.pp_peer.specs.declared.speaking.Hearer.{Hearer}
use Rattle.pp_peer.specs.declared.speaking.Speaker.{Speaker}
use Rattle.pp_peer.specs.declared.supporting.Supports.{Supports}
use Rattle.pp_peer.specs.Standing.{own_in}
use Rattle.pp_peer.specs.Flushing.{Scene}
use Rattle.pp_peer.specs.Greeting.{IsGreeted}
use Rattle.pp_peer.specs.Slotting.{KeepsButSlots, GivesUpSlot}

-- ---- what is to be told again

-- On a channel that isn't proven the cursor goes back to 0 where this peer's handshake goes before what is told. Else it goes back to
-- the first chunk that was committed now, if the cursor is behind it.
abbrev pub SetsBackTo : (is_proven greets : Bool) → (news : List Span) → (seat : ℕ) → Parts → Parts → Type 0
SetsBackTo true greets news seat old new = new ≡ old
SetsBackTo false true news seat old new = Rewinds seat 0 old.seats new.seats × (new ≡ record old { seats = new.seats })
SetsBackTo false false [] seat old new = new ≡ old
SetsBackTo false false (x ∷ xs) seat old new =
    Rewinds seat x.first old.seats new.seats × (new ≡ record old { seats = new.seats })

pub record SetsBack (seat : ℕ) (greets : Bool) (news : List Span) (old new : Parts) : Type 0 where
  pub known : SeatState
  pub there : slice_get old.seats.seats seat ≡ Some known
  pub sets : SetsBackTo known.proven greets news seat old new

-- ---- what is asked for

-- whether anything may be asked for on the channel of a seat
abbrev pub may_ask : SeatState → Bool
may_ask s = s.proven && not s.chokes

-- how many chunks may be awaited there: 32, or one where a request expired and no datagram came since
abbrev pub most_of : SeatState → ℕ
most_of s = if may_ask s then most_asked s.stopped else 0

-- Chunks were picked one after the other where that may be, and noted as asked for; none by a peer that doesn't fetch.
abbrev pub PicksFrom : (may : Bool) → Rank → (seat room : ℕ) → List Span → Option FetchState → Option FetchState → Type 0
PicksFrom true order seat room picks (Some old) new =
    (left : FetchState) × (new ≡ Some left) × HasPicked order seat room old picks left × ArePicked seat room old picks left
PicksFrom true order seat room picks None new = (picks ≡ []) × (new ≡ None)
PicksFrom false order seat room picks old new = (picks ≡ []) × (new ≡ old)

-- Chunks were picked for the channel of a seat, as many as there is room for beside those that are awaited there, each once.
pub record Picks (order : Rank) (seat : ℕ) (picks : List Span) (old new : Parts) : Type 0 where
  pub known : SeatState
  pub there : slice_get old.seats.seats seat ≡ Some known
  pub room : ℕ
  pub room_is : room ≡ room_of known.stopped known.own
  pub few : length known.own ≤ 32
  pub rises : IsRisingFrom 0 known.own
  pub picks_from : PicksFrom (may_ask known) order seat room picks old.fetching new.fetching
  pub rest : new ≡ record old { fetching = new.fetching }

-- The ranges have just the chunks that are awaited on the channel of a seat and were committed.
pub record AreCancels (seat : ℕ) (ranges : List Span) (p : Parts) : Type 0 where
  pub runs : IsRunsFrom 0 ranges
  pub each : (i : ℕ) → has ranges i ≡ (awaits (own_in p.seats.seats seat) i && is_committed p.holding.store i)

-- Chunks of two lists that aren't awaited on the channel of a seat are asked for nowhere any more.
abbrev pub SettlesIn : List Asking → (picks cancels : List Span) → Option FetchState → Option FetchState → Type 0
SettlesIn own picks cancels None new = new ≡ None
SettlesIn own picks cancels (Some old) new =
    (left : FetchState) × (new ≡ Some left) × GivesBack (λ i. (has picks i || has cancels i) && not (awaits own i)) old left

pub record Settles (seat : ℕ) (picks cancels : List Span) (old new : Parts) : Type 0 where
  pub settles : SettlesIn (own_in old.seats.seats seat) picks cancels old.fetching new.fetching
  pub rest : new ≡ record old { fetching = new.fetching }

-- ---- what is due

-- A peer takes an address: an IPv6 one only where it takes such.
abbrev pub is_taken : (v6 : Bool) → Address → Bool
is_taken v6 (variants.V4 bytes port) = true
is_taken v6 (variants.V6 bytes port) = v6

-- The addresses are those heard lately but the other peer's own, of those that it takes, where it asked for some and was sent none for
-- 10 seconds.
pub record AreAddresses (seat : ℕ) (own : Address) (p : Parts) (addresses : List Address) : Type 0 where
  pub known : SeatState
  pub there : slice_get p.seats.seats seat ≡ Some known
  pub takes : Supports
  pub supports : slice_get p.supports seat ≡ Some takes
  pub asked : slice_index_or p.questions seat false ≡ true → IsRested known.answer p.seats.moment 10_000_000
      → addresses ≡ filter (is_taken takes.v6) (answers p.pex.table own p.seats.moment)
  pub unasked : slice_index_or p.questions seat false ≡ false → addresses ≡ []
  pub early : (IsRested known.answer p.seats.moment 10_000_000 → ⊥) → addresses ≡ []
  pub few : length addresses ≤ 16

-- The notes are those that are due on the channel of a hearer: ACKs of what came there, what was gathered of news, these REQUESTs;
-- a fetching peer asks for addresses every 60 seconds where the other peer takes that; and a datagram goes in any case where none went
-- for long, or the other peer awaits one to learn this one's address.
pub record Fills (hearer : Hearer) (requests : List Span) (p : Parts) (old new : Speaker) : Type 0 where
  pub known : SeatState
  pub there : slice_get p.seats.seats hearer.seat ≡ Some known
  pub takes : Supports
  pub supports : slice_get p.supports hearer.seat ≡ Some takes
  pub due : Due
  pub committed : due.committed.now ≡ p.holding.store.committed
  pub tells : due.tells ≡ (known.proven || hearer.greets)
  pub acknowledgements : AreAcknowledged p.holding.store.committed (of_seat hearer.seat p.holding.queue.tickets)
      (of_seat hearer.seat p.holding.queue.repeats) due.acknowledgements.now
  pub news : due.news.now ≡ old.news.ranges
  pub asked_for : due.requests.now ≡ requests
  pub asks : IsRested known.question p.seats.moment 60_000_000 → due.asks_addresses ≡ (is_some p.fetching && takes.requests)
  pub early : (IsRested known.question p.seats.moment 60_000_000 → ⊥) → due.asks_addresses ≡ false
  pub addresses : AreAddresses hearer.seat hearer.far.address p due.addresses.now
  pub silent : due.is_silent
      ≡ (slice_index_or p.to_prove hearer.seat false || is_silent_at p.seats.moment (channel_at p.seats.table hearer.seat))
  pub agenda : IsAgenda known due new.agenda
  pub ranges : new.news.ranges ≡ old.news.ranges
  pub order : new.order ≡ old.order

-- ---- what goes

-- The notes were delivered on the channel of a seat, and each datagram was counted as sent or refused. What its peer asked for of
-- addresses isn't asked any more; and where one was sent, that peer has a datagram of this one.
pub record Says (seat : ℕ) (notes : List Note) (moment : ℕ) (delivered : Delivered) (old new : Parts) (link later : LinkState)
    : Type 0 where
  pub speaks : Speaks seat notes moment delivered old.seats new.seats link later
  pub rest : new ≡ record old {
    seats = new.seats;
    counts = after_notes counted.SendFault delivered.refused (after_notes counted.Sent delivered.sent old.counts);
    questions = slice_set old.questions seat false;
    to_prove = if nat_lt 0 delivered.sent then slice_set old.to_prove seat false else old.to_prove;
  }

-- What is due on the channel of a hearer went: chunks to ask for were picked there, the notes put together and delivered, and what
-- isn't awaited afterwards was given back. So many datagrams were refused.
pub record SpeaksTo (hearer : Hearer) (refused : ℕ) (speaker left : Speaker) (old new : Scene) : Type 0 where
  pub picked : Parts
  pub picks : List Span
  pub are_picked : Picks speaker.order hearer.seat picks old.parts picked
  pub cancels : List Span
  pub are_cancels : AreCancels hearer.seat cancels picked
  pub fills : Fills hearer picks picked speaker left
  pub said : Parts
  pub delivered : Delivered
  pub says : Says hearer.seat left.agenda (moment_of old.disk.history) delivered picked said old.link new.link
  pub settles : Settles hearer.seat picks cancels said new.parts
  pub many : refused ≡ delivered.refused

-- A CHOKE that was due isn't any more.
abbrev pub was_choked : (before after : Option Turn) → Bool
was_choked (Some Choke) None = true
was_choked _ _ = false

-- Then the seat gave its slot up.
abbrev pub AttendsTo : Bool → (seat : ℕ) → Parts → Parts → Type 0
AttendsTo true seat old new = GivesUpSlot seat old new
AttendsTo false seat old new = new ≡ old

pub record Attends (seat : ℕ) (turn : Option Turn) (old new : Parts) : Type 0 where
  pub known : SeatState
  pub there : slice_get old.seats.seats seat ≡ Some known
  pub attends : AttendsTo (was_choked turn (due_turn known)) seat old new
  pub keeps : KeepsButSlots old new

-- Nothing was said.
pub record StaysSilent (refused : ℕ) (speaker left : Speaker) (old new : Scene) : Type 0 where
  pub none : refused ≡ 0
  pub parts : new.parts ≡ old.parts
  pub link : new.link ≡ old.link
  pub speaker_same : left ≡ speaker

-- What is due on a channel whose other peer's number is known went, behind this peer's handshake where that is due, and else where one
-- was sent before: on a channel that isn't proven the cursor was set back, then it was said, and a seat whose CHOKE was sent gave its
-- slot up.
pub record SpeaksOn (hearer : Hearer) (refused : ℕ) (speaker left : Speaker) (old new : Scene) : Type 0 where
  pub due : hearer.greets ≡ is_due_at old.parts.seats.moment (channel_at old.parts.seats.table hearer.seat)
  pub begun : hearer.greets ≡ false → hearer.far.begun ≡ true
  pub back : Parts
  pub sets_back : SetsBack hearer.seat hearer.greets speaker.news.ranges old.parts back
  pub known : SeatState
  pub there : slice_get back.seats.seats hearer.seat ≡ Some known
  pub said : Parts
  pub speaks : SpeaksTo hearer refused speaker left (record old { parts = back }) (record new { parts = said })
  pub attends : Attends hearer.seat (due_turn known) said new.parts

-- Nothing is said where no handshake was sent and none is due.
pub record SpeaksNot (seat refused : ℕ) (far : Far) (speaker left : Speaker) (old new : Scene) : Type 0 where
  pub due : is_due_at old.parts.seats.moment (channel_at old.parts.seats.table seat) ≡ false
  pub begun : far.begun ≡ false
  pub silent : StaysSilent refused speaker left old new

-- ---- all seats

-- Where the other peer's number isn't known, a handshake alone went where it is due.
pub record GreetsAlone (seat refused : ℕ) (speaker left : Speaker) (old new : Scene) : Type 0 where
  pub greeted : Bool
  pub greets : IsGreeted seat (moment_of old.disk.history) greeted old.parts new.parts old.link new.link
  pub none : refused ≡ 0
  pub disk : new.disk ≡ old.disk
  pub speaker_same : left ≡ speaker

abbrev pub TurnsIf : Option Far → (seat refused : ℕ) → Speaker → Speaker → Scene → Scene → Type 0
TurnsIf None seat refused speaker left old new = GreetsAlone seat refused speaker left old new
TurnsIf (Some far) seat refused speaker left old new = SpeaksNot seat refused far speaker left old new
    ⊎ ((greets : Bool) × SpeaksOn (record { seat = seat; far = far; greets = greets }) refused speaker left old new)

-- What was due on the channel of a seat went.
abbrev pub TurnsTo : (seat refused : ℕ) → Speaker → Speaker → Scene → Scene → Type 0
TurnsTo seat refused speaker left old new =
    TurnsIf (far_of (channel_at old.parts.seats.table seat)) seat refused speaker left old new

-- The seats below a number had their turns, one after the other.
unfoldable pub TurnsBelow : (seats refused : ℕ) → Speaker → Speaker → Scene → Scene → Type 0
TurnsBelow zero refused speaker left old new = StaysSilent refused speaker left old new
TurnsBelow (suc seat) refused speaker left old new = (before : ℕ) × (more : ℕ) × (middle : Speaker) × (mid : Scene)
    × TurnsBelow seat before speaker middle old mid × TurnsTo seat more middle left mid new × (refused ≡ before + more)

-- What was committed was gathered, and then told to all with the rest.
pub record SpeaksAll (refused : ℕ) (speaker left : Speaker) (old new : Scene) : Type 0 where
  pub gathered : Speaker
  pub ranges : AreRunsOf old.parts.holding.queue.tickets gathered.news.ranges
  pub order : gathered.order ≡ speaker.order
  pub turns : TurnsBelow 64 refused gathered left old new
