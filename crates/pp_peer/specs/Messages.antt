-- What each message that comes on a channel does to a peer.
use Rattle.std.specs.Prelude.{◌≡◌, ℕ, ◌+◌, ◌-◌, ◌%◌, ◌^◌, ◌<◌, ◌≤◌, ◌==◌, nat_le, Bool, true, false, ◌&&◌, ◌||◌, if◌then◌else◌, Option, Some, None, is_some, option_map, List, [], ◌∷◌, ◌++◌, length, drop, slice_get, slice_set}
use Rattle.pp_terms.specs.format.Descriptor.{Descriptor, chunks_of}
use Rattle.pp_terms.specs.format.Messages.{Message, Data, Have, Pex4, PexReq, Choke, Pex6, messages_at}
use Rattle.pp_terms.specs.tree.Book.{IsRooted}
use Rattle.pp_terms.specs.tree.Claims.{Claim, latest}
use Rattle.pp_terms.specs.tree.Range.{Span, within}
use Rattle.pp_tree.specs.Book.{entry}
use Rattle.pp_traffic.specs.Life.{closes}
use Rattle.pp_promises.specs.Batches.{after_puts}
use Rattle.pp_outside.specs.declared.link.Address.{Address}
use Rattle.pp_outside.specs.declared.link.Address.TheVariants as addresses
use Rattle.pp_requests.specs.declared.asking.Asking.{Asking}
use Rattle.pp_counts.specs.Counts.{after_note}
use Rattle.pp_counts.specs.declared.note.Note.{Note}
use Rattle.pp_counts.specs.declared.note.Note.TheVariants as notes
use Rattle.pp_avail.specs.Offers.{Deed, Offer, Tells}
use Rattle.pp_avail.specs.Offers as offers
use Rattle.pp_store.specs.Store.{is_committed}
use Rattle.pp_store.specs.declared.admitting.Put.{Put}
use Rattle.pp_store.specs.declared.admitting.Put.TheVariants.{Stored, Held, Missing, Wrong, Length}
use Rattle.pp_channels.specs.Seats.{closed}
use Rattle.pp_pex.specs.Exchange.{Exchange, suggested}
use Rattle.pp_holding.specs.Holding.{batch_of, HasWaiting}
use Rattle.pp_holding.specs.Answers.{answer_to, learned_from, stored_by, queue_after}
use Rattle.pp_holding.specs.declared.queue.Ticket.{Ticket}
use Rattle.pp_fetching.specs.Fetching.{FetchState, GivesBack, without_request}
use Rattle.pp_fetching.specs.Owners.{awaits}
use Rattle.pp_seat.specs.Lines.{inside}
use Rattle.pp_seat.specs.Seats.{SeatState}
use Rattle.pp_desk.specs.Hearing as desk
use Rattle.pp_seats.specs.Hearing.{ChangesSeat, IsAnswered}
use Rattle.pp_peer.specs.declared.parts.Parts.{Parts}
use Rattle.pp_peer.specs.Standing.{own_in}
use Rattle.pp_peer.specs.Greeting.{Clears}
use Rattle.pp_peer.specs.Taking.{note_of, after_some, is_closing, read_at}

-- ---- what is read of a seat

-- something came for this peer's number there
abbrev pub is_proven_in : Option SeatState → Bool
is_proven_in None = false
is_proven_in (Some s) = s.proven

-- what its peer claims
abbrev pub claims_in : Option SeatState → List Claim
claims_in None = []
claims_in (Some s) = s.claims

-- there is a moment, and it is 10 seconds ago at most
abbrev pub is_recent : (now : ℕ) → Option ℕ → Bool
is_recent now None = false
is_recent now (Some moment) = nat_le (now - moment) 10_000_000

-- its peer is proven, and was asked for addresses of others in the last 10 seconds
abbrev pub is_questioned : (now : ℕ) → Option SeatState → Bool
is_questioned now None = false
is_questioned now (Some s) = s.proven && is_recent now s.question

-- ---- messages that mean something beside their seat

-- A HAVE: the seat offers the chunks of the range, where they lie in the content.
pub record OffersIn (seat : ℕ) (range : Span) (old new : FetchState) : Type 0 where
  pub rest : new ≡ record old { offers = new.offers }
  pub chunks : new.offers.chunks ≡ old.offers.chunks
  pub outside : length old.want.had ≤ range.last → new ≡ old
  pub seats : range.last < length old.want.had
      → (s i : ℕ) → offers.has new.offers s i ≡ (offers.has old.offers s i || (s == seat && within range i))
  pub deeds : range.last < length old.want.had
      → (deeds : List Deed) → Tells deeds old.offers → Tells (Offer seat range ∷ deeds) new.offers

-- Of a HAVE so much is noted as lies in the content; a peer that doesn't fetch notes none of it.
abbrev pub Offers : ℕ → Option Span → Option FetchState → Option FetchState → Type 0
Offers seat None old new = new ≡ old
Offers seat (Some range) None new = new ≡ None
Offers seat (Some range) (Some old) new = (left : FetchState) × (new ≡ Some left) × OffersIn seat range old left

-- A CHOKE: these own requests are asked for nowhere any more.
abbrev pub GivesBackOf : List Asking → Option FetchState → Option FetchState → Type 0
GivesBackOf own None new = new ≡ None
GivesBackOf own (Some old) new = (left : FetchState) × (new ≡ Some left) × GivesBack (awaits own) old left

-- a PEX_RES: the address is suggested, where it was asked for
abbrev pub with_address : ℕ → Address → Parts → Exchange
with_address seat address p = record {
  table = p.pex.table;
  queue = if is_questioned p.seats.moment (slice_get p.seats.seats seat) then suggested p.pex.queue address else p.pex.queue;
}

-- a PEX_REQ: that is noted, where the seat is proven
abbrev pub with_question : ℕ → Parts → List Bool
with_question seat p = if is_proven_in (slice_get p.seats.seats seat) then slice_set p.questions seat true else p.questions

-- What a message that is no DATA means beside its seat.
abbrev pub Heeds : ℕ → Message → Parts → Parts → Type 0
Heeds seat (Have span) old new =
    Offers seat (inside (chunks_of old.holding.store.descriptor) span) old.fetching new.fetching
    × (new ≡ record old { fetching = new.fetching })
Heeds seat Choke old new =
    GivesBackOf (own_in old.seats.seats seat) old.fetching new.fetching × (new ≡ record old { fetching = new.fetching })
Heeds seat PexReq old new = new ≡ record old { questions = with_question seat old }
Heeds seat (Pex4 address port) old new = new ≡ record old { pex = with_address seat (addresses.V4 address port) old }
Heeds seat (Pex6 address port) old new = new ≡ record old { pex = with_address seat (addresses.V6 address port) old }
Heeds seat _ old new = new ≡ old

-- A message is heeded, heard on its seat at the moment, and counted.
pub record TakesOther (seat : ℕ) (m : Message) (old new : Parts) : Type 0 where
  pub mid : Parts
  pub heeds : Heeds seat m old mid
  pub noted : Option Note
  pub heard : ChangesSeat seat (desk.Hears mid.seats.moment m noted) mid.seats new.seats
  pub rest : new ≡ record mid { seats = new.seats; counts = after_some noted mid.counts }

-- ---- DATA

-- a peer that fetches has a chunk that was stored
abbrev pub with_chunk : ℕ → FetchState → FetchState
with_chunk i f = record f { want = record f.want { had = slice_set f.want.had i true } }

abbrev pub got_of : Put → ℕ → Option FetchState → Option FetchState
got_of Stored i f = option_map (with_chunk i) f
got_of Held i f = f
got_of (Missing node) i f = f
got_of (Wrong node found kept) i f = f
got_of (Length found want) i f = f

-- The store judges bytes that came as a chunk, by its book and by what is claimed: what it answers, what is committed and pending
-- then, who is to be acknowledged, what the book learned, and what is counted.
pub record Puts (ticket : Ticket) (bytes : List ℕ) (claims : List Claim) (old new : Parts) : Type 0 where
  pub put : Put
  pub answer : put ≡ answer_to old.holding (latest claims) ticket.chunk bytes
  pub batch : batch_of new.holding ≡ after_puts (stored_by put ticket.chunk) old.seats.moment (batch_of old.holding)
  pub queue : new.holding.queue
      ≡ queue_after put (is_committed old.holding.store ticket.chunk) ticket old.seats.moment old.holding.queue
  pub learned : old.holding.store.live ≡ true → (k j : ℕ)
      → entry new.holding.book k j ≡ learned_from old.holding (latest claims) ticket.chunk bytes k j
  pub live : new.holding.store.live ≡ true
  -- what waits is what is pending in the store
  pub waits : HasWaiting new.holding.store new.holding.queue.waiting
  -- the book was one of the swarm, and the store goes on being its
  pub swarm : new.holding.store.descriptor ≡ old.holding.store.descriptor
  pub rooted : IsRooted old.holding.store.descriptor (entry old.holding.book)
  pub rest : new ≡ record old {
    holding = new.holding;
    fetching = got_of put ticket.chunk old.fetching;
    counts = after_note (note_of put) old.counts;
  }

-- A DATA ends the wait for its chunk, whatever it is worth: one that was waited for is asked for nowhere any more.
pub record EndsWait (seat chunk : ℕ) (old new : Parts) : Type 0 where
  pub was : Bool
  pub answered : ChangesSeat seat (IsAnswered chunk was) old.seats new.seats
  pub rest : new ≡ record old {
    seats = new.seats;
    fetching = if was then option_map (without_request chunk) old.fetching else old.fetching;
  }

-- whom a chunk came from, and how long it was under way, modulo 2 ^ 64
abbrev pub ticket_of : (seat chunk sent_at now : ℕ) → Ticket
ticket_of seat chunk sent_at now = record { chunk = chunk; seat = seat; delay = (now + (2 ^ 64 - sent_at)) % 2 ^ 64 }

-- Then it is counted where it names no chunk of the content, passed over where its channel isn't proven, and else judged by what
-- is claimed there.
pub record TakesData (seat chunk sent_at : ℕ) (bytes : List ℕ) (old new : Parts) : Type 0 where
  pub mid : Parts
  pub ends : EndsWait seat chunk old mid
  pub outside : chunks_of mid.holding.store.descriptor ≤ chunk
      → new ≡ record mid { counts = after_note notes.Outside mid.counts }
  pub unproven : chunk < chunks_of mid.holding.store.descriptor → is_proven_in (slice_get mid.seats.seats seat) ≡ false → new ≡ mid
  pub judged : chunk < chunks_of mid.holding.store.descriptor → is_proven_in (slice_get mid.seats.seats seat) ≡ true
      → Puts (ticket_of seat chunk sent_at mid.seats.moment) bytes (claims_in (slice_get mid.seats.seats seat)) mid new

-- ---- message by message

abbrev pub Does : ℕ → Message → Parts → Parts → Type 0
Does seat (Data chunk sent_at bytes) old new = TakesData seat chunk sent_at bytes old new
Does seat m old new = TakesOther seat m old new

-- Each message does what it does, the first first.
abbrev pub InTurn : ℕ → List Message → Parts → Parts → Type 0
InTurn seat [] old new = new ≡ old
InTurn seat (m ∷ ms) old new = (mid : Parts) × Does seat m old mid × InTurn seat ms mid new

-- the messages before the first one that closes the channel
abbrev pub before_close : List Message → List Message
before_close [] = []
before_close (m ∷ ms) = if is_closing m then [] else m ∷ before_close ms

-- a message from a byte on is faulty
abbrev pub is_cut : Descriptor → List ℕ → ℕ → Bool
is_cut d bytes at = is_some (messages_at d.method d.chunk at (drop at bytes)).fault

-- a faulty message was counted, where there was one
abbrev pub with_cut : Bool → Parts → Parts
with_cut cut p = record p { counts = if cut then after_note notes.Cut p.counts else p.counts }

-- The messages from a byte on did what they do, up to one that closes the channel, or up to the end or a faulty one.
pub record HearsAllOf (seat : ℕ) (d : Descriptor) (bytes : List ℕ) (start : ℕ) (is_closed : Bool) (old new : Parts) : Type 0 where
  pub mid : Parts
  pub in_turn : InTurn seat (before_close (read_at d bytes start)) old mid
  pub rest : new ≡ (if is_closed then mid else with_cut (is_cut d bytes start) mid)

-- The messages up to a byte did what they do; none of them closes the channel.
pub record HearsSome (seat : ℕ) (d : Descriptor) (bytes : List ℕ) (start at : ℕ) (old new : Parts) : Type 0 where
  pub heard : List Message
  pub in_turn : InTurn seat heard old new
  pub left : before_close (read_at d bytes start) ≡ heard ++ before_close (read_at d bytes at)
  pub cut : is_cut d bytes start ≡ is_cut d bytes at

-- The channel of a seat was dropped, and nothing is kept of the seat.
abbrev pub Shuts : ℕ → Parts → Parts → Type 0
Shuts seat old new = Clears seat (record old { seats = record old.seats { table = closed old.seats.table seat } }) new

-- The messages of a datagram did what they do, from a byte on, and the channel was dropped where one of them closes it.
pub record ReadsAll (seat : ℕ) (d : Descriptor) (bytes : List ℕ) (start : ℕ) (old new : Parts) : Type 0 where
  pub mid : Parts
  pub in_turn : InTurn seat (before_close (read_at d bytes start)) old mid
  pub shuts : closes (read_at d bytes start) ≡ true → Shuts seat mid new
  pub stays : closes (read_at d bytes start) ≡ false → new ≡ with_cut (is_cut d bytes start) mid
