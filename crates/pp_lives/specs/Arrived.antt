-- What a datagram leaves: the seats stand for the traffic with it, and what is read of each grows by what it says.
use Rattle.std.specs.Prelude.{◌≡◌, ◌≢◌, ℕ, ◌<◌, max, true, false, Option, Some, None, List, ◌∷◌, length, drop}
use Rattle.pp_terms.specs.format.Traffic.{Record, Received}
use Rattle.pp_terms.specs.format.Descriptor.{Descriptor}
use Rattle.pp_terms.specs.format.Messages.{Message}
use Rattle.pp_traffic.specs.Past.{now}
use Rattle.pp_traffic.specs.Life.{Life, greets, comes_on, closes}
use Rattle.pp_promises.specs.ReadStory.{is_read, read_story}
use Rattle.pp_outside.specs.Outside.{address_of}
use Rattle.pp_outside.specs.declared.link.Address.{Address}
use Rattle.pp_channels.specs.Seats.{Seats, channel_at, closed}
use Rattle.pp_channels.specs.declared.channel.Channel.{Channel}
use Rattle.pp_lives.specs.Reading.{is_blank, is_waiting}
use Rattle.pp_lives.specs.Standing.{read_at, Standing, AllBegun}
use Rattle.pp_lives.specs.Calls.{Told, looked, TellsNone, TellsOne, TellsFirst}
use Rattle.pp_lives.specs.Arriving.{contents}
use Rattle.pp_lives.specs.declared.arriving.Arrival.{Arrival}
use Rattle.pp_lives.specs.declared.arriving.Arrival.TheVariants as arrivals

-- ---- which channel the record is on

-- The channel of a seat was there before with its life, and its peer's number was known.
pub record WasThere (t : Seats) (lives : ℕ → Option Life) (past : List Record) (seat : ℕ) (life : Life) : Type 0 where
  pub channel : Channel
  pub was : channel_at t seat ≡ Some channel
  pub known : is_waiting channel ≡ false
  pub living : lives seat ≡ Some life
  pub begun : life.opening < length past

-- The channel of a seat was there before, and the record isn't on it.
pub record IsPassed (d : Descriptor) (t : Seats) (lives : ℕ → Option Life) (r : Record) (past : List Record)
    (seat : ℕ) (life : Life) : Type 0 where
  pub there : WasThere t lives past seat life
  pub apart : comes_on d life r ≡ false

-- Where a seat has a channel afterwards and its peer's number is known, the channel was there before, and the record isn't on it.
abbrev pub PassesAt : Descriptor → (t new : Seats) → (lives later : ℕ → Option Life) → Record → List Record → ℕ → Type 0
PassesAt d t new lives later r past seat = (c : Channel) (life : Life) → channel_at new seat ≡ Some c → is_waiting c ≡ false
    → later seat ≡ Some life → IsPassed d t lives r past seat life

-- The channel of a seat was there before, and the record is on it and is read.
pub record IsHeardOn (d : Descriptor) (t : Seats) (lives : ℕ → Option Life) (r : Record) (past : List Record)
    (seat : ℕ) (life : Life) : Type 0 where
  pub there : WasThere t lives past seat life
  pub on : comes_on d life r ≡ true
  pub reads : is_read d life (r ∷ past) ≡ true

-- The record is the other peer's handshake, which opens the channel.
pub record IsOpenedBy (d : Descriptor) (r : Record) (past : List Record) (life : Life) : Type 0 where
  pub place : life.opening ≡ length past
  pub answered : life.is_dialled ≡ false
  pub opens : greets d life r ≡ true
  pub apart : comes_on d life r ≡ false

-- The record is the reply to a dial, on whose channel nothing was read or said before.
pub record IsRepliedBy (d : Descriptor) (r : Record) (past : List Record) (life : Life) : Type 0 where
  pub begun : life.opening < length past
  pub dialled : life.is_dialled ≡ true
  pub on : comes_on d life r ≡ true
  pub reads : is_read d life (r ∷ past) ≡ true
  pub blank : is_blank (read_story d life past) ≡ true

-- ---- what a datagram leaves

-- Nothing was read.
pub record Stays (d : Descriptor) (now : ℕ) (t new : Seats) (lives : ℕ → Option Life) (r : Record) (past : List Record) : Type 0 where
  pub standing : Standing d new lives (r ∷ past)
  pub passes : (seat : ℕ) → PassesAt d t new lives lives r past seat
  pub tells : TellsNone now (read_at d t lives past) (read_at d new lives (r ∷ past))
  pub begun : AllBegun t → AllBegun new

-- A seat was dropped.
pub record GivesUp (d : Descriptor) (now seat : ℕ) (t new : Seats) (lives lives' : ℕ → Option Life) (r : Record) (past : List Record)
    : Type 0 where
  pub standing : Standing d new lives' (r ∷ past)
  pub free : channel_at new seat ≡ None
  pub passes : (other : ℕ) → other ≢ seat → PassesAt d t new lives lives' r past other
  pub own : read_at d new lives' (r ∷ past) seat ≡ None
  pub others : (other : ℕ) → other ≢ seat → read_at d new lives' (r ∷ past) other ≡ looked now (read_at d t lives past other)
  pub begun : AllBegun t → AllBegun new

-- Messages are read on a seat, unless they close its channel; then the seat is to be dropped. `IsOn` says how the record comes on the
-- channel's life.
pub record Reads (d : Descriptor) (now seat : ℕ) (ms : List Message) (Tells : ℕ → ℕ → List Message → Told → Told → Type 0)
    (IsOn : Life → Type 0) (t new : Seats) (lives : ℕ → Option Life) (r : Record) (past : List Record) : Type 0 where
  pub living : ℕ → Option Life
  pub life : Life
  pub lives_there : living seat ≡ Some life
  pub is_on : IsOn life
  pub passes : (other : ℕ) → other ≢ seat → PassesAt d t new lives living r past other
  pub begun : AllBegun t → AllBegun new
  pub goes_on : closes ms ≡ false → Standing d new living (r ∷ past)
  pub tells : closes ms ≡ false → Tells now seat ms (read_at d t lives past) (read_at d new living (r ∷ past))
  pub shuts : closes ms ≡ true → (left : ℕ → Option Life) × GivesUp d now seat t (closed new seat) lives left r past

abbrev pub Arrived : Descriptor → Seats → (ℕ → Option Life) → Record → List Record → ℕ → List ℕ → Arrival → Seats → Type 0
Arrived d t lives r past now bytes (arrivals.Differs seat) new = GivesUp d now seat t new lives lives r past
Arrived d t lives r past now bytes (arrivals.Given seat) new = GivesUp d now seat t new lives lives r past
Arrived d t lives r past now bytes (arrivals.Opened seat next) new =
    Reads d now seat (drop 1 (contents d bytes).read) TellsFirst (IsOpenedBy d r past) t new lives r past
Arrived d t lives r past now bytes (arrivals.Replied seat) new =
    Reads d now seat (contents d bytes).read TellsFirst (IsRepliedBy d r past) t new lives r past
Arrived d t lives r past now bytes (arrivals.Heard seat) new =
    Reads d now seat (contents d bytes).read TellsOne (IsHeardOn d t lives r past seat) t new lives r past
Arrived d t lives r past now bytes result new = Stays d now t new lives r past

-- Whatever traffic the seats stood for, where each dial had begun: they stand for it with this datagram.
abbrev pub KeepsStanding : Descriptor → Seats → Address → ℕ → List ℕ → Arrival → Seats → Type 0
KeepsStanding d t sender moment bytes result new =
    (lives : ℕ → Option Life) (stamp : ℕ) (past : List Record) → moment ≡ max stamp (now past)
    → Standing d t lives past → AllBegun t → Arrived d t lives (Received stamp (address_of sender) bytes) past moment bytes result new
