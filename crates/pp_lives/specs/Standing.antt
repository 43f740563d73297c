-- The seats stand for what a link carried: each channel of them has its life in the traffic.
use Rattle.std.specs.Prelude.{◌≡◌, ◌⊎◌, ℕ, ◌<◌, Bool, true, false, Option, Some, None, List}
use Rattle.pp_terms.specs.format.Traffic.{Record}
use Rattle.pp_terms.specs.format.Descriptor.{Descriptor}
use Rattle.pp_traffic.specs.Past.{now_at, comes_from, some_since, is_at}
use Rattle.pp_traffic.specs.Life.{Life, greets, answers, is_closed}
use Rattle.pp_traffic.specs.Story.{Line}
use Rattle.pp_traffic.specs.Plain.{heard_at, IsPlainNow}
use Rattle.pp_traffic.specs.Awaiting.{Awaits}
use Rattle.pp_promises.specs.ReadStory.{read_story}
use Rattle.pp_promises.specs.Laws.{is_bare}
use Rattle.pp_outside.specs.Outside.{address_of}
use Rattle.pp_channels.specs.Seats.{Seats, AreSeats, channel_at, is_begun, is_dialled, is_source}
use Rattle.pp_channels.specs.declared.channel.Channel.{Channel}
use Rattle.pp_lives.specs.Reading.{opens, shows, is_blank, is_proven, is_waiting}

-- How far the life of a channel has come.
pub record Goes (d : Descriptor) (c : Channel) (life : Life) (past : List Record) : Type 0 where
  pub open_still : is_closed d life past ≡ false
  pub has_begun : is_begun c.opening ≡ some_since (answers d life) life.opening past
  pub proven : is_proven c ≡ some_since (shows d life) life.opening past
  pub heard : is_proven c ≡ true → heard_at d life past ≡ Some c.heard
  pub greeted : is_waiting c ≡ false → some_since (greets d life) life.opening past ≡ true
  -- no chunk was sent on it before that
  pub bare : is_waiting c ≡ false → is_bare d life past ≡ true

-- The channel has that life of the traffic. While it waits the peer's number isn't known.
pub record Stands (d : Descriptor) (c : Channel) (life : Life) (past : List Record) : Type 0 where
  pub address : life.address ≡ address_of c.address
  pub local : life.local ≡ c.local
  pub dialled : life.is_dialled ≡ is_dialled c.opening
  pub remote : is_waiting c ≡ false → (c.remote ≡ Some life.remote) × (0 < life.remote)
  pub local_some : 0 < life.local
  pub opened : is_at (opens d life) life.opening past ≡ true
  pub made : c.made ≡ now_at life.opening past
  pub goes : Goes d c life past

-- Nothing was sent on it: it is a dial whose first handshake is due.
pub record IsUnbegun (c : Channel) : Type 0 where
  pub none : is_begun c.opening ≡ false
  pub waits : is_waiting c ≡ true

abbrev pub StandsAt : Descriptor → Option Channel → Option Life → List Record → Type 0
StandsAt d None life past = Unit {0}
StandsAt d (Some c) None past = IsUnbegun c
StandsAt d (Some c) (Some life) past = Stands d c life past

-- what was read, once the peer's number is known
abbrev pub once_known : Bool → List Line → Option (List Line)
once_known true story = None
once_known false story = Some story

-- what was read and sent on a seat's channel since its opening, once the peer's number is known
abbrev pub read_of : Descriptor → Option Channel → Option Life → List Record → Option (List Line)
read_of d None life past = None
read_of d (Some c) None past = None
read_of d (Some c) (Some life) past = once_known (is_waiting c) (read_story d life past)

abbrev pub read_at : Descriptor → Seats → (ℕ → Option Life) → List Record → ℕ → Option (List Line)
read_at d t lives past seat = read_of d (channel_at t seat) (lives seat) past

-- While a dial waits, what was sent to a number of its address since was sent on another channel, which is there or was dropped.
abbrev pub WaitsBlank : Descriptor → Seats → Channel → Life → List Record → Type 0
WaitsBlank d t c life past = (remote : ℕ) → 0 < remote
    → (is_blank (read_story d (record life { remote = remote }) past) ≡ true)
    ⊎ ((c.shadowed ≡ true) ⊎ ((other : ℕ) × (is_source c.address remote (channel_at t other) ≡ true)))

-- Each channel of the seats has its life, and no two share a number of this peer's, or an address and a number of the other peer's.
pub record Seated (d : Descriptor) (t : Seats) (lives : ℕ → Option Life) (past : List Record) : Type 0 where
  pub are : AreSeats t.channels
  pub each : (seat : ℕ) → StandsAt d (channel_at t seat) (lives seat) past
  pub apart : (seat other : ℕ) (c e : Channel) (remote : ℕ) → channel_at t seat ≡ Some c → channel_at t other ≡ Some e
      → c.remote ≡ Some remote → e.remote ≡ Some remote → address_of c.address ≡ address_of e.address → seat ≡ other
  pub blank : (seat : ℕ) (c : Channel) (life : Life) → channel_at t seat ≡ Some c → lives seat ≡ Some life → is_waiting c ≡ true
      → WaitsBlank d t c life past
  pub unknown : (seat : ℕ) (c : Channel) → channel_at t seat ≡ Some c → is_waiting c ≡ true → c.remote ≡ None

-- ---- plain channels

-- The life has its seat.
pub record HasSeat (t : Seats) (lives : ℕ → Option Life) (life : Life) : Type 0 where
  pub seat : ℕ
  pub channel : Channel
  pub there : channel_at t seat ≡ Some channel
  pub lives_there : lives seat ≡ Some life
  pub known : is_waiting channel ≡ false

-- The life of a dial has its seat, but for the number of its peer, whose reply is awaited.
pub record HasDial (t : Seats) (lives : ℕ → Option Life) (life : Life) : Type 0 where
  pub seat : ℕ
  pub channel : Channel
  pub there : channel_at t seat ≡ Some channel
  pub lives_there : (l : Life) × (lives seat ≡ Some l) × (life ≡ record l { remote = life.remote })
  pub waits : is_waiting channel ≡ true
  pub unshadowed : channel.shadowed ≡ false

-- Each plain channel has its seat, and so has each dial that can still become one.
pub record Plains (d : Descriptor) (t : Seats) (lives : ℕ → Option Life) (past : List Record) : Type 0 where
  pub plain : (life : Life) → IsPlainNow d life past → HasSeat t lives life
  pub dial : (life : Life) → life.is_dialled ≡ true → Awaits d life past → HasDial t lives life
  -- this peer dials an address on one channel, and such a channel is shadowed only where something came from its address
  pub dial_alone : (seat other : ℕ) (c e : Channel) → channel_at t seat ≡ Some c → channel_at t other ≡ Some e
      → is_dialled c.opening ≡ true → is_dialled e.opening ≡ true → address_of c.address ≡ address_of e.address → seat ≡ other
  pub shadow : (seat : ℕ) (c : Channel) → channel_at t seat ≡ Some c → c.shadowed ≡ true → is_dialled c.opening ≡ true
      → some_since (comes_from (address_of c.address)) 0 past ≡ true

pub record Standing (d : Descriptor) (t : Seats) (lives : ℕ → Option Life) (past : List Record) : Type 0 where
  pub seated : Seated d t lives past
  pub plains : Plains d t lives past

-- Each channel that this peer dialled has its life: its first handshake was sent.
abbrev pub AllBegun : Seats → Type 0
AllBegun t = (seat : ℕ) (c : Channel) → channel_at t seat ≡ Some c → is_waiting c ≡ true → is_begun c.opening ≡ true
