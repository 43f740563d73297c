-- What a datagram means: which seat it is for, and from which byte on its messages are read (RFC 7574, sections 3.1.1 and 8).
use Rattle.std.specs.Prelude.{◌≡◌, ◌≢◌, ℕ, ◌<◌, ◌≤◌, ◌==◌, Bool, true, false, not, ◌||◌, Option, Some, None, is_some, List, [], ◌∷◌, length, take, drop, position}
use Rattle.pp_terms.specs.format.Descriptor.{Descriptor}
use Rattle.pp_terms.specs.format.Options as plain
use Rattle.pp_terms.specs.format.Messages.{Message, Handshake, WireKind, UnknownType, Short, Range, Wide, InOptions, Messages, messages_at, with_first}
use Rattle.pp_traffic.specs.Life.{fits, begins, begins_as, begins_fitting}
use Rattle.std.specs.Int.{w32, from_be_bytes}
use Rattle.pp_options.specs.Views.{options_of}
use Rattle.pp_outside.specs.declared.link.Address.{Address}
use Rattle.pp_channels.specs.Seats.{Seats, IsUsedSeat, channel_at, changed, closed, with_channel, free_seat, answered, is_found, is_source, unreplied}
use Rattle.pp_channels.specs.Timing.{is_greeted}
use Rattle.pp_channels.specs.declared.channel.State.TheVariants.{Proven}
use Rattle.pp_channels.specs.declared.channel.Channel.{Channel}
use Rattle.pp_lives.specs.Reading.{is_waiting, is_proven}
use Rattle.pp_lives.specs.declared.arriving.First.{First}
use Rattle.pp_lives.specs.declared.arriving.First.TheVariants as firsts
use Rattle.pp_lives.specs.declared.arriving.Arrival.{Arrival}
use Rattle.pp_lives.specs.declared.arriving.Arrival.TheVariants as arrivals

-- the fault is one of a handshake's options
abbrev pub is_in_options : WireKind → Bool
is_in_options (UnknownType type) = false
is_in_options Short = false
is_in_options Range = false
is_in_options Wide = false
is_in_options (InOptions fault) = true

-- the first message has such a fault
abbrev pub begins_faulty : Option (ℕ × WireKind) → List Message → Bool
begins_faulty None ms = false
begins_faulty (Some (place, kind)) [] = is_in_options kind
begins_faulty (Some (place, kind)) (m ∷ ms) = false

abbrev pub is_faulty : Messages → Bool
is_faulty m = begins_faulty m.fault m.read

-- The first message is a handshake, and others are behind it; or its options have a fault; or it is none.
abbrev pub Starts : Descriptor → List ℕ → First → Type 0
Starts d bytes (firsts.Handshake source options next) = (next ≤ length bytes)
    × (messages_at d.method d.chunk 4 (drop 4 bytes)
    ≡ with_first (Handshake source (options_of options)) (messages_at d.method d.chunk next (drop next bytes)))
Starts d bytes firsts.Faulty = is_faulty (messages_at d.method d.chunk 4 (drop 4 bytes)) ≡ true
Starts d bytes firsts.Other =
    (is_faulty (messages_at d.method d.chunk 4 (drop 4 bytes)) ≡ false)
    × (begins (messages_at d.method d.chunk 4 (drop 4 bytes)).read ≡ false)

-- the messages behind the channel's number
abbrev pub contents : Descriptor → List ℕ → Messages
contents d bytes = messages_at d.method d.chunk 4 (drop 4 bytes)

-- ---- a handshake for channel 0

-- the channel at a seat is greeted
abbrev pub is_greeted_at : Option Channel → Bool
is_greeted_at None = false
is_greeted_at (Some c) = is_greeted c.state

-- The handshake of a channel that is there came again.
abbrev pub Meets : Seats → ℕ → Arrival → Seats → Type 0
Meets t seat (arrivals.Again k) new =
    (k ≡ seat) × (is_greeted_at (channel_at t seat) ≡ true) × (new ≡ changed t seat (λ c. record c { opening = unreplied c.opening }))
Meets t seat (arrivals.Late k) new = (k ≡ seat) × (is_greeted_at (channel_at t seat) ≡ false) × (new ≡ t)
Meets t seat _ new = ⊥

-- A handshake that fits opens a channel, or its channel is there.
abbrev pub Welcomes : Seats → Address → ℕ → ℕ → ℕ → Arrival → Seats → Type 0
Welcomes t sender source next now arrivals.Unseated new =
    (position (is_source sender source) t.channels ≡ None) × (free_seat t ≡ None) × (new ≡ t)
Welcomes t sender source next now (arrivals.Opened seat behind) new =
    (position (is_source sender source) t.channels ≡ None) × (free_seat t ≡ Some seat) × (behind ≡ next)
    × (new ≡ with_channel (answered sender source now) t)
Welcomes t sender source next now result new =
    (seat : ℕ) × (position (is_source sender source) t.channels ≡ Some seat) × Meets t seat result new

pub record IsWelcome (d : Descriptor) (t : Seats) (sender : Address) (now : ℕ) (bytes : List ℕ) (result : Arrival) (new : Seats)
    : Type 0 where
  pub source : ℕ
  pub next : ℕ
  pub within : next ≤ length bytes
  pub some : 0 < source
  pub fitting : begins_fitting d false source (contents d bytes).read ≡ true
  pub behind : messages_at d.method d.chunk next (drop next bytes)
      ≡ record { read = drop 1 (contents d bytes).read; fault = (contents d bytes).fault }
  pub does : Welcomes t sender source next now result new

-- a handshake that doesn't fit, and one that closes
abbrev pub differs : Descriptor → Bool → List Message → Bool
differs d is_reply (Handshake source options ∷ ms) = not (fits d is_reply options)
differs d is_reply _ = false

abbrev pub is_unwelcome : Descriptor → Messages → Bool
is_unwelcome d m = is_faulty m || differs d false m.read || begins_as 0 m.read

abbrev pub Greets : Descriptor → Seats → Address → ℕ → List ℕ → Arrival → Seats → Type 0
Greets d t sender now bytes arrivals.NoGreeting new =
    (is_faulty (contents d bytes) ≡ false) × (begins (contents d bytes).read ≡ false) × (new ≡ t)
Greets d t sender now bytes arrivals.Unwelcome new = (is_unwelcome d (contents d bytes) ≡ true) × (new ≡ t)
Greets d t sender now bytes result new = IsWelcome d t sender now bytes result new

-- ---- a datagram for a channel that awaits its reply

abbrev pub is_shadowed_at : Option Channel → Bool
is_shadowed_at None = false
is_shadowed_at (Some c) = c.shadowed

-- the reply closes, or another channel of the address has or may have had its number
abbrev pub is_given_up : Seats → ℕ → Address → ℕ → Bool
is_given_up t seat sender source =
    source == 0 || is_some (position (is_source sender source) t.channels) || is_shadowed_at (channel_at t seat)

-- by the number in the handshake, and whether its options fit
abbrev pub Answers : Seats → ℕ → Address → ℕ → ℕ → Bool → Arrival → Seats → Type 0
Answers t seat sender now source fit (arrivals.Differs k) new = (k ≡ seat) × (fit ≡ false) × (new ≡ closed t seat)
Answers t seat sender now source fit (arrivals.Given k) new =
    (k ≡ seat) × (fit ≡ true) × (is_given_up t seat sender source ≡ true) × (new ≡ closed t seat)
Answers t seat sender now source fit (arrivals.Replied k) new =
    (k ≡ seat) × (fit ≡ true) × (is_given_up t seat sender source ≡ false)
    × (new ≡ changed (changed t seat (λ c. record c { remote = Some source; state = Proven })) seat (λ c. record c { heard = now }))
Answers t seat sender now source fit _ new = ⊥

pub record IsAnswer (d : Descriptor) (t : Seats) (seat : ℕ) (sender : Address) (now : ℕ) (bytes : List ℕ) (result : Arrival)
    (new : Seats) : Type 0 where
  pub source : ℕ
  pub options : plain.Options
  pub rest : List Message
  pub first : (contents d bytes).read ≡ Handshake source options ∷ rest
  pub does : Answers t seat sender now source (fits d true options) result new

abbrev pub Awaited : Descriptor → Seats → ℕ → Address → ℕ → List ℕ → Arrival → Seats → Type 0
Awaited d t seat sender now bytes (arrivals.NoReply k) new =
    (k ≡ seat) × (is_faulty (contents d bytes) ≡ false) × (begins (contents d bytes).read ≡ false) × (new ≡ t)
Awaited d t seat sender now bytes (arrivals.Cut k) new = (k ≡ seat) × (is_faulty (contents d bytes) ≡ true) × (new ≡ t)
Awaited d t seat sender now bytes result new = IsAnswer d t seat sender now bytes result new

-- ---- a datagram for a number

-- whether the channel at a seat is proven
abbrev pub is_proven_at : Option Channel → Bool
is_proven_at None = false
is_proven_at (Some c) = is_proven c

-- whether the channel at a seat waits
abbrev pub is_waiting_at : Option Channel → Bool
is_waiting_at None = false
is_waiting_at (Some c) = is_waiting c

abbrev pub Comes : Descriptor → Seats → ℕ → Address → ℕ → List ℕ → Arrival → Seats → Type 0
Comes d t seat sender now bytes (arrivals.Heard k) new = (k ≡ seat) × (is_waiting_at (channel_at t seat) ≡ false)
    × (new ≡ changed (changed t seat (λ c. record c { state = Proven })) seat (λ c. record c { heard = now }))
Comes d t seat sender now bytes result new = (is_waiting_at (channel_at t seat) ≡ true) × Awaited d t seat sender now bytes result new

pub record IsOwn (d : Descriptor) (t : Seats) (number : ℕ) (sender : Address) (now : ℕ) (bytes : List ℕ) (result : Arrival)
    (new : Seats) : Type 0 where
  pub seat : ℕ
  pub found : position (is_found number sender) t.channels ≡ Some seat
  pub does : Comes d t seat sender now bytes result new

abbrev pub Numbered : Descriptor → Seats → ℕ → Address → ℕ → List ℕ → Arrival → Seats → Type 0
Numbered d t number sender now bytes arrivals.NoChannel new = (position (is_found number sender) t.channels ≡ None) × (new ≡ t)
Numbered d t number sender now bytes result new = IsOwn d t number sender now bytes result new

-- ---- any datagram

pub record IsNumbered (d : Descriptor) (t : Seats) (sender : Address) (now : ℕ) (bytes : List ℕ) (result : Arrival) (new : Seats)
    : Type 0 where
  pub long : 4 ≤ length bytes
  pub zero : from_be_bytes w32 (take 4 bytes) ≡ 0 → Greets d t sender now bytes result new
  pub other : from_be_bytes w32 (take 4 bytes) ≢ 0 → Numbered d t (from_be_bytes w32 (take 4 bytes)) sender now bytes result new

abbrev pub Arrives : Descriptor → Seats → Address → ℕ → List ℕ → Arrival → Seats → Type 0
Arrives d t sender now bytes arrivals.Short new = (length bytes < 4) × (new ≡ t)
Arrives d t sender now bytes result new = IsNumbered d t sender now bytes result new

-- where a seat is named that wasn't dropped, it is in use now, and one of the 64
abbrev pub IsSeated : Arrival → Seats → Type 0
IsSeated (arrivals.Again seat) new = IsUsedSeat new seat
IsSeated (arrivals.Late seat) new = IsUsedSeat new seat
IsSeated (arrivals.NoReply seat) new = IsUsedSeat new seat
IsSeated (arrivals.Cut seat) new = IsUsedSeat new seat
IsSeated (arrivals.Opened seat next) new = IsUsedSeat new seat
IsSeated (arrivals.Replied seat) new = IsUsedSeat new seat
IsSeated (arrivals.Heard seat) new = IsUsedSeat new seat
IsSeated result new = Unit {0}

-- where the reply came or a datagram for its number, its channel is proven; one that was opened isn't yet
abbrev pub Proves : Arrival → Seats → Type 0
Proves (arrivals.Opened seat next) new = is_proven_at (channel_at new seat) ≡ false
Proves (arrivals.Replied seat) new = is_proven_at (channel_at new seat) ≡ true
Proves (arrivals.Heard seat) new = is_proven_at (channel_at new seat) ≡ true
Proves result new = Unit {0}

-- the messages that are read are those from a byte on
abbrev pub IsBehind : Descriptor → List ℕ → Arrival → Type 0
IsBehind d bytes (arrivals.Opened seat next) =
    (next ≤ length bytes) × ((messages_at d.method d.chunk next (drop next bytes)).read ≡ drop 1 (contents d bytes).read)
IsBehind d bytes (arrivals.Replied seat) = 4 ≤ length bytes
IsBehind d bytes (arrivals.Heard seat) = 4 ≤ length bytes
IsBehind d bytes result = Unit {0}
