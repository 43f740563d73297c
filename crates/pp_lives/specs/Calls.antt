-- What each call does to the seats, and to the story of what is read of each: what a channel does with its messages rests on this alone.
use Rattle.std.specs.Prelude.{◌≡◌, ◌≢◌, ℕ, ◌==◌, true, false, if◌then◌else◌, Option, Some, None, option_map, List, [], ◌∷◌}
use Rattle.pp_terms.specs.format.Traffic as traffic
use Rattle.pp_terms.specs.format.Traffic.{Record}
use Rattle.pp_terms.specs.format.Descriptor.{Descriptor}
use Rattle.pp_terms.specs.format.Options.{Options}
use Rattle.pp_terms.specs.format.Messages.{Message, Handshake}
use Rattle.pp_traffic.specs.Past.{read, goes_to}
use Rattle.pp_outside.specs.Outside.{address_of}
use Rattle.pp_traffic.specs.Life.{Life}
use Rattle.pp_traffic.specs.Story.{Line, Taken, hear, say}
use Rattle.pp_channels.specs.Seats.{Seats, channel_at, after_drop, is_dialled}
use Rattle.pp_channels.specs.declared.channel.State.TheVariants.{Proven}
use Rattle.pp_channels.specs.declared.channel.Channel.{Channel}
use Rattle.pp_lives.specs.Reading.{is_blank}

-- At most one seat is changed.
pub record Changes (t new : Seats) (seat : ℕ) (channel : Option Channel) : Type 0 where
  pub there : channel_at new seat ≡ channel
  pub others : (other : ℕ) → other ≢ seat → channel_at new other ≡ channel_at t other

-- the channel is proven, and something was heard on it
abbrev pub hears : ℕ → Channel → Channel
hears moment c = record c { state = Proven; heard = moment }

-- ---- what is read of each seat

-- None where the seat is free, or the peer's number isn't known
abbrev pub Told : Type 0
Told = ℕ → Option (List Line)

-- a wait ended, and nothing is read
abbrev pub looked : ℕ → Option (List Line) → Option (List Line)
looked now told = option_map (λ s. Taken now ∷ s) told

-- these messages came
abbrev pub heard_more : ℕ → List Message → Option (List Line) → Option (List Line)
heard_more now ms told = option_map (λ s. Taken now ∷ hear now ms s) told

-- these were sent
abbrev pub said_more : ℕ → List Message → Option (List Line) → Option (List Line)
said_more now ms told = option_map (λ s. say now ms s) told

-- Nothing is read on any seat.
abbrev pub TellsNone : ℕ → Told → Told → Type 0
TellsNone now old new = (seat : ℕ) → new seat ≡ looked now (old seat)

-- Messages are read on one.
pub record TellsOne (now seat : ℕ) (ms : List Message) (old new : Told) : Type 0 where
  pub own : new seat ≡ heard_more now ms (old seat)
  pub others : (other : ℕ) → other ≢ seat → new other ≡ looked now (old other)

-- These messages are the first that were heard or said.
pub record Begins (now : ℕ) (ms : List Message) (told : Option (List Line)) : Type 0 where
  pub before : List Line
  pub nothing : is_blank before ≡ true
  pub is : told ≡ Some (Taken now ∷ hear now ms before)

-- Messages are read on a seat for the first time, and nothing was known of its channel before.
pub record TellsFirst (now seat : ℕ) (ms : List Message) (old new : Told) : Type 0 where
  pub none : old seat ≡ None
  pub own : Begins now ms (new seat)
  pub others : (other : ℕ) → other ≢ seat → new other ≡ looked now (old other)

-- A datagram was sent on a seat.
pub record Says (now seat : ℕ) (ms : List Message) (old new : Told) : Type 0 where
  pub own : new seat ≡ said_more now ms (old seat)
  pub others : (other : ℕ) → other ≢ seat → new other ≡ old other

-- A seat is free now.
pub record Ends (seat : ℕ) (old new : Told) : Type 0 where
  pub own : new seat ≡ None
  pub others : (other : ℕ) → other ≢ seat → new other ≡ old other

-- ---- seats and lives

-- A seat is dropped: its channel shadows the others of its address.
pub record Drops (t new : Seats) (seat : ℕ) (c : Channel) : Type 0 where
  pub was : channel_at t seat ≡ Some c
  pub free : channel_at new seat ≡ None
  pub others : (other : ℕ) → other ≢ seat → channel_at new other ≡ after_drop (Some c) (channel_at t other)

-- with that life at a seat
abbrev pub with_life : ℕ → Option Life → (ℕ → Option Life) → ℕ → Option Life
with_life seat life lives other = if other == seat then life else lives other

-- a life of a channel that this peer dialled, with the peer's number
abbrev pub as_dial : Life → ℕ → Life
as_dial life remote = record life { remote = remote; is_dialled = true }

-- the reply came
abbrev pub replied : ℕ → ℕ → Channel → Channel
replied remote moment c = record c { remote = Some remote; state = Proven; heard = moment }

-- the life that a handshake opens, and the one that this peer's first handshake opens
abbrev pub opened_life : traffic.Address → ℕ → ℕ → ℕ → Life
opened_life sender local remote place = record { address = sender; local = local; remote = remote; is_dialled = false; opening = place }

abbrev pub dialled_life : traffic.Address → ℕ → ℕ → Life
dialled_life receiver local place = record { address = receiver; local = local; remote = 0; is_dialled = true; opening = place }

-- The channel is the same one to the traffic: when it last wrote, and which handshakes were sent or are due, don't count.
pub record Steady (c new : Channel) : Type 0 where
  pub address : new.address ≡ c.address
  pub local : new.local ≡ c.local
  pub remote : new.remote ≡ c.remote
  pub state : new.state ≡ c.state
  pub dialled : is_dialled new.opening ≡ is_dialled c.opening
  pub made : new.made ≡ c.made
  pub heard : new.heard ≡ c.heard
  pub shadowed : new.shadowed ≡ c.shadowed

-- A handshake of a channel was sent to channel 0, and nothing behind it.
pub record IsDialOf (d : Descriptor) (c : Channel) (r : Record) : Type 0 where
  pub to : goes_to (address_of c.address) r ≡ true
  pub number : (read d r).channel ≡ Some 0
  pub options : Options
  pub alone : (read d r).messages.read ≡ Handshake c.local options ∷ []
