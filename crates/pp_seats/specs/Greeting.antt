-- Handshakes that go out on the seats' channels, channels that are dialled, and channels that end.
use Rattle.std.specs.Prelude.{◌≡◌, ◌⊎◌, ℕ, Bool, true, false, cond, Option, Some, None, option_map, position, List, [], ◌∷◌, ◌++◌}
use Rattle.std.specs.List.{list_any}
use Rattle.pp_terms.specs.format.Traffic.{Record, Sent, LinkState}
use Rattle.pp_terms.specs.format.Messages.{Handshake}
use Rattle.pp_outside.specs.Outside.{address_of}
use Rattle.pp_outside.specs.declared.link.Address.{Address}
use Rattle.pp_channels.specs.Seats.{Seats, channel_at, closed, dialled, free_seat, has_address, with_channel}
use Rattle.pp_channels.specs.Timing.{is_over}
use Rattle.pp_lives.specs.Fars.{far_of, greeting_of}
use Rattle.pp_lives.specs.Sending.{with_datagram}
use Rattle.pp_lives.specs.declared.lives.Far.{Far}
use Rattle.pp_lives.specs.declared.lives.Greeting.{Greeting}
use Rattle.pp_draft.specs.Datagrams.{IsDatagram}
use Rattle.pp_draft.specs.Notes.{own_options, no_options}
use Rattle.pp_draft.specs.Posts.{Sends}
use Rattle.pp_seats.specs.Standing.{SeatsState, Setting, StandsFor}
use Rattle.pp_seats.specs.Serving.{Refuses}

-- This peer's handshake was sent on a seat's channel.
pub record Greets (seat moment : ℕ) (old new : SeatsState) (link later : LinkState) : Type 0 where
  pub greeting : Greeting
  pub is_greeting : greeting_of (channel_at old.table seat) ≡ Some greeting
  pub bytes : List ℕ
  pub written : IsDatagram old.descriptor greeting.number (Handshake greeting.source (own_options old.descriptor) ∷ []) bytes
  pub sends : Sends (address_of greeting.address) bytes moment link later true
  pub is : new ≡ record old { table = with_datagram old.table seat true old.moment }
  pub stands : (x : Setting) (most : ℕ) (past : List Record) → StandsFor x most old past
      → StandsFor x most new (Sent moment (address_of greeting.address) bytes ∷ past)

-- No greeting went: the seat is free, or the link refused it.
pub record GreetsNot (seat : ℕ) (old new : SeatsState) (link later : LinkState) : Type 0 where
  pub same : new ≡ old
  pub why : ((greeting_of (channel_at old.table seat) ≡ None) × (later ≡ link)) ⊎ Refuses link later

abbrev pub IsGreeted : ℕ → ℕ → Bool → SeatsState → SeatsState → LinkState → LinkState → Type 0
IsGreeted seat moment true old new link later = Greets seat moment old new link later
IsGreeted seat moment false old new link later = GreetsNot seat old new link later

-- the channels with one that is dialled
abbrev pub with_dial : Address → SeatsState → Seats
with_dial to p = with_channel (dialled to p.moment) p.table

-- An address was dialled at the least free seat: its channel is there if the first handshake was sent, else it is dropped again.
pub record Dials (to : Address) (moment : ℕ) (sent : Bool) (old new : SeatsState) (link later : LinkState) : Type 0 where
  pub seat : ℕ
  pub free : free_seat old.table ≡ Some seat
  pub none : list_any (has_address to) old.table.channels ≡ false
  -- this peer's number for the channel
  pub source : ℕ
  pub local : option_map (λ c. c.local) (channel_at (with_dial to old) seat) ≡ Some source
  pub bytes : List ℕ
  pub written : IsDatagram old.descriptor 0 (Handshake source (own_options old.descriptor) ∷ []) bytes
  pub sends : Sends (address_of to) bytes moment link later sent
  pub is : new ≡ record old { table = cond sent (with_datagram (with_dial to old) seat true old.moment) (closed (with_dial to old) seat) }
  pub stands : (x : Setting) (most : ℕ) (past : List Record) → StandsFor x most old past
      → StandsFor x most new (cond sent (Sent moment (address_of to) bytes ∷ []) [] ++ past)

-- None was dialled: a channel has the address, or all seats are in use.
pub record DialsNone (to : Address) (old new : SeatsState) (link later : LinkState) : Type 0 where
  pub same : new ≡ old
  pub link_same : later ≡ link
  pub why : (list_any (has_address to) old.table.channels ≡ true) ⊎ (free_seat old.table ≡ None)

-- The channel whose time is over and whose seat is the least was dropped.
pub record Ends (seat : ℕ) (old new : SeatsState) : Type 0 where
  pub over : position (is_over old.moment) old.table.channels ≡ Some seat
  pub is : new ≡ record old { table = closed old.table seat }
  pub stands : (x : Setting) (most : ℕ) (past : List Record) → StandsFor x most old past → StandsFor x most new past

-- No channel's time is over.
pub record EndsNone (old new : SeatsState) : Type 0 where
  pub over : position (is_over old.moment) old.table.channels ≡ None
  pub same : new ≡ old

-- A closing handshake was sent to a seat's peer, whose address is no forged one.
pub record Parts (seat moment : ℕ) (old new : SeatsState) (link later : LinkState) : Type 0 where
  pub far : Far
  pub is_far : far_of (channel_at old.table seat) ≡ Some far
  pub proven : far.proven ≡ true
  pub bytes : List ℕ
  pub written : IsDatagram old.descriptor far.number (Handshake 0 no_options ∷ []) bytes
  pub sends : Sends (address_of far.address) bytes moment link later true
  pub is : new ≡ record old { table = with_datagram old.table seat false old.moment }
  pub stands : (x : Setting) (most : ℕ) (past : List Record) → StandsFor x most old past
      → StandsFor x most new (Sent moment (address_of far.address) bytes ∷ past)

-- None was: there is no such peer, or the link refused it.
abbrev pub IsUnproven : Option Far → Type 0
IsUnproven None = Unit {0}
IsUnproven (Some far) = far.proven ≡ false

pub record PartsNot (seat : ℕ) (old new : SeatsState) (link later : LinkState) : Type 0 where
  pub same : new ≡ old
  pub why : (IsUnproven (far_of (channel_at old.table seat)) × (later ≡ link)) ⊎ Refuses link later

abbrev pub IsParted : ℕ → ℕ → Bool → SeatsState → SeatsState → LinkState → LinkState → Type 0
IsParted seat moment true old new link later = Parts seat moment old new link later
IsParted seat moment false old new link later = PartsNot seat old new link later
