-- The path of an event: the messages that it brings, and the states that they lead through.
use Rattle.std.specs.Prelude.{ℕ, Bool, false, Option, Some, None, List}
use Rattle.pp_terms.specs.format.Descriptor.{Descriptor}
use Rattle.pp_terms.specs.format.Messages.{Message}
use Rattle.pp_traffic.specs.Life.{closes}
use Rattle.pp_outside.specs.declared.link.Address.{Address}
use Rattle.pp_outside.specs.declared.link.Event.{Event}
use Rattle.pp_outside.specs.declared.link.Event.TheVariants.{Datagram, Quiet}
use Rattle.pp_lives.specs.declared.arriving.Arrival.{Arrival}
use Rattle.pp_lives.specs.declared.arriving.Arrival.TheVariants as arrivals
use Rattle.pp_peer.specs.declared.parts.Parts.{Parts}
use Rattle.pp_peer.specs.Taking.{read_at}
use Rattle.pp_peer.specs.Messages.{InTurn, before_close, ReadsAll}
use Rattle.pp_peer.specs.Events.{with_channel, with_seated, HearsArrival, TakesEvent}

-- The messages of a datagram that are heard on a seat, one after the other, and whether one behind them closes its channel.
pub record Path : Type 0 where
  pub seat : ℕ
  pub is_closed : Bool
  pub messages : List Message
  pub first : Parts
  pub last : Parts
  pub in_turn : InTurn seat messages first last

-- the path of the messages from a byte on
abbrev pub path_read : (seat : ℕ) (d : Descriptor) (bytes : List ℕ) (start : ℕ) (old new : Parts)
    → ReadsAll seat d bytes start old new → Path
path_read seat d bytes start old new reads = record {
  seat = seat;
  is_closed = closes (read_at d bytes start);
  messages = before_close (read_at d bytes start);
  first = old;
  last = reads.mid;
  in_turn = reads.in_turn;
}

-- the path of a datagram, where its messages are heard
abbrev pub path_heard : (arrival : Arrival) (sender : Address) (bytes : List ℕ) (slot : Bool) (old new : Parts)
    → HearsArrival arrival sender bytes slot old new → Option Path
path_heard (arrivals.Opened seat next) sender bytes slot old new hears =
    Some (path_read seat old.seats.descriptor bytes next (with_channel false seat bytes (with_seated slot seat old)) new hears)
path_heard (arrivals.Replied seat) sender bytes slot old new hears =
    Some (path_read seat hears.mid.seats.descriptor bytes 4 hears.mid new hears.reads)
path_heard (arrivals.Heard seat) sender bytes slot old new hears =
    Some (path_read seat hears.mid.seats.descriptor bytes 4 hears.mid new hears.reads)
path_heard _ sender bytes slot old new hears = None

-- the path of an event, where one is gone
abbrev pub path_of : (event : Event) (bytes : List ℕ) (old new : Parts) → TakesEvent event bytes old new → Option Path
path_of (Datagram sender len at) bytes old new takes = path_heard takes.arrival sender bytes takes.slot takes.mid new takes.hears
path_of (Quiet at) bytes old new takes = None
