-- Where the path of an event ends, and what its messages leave as it is.
use Rattle.std.proofs.Common.{◌≡◌, ⊎_elim, ℕ, Bool, false, Some, List, ◌∙◌, ap}
use Rattle.std.specs.Prelude.{IfSome, slice_get}
use Rattle.std.proofs.lemmas.Bool.{cases_Bool}
use Rattle.pp_terms.specs.format.Descriptor.{Descriptor}
use Rattle.pp_terms.specs.format.Messages.{Message, Data, Have, Pex4, PexReq, Choke, Pex6}
use Rattle.pp_traffic.specs.Life.{closes}
use Rattle.pp_outside.specs.declared.link.Address.{Address}
use Rattle.pp_outside.specs.declared.link.Event.{Event}
use Rattle.pp_outside.specs.declared.link.Event.TheVariants as events
use Rattle.pp_lives.specs.declared.arriving.Arrival.{Arrival}
use Rattle.pp_lives.specs.declared.arriving.Arrival.TheVariants as arrivals
use Rattle.pp_seat.specs.Seats.{SeatState}
use Rattle.pp_seats.specs.Hearing.{ChangesSeat}
use Rattle.pp_seats.specs.Standing.{SeatsState}
use Rattle.pp_seats.proofs.Lists.{get_set_there}
use Rattle.pp_peer.specs.declared.parts.Parts.{Parts}
use Rattle.pp_peer.specs.Taking.{read_at}
use Rattle.pp_peer.specs.Messages.{Heeds, TakesData, TakesOther, Does, ReadsAll}
use Rattle.pp_peer.specs.Events.{with_channel, with_seated, HearsArrival, TakesEvent}
use Rattle.pp_core.specs.Paths.{Path, path_read, path_heard, path_of}

-- ---- where a path ends

-- Before the path and behind it nothing is stored, and behind it the seats are changed only where the channel is closed.
pub record Ends (path : Path) (old new : Parts) : Type 0 where
  pub begins : path.first.holding ≡ old.holding
  pub holding : new.holding ≡ path.last.holding
  pub seats : path.is_closed ≡ false → new.seats ≡ path.last.seats

read_ends : (seat : ℕ) (d : Descriptor) (bytes : List ℕ) (start : ℕ) (old new : Parts) (reads : ReadsAll seat d bytes start old new)
    (begin : Parts) → old.holding ≡ begin.holding → Ends (path_read seat d bytes start old new reads) begin new
read_ends seat d bytes start old new reads begin begins = record {
  begins = begins;
  holding = ⊎_elim
      (λ shut. ap (λ (p : Parts). p.holding) (reads.shuts shut).rest)
      (λ still. ap (λ (p : Parts). p.holding) (reads.stays still))
      (cases_Bool (closes (read_at d bytes start)));
  seats = λ still. ap (λ (p : Parts). p.seats) (reads.stays still);
}

module _ (P : Path → Type 0) where
  on_heard : (arrival : Arrival) (sender : Address) (bytes : List ℕ) (slot : Bool) (old new : Parts)
      (hears : HearsArrival arrival sender bytes slot old new) (begin : Parts) → old.holding ≡ begin.holding
      → ((path : Path) → Ends path begin new → P path) → IfSome (path_heard arrival sender bytes slot old new hears) P
  on_heard (arrivals.Opened seat next) sender bytes slot old new hears begin begins each =
      each (path_read seat old.seats.descriptor bytes next (with_channel false seat bytes (with_seated slot seat old)) new hears)
      (read_ends seat old.seats.descriptor bytes next (with_channel false seat bytes (with_seated slot seat old)) new hears begin begins)
  on_heard (arrivals.Replied seat) sender bytes slot old new hears begin begins each =
      each (path_read seat hears.mid.seats.descriptor bytes 4 hears.mid new hears.reads)
      (read_ends seat hears.mid.seats.descriptor bytes 4 hears.mid new hears.reads begin (ap (λ (p : Parts). p.holding) hears.hears.rest ∙ begins))
  on_heard (arrivals.Heard seat) sender bytes slot old new hears begin begins each =
      each (path_read seat hears.mid.seats.descriptor bytes 4 hears.mid new hears.reads)
      (read_ends seat hears.mid.seats.descriptor bytes 4 hears.mid new hears.reads begin (ap (λ (p : Parts). p.holding) hears.hears.rest ∙ begins))
  on_heard _ sender bytes slot old new hears begin begins each = tt

  -- what holds of each path that ends so holds of the path of an event
  pub on_path : (event : Event) (bytes : List ℕ) (old new : Parts) (takes : TakesEvent event bytes old new)
      → ((path : Path) → Ends path old new → P path) → IfSome (path_of event bytes old new takes) P
  on_path (events.Datagram sender len at) bytes old new takes each =
      on_heard takes.arrival sender bytes takes.slot takes.mid new takes.hears old (ap (λ (p : Parts). p.holding) takes.rest) each
  on_path (events.Quiet at) bytes old new takes each = tt

-- ---- what a message changes

-- a seat that changes is as it was changed
pub seat_after : (seat : ℕ) (P : SeatState → SeatState → Type 0) (old new : SeatsState) (c : ChangesSeat seat P old new)
    → slice_get new.seats seat ≡ Some c.after
seat_after seat P old new c = ap (λ (s : SeatsState). slice_get s.seats seat) c.is ∙ get_set_there old.seats seat c.after c.before c.there

-- what a message that is no DATA means beside its seat leaves the holding and the seats as they are
pub record StaysBeside (old new : Parts) : Type 0 where
  pub holding : new.holding ≡ old.holding
  pub seats : new.seats ≡ old.seats

pub heeded_beside : (seat : ℕ) (m : Message) (old new : Parts) → Heeds seat m old new → StaysBeside old new
heeded_beside seat (Have span) old new h = record { holding = ap (λ (p : Parts). p.holding) h.1; seats = ap (λ (p : Parts). p.seats) h.1 }
heeded_beside seat Choke old new h = record { holding = ap (λ (p : Parts). p.holding) h.1; seats = ap (λ (p : Parts). p.seats) h.1 }
heeded_beside seat (Pex4 address port) old new h = record { holding = ap (λ (p : Parts). p.holding) h; seats = ap (λ (p : Parts). p.seats) h }
heeded_beside seat PexReq old new h = record { holding = ap (λ (p : Parts). p.holding) h; seats = ap (λ (p : Parts). p.seats) h }
heeded_beside seat (Pex6 address port) old new h = record { holding = ap (λ (p : Parts). p.holding) h; seats = ap (λ (p : Parts). p.seats) h }
heeded_beside seat _ old new h = record { holding = ap (λ (p : Parts). p.holding) h; seats = ap (λ (p : Parts). p.seats) h }

-- a message is a DATA, or another one
pub data_or_other : (Q : Type 0) (seat : ℕ) (m : Message) (old new : Parts) → Does seat m old new
    → ((chunk sent_at : ℕ) (bytes : List ℕ) → TakesData seat chunk sent_at bytes old new → Q) → (TakesOther seat m old new → Q) → Q
data_or_other Q seat (Data chunk sent_at bytes) old new does data_does other_does = data_does chunk sent_at bytes does
data_or_other Q seat _ old new does data_does other_does = other_does does
