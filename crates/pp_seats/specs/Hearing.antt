-- What becomes of the seats while the messages of a datagram are heard, one by one, until the peer looks up.
use Rattle.std.specs.Prelude.{◌≡◌, ℕ, ◌≤◌, Bool, true, false, cond, Option, None, Some, is_some, List, ◌∷◌, length, drop, slice_get, slice_set}
use Rattle.pp_terms.specs.format.Traffic.{Record}
use Rattle.pp_terms.specs.format.Descriptor.{Descriptor}
use Rattle.pp_terms.specs.format.Messages.{Message}
use Rattle.pp_traffic.specs.Past.{now, is_event}
use Rattle.pp_traffic.specs.Life.{Life, closes}
use Rattle.pp_traffic.specs.Meter.{ended}
use Rattle.pp_traffic.specs.Story.{Line, Taken, hear}
use Rattle.pp_traffic.specs.Fates.{clock}
use Rattle.pp_traffic.specs.Asking.{is_heard}
use Rattle.pp_requests.specs.Moments.{asked_at, Changes}
use Rattle.pp_channels.specs.Seats.{closed}
use Rattle.pp_lives.specs.Standing.{Standing, AllBegun}
use Rattle.pp_lives.specs.Arriving.{contents}
use Rattle.pp_lives.specs.declared.arriving.Arrival.{Arrival}
use Rattle.pp_lives.specs.declared.arriving.Arrival.TheVariants.{Opened, Replied, Heard}
use Rattle.pp_seat.specs.Lines.{Tale, with_line}
use Rattle.pp_seat.specs.Seats.{SeatState, IsFresh}
use Rattle.pp_seat.specs.Follows.{Frame, Lost, Follows, none_lost, proved}
use Rattle.pp_seat.specs.Follows as seats
use Rattle.pp_seat.specs.Frames.{IsSameTale, tale_of, with_heard}
use Rattle.pp_seat.specs.Awaited.{AreAwaited}
use Rattle.pp_seats.specs.Standing.{SeatsState, Setting, SeatSetting, at_seat, frame_in, EachKnown}

-- ---- one seat

-- The seat follows these messages more, which came at a moment.
pub record HearsAll (now : ℕ) (ms : List Message) (old new : SeatState) : Type 0 where
  pub follows : (f : Frame) (lost : Lost) (t : Tale) → Follows f lost old t → Follows f lost new (with_heard now ms f.proven t)
  pub awaited : (story : List Line) → clock story ≤ now → AreAwaited old.own story → AreAwaited new.own (hear now ms story)

-- One seat changes so, and nothing else does.
pub record ChangesSeat (seat : ℕ) (P : SeatState → SeatState → Type 0) (old new : SeatsState) : Type 0 where
  pub before : SeatState
  pub after : SeatState
  pub there : slice_get old.seats seat ≡ Some before
  pub is : new ≡ record old { seats = slice_set old.seats seat after }
  pub changes : P before after

-- The messages of a datagram were heard on a seat, unless they close its channel; then the channel was closed.
pub record IsRead (seat : ℕ) (ms : List Message) (old new : SeatsState) : Type 0 where
  pub before : SeatState
  pub after : SeatState
  pub there : slice_get old.seats seat ≡ Some before
  pub is : new ≡ record old { table = cond (closes ms) (closed old.table seat) old.table; seats = slice_set old.seats seat after }
  pub hears : closes ms ≡ false → HearsAll old.moment ms before after

-- ---- what a datagram makes of a seat before its messages are heard

-- The seat is begun, with a slot or none, and follows each tale with which a channel may begin.
pub record Begins (d : Descriptor) (slot : Bool) (before after : SeatState) : Type 0 where
  pub fresh : IsFresh slot after
  pub room : after.told.chunks ≡ before.told.chunks
  pub follows : (f : Frame) (t : Tale) → f.chunks ≡ before.told.chunks → f.size ≡ d.chunk → seats.Begins f t → Follows f none_lost after t

-- What came shows that the other peer's address is no forged one.
pub record IsShown (before after : SeatState) : Type 0 where
  pub exact : after ≡ record before { proven = true; stopped = false }
  pub follows : (f : Frame) (lost : Lost) (t : Tale) → Follows f lost before t → Follows (proved f) lost after t

pub record BeginsShown (d : Descriptor) (slot : Bool) (before after : SeatState) : Type 0 where
  pub mid : SeatState
  pub begins : Begins d slot before mid
  pub shown : IsShown mid after

-- A seat is begun where its channel opens, or its reply came; a datagram for a channel's number shows its peer's address.
abbrev pub Prepares : Descriptor → Bool → Arrival → SeatsState → SeatsState → Type 0
Prepares d slot (Opened seat next) old new = ChangesSeat seat (Begins d slot) old new
Prepares d slot (Replied seat) old new = ChangesSeat seat (BeginsShown d slot) old new
Prepares d slot (Heard seat) old new = ChangesSeat seat IsShown old new
Prepares d slot _ old new = new ≡ old

-- A DATA ends the wait for its chunk, and changes nothing else.
pub record IsAnswered (i : ℕ) (was : Bool) (old new : SeatState) : Type 0 where
  pub waited : was ≡ is_some (asked_at old.own i)
  pub rest : new ≡ record old { own = new.own }
  pub taken : Changes i None old.own new.own

-- ---- all seats

abbrev pub with_proven : Bool → Frame → Frame
with_proven is_proven f = record { chunks = f.chunks; size = f.size; since = f.since; known_of = f.known_of; proven = is_proven }

-- What the seat follows becomes, once the peer looks up, the tale of its channel's life with the record.
pub record IsReady (x : SeatSetting) (most moment : ℕ) (s : SeatState) (life : Life) (r : Record) (past : List Record) : Type 0 where
  pub lost : Lost
  pub chunks : lost.chunks ≤ most
  pub haves : lost.haves ≤ most
  pub begun : life.opening ≤ length past
  pub is_proven : Bool
  pub heard : is_heard x.d life (r ∷ past) ≡ is_proven
  pub tale : Tale
  pub becomes : IsSameTale (with_line (Taken moment) is_proven tale) (tale_of x.d life (r ∷ past))
  pub follows : Follows (with_proven is_proven (frame_in x life past)) lost s tale
  pub awaited : AreAwaited s.own tale.story

-- Each seat is ready; all that is missing is that the peer looks up.
pub record Ready (x : Setting) (most : ℕ) (p : SeatsState) (r : Record) (past : List Record) : Type 0 where
  pub event : is_event r ≡ true
  pub swarm : p.descriptor ≡ x.d
  pub now_is : p.moment ≡ now (r ∷ past)
  pub lives : ℕ → Option Life
  pub standing : Standing x.d p.table lives (r ∷ past)
  pub begun : AllBegun p.table
  pub follow : EachKnown p.table lives p.seats (λ n s life. IsReady (at_seat x n) most p.moment s life r past)

-- The same once the messages of the datagram were heard, where there are some to be heard.
abbrev pub OnceRead : Descriptor → List ℕ → Arrival → (SeatsState → Type 0) → SeatsState → Type 0
OnceRead d bytes (Opened seat next) P p = (q : SeatsState) → IsRead seat (drop 1 (contents d bytes).read) p q → P q
OnceRead d bytes (Replied seat) P p = (q : SeatsState) → IsRead seat (contents d bytes).read p q → P q
OnceRead d bytes (Heard seat) P p = (q : SeatsState) → IsRead seat (contents d bytes).read p q → P q
OnceRead d bytes _ P p = P p

-- the seat once the peer looked up: a timeout may have ended its window's flight
abbrev pub looked_up : ℕ → SeatState → SeatState
looked_up now s = record s { window = ended now s.window }
