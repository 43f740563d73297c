-- What an event does to a learner.
use Rattle.std.specs.Prelude.{◌≡◌, ◌↔◌, ℕ, ◌==◌, nat_le, max, Bool, true, false, ◌&&◌, ◌||◌, if◌then◌else◌, Option, Some, None, List, length, take, slice_set}
use Rattle.std.specs.Int.{w32, from_be_bytes}
use Rattle.pp_terms.specs.format.Descriptor.{Descriptor}
use Rattle.pp_traffic.specs.Life.{begins}
use Rattle.pp_outside.specs.declared.link.Address.{Address}
use Rattle.pp_outside.specs.declared.link.Event.{Event}
use Rattle.pp_outside.specs.declared.link.Event.TheVariants.{Datagram, Quiet}
use Rattle.pp_counts.specs.Counts.{after_note}
use Rattle.pp_counts.specs.declared.note.Note.{Note}
use Rattle.pp_counts.specs.declared.note.Note.TheVariants as notes
use Rattle.pp_channels.specs.Seats.{Seats, channel_at, closed}
use Rattle.pp_lives.specs.Arriving.{Arrives, contents, is_faulty, is_proven_at}
use Rattle.pp_lives.specs.declared.arriving.Arrival.{Arrival}
use Rattle.pp_lives.specs.declared.arriving.Arrival.TheVariants as arrivals
use Rattle.pp_targets.specs.Names.{name_of}
use Rattle.pp_learner.specs.Standing.{stand_in}
use Rattle.pp_learner.specs.Rows.{begun}
use Rattle.pp_learner.specs.Reading.{Hearings, after_some, learned_in, row_at, read_at, messages_from, Tells}
use Rattle.pp_learner.specs.Learners.{LearnerState}
use Rattle.pp_learner.specs.declared.reading.Ending.{Ending}
use Rattle.pp_learner.specs.declared.reading.Ending.TheVariants.{Read, Closed, Learned}

-- ---- for channel 0

-- the datagram is for channel 0
abbrev pub is_for_zero : List ℕ → Bool
is_for_zero bytes = nat_le 4 (length bytes) && from_be_bytes w32 (take 4 bytes) == 0

-- No channel is opened: a handshake, one with faulty options too, is refused, and anything else is a stranger's.
abbrev pub greeting_note : Descriptor → List ℕ → Note
greeting_note d bytes =
    if is_faulty (contents d bytes) || begins (contents d bytes).read then notes.RefusedHandshake else notes.Stranger

-- ---- for a channel

-- what is counted of a datagram before its messages are read
abbrev pub counted : Arrival → Option Note
counted arrivals.Short = Some notes.Short
counted arrivals.NoGreeting = Some notes.Stranger
counted arrivals.Unwelcome = Some notes.RefusedHandshake
counted (arrivals.Again seat) = None
counted (arrivals.Late seat) = Some notes.RefusedHandshake
counted arrivals.Unseated = Some notes.NoSeat
counted (arrivals.Opened seat next) = None
counted arrivals.NoChannel = Some notes.Stranger
counted (arrivals.NoReply seat) = Some notes.Stranger
counted (arrivals.Cut seat) = Some notes.Cut
counted (arrivals.Differs seat) = Some notes.RefusedHandshake
counted (arrivals.Given seat) = None
counted (arrivals.Replied seat) = None
counted (arrivals.Heard seat) = None

-- what the messages of a datagram come to on the channel of a seat
abbrev pub hearing_on : ℕ → List ℕ → LearnerState → Hearings
hearing_on seat bytes p = read_at (name_of p.name) bytes seat p.rows p.counts

-- the channel is dropped where one of the messages closes it
abbrev pub table_after : ℕ → Ending → Seats → Seats
table_after seat Read table = table
table_after seat Closed table = closed table seat
table_after seat (Learned e) table = table

abbrev pub with_hearings : ℕ → Hearings → LearnerState → LearnerState
with_hearings seat h p = record p { lives = table_after seat h.ending p.lives; rows = h.rows; counts = h.counts }

abbrev pub after_reading : ℕ → List ℕ → LearnerState → LearnerState
after_reading seat bytes p = with_hearings seat (hearing_on seat bytes p) p

abbrev pub learned_on : ℕ → List ℕ → LearnerState → Option Descriptor
learned_on seat bytes p = learned_in (hearing_on seat bytes p).ending

-- the row of a channel begins at the reply
abbrev pub with_begun : ℕ → LearnerState → LearnerState
with_begun seat p = record p { rows = slice_set p.rows seat begun }

-- a datagram of a channel's number alone is counted
abbrev pub with_keepalive : List ℕ → LearnerState → LearnerState
with_keepalive bytes p = record p { counts = if length bytes == 4 then after_note notes.KeepAlive p.counts else p.counts }

-- Messages are read where the reply came, or a datagram on a channel that is proven.
abbrev pub after_arrival : Arrival → List ℕ → LearnerState → LearnerState
after_arrival (arrivals.Replied seat) bytes p = after_reading seat bytes (with_begun seat p)
after_arrival (arrivals.Heard seat) bytes p = after_reading seat bytes (with_keepalive bytes p)
after_arrival _ bytes p = p

abbrev pub learned_from : Arrival → List ℕ → LearnerState → Option Descriptor
learned_from (arrivals.Replied seat) bytes p = learned_on seat bytes (with_begun seat p)
learned_from (arrivals.Heard seat) bytes p = learned_on seat bytes (with_keepalive bytes p)
learned_from _ bytes p = None

-- A DATA of the datagram tells the size, on a proven channel, by what was claimed there before it.
abbrev pub TellsBy : Arrival → List ℕ → LearnerState → Descriptor → Type 0
TellsBy (arrivals.Replied seat) bytes p e = Tells (name_of p.name) e (messages_from (name_of p.name) bytes 4).read begun
TellsBy (arrivals.Heard seat) bytes p e =
    Tells (name_of p.name) e (messages_from (name_of p.name) bytes 4).read (row_at p.rows seat)
TellsBy _ bytes p e = ⊥

-- on whose channel messages are read, that is proven
abbrev pub IsOnProven : Arrival → Seats → Type 0
IsOnProven (arrivals.Replied seat) table = is_proven_at (channel_at table seat) ≡ true
IsOnProven (arrivals.Heard seat) table = is_proven_at (channel_at table seat) ≡ true
IsOnProven _ table = Unit {0}

-- no channel was opened
abbrev pub OpensNone : Arrival → Type 0
OpensNone (arrivals.Opened seat next) = ⊥
OpensNone _ = Unit {0}

-- ---- a datagram

-- A datagram for a channel's number, or one that is too short: what it means to the channels, what is counted and read of it, and
-- the size that it tells.
pub record TakesArrival (sender : Address) (bytes : List ℕ) (answer : Option Descriptor) (old new : LearnerState) : Type 0 where
  pub arrival : Arrival
  pub table : Seats
  pub arrives : Arrives (stand_in (name_of old.name)) old.lives sender old.moment bytes arrival table
  pub opens_none : OpensNone arrival
  pub proven : IsOnProven arrival table
  pub after : new ≡ after_arrival arrival bytes (record old { lives = table; counts = after_some (counted arrival) old.counts })
  pub answers : answer ≡ learned_from arrival bytes (record old { lives = table; counts = after_some (counted arrival) old.counts })
  pub learned : (e : Descriptor) → (answer ≡ Some e) ↔ TellsBy arrival bytes old e

-- A datagram for channel 0 is refused and counted, and changes nothing else.
pub record IsRefused (bytes : List ℕ) (answer : Option Descriptor) (old new : LearnerState) : Type 0 where
  pub none : answer ≡ None
  pub rest : new ≡ record old { counts = after_note (greeting_note (stand_in (name_of old.name)) bytes) old.counts }

pub record TakesDatagram (sender : Address) (bytes : List ℕ) (answer : Option Descriptor) (old new : LearnerState) : Type 0 where
  pub zero : is_for_zero bytes ≡ true → IsRefused bytes answer old new
  pub other : is_for_zero bytes ≡ false → TakesArrival sender bytes answer old new

-- ---- an event

-- a wait ended, and its moment was noted
abbrev pub after_wait : ℕ → LearnerState → LearnerState
after_wait at p = record p { moment = max at p.moment; counts = after_note notes.Turn p.counts }

-- a wait brought a datagram
abbrev pub after_datagram : LearnerState → LearnerState
after_datagram p = record p { counts = after_note notes.Datagram p.counts }

-- What an event does, and the size that is learned by it.
abbrev pub Absorbs : Event → List ℕ → Option Descriptor → LearnerState → LearnerState → Type 0
Absorbs (Datagram sender len at) bytes answer old new =
    TakesDatagram sender bytes answer (after_datagram (after_wait at old)) new
Absorbs (Quiet at) bytes answer old new = (answer ≡ None) × (new ≡ after_wait at old)

-- ---- the same, plainly

-- A datagram that isn't for channel 0 has a DATA that tells the size, on a proven channel.
pub record Learns (sender : Address) (bytes : List ℕ) (at : ℕ) (p : LearnerState) (e : Descriptor) : Type 0 where
  pub other : is_for_zero bytes ≡ false
  pub arrival : Arrival
  pub table : Seats
  pub arrives : Arrives (stand_in (name_of p.name)) p.lives sender (max at p.moment) bytes arrival table
  pub proven : IsOnProven arrival table
  pub tells : TellsBy arrival bytes p e

abbrev pub LearnsBy : Event → List ℕ → LearnerState → Descriptor → Type 0
LearnsBy (Datagram sender len at) bytes p e = Learns sender bytes at p e
LearnsBy (Quiet at) bytes p e = ⊥

-- a wait was refused
abbrev pub after_refusal : LearnerState → LearnerState
after_refusal p = record p { counts = after_note notes.ReceiveFault (after_note notes.Turn p.counts) }
