-- What becomes of the chunks that a peer is asked for.
use Rattle.std.specs.Prelude.{◌≡◌, ◌≢◌, ◌⊎◌, ℕ, ◌<◌, ◌≤◌, Option, Some, None, length, slice_get}
use Rattle.pp_counts.specs.declared.note.Note.{Note}
use Rattle.pp_counts.specs.declared.note.Note.TheVariants as notes
use Rattle.pp_channels.specs.Seats.{channel_at}
use Rattle.pp_lives.specs.Fars.{far_of}
use Rattle.pp_draft.specs.declared.chunk.Unread.TheVariants as unread
use Rattle.pp_seat.specs.Seats.{SeatState}
use Rattle.pp_seats.specs.declared.serving.Served.{Served}
use Rattle.pp_seats.specs.declared.serving.Served.TheVariants as outcomes
use Rattle.pp_seats.specs.Standing.{SeatsState}
use Rattle.pp_seats.specs.Serving.{HasNothing}
use Rattle.pp_peer.specs.declared.parts.Parts.{Parts}
use Rattle.pp_peer.specs.Flushing.{Scene, Flushes}
use Rattle.pp_peer.specs.Delivering.{ServesAlone, AreRefused}

-- what is counted of what became of a chunk
abbrev pub counted : Served → Option Note
counted outcomes.Done = None
counted outcomes.Passed = Some notes.Unheld
counted outcomes.Sent = Some notes.Sent
counted outcomes.Refused = Some notes.SendFault
counted (outcomes.Unread unread.Absent) = Some notes.Unheld
counted (outcomes.Unread unread.Disk) = Some notes.ReadFault
counted (outcomes.Unread unread.Damaged) = Some notes.Damaged

-- how many chunks were sent, and how many given up
abbrev pub sent_of : Served → ℕ
sent_of outcomes.Done = 0
sent_of outcomes.Passed = 0
sent_of outcomes.Sent = 1
sent_of outcomes.Refused = 0
sent_of (outcomes.Unread why) = 0

abbrev pub given_up : Served → ℕ
given_up outcomes.Done = 0
given_up outcomes.Passed = 0
given_up outcomes.Sent = 0
given_up outcomes.Refused = 1
given_up (outcomes.Unread why) = 1

-- The seats and the counts changed alone.
abbrev pub OnlySeats : Parts → Parts → Type 0
OnlySeats old new = new ≡ record old { seats = new.seats; counts = new.counts }

-- how many chunks are sent on a seat's channel at a time
abbrev pub most_sent : ℕ
most_sent = 512

-- how many chunks fly to a seat's peer
abbrev pub flying_in : Option SeatState → ℕ
flying_in None = 0
flying_in (Some s) = length s.window.entries

abbrev pub flying_at : SeatsState → ℕ → ℕ
flying_at p seat = flying_in (slice_get p.seats seat)

-- Nothing may be sent on a seat's channel, or as many chunks fly there as any window lets fly.
abbrev pub IsServed : SeatsState → ℕ → Type 0
IsServed p seat = HasNothing p seat ⊎ (most_sent ≤ flying_at p seat)

-- No seat changed but one, and no channel's peer.
pub record ChangesOneSeat (seat : ℕ) (old new : SeatsState) : Type 0 where
  pub far : (other : ℕ) → far_of (channel_at new.table other) ≡ far_of (channel_at old.table other)
  pub others : (other : ℕ) → other ≢ seat → slice_get new.seats other ≡ slice_get old.seats other

-- The chunks that may go on a seat's channel went, but for those that were given up: afterwards nothing may be sent there, or as
-- many fly as go at a time.
pub record ServesSeat (seat refused : ℕ) (old new : Scene) : Type 0 where
  pub flushes : Flushes refused old new
  pub ends : IsServed new.parts.seats seat
  pub one : ChangesOneSeat seat old.parts.seats new.parts.seats
  pub alone : ServesAlone old.parts.seats new.parts.seats flushes.added
  pub lost : AreRefused refused old new

-- The channel of each seat below a number was served in this way.
pub record ServesBelow (seats refused : ℕ) (old new : Scene) : Type 0 where
  pub flushes : Flushes refused old new
  pub ends : (seat : ℕ) → seat < seats → IsServed new.parts.seats seat
  pub far : (seat : ℕ) → far_of (channel_at new.parts.seats.table seat) ≡ far_of (channel_at old.parts.seats.table seat)
  pub alone : ServesAlone old.parts.seats new.parts.seats flushes.added
  pub lost : AreRefused refused old new
