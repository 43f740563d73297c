-- What is due on a channel, and what is sent (RFC 7574, sections 3.1, 3.7 and 3.12). Moments are in microseconds.
use Rattle.std.specs.Prelude.{◌≡◌, ℕ, zero, suc, ◌-◌, nat_lt, Bool, true, false, ◌||◌, if◌then◌else◌, Option, Some, None, option_map, unwrap_or, List, slice_set}
use Rattle.pp_terms.specs.format.Descriptor.{Descriptor}
use Rattle.pp_terms.specs.format.Messages.{Message}
use Rattle.pp_terms.specs.format.Traffic.{LinkState}
use Rattle.pp_outside.specs.Outside.{address_of}
use Rattle.pp_counts.specs.Counts.{after_note}
use Rattle.pp_counts.specs.declared.note.Note.TheVariants as counts
use Rattle.pp_channels.specs.Seats.{channel_at}
use Rattle.pp_channels.specs.Timing.{handshake_due, is_silent}
use Rattle.pp_channels.specs.declared.channel.Channel.{Channel}
use Rattle.pp_lives.specs.Reading.{is_proven, is_waiting}
use Rattle.pp_lives.specs.Sending.{with_datagram}
use Rattle.pp_draft.specs.declared.note.Note.{Note}
use Rattle.pp_draft.specs.declared.note.Note.TheVariants.{KeepAlive, Handshake, Close, Request}
use Rattle.pp_draft.specs.Notes.{Says}
use Rattle.pp_draft.specs.Datagrams.{IsDatagram}
use Rattle.pp_draft.specs.Posts.{Sends}
use Rattle.pp_learner.specs.Rows.{RowState}
use Rattle.pp_learner.specs.Reading.{row_at}
use Rattle.pp_learner.specs.Learners.{LearnerState}
use Rattle.pp_learner.specs.declared.due.Due.{Due}

-- ---- what is due

-- the other peer was asked in the last 10 seconds
abbrev pub was_asked : (now : ℕ) → Option ℕ → Bool
was_asked now None = false
was_asked now (Some moment) = nat_lt (now - moment) 10_000_000

-- the chunk to ask for: the greatest that is offered, unless the other peer chokes or was asked just now
abbrev pub asks : (now : ℕ) → RowState → Option ℕ
asks now row = if row.chokes || was_asked now row.asked then None else row.offer

-- a chunk is asked for; else a datagram without a message goes, where one is owed or nothing went for long
abbrev pub note_for : Option ℕ → (quiet : Bool) → Option Note
note_for (Some chunk) quiet = Some (Request (record { first = chunk; last = chunk }))
note_for None true = Some KeepAlive
note_for None false = None

abbrev pub speaks : (silent : Bool) → (now : ℕ) → RowState → Option Note
speaks silent now row = note_for (asks now row) (row.owes || silent)

-- to the other peer's number on a channel
abbrev pub on_channel : Channel → Note → Due
on_channel c note = record { to = record { address = c.address; channel = unwrap_or c.remote 0 }; note = note }

-- this peer's handshake, where it is due; to channel 0, while the reply to its dial is awaited
abbrev pub greeting_due : (now : ℕ) → Option Channel → Option Due
greeting_due now None = None
greeting_due now (Some c) =
    if handshake_due now c
    then Some (record {
      to = record { address = c.address; channel = if is_waiting c then 0 else unwrap_or c.remote 0 };
      note = Handshake c.local;
    })
    else None

-- where a note goes, if there is one, on a channel that is proven
abbrev pub on_proven : Channel → Option Note → Option Due
on_proven c note = if is_proven c then option_map (on_channel c) note else None

-- on a channel that awaits its reply the handshake goes again; on one that is proven a chunk is asked for, or a keep-alive goes
abbrev pub due_of : (now : ℕ) → Option Channel → RowState → Option Due
due_of now None row = None
due_of now (Some c) row =
    if is_waiting c then greeting_due now (Some c) else on_proven c (speaks (is_silent now c) now row)

abbrev pub due_at : LearnerState → ℕ → Option Due
due_at p seat = due_of p.moment (channel_at p.lives seat) (row_at p.rows seat)

-- a closing handshake, on a channel that is proven
abbrev pub farewell_of : Option Channel → Option Due
farewell_of None = None
farewell_of (Some c) = if is_waiting c then None else on_proven c (Some Close)

-- ---- what is sent

abbrev pub is_handshake : Note → Bool
is_handshake (Handshake source) = true
is_handshake _ = false

-- A datagram of the note's messages was sent, or refused.
pub record SendsDue (d : Descriptor) (due : Due) (moment : ℕ) (sent : Bool) (old new : LinkState) : Type 0 where
  pub messages : List Message
  pub said : Says d due.note messages
  pub bytes : List ℕ
  pub written : IsDatagram d due.to.channel messages bytes
  pub sends : Sends (address_of due.to.address) bytes moment old new sent

-- a learner with its link
pub record Scene : Type 0 where
  pub parts : LearnerState
  pub link : LinkState

-- a row once a note was sent on its channel
abbrev pub row_said : Note → (now : ℕ) → RowState → RowState
row_said (Request range) now row = record row { asked = Some now; owes = false }
row_said (Handshake source) now row = row
row_said _ now row = record row { owes = false }

-- What was sent is noted and counted; what was refused is counted, and is due again.
abbrev pub after_sending : (seat : ℕ) → Due → (sent : Bool) → LearnerState → LearnerState
after_sending seat due true p = record p {
  lives = with_datagram p.lives seat (is_handshake due.note) p.moment;
  rows = slice_set p.rows seat (row_said due.note p.moment (row_at p.rows seat));
  counts = after_note counts.Sent p.counts;
}
after_sending seat due false p = record p { counts = after_note counts.SendFault p.counts }

-- What is due on a seat's channel is sent, or refused.
abbrev pub SendsOn : Option Due → (seat moment : ℕ) → Scene → Scene → Type 0
SendsOn None seat moment old new = new ≡ old
SendsOn (Some due) seat moment old new = (sent : Bool) × SendsDue old.parts.outbox due moment sent old.link new.link
    × (new.parts ≡ after_sending seat due sent old.parts)

abbrev pub SpeaksAt : (moment seat : ℕ) → Scene → Scene → Type 0
SpeaksAt moment seat old new = SendsOn (due_at old.parts seat) seat moment old new

abbrev pub PartsAt : (moment seat : ℕ) → Scene → Scene → Type 0
PartsAt moment seat old new = SendsOn (farewell_of (channel_at old.parts.lives seat)) seat moment old new

-- a step for each number below one, in order
unfoldable pub EachBelow : ℕ → (ℕ → Scene → Scene → Type 0) → Scene → Scene → Type 0
EachBelow zero Step old new = new ≡ old
EachBelow (suc n) Step old new = (mid : Scene) × EachBelow n Step old mid × Step n mid new
