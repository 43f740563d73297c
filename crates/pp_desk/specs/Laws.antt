-- What follows from a delivery for the link, for the seat's story, and for what is read of its records.
use Rattle.std.specs.Prelude.{◌≡◌, ℕ, ◌+◌, ◌<◌, ◌≤◌, Bool, true, false, if◌then◌else◌, Some, List, [], ◌∷◌, ◌++◌, length}
use Rattle.std.specs.List.{AllByRecursion}
use Rattle.pp_terms.specs.Count.{HasRisen}
use Rattle.pp_terms.specs.format.Messages.{Message}
use Rattle.pp_terms.specs.format.Traffic.{Record, Sent, same_address, GainsRecords}
use Rattle.pp_traffic.specs.Past.{now, read}
use Rattle.pp_traffic.specs.Life.{Life, begins_as}
use Rattle.pp_traffic.specs.Asking.{is_heard}
use Rattle.pp_draft.specs.declared.note.Note.{Note}
use Rattle.pp_draft.specs.Notes.{SayAll}
use Rattle.pp_draft.specs.Posts.{LacksRoom}
use Rattle.pp_seat.specs.Lines.{Tale, with_said}
use Rattle.pp_seat.specs.Follows.{Frame, Lost, Follows}
use Rattle.pp_seat.specs.Frames.{IsSameTale, tale_of}
use Rattle.pp_desk.specs.Steps.{IsPlain, MayTell, has_have}
use Rattle.pp_desk.specs.Delivers.{Way, Batch, At, DeliversOne, DeliversEach, Delivers, notes_of}

-- the records of what was sent, the newest first
abbrev pub records_of : Way → List Batch → List Record
records_of w [] = []
records_of w (b ∷ bs) = records_of w bs ++ (if b.sent then Sent w.moment w.receiver b.bytes ∷ [] else [])

-- the messages of what was sent, in their order
abbrev pub said_by : List Batch → List Message
said_by [] = []
said_by (b ∷ bs) = (if b.sent then b.messages else []) ++ said_by bs

-- how many datagrams with a HAVE were refused
abbrev pub back_by : Bool → List Note → ℕ
back_by true notes = 0
back_by false notes = if has_have notes then 1 else 0

abbrev pub backs_of : List Batch → ℕ
backs_of [] = 0
backs_of (b ∷ bs) = back_by b.sent b.notes + backs_of bs

-- what was lost, once the cursor was set back so many times more
abbrev pub set_back : ℕ → Lost → Lost
set_back times lost = record { chunks = lost.chunks; haves = lost.haves + times }

-- The link carries these records more and hands nothing in. Its count rises where a datagram was refused.
pub record Carries (w : Way) (bs : List Batch) (old new : At) : Type 0 where
  pub gained : GainsRecords old.link.traffic (records_of w bs) new.link.traffic
  pub nexts : new.link.nexts ≡ old.link.nexts
  pub bound : new.link.bound ≡ old.link.bound
  pub later : old.link.faults ≤ new.link.faults
  pub risen : old.so_far.refused < new.so_far.refused → HasRisen old.link.faults new.link.faults

abbrev pub LinkCarries : Type 0
LinkCarries = (w : Way) (bs : List Batch) (old new : At) → DeliversEach w bs old new → Carries w bs old new

-- As many records are new as were counted as sent; and as many datagrams went, sent or refused, as there are batches.
pub record Counts (w : Way) (bs : List Batch) (old new : At) : Type 0 where
  pub sent : new.so_far.sent ≡ old.so_far.sent + length (records_of w bs)
  pub all : new.so_far.sent + new.so_far.refused ≡ old.so_far.sent + old.so_far.refused + length bs
  pub backs : old.so_far.refused + backs_of bs ≤ new.so_far.refused
  pub few : length bs ≤ length (notes_of bs)

abbrev pub EachCounts : Type 0
EachCounts = (w : Way) (bs : List Batch) (old new : At) → DeliversEach w bs old new → Counts w bs old new

-- Where none was refused, all messages of the notes were sent.
abbrev pub AllIsSaid : Type 0
AllIsSaid = (w : Way) (bs : List Batch) (old new : At) → DeliversEach w bs old new → new.so_far.refused ≡ old.so_far.refused
    → SayAll w.d (notes_of bs) (said_by bs)

-- The seat follows what was sent, one line for each message, and the cursor was set back for each refused datagram with a HAVE.
abbrev pub SeatFollows : Type 0
SeatFollows = (w : Way) (bs : List Batch) (old new : At) → DeliversEach w bs old new → (f : Frame) (lost : Lost) (t : Tale)
    → MayTell old.so_far.set_back old.seat.cursor (notes_of bs) f lost → Follows f lost old.seat t
    → Follows f (set_back (backs_of bs) lost) new.seat (with_said w.now (said_by bs) f.proven t)

-- Of a record that was sent the channel's number is read and the messages, of which none is a handshake.
pub record IsRead (w : Way) (b : Batch) : Type 0 where
  pub channel : (read w.d (Sent w.moment w.receiver b.bytes)).channel ≡ Some w.channel
  pub messages : (read w.d (Sent w.moment w.receiver b.bytes)).messages.read ≡ b.messages
  pub plain : (number : ℕ) → begins_as number b.messages ≡ false

abbrev pub RecordsAreRead : Type 0
RecordsAreRead = (w : Way) (b : Batch) (old new : At) → AllByRecursion IsPlain b.notes → DeliversOne w b old new → IsRead w b

-- The way is that of a channel which has begun, and the moment is now.
pub record IsOn (w : Way) (life : Life) (past : List Record) : Type 0 where
  pub begun : life.opening < length past
  pub address : same_address w.receiver life.address ≡ true
  pub number : w.channel ≡ life.remote
  pub moment : w.now ≡ now past

-- What the seat follows then is the tale of the channel's life, once the link has carried the records.
abbrev pub TaleGrows : Type 0
TaleGrows = (w : Way) (bs : List Batch) (old new : At) (life : Life) (past : List Record) → DeliversEach w bs old new → IsOn w life past
    → IsSameTale (with_said w.now (said_by bs) (is_heard w.d life past) (tale_of w.d life past))
    (tale_of w.d life (records_of w bs ++ past))

-- One delivery, and one after the other.
pub record DeliveriesCompose : Type 0 where
  pub none : (w : Way) (rest : List Note) (at : At) → Delivers w [] rest at at
  pub one : (w : Way) (b : Batch) (rest : List Note) (old new : At) → LacksRoom w.d b.bytes rest → DeliversOne w b old new
      → Delivers w b.notes rest old new
  pub twice : (w : Way) (some more rest : List Note) (old mid new : At) → Delivers w some (more ++ rest) old mid
      → Delivers w more rest mid new → Delivers w (some ++ more) rest old new
