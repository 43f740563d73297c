-- Notes that are delivered, datagram by datagram.
use Rattle.std.specs.Prelude.{◌≡◌, ℕ, ◌+◌, ◌<◌, Bool, true, false, ◌||◌, Option, Some, None, List, [], ◌∷◌, ◌++◌, length}
use Rattle.pp_terms.specs.format.Descriptor.{Descriptor}
use Rattle.pp_terms.specs.format.Messages.{Message}
use Rattle.pp_terms.specs.format.Traffic.{Address, LinkState}
use Rattle.pp_draft.specs.declared.note.Note.{Note}
use Rattle.pp_draft.specs.declared.note.Note.TheVariants.{Handshake}
use Rattle.pp_draft.specs.Notes.{SayAll}
use Rattle.pp_draft.specs.Datagrams.{IsDatagram}
use Rattle.pp_draft.specs.Posts.{LacksRoom, Sends}
use Rattle.pp_seat.specs.Seats.{SeatState}
use Rattle.pp_desk.specs.declared.steps.Delivered.{Delivered}
use Rattle.pp_desk.specs.Steps.{has_have, Follow}

-- where datagrams go: to an address, for a channel's number there; and when: the disk's moment, and the clock
pub record Way : Type 0 where
  pub d : Descriptor
  pub receiver : Address
  pub channel : ℕ
  pub moment : ℕ
  pub now : ℕ

-- the notes of one datagram, their messages, its bytes, and whether the link took it
pub record Batch : Type 0 where
  pub notes : List Note
  pub messages : List Message
  pub bytes : List ℕ
  pub sent : Bool

-- a seat, a link, and how many datagrams went out so far
pub record At : Type 0 where
  pub seat : SeatState
  pub link : LinkState
  pub so_far : Delivered

abbrev pub none_delivered : Delivered
none_delivered = record { sent = 0; refused = 0; set_back = false }

-- one datagram more
abbrev pub counted : Bool → List Note → Delivered → Delivered
counted true notes so_far = record so_far { sent = so_far.sent + 1 }
counted false notes so_far = record { sent = so_far.sent; refused = so_far.refused + 1; set_back = has_have notes || so_far.set_back }

-- One datagram of the notes was sent or refused, and then the seat followed.
pub record DeliversOne (w : Way) (b : Batch) (old new : At) : Type 0 where
  pub said : SayAll w.d b.notes b.messages
  pub written : IsDatagram w.d w.channel b.messages b.bytes
  pub some : 0 < length b.notes
  pub goes : Sends w.receiver b.bytes w.moment old.link new.link b.sent
  pub seat : Follow w.now old.so_far.set_back b.sent b.notes old.seat new.seat
  pub count : new.so_far ≡ counted b.sent b.notes old.so_far

-- Datagrams were sent or refused, one after the other.
abbrev pub DeliversEach : Way → List Batch → At → At → Type 0
DeliversEach w [] old new = new ≡ old
DeliversEach w (b ∷ bs) old new = (mid : At) × DeliversOne w b old mid × DeliversEach w bs mid new

abbrev pub notes_of : List Batch → List Note
notes_of [] = []
notes_of (b ∷ bs) = b.notes ++ notes_of bs

-- No datagram has room for the note behind it.
abbrev pub AreFull : Descriptor → List Batch → List Note → Type 0
AreFull d [] rest = Unit {0}
AreFull d (b ∷ bs) rest = LacksRoom d b.bytes (notes_of bs ++ rest) × AreFull d bs rest

-- The notes went, each once and in order, in as few datagrams as they fill, with others to go behind them.
pub record Delivers (w : Way) (notes rest : List Note) (old new : At) : Type 0 where
  pub batches : List Batch
  pub each_once : notes_of batches ≡ notes
  pub full : AreFull w.d batches rest
  pub each : DeliversEach w batches old new

-- The first datagram was taken.
abbrev pub BeginsSent : List Batch → Type 0
BeginsSent [] = ⊥
BeginsSent (b ∷ bs) = b.sent ≡ true

-- This peer's handshake and the notes behind it went, each once and in order, in as few datagrams as they fill.
pub record Opens (w : Way) (source : ℕ) (notes : List Note) (old new : At) : Type 0 where
  pub delivers : Delivers w (Handshake source ∷ notes) [] old new
  pub first : BeginsSent delivers.batches

-- The link refused the datagram that began with the handshake, and nothing went behind it: all is to be told once more.
pub record Withholds (w : Way) (old new : At) : Type 0 where
  pub bytes : List ℕ
  pub goes : Sends w.receiver bytes w.moment old.link new.link false
  pub seat : new.seat ≡ record old.seat { cursor = 0 }
  pub count : new.so_far ≡ record { sent = 0; refused = 1; set_back = true }

-- whether the link took the datagram with the handshake, what became of it and of the notes
abbrev pub GoesIf : (taken : Bool) → (source : ℕ) → Way → List Note → At → At → Type 0
GoesIf true source w notes old new = Opens w source notes old new
GoesIf false source w notes old new = Withholds w old new

-- what became of notes, and of this peer's handshake before them where it goes from this number
abbrev pub Goes : (opening : Option ℕ) → Way → List Note → At → At → Type 0
Goes None w notes old new = Delivers w notes [] old new
Goes (Some source) w notes old new = (taken : Bool) × GoesIf taken source w notes old new

-- the datagrams that were sent or refused one after the other
abbrev pub batches_if : (taken : Bool) (source : ℕ) (w : Way) (notes : List Note) (old new : At)
    → GoesIf taken source w notes old new → List Batch
batches_if true source w notes old new g = g.delivers.batches
batches_if false source w notes old new g = []

abbrev pub batches_of : (opening : Option ℕ) (w : Way) (notes : List Note) (old new : At) → Goes opening w notes old new → List Batch
batches_of None w notes old new g = g.batches
batches_of (Some source) w notes old new g = batches_if g.0 source w notes old new g.1
