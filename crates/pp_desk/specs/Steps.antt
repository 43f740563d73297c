-- What a seat makes of notes that were sent, and of notes that were refused.
use Rattle.std.specs.Prelude.{◌≡◌, ℕ, ◌+◌, ◌<◌, ◌≤◌, max, min, Bool, true, false, if◌then◌else◌, Some, None, List, [], ◌∷◌}
use Rattle.std.specs.List.{list_any}
use Rattle.pp_terms.specs.tree.Range.{within}
use Rattle.pp_terms.specs.format.Descriptor.{Descriptor}
use Rattle.pp_terms.specs.format.Messages.{Message}
use Rattle.pp_requests.specs.Moments.{entry_of}
use Rattle.pp_draft.specs.declared.note.Note.{Note}
use Rattle.pp_draft.specs.declared.note.Note.TheVariants.{Handshake, Close, Choke, Unchoke, Ack, Have, Request, Cancel, PexReq, Pex4, Pex6}
use Rattle.pp_draft.specs.Notes.{SayAll}
use Rattle.pp_seat.specs.Lines.{Tale, with_said}
use Rattle.pp_seat.specs.Own.{CanAsk, AsksAll}
use Rattle.pp_seat.specs.Seats.{SeatState}
use Rattle.pp_seat.specs.Follows.{Frame, Lost, Follows}

-- The note is no handshake: these go alone.
abbrev pub IsPlain : Note → Type 0
IsPlain (Handshake source) = ⊥
IsPlain Close = ⊥
IsPlain _ = Unit {0}

-- Its chunks are below so many.
abbrev pub IsBelow : ℕ → Note → Type 0
IsBelow chunks (Ack range delay) = range.last < chunks
IsBelow chunks (Have range) = range.last < chunks
IsBelow chunks (Request range) = range.last < chunks
IsBelow chunks (Cancel range) = range.last < chunks
IsBelow chunks _ = Unit {0}

abbrev pub is_have : Note → Bool
is_have (Have range) = true
is_have _ = false

abbrev pub has_have : List Note → Bool
has_have notes = list_any is_have notes

-- ---- notes that were sent

-- where the cursor is behind a note, and behind several
abbrev pub cursor_behind : ℕ → Note → ℕ
cursor_behind cursor (Have range) = max cursor (range.last + 1)
cursor_behind cursor _ = cursor

abbrev pub cursor_after : ℕ → List Note → ℕ
cursor_after cursor [] = cursor
cursor_after cursor (note ∷ notes) = cursor_after (cursor_behind cursor note) notes

-- The cursor goes behind the HAVE, but where an earlier one was refused: then it stays.
abbrev pub Moves : Bool → ℕ → SeatState → SeatState → Type 0
Moves true end old new = new ≡ old
Moves false end old new = new ≡ record old { cursor = max old.cursor end }

-- What a note does to a seat once it was sent, where a HAVE was refused before it, or none.
abbrev pub IsAfter : ℕ → Bool → Note → SeatState → SeatState → Type 0
IsAfter now back Choke old new = new ≡ record old { list = []; slot = false; choked = true; owes = false }
IsAfter now back Unchoke old new =
    (old.choked ≡ true → new ≡ record old { slot = true; choked = false; owes = false }) × (old.choked ≡ false → new ≡ old)
IsAfter now back (Have range) old new = Moves back (range.last + 1) old new
IsAfter now back (Request range) old new =
    (new ≡ record old { own = new.own }) × (CanAsk range old.own → AsksAll range now old.own new.own)
IsAfter now back (Cancel range) old new =
    (new ≡ record old { own = new.own }) × ((i : ℕ) → entry_of new.own i ≡ (if within range i then None else entry_of old.own i))
IsAfter now back PexReq old new = new ≡ record old { question = Some now }
IsAfter now back (Pex4 address port) old new = new ≡ record old { answer = Some now }
IsAfter now back (Pex6 address port) old new = new ≡ record old { answer = Some now }
IsAfter now back _ old new = new ≡ old

abbrev pub AreAfter : ℕ → Bool → List Note → SeatState → SeatState → Type 0
AreAfter now back [] old new = new ≡ old
AreAfter now back (note ∷ notes) old new = (mid : SeatState) × IsAfter now back note old mid × AreAfter now back notes mid new

-- Between the cursor and each HAVE lies no chunk of which the other peer is to know: each tells of the next ones, or of chunks below
-- the cursor.
abbrev pub Passes : ℕ → Note → Frame → Type 0
Passes cursor (Have range) f = (i : ℕ) → cursor ≤ i → i < range.first → f.known_of i ≡ false
Passes cursor _ f = Unit {0}

abbrev pub PassesAll : ℕ → List Note → Frame → Type 0
PassesAll cursor [] f = Unit {0}
PassesAll cursor (note ∷ notes) f = Passes cursor note f × PassesAll (cursor_behind cursor note) notes f

-- Where a HAVE was refused, the cursor was set back, and then any may be sent.
abbrev pub MayTell : Bool → ℕ → List Note → Frame → Lost → Type 0
MayTell true cursor notes f lost = 0 < lost.haves
MayTell false cursor notes f lost = PassesAll cursor notes f

-- The seat follows the notes' messages, one line each, and nothing else in it changed but by them.
pub record AreSaid (now : ℕ) (back : Bool) (notes : List Note) (old new : SeatState) : Type 0 where
  pub after : AreAfter now back notes old new
  pub says : (d : Descriptor) (ms : List Message) → SayAll d notes ms → (f : Frame) (lost : Lost) (t : Tale)
      → MayTell back old.cursor notes f lost → Follows f lost old t → Follows f lost new (with_said now ms f.proven t)

-- ---- notes that were refused

-- where the cursor is once a note was refused, and once several were: at the first chunk of a HAVE, if it was behind that
abbrev pub cursor_refused : ℕ → Note → ℕ
cursor_refused cursor (Have range) = min cursor range.first
cursor_refused cursor _ = cursor

abbrev pub cursor_back : ℕ → List Note → ℕ
cursor_back cursor [] = cursor
cursor_back cursor (note ∷ notes) = cursor_back (cursor_refused cursor note) notes

-- The cursor is set back to the first chunk of each HAVE among them, and nothing else changes. CHOKE and UNCHOKE stay due as before,
-- a REQUEST wasn't asked, and ACK, CANCEL and addresses are given up.
abbrev pub AreRefused : List Note → SeatState → SeatState → Type 0
AreRefused notes old new = new ≡ record old { cursor = cursor_back old.cursor notes }

-- what became of a datagram's notes
abbrev pub Follow : ℕ → Bool → Bool → List Note → SeatState → SeatState → Type 0
Follow now back true notes old new = AreSaid now back notes old new
Follow now back false notes old new = AreRefused notes old new
