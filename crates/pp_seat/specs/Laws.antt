-- What stays of a seat while nothing is called, and what follows from the story that it follows.
use Rattle.std.specs.Prelude.{◌≡◌, ◌⊎◌, ℕ, ◌<◌, ◌≤◌, ◌==◌, ◌||◌, Bool, true, false, Option, Some, None, List, [], ◌∷◌, length}
use Rattle.std.specs.List.{list_any}
use Rattle.pp_terms.specs.format.Messages.{Message, Handshake, Data, Ack, Have, Integrity, Pex4, PexReq, Request, Cancel, Choke, Unchoke, Pex6}
use Rattle.pp_terms.specs.tree.Range.{Span, within}
use Rattle.pp_traffic.specs.Story.{Line, Heard, Said, Taken}
use Rattle.pp_traffic.specs.Asking.{choked, asks_in, most_asks}
use Rattle.pp_promises.specs.Announced.{is_told_of}
use Rattle.pp_promises.specs.OwnSide.{has_in, is_offered}
use Rattle.pp_seat.specs.Lines.{inside, asked_since, Tale}
use Rattle.pp_seat.specs.Seats.{SeatState}
use Rattle.pp_seat.specs.Follows.{Frame, Lost, Follows, Goes, Says, Always, IsIdleSaid, HasNone}

-- ---- lines that do nothing to a seat

-- A message that came does nothing: it names no chunk of the content, or it is of a kind that a seat passes over.
abbrev pub IsIdleHeard : ℕ → Message → Type 0
IsIdleHeard chunks (Handshake source options) = Unit {0}
IsIdleHeard chunks (Data chunk sent_at bytes) = ⊥
IsIdleHeard chunks (Ack span delay) = inside chunks span ≡ None
IsIdleHeard chunks (Have span) = inside chunks span ≡ None
IsIdleHeard chunks (Integrity span digest) = inside chunks span ≡ None
IsIdleHeard chunks (Pex4 address port) = Unit {0}
IsIdleHeard chunks PexReq = Unit {0}
IsIdleHeard chunks (Request span) = inside chunks span ≡ None
IsIdleHeard chunks (Cancel span) = inside chunks span ≡ None
IsIdleHeard chunks Choke = ⊥
IsIdleHeard chunks Unchoke = ⊥
IsIdleHeard chunks (Pex6 address port) = Unit {0}

abbrev pub IsIdle : Line → Frame → Tale → Type 0
IsIdle (Heard now m) f t = IsIdleHeard f.chunks m
IsIdle (Said now m) f t = IsIdleSaid m
IsIdle (Taken now) f t = ⊥

-- A seat that stays as it is follows such a line.
abbrev pub IdleStays : Type 0
IdleStays = (line : Line) (s : SeatState) → Goes (IsIdle line) line s s

-- The same of several messages that were sent.
abbrev pub AreIdleSaid : List Message → Type 0
AreIdleSaid [] = Unit {0}
AreIdleSaid (m ∷ ms) = IsIdleSaid m × AreIdleSaid ms

abbrev pub IdleSays : Type 0
IdleSays = (now : ℕ) (ms : List Message) (s : SeatState) → AreIdleSaid ms → Says Always now ms s s

-- What of a span lies in the content names the same chunks of it.
pub record CutsNameAlike : Type 0 where
  pub some : (chunks : ℕ) (span range : Span) (i : ℕ) → inside chunks span ≡ Some range → i < chunks → within range i ≡ within span i
  pub content : (chunks : ℕ) (span range : Span) → inside chunks span ≡ Some range → (range.first ≤ range.last) × (range.last < chunks)
  pub none : (chunks : ℕ) (span : Span) (i : ℕ) → inside chunks span ≡ None → i < chunks → within span i ≡ false

-- What the other peer offers of the content, once a HAVE came, and once another message did.
pub record OffersGrow : Type 0 where
  pub some : (chunks now : ℕ) (span range : Span) (i : ℕ) (story : List Line) → inside chunks span ≡ Some range → i < chunks
      → is_offered i (Heard now (Have span) ∷ story) ≡ (within range i || is_offered i story)
  pub none : (chunks now : ℕ) (span : Span) (i : ℕ) (story : List Line) → inside chunks span ≡ None → i < chunks
      → is_offered i (Heard now (Have span) ∷ story) ≡ is_offered i story
  pub others : (now i : ℕ) (m : Message) (story : List Line) → has_in i m ≡ false → is_offered i (Heard now m ∷ story) ≡ is_offered i story

-- ---- frames

-- Chunks that weren't announced were, when the story had so many lines or more.
abbrev pub IsLater : ℕ → (since later : ℕ → Option ℕ) → Type 0
IsLater place since later = (i : ℕ) → (later i ≡ since i) ⊎ ((since i ≡ None) × (at : ℕ) × (later i ≡ Some at) × (place ≤ at))

abbrev pub with_since : (ℕ → Option ℕ) → Frame → Frame
with_since since f = record { chunks = f.chunks; size = f.size; since = since; known_of = f.known_of; proven = f.proven }

abbrev pub AnnouncedStays : Type 0
AnnouncedStays = (f : Frame) (lost : Lost) (since : ℕ → Option ℕ) (s : SeatState) (t : Tale)
    → IsLater (length t.story) f.since since → Follows f lost s t → Follows (with_since since f) lost s t

-- The other peer is to know of other chunks, each of which, if it is new and below the cursor, was told of on the channel.
abbrev pub with_known : (ℕ → Bool) → Frame → Frame
with_known known_of f = record { chunks = f.chunks; size = f.size; since = f.since; known_of = known_of; proven = f.proven }

abbrev pub KnownStays : Type 0
KnownStays = (f : Frame) (lost : Lost) (known_of : ℕ → Bool) (s : SeatState) (t : Tale)
    → ((i : ℕ) → i < s.cursor → known_of i ≡ true → (f.known_of i ≡ true) ⊎ (is_told_of i t.story ≡ true))
    → Follows f lost s t → Follows (with_known known_of f) lost s t

-- ---- what follows

-- Where no chunk is on the list of a channel with a slot, nothing is left that is asked for by a REQUEST since it was announced, but
-- what was given up.
abbrev pub NoneLeft : Type 0
NoneLeft = (f : Frame) (lost : Lost) (s : SeatState) (t : Tale) → Follows f lost s t → s.slot ≡ true → HasNone s
    → (given : List ℕ) × (length given ≤ lost.chunks) × ((i place : ℕ) → asks_in t.story ≤ most_asks → i < f.chunks → f.since i ≡ Some place
    → asked_since place i t.story ≡ true → list_any (λ k. k == i) given ≡ true)

-- On a channel without a slot a CHOKE was sent, or is to be sent.
abbrev pub ChokesAreDue : Type 0
ChokesAreDue = (f : Frame) (lost : Lost) (s : SeatState) (t : Tale) → Follows f lost s t → s.slot ≡ false → choked t.story ≡ false
    → s.owes ≡ true
