-- What a seat keeps is what the story of its channel says, and how it stays so.
use Rattle.std.specs.Prelude.{◌≡◌, ◌⊎◌, ℕ, ◌+◌, ◌<◌, ◌≤◌, Bool, true, false, Option, Some, None, List, [], ◌∷◌, length, take}
use Rattle.pp_terms.specs.tree.Range.{Span, has}
use Rattle.pp_terms.specs.tree.Tree.{Node}
use Rattle.pp_terms.specs.format.Messages.{Message, Data, Request, Choke, Unchoke, Have, Pex4, PexReq, Pex6}
use Rattle.pp_traffic.specs.Story.{Line, Heard, Said, Taken}
use Rattle.pp_traffic.specs.Asking.{choked, asked, asks_in}
use Rattle.pp_traffic.specs.Claims.{claims_in}
use Rattle.pp_traffic.specs.Fates.{clock}
use Rattle.pp_traffic.specs.Hashes.{is_told}
use Rattle.pp_traffic.specs.Meter.{meter, has_room, lets_send}
use Rattle.pp_promises.specs.OwnSide.{is_choked_by_peer, has_old_request}
use Rattle.pp_promises.specs.Announced.{is_told_of}
use Rattle.pp_requests.specs.Lists.{IsLeast}
use Rattle.pp_seat.specs.Lines.{inside, asked_since, is_asked_at, last_answer, last_question, Tale, with_line, with_said}
use Rattle.pp_seat.specs.Aspects.{Lists, Lacks, HasSlot, Sends, Knows, Asks, Haves, Fresh, Exchanges}
use Rattle.pp_seat.specs.Seats.{SeatState}

-- What is settled around a seat: how many chunks the content has, and the bytes of one; how many lines the story had when
-- each chunk was first announced; of which chunks the other peer is to know; and whether the channel is proven.
pub record Frame : Type 0 where
  pub chunks : ℕ
  pub size : ℕ
  pub since : ℕ → Option ℕ
  pub known_of : ℕ → Bool
  pub proven : Bool

-- What was lost: how many chunks were given up, and how many times the cursor was set back.
pub record Lost : Type 0 where
  pub chunks : ℕ
  pub haves : ℕ

abbrev pub none_lost : Lost
none_lost = record { chunks = 0; haves = 0 }

pub record Follows (f : Frame) (lost : Lost) (s : SeatState) (t : Tale) : Type 0 where
  pub lists : Lists f.chunks s.list (λ i. asked i t.story) (asks_in t.story)
  pub lacks : s.slot ≡ true → Lacks f.chunks lost.chunks f.since s.list (λ place i. asked_since place i t.story) (asks_in t.story)
  pub slot : HasSlot s.slot s.choked s.owes s.list (choked t.story)
  pub window : Sends f.chunks s.window (meter f.size t.story)
  pub told : Knows f.chunks s.told (is_told f.chunks t.story)
  pub claims : s.claims ≡ take 128 (claims_in f.chunks t.proven)
  pub proven : s.proven ≡ f.proven
  pub own : Asks s.own s.stopped s.chokes (λ i moment. is_asked_at f.chunks i moment t.story) (has_old_request (clock t.story) t.story)
      (is_choked_by_peer t.story)
  pub haves : Haves s.cursor f.known_of (λ i. is_told_of i t.story)
  pub fresh : Fresh s.cursor f.proven t.told lost.haves
  pub exchange : Exchanges s.answer s.question (last_answer t.story) (last_question t.story)

-- What a call makes of a seat follows one line more, where the line is so of the frame and the tale before.
pub record Goes (P : Frame → Tale → Type 0) (line : Line) (old new : SeatState) : Type 0 where
  pub follows : (f : Frame) (lost : Lost) (t : Tale) → P f t → Follows f lost old t → Follows f lost new (with_line line f.proven t)

-- A call that no line tells of; and one that gives a chunk up.
pub record Stays (P : Frame → Tale → Type 0) (old new : SeatState) : Type 0 where
  pub follows : (f : Frame) (lost : Lost) (t : Tale) → P f t → Follows f lost old t → Follows f lost new t

pub record GivesUp (old new : SeatState) : Type 0 where
  pub follows : (f : Frame) (lost : Lost) (t : Tale) → Follows f lost old t
      → Follows f (record { chunks = lost.chunks + 1; haves = lost.haves }) new t

-- a call that sets the cursor back
pub record SetsBack (old new : SeatState) : Type 0 where
  pub follows : (f : Frame) (lost : Lost) (t : Tale) → Follows f lost old t
      → Follows f (record { chunks = lost.chunks; haves = lost.haves + 1 }) new t

-- What a call makes of a seat follows the lines of messages that were sent.
pub record Says (P : Frame → Tale → Type 0) (now : ℕ) (ms : List Message) (old new : SeatState) : Type 0 where
  pub follows : (f : Frame) (lost : Lost) (t : Tale) → P f t → Follows f lost old t → Follows f lost new (with_said now ms f.proven t)

-- the same once the channel is proven
abbrev pub proved : Frame → Frame
proved f = record { chunks = f.chunks; size = f.size; since = f.since; known_of = f.known_of; proven = true }

pub record IsProved (old new : SeatState) : Type 0 where
  pub follows : (f : Frame) (lost : Lost) (t : Tale) → Follows f lost old t → Follows (proved f) lost new t

-- ---- what is so of a line

-- a line that is so of every tale
abbrev pub Always : Frame → Tale → Type 0
Always f t = Unit {0}

-- the range is what of the span lies in the content
abbrev pub IsCut : Span → Span → Frame → Tale → Type 0
IsCut range span f t = inside f.chunks span ≡ Some range

-- the chunk wasn't announced yet
abbrev pub IsUnannounced : ℕ → Frame → Tale → Type 0
IsUnannounced i f t = f.since i ≡ None

-- none of those below it that are listed was
abbrev pub AreUnannounced : List Span → ℕ → Frame → Tale → Type 0
AreUnannounced list i f t = (j : ℕ) → j < i → has list j ≡ true → f.since j ≡ None

-- the other peer is to know of no chunk from one on that is below another
abbrev pub IsPassed : (cursor first : ℕ) → Frame → Tale → Type 0
IsPassed cursor first f t = (i : ℕ) → cursor ≤ i → i < first → f.known_of i ≡ false

-- the channel isn't proven
abbrev pub IsUnproven : Frame → Tale → Type 0
IsUnproven f t = f.proven ≡ false

-- the story has come to the moment
abbrev pub HasCome : ℕ → Frame → Tale → Type 0
HasCome now f t = now ≤ clock t.story

-- ---- what may be sent

-- The chunk is the least on the list of a seat with a slot, and the window has room for it.
pub record IsNext (s : SeatState) (i : ℕ) : Type 0 where
  pub slot : s.slot ≡ true
  pub room : has_room s.window ≡ true
  pub least : IsLeast s.list i

-- No chunk of the content is on the list.
abbrev pub HasNone : SeatState → Type 0
HasNone s = (i : ℕ) → i < s.told.chunks → has s.list i ≡ false

-- Nothing may be sent now: there is no slot, no room, or no chunk on the list.
abbrev pub IsDone : SeatState → Type 0
IsDone s = (s.slot ≡ false) ⊎ ((has_room s.window ≡ false) ⊎ HasNone s)

-- A chunk answers the peer, but for its hashes.
pub record Answers (f : Frame) (t : Tale) (i : ℕ) : Type 0 where
  pub content : i < f.chunks
  pub asked_for : asked i t.story ≡ true
  pub unchoked : choked t.story ≡ false
  pub in_window : lets_send f.size t.story ≡ true

-- ---- where a seat begins

-- the message changes nothing of a seat when it is sent
abbrev pub IsIdleSaid : Message → Type 0
IsIdleSaid (Data chunk sent_at bytes) = ⊥
IsIdleSaid (Have span) = ⊥
IsIdleSaid (Request span) = ⊥
IsIdleSaid (Pex4 address port) = ⊥
IsIdleSaid PexReq = ⊥
IsIdleSaid (Pex6 address port) = ⊥
IsIdleSaid Choke = ⊥
IsIdleSaid Unchoke = ⊥
IsIdleSaid _ = Unit {0}

-- only such messages were sent
abbrev pub IsUnsaid : List Line → Type 0
IsUnsaid [] = Unit {0}
IsUnsaid (Heard now m ∷ before) = IsUnsaid before
IsUnsaid (Said now m ∷ before) = IsIdleSaid m × IsUnsaid before
IsUnsaid (Taken now ∷ before) = IsUnsaid before

-- The tale before a new seat, in which nothing happened that counts.
pub record Begins (f : Frame) (t : Tale) : Type 0 where
  pub unsaid : IsUnsaid t.story
  pub unproven : f.proven ≡ false
  pub unclaimed : claims_in f.chunks t.proven ≡ []
  pub unheard : (n : Node) → is_told f.chunks t.story n ≡ false
  pub untold : (i : ℕ) → t.told i ≡ false
  pub unasked : (i place : ℕ) → f.since i ≡ Some place → (length t.story ≤ place) ⊎ (asked_since place i t.story ≡ false)
