-- The frame and the tale of a channel's seat, by what the link carried.
use Rattle.pp_traffic.specs.Keeping.{StoodThroughout}
use Rattle.pp_traffic.specs.Turns.{AtMost}
use Rattle.pp_traffic.specs.Plain.{IsPlainNow}
use Rattle.pp_terms.specs.disk.Disk.{History}
use Rattle.std.specs.Prelude.{◌≡◌, ◌⊎◌, ℕ, ◌<◌, ◌≤◌, Bool, true, false, ◌||◌, if◌then◌else◌, Option, Some, None, List, [], ◌∷◌, length}
use Rattle.pp_terms.specs.format.Traffic.{Address, Record, Received, Quiet, Sent}
use Rattle.pp_terms.specs.format.Descriptor.{Descriptor, chunks_of}
use Rattle.pp_terms.specs.format.Messages.{Message}
use Rattle.pp_traffic.specs.Past.{now, some_since, is_event}
use Rattle.pp_traffic.specs.Life.{Life, comes_on}
use Rattle.pp_traffic.specs.Story.{Heard, Taken, heard_in, said_in, story}
use Rattle.pp_traffic.specs.Asking.{asked, is_heard, asks_in, most_asks}
use Rattle.pp_traffic.specs.Fates.{clock}
use Rattle.pp_promises.specs.LastTurn.{sent_since, earlier}
use Rattle.pp_promises.specs.ReadStory.{is_read, read_story, proven_story}
use Rattle.pp_promises.specs.Served.{is_announced, is_owed, IsOwed}
use Rattle.pp_promises.specs.Announced.{tells_of, was_told_of, fewest_new, new_count, IsKnownOf, is_told_of}
use Rattle.std.specs.List.{list_any}
use Rattle.pp_terms.specs.tree.Range.{Span, has, IsRunsFrom}
use Rattle.pp_ranges.specs.Edits.{number_count}
use Rattle.pp_seat.specs.Lines.{asked_since, Tale, with_line, with_said}
use Rattle.pp_seat.specs.Seats.{SeatState}
use Rattle.pp_seat.specs.Follows.{Frame, Lost, Begins, Follows, HasNone}
use Rattle.pp_seat.specs.Laws.{IsLater}

-- How long what is read was when the chunk was first announced, on whatever channel: 0 where it was found at the start.
abbrev pub since_of : Descriptor → Life → (is_found : ℕ → Bool) → ℕ → List Record → Option ℕ
since_of d life is_found i [] = if is_found i then Some 0 else None
since_of d life is_found i (r ∷ before) =
    if is_found i || is_announced d i before then since_of d life is_found i before else
    (if is_announced d i (r ∷ before) then Some (length (read_story d life (r ∷ before))) else None)

abbrev pub frame_of : Descriptor → Life → (is_found known_of : ℕ → Bool) → List Record → Frame
frame_of d life is_found known_of past = record {
  chunks = chunks_of d;
  size = d.chunk;
  since = λ i. since_of d life is_found i past;
  known_of = known_of;
  proven = is_heard d life past;
}

abbrev pub tale_of : Descriptor → Life → List Record → Tale
tale_of d life past = record { story = read_story d life past; proven = proven_story d life past; told = λ i. was_told_of d life i past }

-- ---- tales that say the same

pub record IsSameTale (t other : Tale) : Type 0 where
  pub story : other.story ≡ t.story
  pub proven : other.proven ≡ t.proven
  pub told : (i : ℕ) → other.told i ≡ t.told i

abbrev pub SameTales : Type 0
SameTales = (f : Frame) (lost : Lost) (s : SeatState) (t other : Tale) → IsSameTale t other → Follows f lost s t → Follows f lost s other

-- messages more that came, the last of them the newest
abbrev pub with_heard : ℕ → List Message → Bool → Tale → Tale
with_heard now [] is_proven t = t
with_heard now (m ∷ ms) is_proven t = with_heard now ms is_proven (with_line (Heard now m) is_proven t)

-- nothing yet
abbrev pub no_tale : Tale
no_tale = record { story = []; proven = []; told = λ i. false }

-- What one record more does to the tale of a life that has begun, or that begins with it because either peer opens it.
pub record TalesGrow : Type 0 where
  pub opened : (d : Descriptor) (life : Life) (at : ℕ) (sender : Address) (bytes : List ℕ) (past : List Record) → life.opening ≡ length past
      → life.is_dialled ≡ false → let r = Received at sender bytes in comes_on d life r ≡ false
      → IsSameTale (with_line (Taken (now (r ∷ past))) false (with_heard (now (r ∷ past)) (heard_in d life true r) false no_tale))
      (tale_of d life (r ∷ past))
  pub dialled : (d : Descriptor) (life : Life) (moment : ℕ) (receiver : Address) (bytes : List ℕ) (past : List Record)
      → life.opening ≡ length past
      → let r = Sent moment receiver bytes in
      IsSameTale (with_said (now past) (said_in d life r) false no_tale) (tale_of d life (r ∷ past))
  pub sent : (d : Descriptor) (life : Life) (moment : ℕ) (receiver : Address) (bytes : List ℕ) (past : List Record)
      → life.opening < length past
      → let r = Sent moment receiver bytes in
      IsSameTale (with_said (now past) (said_in d life r) (is_heard d life past) (tale_of d life past)) (tale_of d life (r ∷ past))
  pub quiet : (d : Descriptor) (life : Life) (at : ℕ) (is_proven : Bool) (past : List Record) → life.opening < length past
      → IsSameTale (with_line (Taken (now (Quiet at ∷ past))) is_proven (tale_of d life past)) (tale_of d life (Quiet at ∷ past))
  -- a datagram on the channel that is read
  pub heard : (d : Descriptor) (life : Life) (at : ℕ) (sender : Address) (bytes : List ℕ) (past : List Record) → life.opening < length past
      → let r = Received at sender bytes in comes_on d life r ≡ true → is_read d life (r ∷ past) ≡ true
      → IsSameTale (with_line (Taken (now (r ∷ past))) true
      (with_heard (now (r ∷ past)) (heard_in d life false r) true (tale_of d life past)))
      (tale_of d life (r ∷ past))
  -- one that isn't, or that is none of the channel's
  pub unread : (d : Descriptor) (life : Life) (at : ℕ) (sender : Address) (bytes : List ℕ) (is_proven : Bool) (past : List Record)
      → life.opening < length past
      → let r = Received at sender bytes in (comes_on d life r ≡ false) ⊎ (is_read d life (r ∷ past) ≡ false)
      → IsSameTale (with_line (Taken (now (r ∷ past))) is_proven (tale_of d life past)) (tale_of d life (r ∷ past))

-- A seat of a channel that isn't proven begins with no tale.
abbrev pub NoneBegins : Type 0
NoneBegins = (f : Frame) → f.proven ≡ false → Begins f no_tale

-- ---- frames

-- What is owed was asked for since it was announced; so was what is asked for and was found at the start.
pub record OwedIsKept : Type 0 where
  pub announced : (d : Descriptor) (life : Life) (is_found : ℕ → Bool) (i : ℕ) (past : List Record) → is_owed d life i past ≡ true
      → (place : ℕ) × (since_of d life is_found i past ≡ Some place) × (asked_since place i (story d life past) ≡ true)
  pub found : (d : Descriptor) (life : Life) (is_found : ℕ → Bool) (i : ℕ) (past : List Record) → is_found i ≡ true
      → asked i (story d life past) ≡ true
      → (place : ℕ) × (since_of d life is_found i past ≡ Some place) × (asked_since place i (story d life past) ≡ true)

-- One record more: what it announces, and nothing else, was announced when the tale is as long as it is then.
abbrev pub FramesGrow : Type 0
FramesGrow = (d : Descriptor) (life : Life) (is_found : ℕ → Bool) (r : Record) (past : List Record)
    → IsLater (length (read_story d life (r ∷ past))) (λ i. since_of d life is_found i past) (λ i. since_of d life is_found i (r ∷ past))

-- Once the link handed in something since a life's opening, what is read has come to the moment now.
abbrev pub ReadsComeToNow : Type 0
ReadsComeToNow = (d : Descriptor) (life : Life) (past : List Record) → some_since is_event life.opening past ≡ true
    → now past ≤ clock (read_story d life past)

-- On a plain channel with a slot no chunk of which is listed, at most so many chunks that are owed are left as were given up.
abbrev pub OwedIsGiven : Type 0
OwedIsGiven = (d : Descriptor) (h : History) (life : Life) (is_found known_of : ℕ → Bool) (past : List Record) (lost : Lost) (s : SeatState)
    → IsPlainNow d life past → Follows (frame_of d life is_found known_of past) lost s (tale_of d life past) → s.slot ≡ true → HasNone s
    → asks_in (story d life past) ≤ most_asks → ((i : ℕ) → StoodThroughout d h i → is_found i ≡ true)
    → ((i : ℕ) → IsOwed d h life past i → i < chunks_of d) → AtMost lost.chunks (IsOwed d h life past)

-- ---- what a turn tells that is new

-- The last turn told of all chunks of these ranges, which lie in the content and rise from a cursor on.
pub record TellsFrom (d : Descriptor) (life : Life) (past : List Record) (cursor : ℕ) (spans : List Span) : Type 0 where
  pub runs : IsRunsFrom cursor spans
  pub each : (i : ℕ) → has spans i ≡ true → (i < chunks_of d) × (list_any (tells_of d life i) (sent_since past) ≡ true)

-- What was told of before a turn's first datagram is what was told of in the earlier turns. Where no HAVE was refused, ranges from the
-- cursor on of which the turn told are so many new chunks. And where a turn told a plain channel of enough new ones, or its seat's
-- cursor is behind each chunk that is to be known of, it did what is promised of that channel.
pub record NewsAreCounted : Type 0 where
  pub begun : (d : Descriptor) (life : Life) (i : ℕ) (past : List Record) → sent_since past ≡ []
      → was_told_of d life i past ≡ was_told_of d life i (earlier past)
  pub counted : (d : Descriptor) (life : Life) (past : List Record) (f : Frame) (lost : Lost) (s : SeatState) (t : Tale) (spans : List Span)
      → Follows f lost s t → lost.haves ≡ 0 → ((i : ℕ) → t.told i ≡ was_told_of d life i (earlier past))
      → TellsFrom d life past s.cursor spans
      → number_count spans ≤ new_count d life past
  pub enough : (d : Descriptor) (h : History) (life : Life) (is_found known_of : ℕ → Bool) (past : List Record) (lost : Lost)
      (s : SeatState) → IsPlainNow d life past → Follows (frame_of d life is_found known_of past) lost s (tale_of d life past)
      → ((i : ℕ) → IsKnownOf d h past i → known_of i ≡ true)
      → (fewest_new ≤ new_count d life past) ⊎ ((i : ℕ) → IsKnownOf d h past i → i < s.cursor)
      → (i : ℕ) → IsKnownOf d h past i → (is_told_of i (story d life past) ≡ true) ⊎ (fewest_new ≤ new_count d life past)
