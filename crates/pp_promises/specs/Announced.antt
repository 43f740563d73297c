-- What a peer announces (RFC 7574, sections 3.2 and 3.3): it acknowledges a chunk that it was sent, and tells every plain
-- channel what it has.
use Rattle.std.specs.Prelude.{◌≡◌, ◌⊎◌, ℕ, ◌≤◌, ◌==◌, Bool, true, false, not, ◌&&◌, ◌||◌, List, [], ◌∷◌, count_by}
use Rattle.std.specs.List.{list_any, range_with_len}
use Rattle.pp_terms.specs.format.Traffic.{Record, Received, Quiet, Sent}
use Rattle.pp_terms.specs.tree.Book.{LookUp}
use Rattle.pp_terms.specs.format.Descriptor.{Descriptor, chunks_of}
use Rattle.pp_terms.specs.disk.Disk.{History}
use Rattle.pp_terms.specs.format.Messages.{Message, Data, Ack}
use Rattle.pp_terms.specs.tree.Claims.{Contradicts}
use Rattle.pp_terms.specs.tree.Proves.{Proves}
use Rattle.pp_terms.specs.tree.Range.{within}
use Rattle.pp_traffic.specs.Past.{read, EachRecord}
use Rattle.pp_traffic.specs.Life.{Life}
use Rattle.pp_traffic.specs.Story.{Line, Heard, Said, Taken, said_in, story}
use Rattle.pp_traffic.specs.Asking.{is_heard}
use Rattle.pp_traffic.specs.Keeping.{StoodThroughout}
use Rattle.pp_traffic.specs.Plain.{IsPlainNow}
use Rattle.pp_traffic.specs.Turns.{AtEndsBut}
use Rattle.pp_promises.specs.LastTurn.{last_event, sent_since, earlier, is_quiet}
use Rattle.pp_promises.specs.OwnSide.{has_in}
use Rattle.pp_promises.specs.Stored.{BringsChunk, claimed_before, met_before}
use Rattle.pp_promises.specs.Served.{is_announced}

-- ---- acknowledgements

-- a chunk's bytes; an ACK that covers the chunk
abbrev pub is_data : ℕ → Message → Bool
is_data i (Data chunk sent_at bytes) = chunk == i
is_data i _ = false

abbrev pub acknowledges : ℕ → Message → Bool
acknowledges i (Ack span delay) = within span i
acknowledges i _ = false

-- a datagram that came has the chunk
abbrev pub came_in : Descriptor → ℕ → Record → Bool
came_in d i (Received at sender bytes) = list_any (is_data i) (read d (Received at sender bytes)).messages.read
came_in d i (Quiet at) = false
came_in d i (Sent moment receiver bytes) = false

-- an ACK of the chunk was sent on the channel
abbrev pub is_acknowledged : ℕ → List Line → Bool
is_acknowledged i [] = false
is_acknowledged i (Heard now m ∷ before) = is_acknowledged i before
is_acknowledged i (Said now m ∷ before) = acknowledges i m || is_acknowledged i before
is_acknowledged i (Taken now ∷ before) = is_acknowledged i before

-- A chunk that came for the first time, is proved by what its peer claims, and isn't contradicted by the book.
pub record IsFirst (d : Descriptor) (book : LookUp) (life : Life) (before : List Record) (r : Record) (i : ℕ)
    (bytes : List ℕ) : Type 0 where
  pub brings : BringsChunk d life before r i bytes
  pub proved : Proves d (claimed_before d life r before brings.front) i bytes
  pub agrees : Contradicts book (met_before d life r before brings.front i bytes) → ⊥
  pub none_before : list_any (came_in d i) before ≡ false
  pub none_in_front : list_any (is_data i) brings.front ≡ false

-- At the end of a turn in which nothing came, each such chunk of an earlier turn was acknowledged on its channel, while that
-- is plain.
abbrev pub AcknowledgesFirst : Descriptor → LookUp → List Record → Type 0
AcknowledgesFirst d book past = is_quiet (last_event past) ≡ true
    → EachRecord (λ before r. (life : Life) (i : ℕ) (bytes : List ℕ) → IsFirst d book life before r i bytes → IsPlainNow d life past
    → is_acknowledged i (story d life past) ≡ true) (earlier past)

-- The same at the end of every turn.
abbrev pub AcknowledgesAll : Descriptor → LookUp → List Record → Type 0
AcknowledgesAll d book past = AtEndsBut 0 d (AcknowledgesFirst d book) past

-- ---- what it has

-- a HAVE of the chunk was sent on the channel
abbrev pub is_told_of : ℕ → List Line → Bool
is_told_of i [] = false
is_told_of i (Heard now m ∷ before) = is_told_of i before
is_told_of i (Said now m ∷ before) = has_in i m || is_told_of i before
is_told_of i (Taken now ∷ before) = is_told_of i before

-- a record of the channel is a HAVE of the chunk
abbrev pub tells_of : Descriptor → Life → ℕ → Record → Bool
tells_of d life i r = list_any (has_in i) (said_in d life r)

-- one was sent in these records, behind the peer's first datagram to this peer's number
abbrev pub was_told_of : Descriptor → Life → ℕ → List Record → Bool
was_told_of d life i [] = false
was_told_of d life i (r ∷ before) = (tells_of d life i r && is_heard d life before) || was_told_of d life i before

-- The chunk is told of in the last turn, and wasn't in an earlier one since the peer wrote.
abbrev pub is_new : Descriptor → Life → List Record → ℕ → Bool
is_new d life past i = list_any (tells_of d life i) (sent_since past) && not (was_told_of d life i (earlier past))

-- how many chunks are
abbrev pub new_count : Descriptor → Life → List Record → ℕ
new_count d life past = count_by (is_new d life past) (range_with_len 0 (chunks_of d))

-- how many new ones a turn tells of at least, where it doesn't tell of all
abbrev pub fewest_new : ℕ
fewest_new = 64

-- The chunk was announced in an earlier turn, or stood in every image at the attachment.
abbrev pub IsKnownOf : Descriptor → History → List Record → ℕ → Type 0
IsKnownOf d h past i = (is_announced d i (earlier past) ≡ true) ⊎ StoodThroughout d h i

-- At the end of a turn each such chunk was told of on each plain channel whose peer has written to this peer's number; or the
-- turn told it of many new ones.
abbrev pub TellsOfHeld : Descriptor → History → List Record → Type 0
TellsOfHeld d h past = (life : Life) → IsPlainNow d life past → is_heard d life past ≡ true
    → (i : ℕ) → IsKnownOf d h past i → (is_told_of i (story d life past) ≡ true) ⊎ (fewest_new ≤ new_count d life past)

-- The same at the end of every turn.
abbrev pub TellsAll : Descriptor → History → List Record → Type 0
TellsAll d h past = AtEndsBut 0 d (TellsOfHeld d h) past
