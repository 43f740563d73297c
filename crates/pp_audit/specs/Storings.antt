-- Whether each chunk that a datagram brings is stored, where claims prove it, as a test.
use Rattle.std.specs.Prelude.{Bool, true, false, not, ◌&&◌, ◌||◌, List, [], ◌∷◌, ◌++◌, take, slice_index_or}
use Rattle.pp_terms.specs.format.Descriptor.{Descriptor, chunks_of}
use Rattle.pp_terms.specs.format.Messages.{Message, Data}
use Rattle.pp_terms.specs.format.Traffic.{Record}
use Rattle.pp_terms.specs.tree.Book.{LookUp}
use Rattle.pp_terms.specs.tree.Claims.{latest}
use Rattle.pp_traffic.specs.Life.{Life, comes_on}
use Rattle.pp_traffic.specs.Past.{read}
use Rattle.pp_promises.specs.Answered.{is_of}
use Rattle.pp_recorded.specs.Claims.{claims_after, proven_claims}
use Rattle.pp_recorded.specs.Contradictions.{contradicts}
use Rattle.pp_recorded.specs.Provings.{proves}

-- what the peer of a channel claims behind the first messages of a newer datagram
abbrev pub known_behind : Descriptor → Life → List Record → List Message → LookUp
known_behind d life before front = latest (take 128 (claims_after (chunks_of d) front (proven_claims d life before)))

-- A message is no chunk, or one that isn't proved, or is held, or contradicts the book.
abbrev pub is_stored : Descriptor → LookUp → List Bool → LookUp → Message → Bool
is_stored d book held known (Data i sent_at bytes) =
    not (proves d known i bytes) || (slice_index_or held i false || contradicts d book known i bytes)
is_stored d book held known _ = true

-- each message before a closing handshake passes a test, by the messages in front of it
abbrev pub each_stored : (List Message → Message → Bool) → (front rest : List Message) → Bool
each_stored test front [] = true
each_stored test front (m ∷ ms) = is_of 0 m || (test front m && each_stored test (front ++ m ∷ []) ms)

-- each message of a record that comes on a channel is stored so
abbrev pub stores_on : Descriptor → LookUp → List Bool → Life → List Record → Record → Bool
stores_on d book held life before r =
    not (comes_on d life r)
    || each_stored (λ front m. is_stored d book held (known_behind d life before front) m) [] (read d r).messages.read

-- the newest record
abbrev pub stores_newest : Descriptor → LookUp → List Bool → List Record → Life → Bool
stores_newest d book held [] life = true
stores_newest d book held (r ∷ before) life = stores_on d book held life before r
