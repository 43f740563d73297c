-- What every datagram is that a peer sends (RFC 7574, sections 3, 5.3 and 8.3): it is read to its end, and a chunk comes behind
-- exactly the hashes of its path that the other peer lacks.
use Rattle.std.specs.Prelude.{◌≡◌, ℕ, ◌≤◌, Bool, true, Option, Some, None, is_some, List, [], ◌∷◌, ◌++◌, length, map}
use Rattle.pp_terms.specs.format.Traffic.{Address, Record, Received, Quiet, Sent}
use Rattle.pp_terms.specs.tree.Tree.{Node}
use Rattle.pp_terms.specs.tree.Range.{Span, leaves_of}
use Rattle.pp_terms.specs.format.Descriptor.{Descriptor, chunks_of}
use Rattle.pp_terms.specs.format.Messages.{Message, Data, Integrity}
use Rattle.pp_traffic.specs.Past.{read, EachRecord}
use Rattle.pp_traffic.specs.Life.{Life}
use Rattle.pp_traffic.specs.Hashes.{is_told}
use Rattle.pp_traffic.specs.Laws.{plan}
use Rattle.pp_traffic.specs.Serving.{Window, AnswersOn}
use Rattle.pp_promises.specs.ReadStory.{read_story}

-- how many bytes a datagram has at most
abbrev pub most_bytes : ℕ
most_bytes = 16384

-- A datagram has a channel number and at most so many bytes, and its messages are read to its end.
pub record IsReadToEnd (d : Descriptor) (r : Record) (bytes : List ℕ) : Type 0 where
  pub numbered : is_some (read d r).channel ≡ true
  pub short : length bytes ≤ most_bytes
  pub to_end : (read d r).messages.fault ≡ None

-- each that was sent
abbrev pub IsWhole : Descriptor → Record → Type 0
IsWhole d (Received at sender bytes) = Unit {0}
IsWhole d (Quiet at) = Unit {0}
IsWhole d (Sent moment receiver bytes) = IsReadToEnd d (Sent moment receiver bytes) bytes

-- ---- the hashes before a chunk

-- the spans of the INTEGRITY messages
abbrev pub hash_spans : List Message → List Span
hash_spans [] = []
hash_spans (Integrity span digest ∷ ms) = span ∷ hash_spans ms
hash_spans (_ ∷ ms) = hash_spans ms

-- what the other peer has told, of what was read
abbrev pub is_read_told : Descriptor → Life → List Record → Node → Bool
is_read_told d life past n = is_told (chunks_of d) (read_story d life past) n

-- The chunk answers the peer on this life, and the hashes before it are those of its plan, in its order.
pub record PlansOn (d : Descriptor) (window : Window) (past : List Record) (life : Life) (i : ℕ) (front : List Message) : Type 0 where
  pub answers : AnswersOn d window past life i front
  pub exact : hash_spans front ≡ map leaves_of (plan (chunks_of d) (is_read_told d life past) i)

-- The chunk does so on some life of the datagram's receiver and number.
pub record PlansPeer (d : Descriptor) (window : Window) (past : List Record) (receiver : Address) (channel : Option ℕ) (i : ℕ)
    (front : List Message) : Type 0 where
  pub life : Life
  pub at : life.address ≡ receiver
  pub by : channel ≡ Some life.remote
  pub plans : PlansOn d window past life i front

-- the messages of a datagram, some of which stand before the others
abbrev pub PlansFrom : Descriptor → Window → List Record → Address → Option ℕ → List Message → List Message → Type 0
PlansFrom d window past receiver channel front [] = Unit {0}
PlansFrom d window past receiver channel front (Data i sent_at bytes ∷ rest) =
    PlansPeer d window past receiver channel i front × PlansFrom d window past receiver channel (front ++ Data i sent_at bytes ∷ []) rest
PlansFrom d window past receiver channel front (m ∷ rest) = PlansFrom d window past receiver channel (front ++ m ∷ []) rest

-- A record is no sent chunk, or is planned so, by the records before it.
abbrev pub Plans : Descriptor → Window → List Record → Record → Type 0
Plans d window past (Received at sender bytes) = Unit {0}
Plans d window past (Quiet at) = Unit {0}
Plans d window past (Sent moment receiver bytes) =
    let it = read d (Sent moment receiver bytes) in PlansFrom d window past receiver it.channel [] it.messages.read

-- Every record is.
abbrev pub PlansAll : Descriptor → Window → List Record → Type 0
PlansAll d window past = EachRecord (Plans d window) past
