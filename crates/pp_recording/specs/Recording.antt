-- What is meant by a recording: a swarm's descriptor, the nodes that a book knows, and the records of one link; and its text.
use Rattle.std.specs.Prelude.{◌≡◌, ◌≢◌, ◌⊎◌, All, ℕ, zero, suc, ◌-◌, ◌^◌, ◌<◌, ◌≤◌, Option, None, Some, List, [], ◌∷◌, ◌++◌, length, codes}
use Rattle.hex.specs.Hex.{IsBytes}
use Rattle.pp_terms.specs.tree.Book.{LookUp}
use Rattle.pp_terms.specs.format.Descriptor.{Descriptor, height_of, descriptor_text, IsDescriptor}
use Rattle.pp_terms.specs.format.Traffic.{Address, V4, V6, Record, Received, Quiet, Sent}
use Rattle.pp_tree.specs.Book.{IsInTree}
use Rattle.pp_recording.specs.Spelling.{KnownNode, node_line, record_line}

-- The nodes rise by layer, then offset; the records stand the newest first, as links tell them.
pub record Recorded : Type 0 where
  pub descriptor : Descriptor
  pub nodes : List KnownNode
  pub records : List Record

-- ---- the nodes that a book knows

abbrev pub node_with : ℕ → ℕ → Option (List ℕ) → List KnownNode
node_with k j None = []
node_with k j (Some digest) = record { layer = k; offset = j; digest = digest } ∷ []

-- the first n nodes of layer k, as far as the book knows them
abbrev pub first_nodes : LookUp → ℕ → ℕ → List KnownNode
first_nodes book k zero = []
first_nodes book k (suc n) = first_nodes book k n ++ node_with k n (book k n)

-- the nodes of the lowest n layers of a tree of height h, as far as the book knows them
abbrev pub lowest_nodes : LookUp → ℕ → ℕ → List KnownNode
lowest_nodes book h zero = []
lowest_nodes book h (suc k) = lowest_nodes book h k ++ first_nodes book k (2 ^ (h - k))

-- the nodes of the whole tree, as far as the book knows them
abbrev pub nodes_of : Descriptor → LookUp → List KnownNode
nodes_of d book = lowest_nodes book (height_of d) (suc (height_of d))

-- each digest that it knows has 32 bytes
abbrev pub AreDigestsOf : LookUp → Type 0
AreDigestsOf book = (k j : ℕ) (x : List ℕ) → book k j ≡ Some x → (length x ≡ 32) × IsBytes x

-- ---- the text

abbrev pub nodes_text : List KnownNode → List ℕ
nodes_text [] = []
nodes_text (n ∷ ns) = node_line n ++ nodes_text ns

-- the oldest record's line stands first
abbrev pub records_text : List Record → List ℕ
records_text [] = []
records_text (r ∷ rs) = records_text rs ++ record_line r

-- the text up to its last line
unfoldable pub front_text : Recorded → List ℕ
front_text r = codes "ppspp-recording 1\n" ++ descriptor_text r.descriptor ++ codes "\n" ++ nodes_text r.nodes ++ records_text r.records

unfoldable pub recording_text : Recorded → List ℕ
recording_text r = front_text r ++ codes "end\n"

-- ---- the limits

abbrev pub most_text : ℕ
most_text = 16777216

abbrev pub most_nodes : ℕ
most_nodes = 65536

abbrev pub most_records : ℕ
most_records = 16384

abbrev pub most_bytes : ℕ
most_bytes = 65536

-- the node lies in the tree, and its digest has 32 bytes
pub record IsKnownNode (d : Descriptor) (n : KnownNode) : Type 0 where
  pub in_tree : IsInTree d n.layer n.offset
  pub size : length n.digest ≡ 32
  pub bytes : IsBytes n.digest

-- node n stands before node m
abbrev pub IsBefore : KnownNode → KnownNode → Type 0
IsBefore n m = (n.layer < m.layer) ⊎ ((n.layer ≡ m.layer) × (n.offset < m.offset))

-- each node stands before the next one
abbrev pub AreRising : List KnownNode → Type 0
AreRising [] = Unit {0}
AreRising (n ∷ []) = Unit {0}
AreRising (n ∷ m ∷ ns) = IsBefore n m × AreRising (m ∷ ns)

abbrev pub AreKnownNodes : Descriptor → List KnownNode → Type 0
AreKnownNodes d [] = Unit {0}
AreKnownNodes d (n ∷ ns) = IsKnownNode d n × AreKnownNodes d ns

abbrev pub IsPort : ℕ → Type 0
IsPort port = (0 < port) × (port < 2 ^ 16)

-- an address that a peer can have: port 0 is no peer's
abbrev pub IsPeerAddress : Address → Type 0
IsPeerAddress (V4 bytes port) = (length bytes ≡ 4) × IsBytes bytes × IsPort port
IsPeerAddress (V6 bytes port) = (length bytes ≡ 16) × IsBytes bytes × IsPort port

abbrev pub IsDatagram : ℕ → Address → List ℕ → Type 0
IsDatagram number address bytes = (number < 2 ^ 64) × IsPeerAddress address × (length bytes ≤ most_bytes) × IsBytes bytes

-- a record whose numbers lie below 2^64, and whose datagram has at most 65,536 bytes
abbrev pub IsKeptRecord : Record → Type 0
IsKeptRecord (Received at sender bytes) = IsDatagram at sender bytes
IsKeptRecord (Quiet at) = at < 2 ^ 64
IsKeptRecord (Sent moment receiver bytes) = IsDatagram moment receiver bytes

abbrev pub AreKeptRecords : List Record → Type 0
AreKeptRecords [] = Unit {0}
AreKeptRecords (r ∷ rs) = IsKeptRecord r × AreKeptRecords rs

-- The recording keeps all limits but that of the text's length.
pub record IsRecording (r : Recorded) : Type 0 where
  pub descriptor : IsDescriptor r.descriptor
  pub root : IsBytes r.descriptor.root
  pub nodes : AreKnownNodes r.descriptor r.nodes
  pub rising : AreRising r.nodes
  pub few_nodes : length r.nodes ≤ most_nodes
  pub records : AreKeptRecords r.records
  pub few_records : length r.records ≤ most_records

-- The recording keeps all limits.
pub record IsWithin (r : Recorded) : Type 0 where
  pub kept : IsRecording r
  pub short : length (recording_text r) ≤ most_text

-- ---- the first faulty line

-- a text of so many lines, each ended by a line feed
abbrev pub AreLines : ℕ → List ℕ → Type 0
AreLines zero text = text ≡ []
AreLines (suc n) text =
    (front : List ℕ) × (row : List ℕ) × (text ≡ front ++ row ++ 10 ∷ []) × All (λ byte. byte ≢ 10) row × AreLines n front

-- The first n lines of the text begin some recording's text, the limit of the text's length aside.
pub record BeginsRecording (text : List ℕ) (n : ℕ) : Type 0 where
  pub recorded : Recorded
  pub front : List ℕ
  pub rest : List ℕ
  pub more : List ℕ
  pub kept : IsRecording recorded
  pub split : text ≡ front ++ rest
  pub lines : AreLines n front
  pub spelled : recording_text recorded ≡ front ++ more

-- The text is no recording's within the limits, and line n, counted from 1, is the first that no recording's text goes on
-- with; a text that is too long has its fault in line 0.
pub record IsFirstFault (text : List ℕ) (n : ℕ) : Type 0 where
  pub none : (r : Recorded) → IsWithin r → text ≡ recording_text r → ⊥
  pub long : most_text < length text → n ≡ 0
  pub early : length text ≤ most_text → (m : ℕ) → m < n → BeginsRecording text m
  pub here : length text ≤ most_text → BeginsRecording text n → ⊥
