-- The parts of the rule on chunks that are sent, and the first of them that fails (RFC 7574, sections 3.5 to 3.9, 5.3 and
-- 8.16).
use Rattle.std.specs.Prelude.{◌≡◌, ◌≢◌, ◌⊎◌, ℕ, ◌<◌, ◌≤◌, true, false, Some, List, []}
use Rattle.std.specs.List.{AllByRecursion}
use Rattle.pp_terms.specs.format.Traffic.{Record}
use Rattle.pp_terms.specs.format.Descriptor.{Descriptor, chunks_of}
use Rattle.pp_terms.specs.tree.Book.{LookUp, IsBacked}
use Rattle.pp_traffic.specs.Life.{Life, IsLife}
use Rattle.pp_traffic.specs.Story.{story}
use Rattle.pp_traffic.specs.Asking.{choked, asked, is_heard}
use Rattle.pp_traffic.specs.Hashes.{is_told, completes, brings, Carries}
use Rattle.pp_traffic.specs.Serving.{window_of, Serves}
use Rattle.pp_verdict.specs.Chunks.{SentChunk, chunk_of}
use Rattle.pp_verdict.specs.declared.answer.Part.{Part}
use Rattle.pp_verdict.specs.declared.answer.Part.TheVariants as parts

abbrev pub number_of : Part → ℕ
number_of parts.Tail = 1
number_of parts.Backed = 2
number_of parts.Life = 3
number_of parts.Asked = 4
number_of parts.Unchoked = 5
number_of parts.Hashes = 6
number_of parts.Window = 7

-- ---- on one life

-- The life is open, and of the chunk's receiver and channel number.
pub record Suits (d : Descriptor) (past : List Record) (c : SentChunk) (life : Life) : Type 0 where
  pub at : life.address ≡ c.receiver
  pub by : c.channel ≡ Some life.remote
  pub alive : IsLife d life past

abbrev pub IsAsked : Descriptor → List Record → SentChunk → Life → Type 0
IsAsked d past c life = asked c.number (story d life past) ≡ true

abbrev pub IsUnchoked : Descriptor → List Record → Life → Type 0
IsUnchoked d past life = (choked (story d life past) ≡ false) × (is_heard d life past ≡ true)

-- the hashes in front are the book's, and complete the chunk's path for what the peer told
abbrev pub HasHashes : Descriptor → LookUp → List Record → SentChunk → Life → Type 0
HasHashes d book past c life = AllByRecursion (Carries book) c.front
    × (completes (chunks_of d) (brings c.front) (is_told (chunks_of d) (story d life past)) c.number ≡ true)

abbrev pub HasRoom : Descriptor → List Record → Life → Type 0
HasRoom d past life = window_of d (story d life past) ≡ true

-- All four hold.
pub record Passes (d : Descriptor) (book : LookUp) (past : List Record) (c : SentChunk) (life : Life) : Type 0 where
  pub asked_for : IsAsked d past c life
  pub unchoked : IsUnchoked d past life
  pub hashes : HasHashes d book past c life
  pub room : HasRoom d past life

-- the part fails, and those of the four before it hold
abbrev pub FailsOn : Descriptor → LookUp → List Record → SentChunk → Life → Part → Type 0
FailsOn d book past c life parts.Tail = ⊥
FailsOn d book past c life parts.Backed = ⊥
FailsOn d book past c life parts.Life = ⊥
FailsOn d book past c life parts.Asked = IsAsked d past c life → ⊥
FailsOn d book past c life parts.Unchoked = IsAsked d past c life × (IsUnchoked d past life → ⊥)
FailsOn d book past c life parts.Hashes =
    IsAsked d past c life × IsUnchoked d past life × (HasHashes d book past c life → ⊥)
FailsOn d book past c life parts.Window =
    IsAsked d past c life × IsUnchoked d past life × HasHashes d book past c life × (HasRoom d past life → ⊥)

-- ---- on all lives

-- The first life opened before the second, or with it and has no greater number of this peer's.
abbrev pub IsNoLater : Life → Life → Type 0
IsNoLater a b = (a.opening < b.opening) ⊎ ((a.opening ≡ b.opening) × (a.local ≤ b.local))

-- The latest of the lives that suit the chunk.
pub record IsLatest (d : Descriptor) (past : List Record) (c : SentChunk) (life : Life) : Type 0 where
  pub suits : Suits d past c life
  pub latest : (other : Life) → Suits d past c other → IsNoLater other life

-- No life passes, and on the latest the part is the first that fails.
pub record FailsOnLives (d : Descriptor) (book : LookUp) (past : List Record) (c : SentChunk) (part : Part)
    : Type 0 where
  pub none : (life : Life) → Suits d past c life → Passes d book past c life → ⊥
  pub life : Life
  pub latest : IsLatest d past c life
  pub fails : FailsOn d book past c life part

abbrev pub FailsChunk : Descriptor → LookUp → List Record → SentChunk → Part → Type 0
FailsChunk d book past c parts.Tail = c.rest ≢ []
FailsChunk d book past c parts.Backed = (c.rest ≡ []) × (IsBacked d book c.number c.bytes → ⊥)
FailsChunk d book past c parts.Life =
    (c.rest ≡ []) × IsBacked d book c.number c.bytes × ((life : Life) → Suits d past c life → ⊥)
FailsChunk d book past c part = (c.rest ≡ []) × IsBacked d book c.number c.bytes × FailsOnLives d book past c part

-- A record was sent with a chunk, and by the records before it the part is the first that fails.
abbrev pub Fails : Descriptor → LookUp → List Record → Record → Part → Type 0
Fails d book before r part = (c : SentChunk) × (chunk_of d r ≡ Some c) × FailsChunk d book before c part

-- Such a record doesn't serve.
abbrev pub FaultsDoNotServe : Type 0
FaultsDoNotServe = (d : Descriptor) (book : LookUp) (before : List Record) (r : Record) (part : Part)
    → Fails d book before r part → Serves d book (window_of d) before r → ⊥

-- One part fails at a record.
abbrev pub FaultsAreOne : Type 0
FaultsAreOne = (d : Descriptor) (book : LookUp) (before : List Record) (r : Record) (part other : Part)
    → Fails d book before r part → Fails d book before r other → part ≡ other
