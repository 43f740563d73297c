-- What a swarm that is named without its size can rely on.
use Rattle.std.specs.Prelude.{◌≡◌, ◌⊎◌, ◌↔◌, ℕ, ◌+◌, ◌*◌, ◌^◌, ◌<◌, ◌≤◌, Some, List, length}
use Rattle.pp_terms.specs.tree.Content.{chunk_of}
use Rattle.pp_terms.specs.tree.Book.{LookUp, IsRooted, IsBacked, Clash}
use Rattle.pp_terms.specs.tree.Proves.{Proves}
use Rattle.pp_terms.specs.tree.Tree.{empty_hash}
use Rattle.pp_terms.specs.format.Descriptor.{Descriptor, chunks_of, IsDescriptor, IsContentOf}
use Rattle.pp_tree.specs.Book.{IsInTree}
use Rattle.pp_targets.specs.Target.{SwarmName, Target, Fits, FitsName, IsOf, IsOfName}
use Rattle.pp_targets.specs.Depth.{DepthClash, HasZeroNode}
use Rattle.pp_targets.specs.ClimbBook.{climb_book}

-- Bytes that a book of some descriptor of a target backs are the chunk of each content of the target, or two texts have one digest.
abbrev pub BackedIsChunkOfTarget : Type 0
BackedIsChunkOfTarget = (target : Target) (content : List ℕ) (e : Descriptor) (book : LookUp) (i : ℕ) (bytes : List ℕ)
    → IsDescriptor e → IsOf target e → Fits target content → IsBacked e book i bytes
    → (bytes ≡ chunk_of content e.chunk i) ⊎ DepthClash e content book i bytes

-- Where digests prove a chunk, what their climbs meet is a book of the descriptor, and backs the chunk.
abbrev pub ClimbIsBacked : Type 0
ClimbIsBacked = (e : Descriptor) (known : LookUp) (i : ℕ) (bytes : List ℕ)
    → IsDescriptor e → i < chunks_of e → Proves e known i bytes → IsBacked e (climb_book e known i bytes) i bytes

-- Each content of the name has the descriptor's size, or two texts have one digest, or a node of the content that covers a
-- chunk is as one that covers none.
abbrev pub TellsSize : SwarmName → Descriptor → (known : LookUp) (i : ℕ) (bytes : List ℕ) → Type 0
TellsSize name e known i bytes = (content : List ℕ) → FitsName name content
    → (length content ≡ e.size)
    ⊎ (DepthClash e content (climb_book e known i bytes) i bytes ⊎ HasZeroNode content e.chunk)

-- Digests that prove a last chunk tell the size.
abbrev pub LastTellsSize : Type 0
LastTellsSize = (name : SwarmName) (e : Descriptor) (known : LookUp) (i : ℕ) (bytes : List ℕ)
    → IsDescriptor e → IsOfName name e → i + 1 ≡ chunks_of e → Proves e known i bytes → TellsSize name e known i bytes

-- each node of the book's tree that covers no chunk is 32 zero bytes
abbrev pub IsShaped : Descriptor → LookUp → Type 0
IsShaped e book = (k j : ℕ) (digest : List ℕ) → IsInTree e k j → chunks_of e ≤ j * 2 ^ k → book k j ≡ Some digest → digest ≡ empty_hash

-- the bytes have the descriptor's size, and the book backs each of their chunks
pub record BacksAll (e : Descriptor) (book : LookUp) (bytes : List ℕ) : Type 0 where
  pub size : length bytes ≡ e.size
  pub each : (i : ℕ) → i < chunks_of e → IsBacked e book i (chunk_of bytes e.chunk i)

-- On the way to some chunk of the bytes two texts have one digest.
pub record ClashesSomewhere (e : Descriptor) (content : List ℕ) (book : LookUp) (bytes : List ℕ) : Type 0 where
  pub chunk : ℕ
  pub within : chunk < chunks_of e
  pub clash : DepthClash e content book chunk (chunk_of bytes e.chunk chunk)

-- Bytes that a shaped book of a descriptor of a name backs are each content of the name, or two texts have one digest, or a node of
-- the content that covers a chunk is as one that covers none.
abbrev pub BackedIsContentOfName : Type 0
BackedIsContentOfName = (name : SwarmName) (e : Descriptor) (book : LookUp) (bytes : List ℕ)
    → IsDescriptor e → IsOfName name e → IsShaped e book → BacksAll e book bytes
    → (content : List ℕ) → FitsName name content
    → (bytes ≡ content) ⊎ (ClashesSomewhere e content book bytes ⊎ HasZeroNode content e.chunk)

-- Where the descriptor tells the content's size, a clash at some depth is a clash in the words of the book's own tree, and the
-- other way round.
abbrev pub SizedClashIsClash : Type 0
SizedClashIsClash = (d : Descriptor) (content : List ℕ) (book : LookUp) (i : ℕ) (bytes : List ℕ)
    → IsContentOf d content → IsRooted d book → i < chunks_of d
    → DepthClash d content book i bytes ↔ Clash d content book i bytes
