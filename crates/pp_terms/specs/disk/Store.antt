-- The file of a store, version 2: a header of 64 bytes, then slots of a chunk, a pair of digests and a gate each.
-- The places don't depend on the number of chunks.
use Rattle.std.specs.Prelude.{◌≡◌, ◌⊎◌, ℕ, suc, ◌+◌, ◌-◌, ◌*◌, ◌^◌, ◌<◌, ◌≤◌, List, ◌++◌, [], ◌∷◌, length, replicate, codes, slice_index}
use Rattle.std.specs.Int.{w32, w64, to_be_bytes}
use Rattle.pp_terms.specs.tree.Content.{chunk_of}
use Rattle.pp_terms.specs.tree.Tree.{leaf_of, pair}
use Rattle.pp_terms.specs.format.Descriptor.{Descriptor, IsDescriptor, chunks_of, height_of}

-- The header: "PPSTORE2", the chunk size (4 bytes), the content size (8), the root (32) and 12 zero bytes.
unfoldable pub header : Descriptor → List ℕ
header d = codes "PPSTORE2" ++ to_be_bytes w32 d.chunk ++ to_be_bytes w64 d.size ++ d.root ++ replicate 12 0

-- A file's first 64 bytes, zeros past its end, are the header.
abbrev pub HasHeader : Descriptor → List ℕ → Type 0
HasHeader d file = (k : ℕ) → k < 64 → slice_index file k ≡ slice_index (header d) k

-- the room of one chunk, its pair and its gate: where the next slot begins
abbrev pub slot_size : ℕ → ℕ
slot_size chunk = chunk + 65

-- where slot i begins, and chunk i with it
abbrev pub chunk_place : ℕ → ℕ → ℕ
chunk_place chunk i = 64 + i * slot_size chunk

-- the slot of the pair of node (k + 1, j): that of the last leaf of its left half
abbrev pub pair_slot : ℕ → ℕ → ℕ
pair_slot k j = j * 2 ^ suc k + 2 ^ k - 1

-- where that pair stands: behind the chunk of its slot
abbrev pub pair_place : ℕ → ℕ → ℕ → ℕ
pair_place chunk k j = chunk_place chunk (pair_slot k j) + chunk

-- where the gate of chunk i stands: the last byte of its slot
abbrev pub gate_place : ℕ → ℕ → ℕ
gate_place chunk i = chunk_place chunk i + chunk + 64

-- An open gate says that its chunk was made durable; a gate with another value is closed.
abbrev pub open_gate : List ℕ
open_gate = 0x4f ∷ []

-- how many bytes a store's file has: a slot for each leaf of the tree
abbrev pub file_size : Descriptor → ℕ
file_size d = chunk_place d.chunk (2 ^ height_of d)

-- index k lies in the range of so many bytes at a place
abbrev pub IsWithin : ℕ → ℕ → ℕ → Type 0
IsWithin place size k = (place ≤ k) × (k < place + size)

-- two ranges don't meet
abbrev pub AreApart : (place size other size' : ℕ) → Type 0
AreApart place size other size' = (place + size ≤ other) ⊎ (other + size' ≤ place)

-- These bytes stand at a place, inside the image.
pub record Has (place : ℕ) (bytes image : List ℕ) : Type 0 where
  pub inside : place + length bytes ≤ length image
  pub same : (k : ℕ) → k < length bytes → slice_index image (place + k) ≡ slice_index bytes k

-- The pieces of a content's store: its header, each chunk with its gate, and the pair of each inner node that covers a
-- chunk.
pub data IsPiece (d : Descriptor) (content : List ℕ) : ℕ → List ℕ → Type 0 where
  the_header : IsPiece d content 0 (header d)
  a_chunk : (i : ℕ) → i < chunks_of d → IsPiece d content (chunk_place d.chunk i) (chunk_of content d.chunk i)
  a_pair : (k j : ℕ) → k < height_of d → j * 2 ^ suc k < chunks_of d
      → IsPiece d content (pair_place d.chunk k j) (pair (leaf_of content d.chunk) (chunks_of d) k j)
  a_gate : (i : ℕ) → i < chunks_of d → IsPiece d content (gate_place d.chunk i) open_gate

-- The image is the content's whole store: each piece stands at its place, each other byte is zero, and the file has a slot
-- for each leaf of the tree.
pub record IsStoreOf (d : Descriptor) (content image : List ℕ) : Type 0 where
  pub pieces : (place : ℕ) (bytes : List ℕ) → IsPiece d content place bytes → Has place bytes image
  pub zeros : (k : ℕ)
      → ((place : ℕ) (bytes : List ℕ) → IsPiece d content place bytes → IsWithin place (length bytes) k → ⊥)
      → slice_index image k ≡ 0
  pub size : length image ≡ file_size d

-- The image is no store's: it begins with no content's header, zeros past its end.
abbrev pub IsNoStore : List ℕ → Type 0
IsNoStore image = (d : Descriptor) → IsDescriptor d → HasHeader d image → ⊥
