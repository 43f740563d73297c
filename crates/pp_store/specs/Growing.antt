-- A content's store while an import writes it, a chunk after the other, with the pairs that come to be known.
use Rattle.std.specs.Prelude.{◌≡◌, ◌⊎◌, ℕ, suc, ◌+◌, ◌-◌, ◌*◌, ◌%◌, ◌^◌, ◌<◌, ◌≤◌, List, [], length, take, drop, slice_index, slice_index_or}
use Rattle.pp_terms.specs.tree.Content.{chunk_of, chunk_count, IsChunkSize, IsContentSize}
use Rattle.pp_terms.specs.tree.Tree.{node, pair, leaf_of, above, height}
use Rattle.pp_terms.specs.disk.Store.{chunk_place, pair_place, gate_place, open_gate, file_size, IsWithin, Has, IsPiece}
use Rattle.pp_terms.specs.disk.Disk.{DiskState, IsKnown, written}
use Rattle.pp_store.specs.Imported.{imported}

-- A content that can be imported.
pub record IsContent (chunk : ℕ) (content : List ℕ) : Type 0 where
  pub chunk_size : IsChunkSize chunk
  pub content_size : IsContentSize chunk (length content)

-- the number of its chunks, and the digest of node (k, j) of its tree
abbrev pub chunks_in : ℕ → List ℕ → ℕ
chunks_in chunk content = chunk_count (length content) chunk

abbrev pub digest_of : ℕ → List ℕ → ℕ → ℕ → List ℕ
digest_of chunk content k j = node (leaf_of content chunk) (chunks_in chunk content) k j

-- Its chunk i stands at its place and its gate is open; and the pair of node (k + 1, j) stands.
pub record HasChunk (chunk : ℕ) (content reads : List ℕ) (i : ℕ) : Type 0 where
  pub there : Has (chunk_place chunk i) (chunk_of content chunk i) reads
  pub gate : Has (gate_place chunk i) open_gate reads

abbrev pub HasPair : ℕ → List ℕ → List ℕ → ℕ → ℕ → Type 0
HasPair chunk content reads k j = Has (pair_place chunk k j) (pair (leaf_of content chunk) (chunks_in chunk content) k j) reads

-- a file with these bytes as chunk i and its gate open
abbrev pub with_chunk : ℕ → ℕ → List ℕ → List ℕ → List ℕ
with_chunk chunk i bytes reads = written (written reads (chunk_place chunk i) bytes) (gate_place chunk i) open_gate

-- Only pieces of the store were written: all else is zeros, and the file is no longer than the store.
pub record IsStaged (chunk : ℕ) (content reads : List ℕ) : Type 0 where
  pub zeros : (k : ℕ)
      → ((place : ℕ) (bytes : List ℕ) → IsPiece (imported content chunk) content place bytes → IsWithin place (length bytes) k → ⊥)
      → slice_index reads k ≡ 0
  pub size : length reads ≤ file_size (imported content chunk)

-- The first `count` chunks stand with the pairs of all nodes that are full under them.
pub record IsStoredTo (chunk : ℕ) (content : List ℕ) (count : ℕ) (reads : List ℕ) : Type 0 where
  pub staged : IsStaged chunk content reads
  pub chunks : (i : ℕ) → i < count → HasChunk chunk content reads i
  pub pairs : (k j : ℕ) → j < above (suc k) count → HasPair chunk content reads k j

-- The first chunks are stored, over a disk that tells, and the peaks' digests are at hand: layer k has a peak where `above k count`
-- is odd.
pub record IsPartial (chunk : ℕ) (content : List ℕ) (count : ℕ) (peaks : List (List ℕ)) (disk : DiskState) : Type 0 where
  pub fits : IsContent chunk content
  pub within : count ≤ chunks_in chunk content
  pub peak : (k : ℕ) → above k count % 2 ≡ 1 → slice_index_or peaks k [] ≡ digest_of chunk content k (above k count - 1)
  pub stored : IsKnown disk → IsStoredTo chunk content count disk.history.reads

-- Node (k, offset) ends with chunk `count`, and so do the right children below it; step is 2 ^ k.
pub record IsCarry (count k offset step : ℕ) : Type 0 where
  pub step_is : step ≡ 2 ^ k
  pub exact : step * (offset + 1) ≡ count + 1
  pub at : offset ≡ above k count
  pub next : above k (count + 1) ≡ offset + 1
  pub even : (l : ℕ) → l < k → above l (count + 1) % 2 ≡ 0

-- Chunk `count` stands too, with the pairs of the nodes up to layer k that it fills.
pub record IsStoredCarry (chunk : ℕ) (content : List ℕ) (count k : ℕ) (reads : List ℕ) : Type 0 where
  pub staged : IsStaged chunk content reads
  pub chunks : (i : ℕ) → i < count + 1 → HasChunk chunk content reads i
  pub low : (l j : ℕ) → l < k → j < above (suc l) (count + 1) → HasPair chunk content reads l j
  pub high : (l j : ℕ) → k ≤ l → j < above (suc l) count → HasPair chunk content reads l j

-- the same, and this is the digest of node (k, offset)
pub record IsCarrying (chunk : ℕ) (content : List ℕ) (count k offset : ℕ) (peaks : List (List ℕ)) (digest : List ℕ)
    (disk : DiskState) : Type 0 where
  pub fits : IsContent chunk content
  pub within : count < chunks_in chunk content
  pub peak : (l : ℕ) → k ≤ l → above l count % 2 ≡ 1 → slice_index_or peaks l [] ≡ digest_of chunk content l (above l count - 1)
  pub is : digest ≡ digest_of chunk content k offset
  pub stored : IsKnown disk → IsStoredCarry chunk content count k disk.history.reads

-- Layer k over `count` chunks has `offset` full nodes; step is 2 ^ k, and no lower power of two is `count` or more.
pub record IsTail (count k offset step : ℕ) : Type 0 where
  pub step_is : step ≡ 2 ^ k
  pub at : offset ≡ above k count
  pub least : (l : ℕ) → l < k → 2 ^ l < count
  pub inside : offset * step ≤ count
  pub most : step ≤ 2 ^ 20

-- All chunks stand, and the pairs of all nodes up to layer k.
pub record IsStoredTail (chunk : ℕ) (content : List ℕ) (count k : ℕ) (reads : List ℕ) : Type 0 where
  pub staged : IsStaged chunk content reads
  pub chunks : (i : ℕ) → i < count → HasChunk chunk content reads i
  pub low : (l j : ℕ) → l < k → j * 2 ^ suc l < count → HasPair chunk content reads l j
  pub high : (l j : ℕ) → k ≤ l → j < above (suc l) count → HasPair chunk content reads l j

-- the same, and this is the digest of the layer's node behind its full ones
pub record IsTailing (chunk : ℕ) (content : List ℕ) (count k offset : ℕ) (peaks : List (List ℕ)) (digest : List ℕ)
    (disk : DiskState) : Type 0 where
  pub fits : IsContent chunk content
  pub all : count ≡ chunks_in chunk content
  pub peak : (l : ℕ) → k ≤ l → above l count % 2 ≡ 1 → slice_index_or peaks l [] ≡ digest_of chunk content l (above l count - 1)
  pub is : digest ≡ digest_of chunk content k offset
  pub stored : IsKnown disk → IsStoredTail chunk content count k disk.history.reads

-- All chunks and pairs stand.
pub record IsBuilt (chunk : ℕ) (content reads : List ℕ) : Type 0 where
  pub fits : IsContent chunk content
  pub staged : IsStaged chunk content reads
  pub chunks : (i : ℕ) → i < chunks_in chunk content → HasChunk chunk content reads i
  pub pairs : (k j : ℕ) → k < height (chunks_in chunk content) → j * 2 ^ suc k < chunks_in chunk content → HasPair chunk content reads k j

-- Besides, the file is as long as the store.
pub record IsWhole (chunk : ℕ) (content reads : List ℕ) : Type 0 where
  pub built : IsBuilt chunk content reads
  pub long : length reads ≡ file_size (imported content chunk)

-- The bytes are the content's next ones after so many chunks, and end with a chunk.
pub record IsNext (chunk : ℕ) (content : List ℕ) (count : ℕ) (pieces : List ℕ) : Type 0 where
  pub given : pieces ≡ take (length pieces) (drop (count * chunk) content)
  pub inside : count * chunk + length pieces ≤ length content
  pub whole : (length pieces % chunk ≡ 0) ⊎ (count * chunk + length pieces ≡ length content)
