-- Chunks that are read back, one behind the other.
use Rattle.std.specs.Prelude.{◌≡◌, ℕ, ◌+◌, ◌-◌, ◌*◌, ◌<◌, ◌≤◌, min, List, length, Some}
use Rattle.sha2.specs.Sha256.{sha256}
use Rattle.pp_terms.specs.tree.Book.{IsBacked}
use Rattle.pp_terms.specs.tree.Content.{chunk_of, chunk_length}
use Rattle.pp_terms.specs.format.Descriptor.{Descriptor, chunks_of}
use Rattle.pp_terms.specs.disk.Disk.{DiskState, IsKnown, IsRead}
use Rattle.pp_terms.specs.disk.Store.{chunk_place}
use Rattle.pp_tree.specs.Book.{entry}
use Rattle.pp_store.specs.Store.{AgreesWith}
use Rattle.pp_holding.specs.Holding.{HoldingState}

-- Chunk i's bytes, backed by the book. Over a disk that is honest and tells they are what reads give at the chunk's place.
pub record IsChunk (s : HoldingState) (disk : DiskState) (i : ℕ) (bytes : List ℕ) : Type 0 where
  pub backed : IsBacked s.store.descriptor (entry s.book) i bytes
  pub read : IsKnown disk → IsRead disk.history.reads (chunk_place s.store.descriptor.chunk i) bytes

-- The bytes are those of a number of chunks of a content from chunk `first` on, in order, and so is each of them.
pub record AreNext (d : Descriptor) (So : ℕ → List ℕ → Type 0) (first count : ℕ) (bytes : List ℕ) : Type 0 where
  pub within : first + count ≤ chunks_of d
  pub size : length bytes ≡ min (count * d.chunk) (d.size - first * d.chunk)
  pub each : (k : ℕ) → k < count → So (first + k) (chunk_of bytes d.chunk k)

-- Bytes that were read at chunk i have another digest than the book's: both are named. Over a disk that is honest and
-- tells they are what reads give at the chunk's place, and that never happens while the store is what its file has.
pub record IsDamagedChunk (s : HoldingState) (disk : DiskState) (i : ℕ) (found kept : List ℕ) : Type 0 where
  pub bytes : List ℕ
  pub size : length bytes ≡ chunk_length s.store.descriptor.size s.store.descriptor.chunk i
  pub found_is : found ≡ sha256 bytes
  pub kept_is : entry s.book 0 i ≡ Some kept
  pub differ : found ≡ kept → ⊥
  pub read : IsKnown disk → IsRead disk.history.reads (chunk_place s.store.descriptor.chunk i) bytes
  pub never : IsKnown disk → AgreesWith s.store (entry s.book) disk.history.reads → ⊥
