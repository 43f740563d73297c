-- What a reading of chunks that follow one another answers.
use Rattle.std.specs.Prelude.{◌≡◌, ℕ, ◌+◌, ◌-◌, ◌*◌, ◌/◌, ◌<◌, min, Err, Option, Some, None, List, length, take, drop, slice_index}
use Rattle.sha2.specs.Sha256.{sha256}
use Rattle.pp_terms.specs.tree.Content.{chunk_length}
use Rattle.pp_terms.specs.tree.Book.{LookUp}
use Rattle.pp_terms.specs.format.Descriptor.{Descriptor, chunks_of}
use Rattle.pp_terms.specs.disk.Disk.{DiskState, IsRead}
use Rattle.pp_terms.specs.disk.Store.{chunk_place}
use Rattle.pp_store.specs.declared.reading.ReadFault.{ReadFault}
use Rattle.pp_store.specs.declared.runs.Run.{Run}
use Rattle.pp_store.specs.ReadChunk.{HasRead, IsRightChunk}

-- how many chunks from `first` on a buffer of so many bytes has room for and the content has
abbrev pub run_length : Descriptor → ℕ → ℕ → ℕ
run_length d first room = min (room / d.chunk) (chunks_of d - first)

-- The chunks from `first` on stand in the buffer one behind the other, so many of them, each as a reading of it alone has it.
abbrev pub AreRightChunks : Descriptor → ℕ → LookUp → DiskState → List ℕ → ℕ → Type 0
AreRightChunks d first book disk out count = (k : ℕ) → k < count
    → IsRightChunk d (first + k) book disk (drop (k * d.chunk) out) (chunk_length d.size d.chunk (first + k))

-- Why there are no more: these are all, or this came of the next one, which the buffer has room for.
abbrev pub HasEnded : Descriptor → ℕ → LookUp → DiskState → DiskState → List ℕ → ℕ → Option ReadFault → Type 0
HasEnded d first book disk disk' out count None = count ≡ run_length d first (length out)
HasEnded d first book disk disk' out count (Some fault) = (count < run_length d first (length out))
    × HasRead ⊥ d (first + count) book disk disk' (drop (count * d.chunk) out) (Err fault)

pub record HasRun (d : Descriptor) (first : ℕ) (book : LookUp) (disk disk' : DiskState) (out : List ℕ) (run : Run) : Type 0 where
  pub right : AreRightChunks d first book disk out run.count
  pub ends : HasEnded d first book disk disk' out run.count run.fault

-- what stands in the buffer as chunk first + k, behind k chunks
abbrev pub chunk_in : Descriptor → ℕ → List ℕ → ℕ → List ℕ
chunk_in d first out k = take (chunk_length d.size d.chunk (first + k)) (drop (k * d.chunk) out)

-- the first so many of them are what reads gave at their places
abbrev pub AreRead : Descriptor → ℕ → List ℕ → List ℕ → ℕ → Type 0
AreRead d first reads out count = (k : ℕ) → k < count → IsRead reads (chunk_place d.chunk (first + k)) (chunk_in d first out k)

-- The chunks at the front of so many slots stand one behind the other.
abbrev pub AreTogether : ℕ → ℕ → List ℕ → List ℕ → Type 0
AreTogether chunk count old new = (length new ≡ length old)
    × ((k j : ℕ) → k < count → j < chunk → slice_index new (k * chunk + j) ≡ slice_index old (k * (chunk + 65) + j))

-- the first so many of them have the digests of their leaves
abbrev pub AreLeaves : Descriptor → ℕ → LookUp → List ℕ → ℕ → Type 0
AreLeaves d first book out count = (k : ℕ) → k < count → book 0 (first + k) ≡ Some (sha256 (chunk_in d first out k))

-- The one behind `at` chunks is the first whose digest isn't its leaf's: both are named.
pub record IsFirstDamaged (d : Descriptor) (first : ℕ) (book : LookUp) (out : List ℕ) (count at : ℕ) (found kept : List ℕ) : Type 0 where
  pub among : at < count
  pub before : AreLeaves d first book out at
  pub kept_is : book 0 (first + at) ≡ Some kept
  pub found_is : found ≡ sha256 (chunk_in d first out at)
  pub differ : found ≡ kept → ⊥
