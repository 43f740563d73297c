-- The committed chunks of a store, as they are read straight into datagrams.
use Rattle.std.specs.Prelude.{◌≡◌, ℕ, ◌<◌, true, false, Ok, Err, Some, List, is_some, slice_index_or}
use Rattle.sha2.specs.Sha256.{sha256}
use Rattle.pp_terms.specs.Count.{HasRisen}
use Rattle.pp_terms.specs.tree.Content.{chunk_length}
use Rattle.pp_terms.specs.tree.Book.{LookUp}
use Rattle.pp_terms.specs.format.Descriptor.{chunks_of}
use Rattle.pp_terms.specs.disk.Disk.{DiskState, IsKnown, IsRead}
use Rattle.pp_terms.specs.disk.Store.{chunk_place}
use Rattle.pp_scan.specs.Look.{KeepsAll}
use Rattle.pp_scan.specs.Holding.{is_there}
use Rattle.pp_store.specs.Store.{StoreState}
use Rattle.pp_draft.specs.declared.chunk.Unread.TheVariants.{Absent, Disk, Damaged}
use Rattle.pp_draft.specs.Deliveries.{Answer}

-- The chunk is one of the content, the buffer has its length, and its leaf is in the book if it is committed.
pub record CanRead (s : StoreState) (book : LookUp) (i n : ℕ) : Type 0 where
  pub within : i < chunks_of s.descriptor
  pub whole : n ≡ chunk_length s.descriptor.size s.descriptor.chunk i
  pub leaf : slice_index_or s.committed i false ≡ true → is_some (book 0 i) ≡ true

-- The bytes stand at the chunk's place on a disk that tells all.
abbrev pub StoodAt : StoreState → ℕ → List ℕ → DiskState → Type 0
StoodAt s i bytes disk = IsKnown disk → IsRead disk.history.reads (chunk_place s.descriptor.chunk i) bytes

-- The bytes have the digest that the book has of the chunk.
pub record IsChunk (s : StoreState) (book : LookUp) (i : ℕ) (bytes : List ℕ) (disk : DiskState) : Type 0 where
  pub leaf : book 0 i ≡ Some (sha256 bytes)
  pub stood : StoodAt s i bytes disk

-- The bytes have another digest than the book has of the chunk.
pub record IsOther (s : StoreState) (book : LookUp) (i : ℕ) (bytes : List ℕ) (disk : DiskState) : Type 0 where
  pub kept : List ℕ
  pub leaf : book 0 i ≡ Some kept
  pub differ : sha256 bytes ≡ kept → ⊥
  pub stood : StoodAt s i bytes disk
  pub absent : IsKnown disk → is_there s.descriptor disk.history.reads book i ≡ false

-- When each answer comes.
abbrev pub Gives : StoreState → LookUp → ℕ → Answer → List ℕ → DiskState → DiskState → Type 0
Gives s book i (Ok unit) bytes old new = IsChunk s book i bytes old
Gives s book i (Err Absent) bytes old new = (slice_index_or s.committed i false ≡ false) × (new ≡ old)
Gives s book i (Err Disk) bytes old new = HasRisen old.faults new.faults
Gives s book i (Err Damaged) bytes old new = IsOther s book i bytes old

-- A reading gives such an answer, and the disk is as it was, but for the counts of faults.
pub record Reads (s : StoreState) (book : LookUp) (i : ℕ) (answer : Answer) (bytes : List ℕ) (old new : DiskState) : Type 0 where
  pub gives : Gives s book i answer bytes old new
  pub absent : slice_index_or s.committed i false ≡ false → answer ≡ Err Absent
  pub looks : KeepsAll old new
  pub hard : new.hard ≡ old.hard
