-- What a reading of a chunk answers.
use Rattle.std.specs.Prelude.{◌≡◌, ℕ, Ok, Err, Some, List, take, Result}
use Rattle.sha2.specs.Sha256.{sha256}
use Rattle.pp_terms.specs.Count.{HasRisen}
use Rattle.pp_terms.specs.tree.Content.{chunk_length}
use Rattle.pp_terms.specs.tree.Book.{LookUp}
use Rattle.pp_terms.specs.format.Descriptor.{Descriptor}
use Rattle.pp_terms.specs.disk.Disk.{DiskState, IsKnown, IsRead}
use Rattle.pp_terms.specs.disk.Store.{chunk_place}
use Rattle.pp_store.specs.declared.reading.ReadFault.{ReadFault}
use Rattle.pp_store.specs.declared.reading.ReadFault.TheVariants.{Disk, Absent, Damaged}

-- The chunk's bytes stand in front of the buffer, and have the digest of its leaf in the book.
pub record IsRightChunk (d : Descriptor) (i : ℕ) (book : LookUp) (disk : DiskState) (out : List ℕ) (count : ℕ) : Type 0 where
  pub count_is : count ≡ chunk_length d.size d.chunk i
  pub leaf_is : book 0 i ≡ Some (sha256 (take count out))
  pub read : IsKnown disk → IsRead disk.history.reads (chunk_place d.chunk i) (take count out)

-- What was read has another digest than the book's: both are named.
pub record IsDamaged (d : Descriptor) (i : ℕ) (book : LookUp) (disk : DiskState) (out found kept : List ℕ) : Type 0 where
  pub kept_is : book 0 i ≡ Some kept
  pub found_is : found ≡ sha256 (take (chunk_length d.size d.chunk i) out)
  pub differ : found ≡ kept → ⊥
  pub read : IsKnown disk → IsRead disk.history.reads (chunk_place d.chunk i) (take (chunk_length d.size d.chunk i) out)

-- When each answer comes; `absent` is what is said where the chunk isn't read at all.
abbrev pub HasRead : Type 0 → Descriptor → ℕ → LookUp → DiskState → DiskState → List ℕ → Result ℕ ReadFault → Type 0
HasRead absent d i book disk disk' out (Ok count) = IsRightChunk d i book disk out count
HasRead absent d i book disk disk' out (Err Disk) = HasRisen disk.faults disk'.faults
HasRead absent d i book disk disk' out (Err Absent) = absent
HasRead absent d i book disk disk' out (Err (Damaged found kept)) = IsDamaged d i book disk out found kept
