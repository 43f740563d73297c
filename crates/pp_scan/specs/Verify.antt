-- What hashing a file's chunks finds.
use Rattle.std.specs.Prelude.{◌≡◌, ℕ, ◌<◌, Bool, false, true, Ok, Err, List, length, slice_index_or, Result, is_some}
use Rattle.pp_terms.specs.Count.{HasRisen}
use Rattle.pp_terms.specs.tree.Book.{LookUp, has_peaks}
use Rattle.pp_terms.specs.format.Descriptor.{Descriptor, chunks_of}
use Rattle.pp_terms.specs.disk.Image.{holds}
use Rattle.pp_terms.specs.disk.Disk.{DiskState, IsKnown}
use Rattle.pp_scan.specs.declared.scanning.ScanFault.{ScanFault}
use Rattle.pp_scan.specs.declared.scanning.ScanFault.TheVariants.{NotAStore, Disk, Memory}
use Rattle.pp_scan.specs.Layers.{HasKnown}

-- The set that was found: each chunk in it has its leaf and all peaks in the book. Over a disk that is honest and tells it
-- is exactly the chunks that what reads give holds, whatever their gates, and the book has exactly the known nodes.
pub record IsVerified (d : Descriptor) (disk : DiskState) (book : LookUp) (set : List Bool) : Type 0 where
  pub count : length set ≡ chunks_of d
  pub leaf : (i : ℕ) → slice_index_or set i false ≡ true → is_some (book 0 i) ≡ true
  pub peaks : (i : ℕ) → slice_index_or set i false ≡ true → has_peaks book (chunks_of d) ≡ true
  pub held : IsKnown disk → (i : ℕ) → i < chunks_of d → slice_index_or set i false ≡ holds d disk.history.reads i
  pub known : IsKnown disk → HasKnown d disk.history.reads book

-- When each answer comes; `unread` is what is said where there was no memory.
abbrev pub HasVerified : Type 0 → Descriptor → DiskState → DiskState → LookUp → Result (List Bool) ScanFault → Type 0
HasVerified unread d disk disk' book (Ok set) = IsVerified d disk book set
HasVerified unread d disk disk' book (Err (NotAStore at found want)) = ⊥
HasVerified unread d disk disk' book (Err Disk) = HasRisen disk.faults disk'.faults
HasVerified unread d disk disk' book (Err Memory) = unread
