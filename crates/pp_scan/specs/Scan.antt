-- What a scan of a store finds.
use Rattle.std.specs.Prelude.{◌≡◌, ◌⊎◌, ℕ, ◌<◌, Bool, false, true, Ok, Err, List, [], length, slice_index, slice_index_or, Result, is_some}
use Rattle.pp_terms.specs.Count.{HasRisen}
use Rattle.pp_terms.specs.tree.Book.{LookUp, has_peaks}
use Rattle.pp_terms.specs.format.Descriptor.{Descriptor, chunks_of}
use Rattle.pp_terms.specs.disk.Store.{header, HasHeader}
use Rattle.pp_terms.specs.disk.Image.{is_found}
use Rattle.pp_terms.specs.disk.Disk.{DiskState, IsKnown}
use Rattle.pp_scan.specs.declared.scanning.ScanFault.{ScanFault}
use Rattle.pp_scan.specs.declared.scanning.ScanFault.TheVariants.{NotAStore, Disk, Memory}
use Rattle.pp_scan.specs.Header.{IsDifference}
use Rattle.pp_scan.specs.Layers.{HasKnown}

-- The set that was found: each chunk in it has its leaf and all peaks in the book. Over a disk that is honest and tells it
-- is exactly the chunks that an opening finds in what reads give, and the book has exactly the known nodes.
pub record IsScanned (d : Descriptor) (disk : DiskState) (book : LookUp) (set : List Bool) : Type 0 where
  pub count : length set ≡ chunks_of d
  pub leaf : (i : ℕ) → slice_index_or set i false ≡ true → is_some (book 0 i) ≡ true
  pub peaks : (i : ℕ) → slice_index_or set i false ≡ true → has_peaks book (chunks_of d) ≡ true
  pub begins : IsKnown disk → (disk.history.reads ≡ []) ⊎ HasHeader d disk.history.reads
  pub found : IsKnown disk → (i : ℕ) → i < chunks_of d → slice_index_or set i false ≡ is_found d disk.history.reads i
  pub known : IsKnown disk → HasKnown d disk.history.reads book

-- The file isn't empty and is no store of the descriptor's: its first byte that differs from the header is named, as it is,
-- beside the byte that was wanted, which over every disk is the header's.
pub record IsOther (d : Descriptor) (at found want : ℕ) (disk : DiskState) : Type 0 where
  pub within : at < 64
  pub differ : found ≡ want → ⊥
  pub wanted : want ≡ slice_index (header d) at
  pub some : IsKnown disk → 0 < length disk.history.reads
  pub first : IsKnown disk → IsDifference disk.history.reads (header d) at found want

-- When each answer comes; `unread` is what is said where there was no memory.
abbrev pub HasFound : Type 0 → Descriptor → DiskState → DiskState → LookUp → Result (List Bool) ScanFault → Type 0
HasFound unread d disk disk' book (Ok set) = IsScanned d disk book set
HasFound unread d disk disk' book (Err (NotAStore at found want)) = IsOther d at found want disk
HasFound unread d disk disk' book (Err Disk) = HasRisen disk.faults disk'.faults
HasFound unread d disk disk' book (Err Memory) = unread

-- What was read says that the file is a store, or that it is none.
abbrev pub OnRead : Result (List Bool) ScanFault → Type 0 → Type 0
OnRead (Ok set) P = P
OnRead (Err (NotAStore at found want)) P = P
OnRead (Err Disk) P = Unit {0}
OnRead (Err Memory) P = Unit {0}
