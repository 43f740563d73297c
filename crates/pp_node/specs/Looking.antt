-- What a command finds that attaches a store and scans it. `found` of the disk's history is what reads gave when the store
-- was attached.
use Rattle.std.specs.Prelude.{◌≡◌, ◌⊎◌, ℕ, ◌<◌, ◌≤◌, Bool, false, true, Ok, Err, List, [], length, slice_index, slice_index_or, Result, is_some}
use Rattle.pp_terms.specs.Count.{HasRisen}
use Rattle.pp_terms.specs.tree.Book.{LookUp}
use Rattle.pp_terms.specs.format.Descriptor.{Descriptor, chunks_of}
use Rattle.pp_terms.specs.disk.Store.{header, HasHeader}
use Rattle.pp_terms.specs.disk.Image.{is_found}
use Rattle.pp_terms.specs.disk.Disk.{DiskState, History, IsKnown, Throughout}
use Rattle.pp_terms.specs.disk.Sound.{IsSound, BeganSound}
use Rattle.pp_terms.specs.disk.Untouched.{IsFreshlyAttached, IsSyncedAtMost}
use Rattle.pp_traffic.specs.Keeping.{StoodThroughout, StandsSince}
use Rattle.pp_scan.specs.declared.scanning.ScanFault.{ScanFault}
use Rattle.pp_scan.specs.declared.scanning.ScanFault.TheVariants.{NotAStore, Disk, Memory}
use Rattle.pp_scan.specs.Header.{IsDifference}
use Rattle.pp_scan.specs.Holding.{is_there}

-- The file is empty or begins with the descriptor's header, zeros past its end.
abbrev pub IsOf : Descriptor → List ℕ → Type 0
IsOf d found = (found ≡ []) ⊎ HasHeader d found

-- What stood in every image at the attachment stands in every image since; and where every image was sound then, each is
-- since.
pub record Lasts (d : Descriptor) (h : History) : Type 0 where
  pub stood : (i : ℕ) → StoodThroughout d h i → StandsSince d h h.start i
  pub sound : BeganSound d h → Throughout h h.start (IsSound d)

-- The chunks that were found at the attachment, and whose leaves are in the book. Each is there where every image was sound.
pub record IsFound (d : Descriptor) (disk disk' : DiskState) (book : LookUp) (set : List Bool) : Type 0 where
  pub count : length set ≡ chunks_of d
  pub leaf : (i : ℕ) → slice_index_or set i false ≡ true → is_some (book 0 i) ≡ true
  pub found : IsKnown disk → (i : ℕ) → i < chunks_of d → slice_index_or set i false ≡ is_found d disk'.history.found i
  pub there : IsKnown disk → BeganSound d disk'.history → (i : ℕ) → slice_index_or set i false ≡ true
      → is_there d disk'.history.reads book i ≡ true
  pub begins : IsKnown disk → IsOf d disk'.history.found

-- The file isn't empty, and this is its first byte that differs from the header. The byte that was wanted is the header's
-- over every disk. Nothing was done on the disk since the attachment.
pub record IsOther (d : Descriptor) (at found want : ℕ) (disk disk' : DiskState) : Type 0 where
  pub within : at < 64
  pub differ : found ≡ want → ⊥
  pub wanted : want ≡ slice_index (header d) at
  pub some : IsKnown disk → 0 < length disk'.history.found
  pub first : IsKnown disk → IsDifference disk'.history.found (header d) at found want
  pub untouched : IsKnown disk → IsFreshlyAttached disk'.history

-- The disk refused a call. The file was empty or begins with the header, or nothing was done on the disk since the attachment.
pub record IsRefused (d : Descriptor) (disk disk' : DiskState) : Type 0 where
  pub risen : HasRisen disk.faults disk'.faults
  pub compared : IsKnown disk → IsOf d disk'.history.found ⊎ IsFreshlyAttached disk'.history

abbrev pub HasLooked : Descriptor → DiskState → DiskState → LookUp → Result (List Bool) ScanFault → Type 0
HasLooked d disk disk' book (Ok set) = IsFound d disk disk' book set
HasLooked d disk disk' book (Err (NotAStore at found want)) = IsOther d at found want disk disk'
HasLooked d disk disk' book (Err Disk) = IsRefused d disk disk'
HasLooked d disk disk' book (Err Memory) = IsKnown disk → IsOf d disk'.history.found

-- Nothing was written since the store was attached, and at most one sync was done.
pub record IsUnwritten (disk disk' : DiskState) : Type 0 where
  pub tells : disk'.tells ≡ disk.tells
  pub honest : disk'.honest ≡ disk.honest
  pub synced : IsKnown disk → IsSyncedAtMost disk'.history
  pub faults : disk.faults ≤ disk'.faults
