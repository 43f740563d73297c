-- What an upgrade of a store of version 1 does to its source, a disk and a book.
use Rattle.std.specs.Prelude.{◌≡◌, ◌⊎◌, ℕ, ◌+◌, ◌*◌, ◌^◌, ◌<◌, ◌≤◌, Bool, true, false, Option, Some, Ok, Err, List, [], length, drop, slice_index, slice_index_or, Result, IfOk, IfErr}
use Rattle.pp_terms.specs.Count.{HasRisen}
use Rattle.pp_terms.specs.tree.Book.{LookUp}
use Rattle.pp_terms.specs.format.Descriptor.{Descriptor, chunks_of, height_of}
use Rattle.pp_terms.specs.disk.Store.{header, chunk_place, gate_place, slot_size, file_size, Has, HasHeader}
use Rattle.pp_terms.specs.disk.Image.{holds, is_open}
use Rattle.pp_terms.specs.disk.Disk.{DiskState, History, IsKnown, Throughout, moment_of, written}
use Rattle.pp_terms.specs.command.Stream.{SourceState}
use Rattle.pp_scan.specs.Header.{IsDifference}
use Rattle.pp_scan.specs.Look.{synced}
use Rattle.pp_scan.specs.Layers.{HasKnown}
use Rattle.pp_store.specs.declared.upgrading.UpgradeFault.{UpgradeFault}
use Rattle.pp_store.specs.declared.upgrading.UpgradeFault.TheVariants.{NotEmpty, NotAStore, Source, Disk, Memory}
use Rattle.pp_store.specs.Behind.{IsBehind}
use Rattle.pp_store.specs.Front.{Leaves}
use Rattle.pp_store.specs.Gates.{gates_opened}
use Rattle.pp_store.specs.Import.{IsUnbegun, IsNotEmpty, TakesAtMost}
use Rattle.pp_store.specs.Keep.{kept, KeepsDisk}
use Rattle.pp_store.specs.Old.{old_header, HasOldHeader, old_slot_size, old_size, old_known, old_holds, old_file}
use Rattle.pp_store.specs.Sound.{StaysSound}

-- The image is the store of an old file: it begins with the header and is as long as the store, and it stands for exactly
-- the chunks that the old file holds, whose gates are open.
pub record IsUpgraded (d : Descriptor) (old image : List ℕ) : Type 0 where
  pub begins : Has 0 (header d) image
  pub size : length image ≡ file_size d
  pub opened : (i : ℕ) → i < chunks_of d → is_open d image i ≡ old_holds d old i
  pub held : (i : ℕ) → i < chunks_of d → old_holds d old i ≡ true → holds d image i ≡ true

-- Each image that a crash since the first sync may leave, and that begins with the header, zeros past its end, is it.
abbrev pub LeavesUpgraded : Descriptor → List ℕ → History → History → Type 0
LeavesUpgraded d bytes old new =
    (moment : ℕ) → moment_of old < moment → moment ≤ moment_of new
    → Throughout new moment (λ image. HasHeader d image → IsUpgraded d (old_file d bytes) image)

-- ---- when each answer comes

-- The set is that of the chunks which the old file holds, and the book has exactly the nodes that are known in it.
pub record IsTaken (d : Descriptor) (bytes : List ℕ) (book : LookUp) (set : List Bool) : Type 0 where
  pub held : (i : ℕ) → i < chunks_of d → slice_index_or set i false ≡ old_holds d (old_file d bytes) i
  pub known : (k j : ℕ) → book k j ≡ old_known d (old_file d bytes) k j

-- Done: and each image that a crash may leave is the store of the old file.
pub record IsDone (d : Descriptor) (source : SourceState) (disk disk' : DiskState) (book : LookUp) (set : List Bool) : Type 0 where
  pub empty : IsKnown disk → disk.history.reads ≡ []
  pub begins : (bytes : List ℕ) → source.left ≡ Some bytes → HasOldHeader d bytes
  pub count : length set ≡ chunks_of d
  pub taken : IsKnown disk → (bytes : List ℕ) → source.left ≡ Some bytes → IsTaken d bytes book set
  pub stored : IsKnown disk → (bytes : List ℕ) → source.left ≡ Some bytes
      → Throughout disk'.history (moment_of disk'.history) (IsUpgraded d (old_file d bytes))

-- The source's first 64 bytes, zeros past its end, aren't the header of version 1: the first that differs is named.
pub record IsOtherHeader (d : Descriptor) (at found want : ℕ) (source : SourceState) : Type 0 where
  pub within : at < 64
  pub differ : found ≡ want → ⊥
  pub wanted : want ≡ slice_index (old_header d) at
  pub first : (bytes : List ℕ) → source.left ≡ Some bytes → IsDifference bytes (old_header d) at found want

-- Nothing was done on the disk, which was empty.
pub record IsNoOldStore (d : Descriptor) (at found want : ℕ) (source : SourceState) (disk disk' : DiskState) : Type 0 where
  pub other : IsOtherHeader d at found want source
  pub empty : IsKnown disk → disk.history.reads ≡ []
  pub unwritten : disk'.history ≡ disk.history

pub record IsSourceFault (source source' : SourceState) (disk disk' : DiskState) : Type 0 where
  pub empty : IsKnown disk → disk.history.reads ≡ []
  pub risen : HasRisen source.faults source'.faults
  pub left : IsUnbegun disk disk'

pub record IsOutOfMemory (disk disk' : DiskState) : Type 0 where
  pub empty : IsKnown disk → disk.history.reads ≡ []
  pub left : IsUnbegun disk disk'

abbrev pub HasUpgraded : Descriptor → SourceState → SourceState → DiskState → DiskState → LookUp → Result (List Bool) UpgradeFault → Type 0
HasUpgraded d source source' disk disk' book (Ok set) = IsDone d source disk disk' book set
HasUpgraded d source source' disk disk' book (Err (NotEmpty len)) = IsNotEmpty len source source' disk disk'
HasUpgraded d source source' disk disk' book (Err (NotAStore at found want)) = IsNoOldStore d at found want source disk disk'
HasUpgraded d source source' disk disk' book (Err Source) = IsSourceFault source source' disk disk'
HasUpgraded d source source' disk disk' book (Err Disk) = HasRisen disk.faults disk'.faults
HasUpgraded d source source' disk disk' book (Err Memory) = IsOutOfMemory disk disk'

-- Nothing was done on the disk, unless the source began with the header of version 1.
abbrev pub IsBegun : Descriptor → SourceState → DiskState → DiskState → Type 0
IsBegun d source disk disk' = (disk'.history ≡ disk.history) ⊎ ((bytes : List ℕ) → source.left ≡ Some bytes → HasOldHeader d bytes)

-- a fault once the header was read
abbrev pub HasSlotsFault : UpgradeFault → SourceState → SourceState → DiskState → DiskState → Type 0
HasSlotsFault Source source source' disk disk' = HasRisen source.faults source'.faults × IsUnbegun disk disk'
HasSlotsFault Disk source source' disk disk' = HasRisen disk.faults disk'.faults
HasSlotsFault Memory source source' disk disk' = IsUnbegun disk disk'
HasSlotsFault _ source source' disk disk' = ⊥

-- An upgrade to an empty disk, all in one.
pub record DoesUpgrade (d : Descriptor) (source source' : SourceState) (disk disk' : DiskState) (book : LookUp)
    (result : Result (List Bool) UpgradeFault) : Type 0 where
  pub answer : HasUpgraded d source source' disk disk' book result
  pub whole : IsKnown disk → (bytes : List ℕ) → source.left ≡ Some bytes → LeavesUpgraded d bytes disk.history disk'.history
  pub sound : IsKnown disk → StaysSound d disk.history disk'.history
  pub begun : IsBegun d source disk disk'
  pub takes : TakesAtMost (old_size d) source source'
  pub later : source.faults ≤ source'.faults
  pub keeps : KeepsDisk disk disk'

-- the bytes of which the source gives the slots
abbrev pub IsFileOf : Descriptor → Option (List ℕ) → List ℕ → Type 0
IsFileOf d left bytes = HasOldHeader d bytes × (left ≡ Some (drop 64 bytes))

-- What is done once the header was read: whatever file's slots the source gives.
pub record DoesUpgradeSlots (d : Descriptor) (source source' : SourceState) (disk disk' : DiskState) (book : LookUp)
    (result : Result (List Bool) UpgradeFault) : Type 0 where
  pub done : IfOk result (λ set. (length set ≡ chunks_of d) × (IsKnown disk → (bytes : List ℕ) → IsFileOf d source.left bytes
      → IsTaken d bytes book set × Throughout disk'.history (moment_of disk'.history) (IsUpgraded d (old_file d bytes))))
  pub fault : IfErr result (λ fault. HasSlotsFault fault source source' disk disk')
  pub whole : IsKnown disk → (bytes : List ℕ) → IsFileOf d source.left bytes → LeavesUpgraded d bytes disk.history disk'.history
  pub sound : IsKnown disk → StaysSound d disk.history disk'.history
  pub takes : TakesAtMost (2 ^ height_of d * old_slot_size d.chunk) source source'
  pub later : source.faults ≤ source'.faults
  pub keeps : KeepsDisk disk disk'

-- a fault while the header is read
abbrev pub HasHeaderFault : Descriptor → SourceState → SourceState → UpgradeFault → Type 0
HasHeaderFault d source source' (NotAStore at found want) = IsOtherHeader d at found want source
HasHeaderFault d source source' Source = HasRisen source.faults source'.faults
HasHeaderFault d source source' _ = ⊥

-- ---- what is copied

-- The slots of an old file, of which the source was to give these bytes next, stand in the file, each with a closed gate.
pub record IsCopied (d : Descriptor) (left : Option (List ℕ)) (reads : List ℕ) : Type 0 where
  pub size : length reads ≤ file_size d
  pub gates : (i : ℕ) → slice_index reads (gate_place d.chunk i) ≡ 0
  pub bytes : (told : List ℕ) → left ≡ Some told → (i r : ℕ) → i < 2 ^ height_of d → r < old_slot_size d.chunk
      → slice_index reads (chunk_place d.chunk i + r) ≡ slice_index told (i * old_slot_size d.chunk + r)

-- One slot was written, and the source gave its bytes, where it had so many.
pub record CopiesSlot (chunk slot : ℕ) (more : Bool) (source source' : Option (List ℕ)) (reads reads' : List ℕ) : Type 0 where
  pub bytes : List ℕ
  pub size : length bytes ≡ slot_size chunk
  pub wrote : reads' ≡ written reads (chunk_place chunk slot) bytes
  pub closed : slice_index bytes (old_slot_size chunk) ≡ 0
  pub given : (told : List ℕ) → source ≡ Some told → (r : ℕ) → r < old_slot_size chunk → slice_index bytes r ≡ slice_index told r
  pub left : (told : List ℕ) → source ≡ Some told → source' ≡ Some (drop (old_slot_size chunk) told)
  pub ended : (told : List ℕ) → source ≡ Some told → more ≡ false → length told < old_slot_size chunk

-- another byte was found than was wanted
abbrev pub IsOtherByte : List ℕ → List ℕ → UpgradeFault → Type 0
IsOtherByte bytes wanted (NotAStore at found want) = IsDifference bytes wanted at found want
IsOtherByte bytes wanted _ = ⊥

-- a fault while slots are copied
abbrev pub HasFault : UpgradeFault → SourceState → SourceState → DiskState → DiskState → Type 0
HasFault Source source source' disk disk' = HasRisen source.faults source'.faults
HasFault Disk source source' disk disk' = HasRisen disk.faults disk'.faults
HasFault _ source source' disk disk' = ⊥

-- ---- what is done behind it

-- The gates of a set were opened, and then the header was kept.
abbrev pub finished : Descriptor → List Bool → History → History
finished d set h = kept (synced (gates_opened d set h)) 0 (header d)

-- How a disk may be left by that: a gate was refused, or the header was begun.
pub data IsFinishing (d : Descriptor) (set : List Bool) (old : History) : History → Type 0 where
  opening : (new : History) → IsBehind old new → IsFinishing d set old new
  heading : (new : History) → IsBehind old (gates_opened d set old) → Leaves (header d) (gates_opened d set old) new
      → IsFinishing d set old new

-- the set is that of the chunks which a file holds
abbrev pub IsHeldSet : Descriptor → List ℕ → List Bool → Type 0
IsHeldSet d reads set = (i : ℕ) → i < chunks_of d → slice_index_or set i false ≡ holds d reads i

-- How a disk may be left once a file is verified: no gate was opened, or the gates of what it holds were begun to be.
pub data IsSealing (d : Descriptor) (old : History) : History → Type 0 where
  verified : (new : History) → new ≡ old → IsSealing d old new
  finishing : (set : List Bool) (new : History) → length set ≡ chunks_of d → IsHeldSet d old.reads set
      → IsFinishing d set old new → IsSealing d old new

-- A file was made a store, from the history on with which it was verified.
pub record IsSealed (d : Descriptor) (start : History) (old new : DiskState) (book : LookUp) (set : List Bool) : Type 0 where
  pub count : length set ≡ chunks_of d
  pub held : IsKnown old → IsHeldSet d start.reads set
  pub known : IsKnown old → HasKnown d start.reads book
  pub done : IsKnown old → new.history ≡ finished d set start

abbrev pub HasSealed : Descriptor → History → DiskState → DiskState → LookUp → Result (List Bool) UpgradeFault → Type 0
HasSealed d start disk disk' book (Ok set) = IsSealed d start disk disk' book set
HasSealed d start disk disk' book (Err Disk) = HasRisen disk.faults disk'.faults
HasSealed d start disk disk' book (Err Memory) = IsKnown disk → disk'.history ≡ start
HasSealed d start disk disk' book (Err _) = ⊥
