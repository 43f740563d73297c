-- What a run of `upgrade STORE DESCRIPTOR` does. The store was attached once; `start` and `found` of the disk's history are
-- its moment then, and what reads gave.
use Rattle.std.specs.Prelude.{◌≡◌, ◌⊎◌, ℕ, ◌<◌, ◌≤◌, Bool, false, Some, List, [], length, slice_index_or}
use Rattle.pp_terms.specs.Count.{HasRisen}
use Rattle.pp_terms.specs.format.Descriptor.{Descriptor, chunks_of}
use Rattle.pp_terms.specs.disk.Store.{HasHeader, IsNoStore}
use Rattle.pp_terms.specs.disk.Sound.{IsSound, BeganSound}
use Rattle.pp_terms.specs.disk.Disk.{DiskState, IsKnown, GainsName, Throughout, moment_of}
use Rattle.pp_terms.specs.disk.Untouched.{IsFreshlyAttached}
use Rattle.pp_terms.specs.command.Stream.{SourceState, SinkState}
use Rattle.pp_terms.specs.command.Report.{disk_fault_line, source_fault_line, not_empty_line, not_a_store_line, SaysHeld}
use Rattle.pp_tree.specs.Book.{IsBookOf}
use Rattle.pp_store.specs.Import.{TakesAtMost}
use Rattle.pp_store.specs.Old.{HasOldHeader, old_size, old_holds, old_file}
use Rattle.pp_store.specs.Upgrade.{IsUpgraded, IsOtherHeader}
use Rattle.pp_store.specs.declared.upgrading.UpgradeFault.{UpgradeFault}
use Rattle.pp_store.specs.declared.upgrading.UpgradeFault.TheVariants as fault
use Rattle.pp_node.specs.Outside.{Outside}
use Rattle.pp_node.specs.Text.{Says}
use Rattle.pp_node.specs.Run.{IsSourceFault, IsNotEmpty}
use Rattle.pp_node.specs.Status.{number_of}
use Rattle.pp_node.specs.declared.status.Status.{Status}
use Rattle.pp_node.specs.declared.status.Status.TheVariants.{Done, NotAStore, DiskFault, SourceFault, SinkFault, NotEmpty, Memory}

-- The source gave a file of version 1, the set is that of the chunks which this holds, and each image that a crash may leave is
-- its store.
pub record IsStored (d : Descriptor) (source : SourceState) (disk disk' : DiskState) (set : List Bool) : Type 0 where
  pub begins : (bytes : List ℕ) → source.left ≡ Some bytes → HasOldHeader d bytes
  pub count : length set ≡ chunks_of d
  pub held : IsKnown disk → (bytes : List ℕ) → source.left ≡ Some bytes
      → (i : ℕ) → i < chunks_of d → slice_index_or set i false ≡ old_holds d (old_file d bytes) i
  pub stored : IsKnown disk → (bytes : List ℕ) → source.left ≡ Some bytes
      → Throughout disk'.history (moment_of disk'.history) (IsUpgraded d (old_file d bytes))

-- Done: and the set was printed.
pub record IsUpgradedRun (d : Descriptor) (old new : Outside) : Type 0 where
  pub set : List Bool
  pub stored : IsStored d old.source old.disk new.disk set
  pub said : SaysHeld set old.sink new.sink

-- The sink refused the line; the store is whole.
pub record IsSinkFault (d : Descriptor) (old new : Outside) : Type 0 where
  pub set : List Bool
  pub stored : IsStored d old.source old.disk new.disk set
  pub risen : HasRisen old.sink.faults new.sink.faults

-- The source doesn't begin with the header of version 1: its first byte that differs is named. The disk was empty, and nothing
-- was done on it since the attachment.
pub record IsOther (d : Descriptor) (old new : Outside) : Type 0 where
  pub at : ℕ
  pub found : ℕ
  pub want : ℕ
  pub other : IsOtherHeader d at found want old.source
  pub empty : IsKnown old.disk → new.disk.history.found ≡ []
  pub unwritten : IsKnown old.disk → IsFreshlyAttached new.disk.history
  pub said : Says (not_a_store_line at found want) old.sink new.sink

-- The disk refused a call.
pub record IsDiskFault (old new : Outside) : Type 0 where
  pub risen : HasRisen old.disk.faults new.disk.faults
  pub said : Says disk_fault_line old.sink new.sink

-- There was no memory. Nothing was written that could be taken for a store, and nothing is said.
pub record IsOutOfMemory (old new : Outside) : Type 0 where
  pub no_store : IsKnown old.disk → IsNoStore new.disk.history.reads
  pub silent : new.sink ≡ old.sink

-- When each status comes, and what was said.
abbrev pub UpgradesIn : Status → Descriptor → Outside → Outside → Type 0
UpgradesIn Done d old new = IsUpgradedRun d old new
UpgradesIn NotAStore d old new = IsOther d old new
UpgradesIn DiskFault d old new = IsDiskFault old new
UpgradesIn SourceFault d old new = IsSourceFault old new
UpgradesIn SinkFault d old new = IsSinkFault d old new
UpgradesIn NotEmpty d old new = IsNotEmpty old new
UpgradesIn Memory d old new = IsOutOfMemory old new
UpgradesIn _ d old new = ⊥

-- what is said of a fault, and the status that stands for it
abbrev pub ReportsUpgrade : UpgradeFault → Status → SinkState → SinkState → Type 0
ReportsUpgrade (fault.NotEmpty len) status old new = (status ≡ NotEmpty) × Says (not_empty_line len) old new
ReportsUpgrade (fault.NotAStore at found want) status old new = (status ≡ NotAStore) × Says (not_a_store_line at found want) old new
ReportsUpgrade fault.Source status old new = (status ≡ SourceFault) × Says source_fault_line old new
ReportsUpgrade fault.Disk status old new = (status ≡ DiskFault) × Says disk_fault_line old new
ReportsUpgrade fault.Memory status old new = (status ≡ Memory) × (new ≡ old)

-- What holds of a run whatever its status.
pub record IsUpgradeRun (status : Status) (d : Descriptor) (source source' : SourceState) (disk disk' : DiskState) : Type 0 where
  -- Each image since the first successful sync of a disk that was empty, if it begins with the header, zeros past its end, is
  -- the store of the old file.
  pub whole : IsKnown disk → disk'.history.found ≡ [] → (bytes : List ℕ) → source.left ≡ Some bytes
      → (moment : ℕ) → disk'.history.start < moment → moment ≤ moment_of disk'.history
      → Throughout disk'.history moment (λ image. HasHeader d image → IsUpgraded d (old_file d bytes) image)
  -- Where every image was sound at the attachment, each is since.
  pub sound : IsKnown disk → BeganSound d disk'.history → Throughout disk'.history disk'.history.start (IsSound d)
  -- Nothing was done on the disk since the attachment, unless the source begins with the header of version 1.
  pub begun : IsKnown disk → IsFreshlyAttached disk'.history ⊎ ((bytes : List ℕ) → source.left ≡ Some bytes → HasOldHeader d bytes)
  -- A disk that wasn't empty is refused, unless its length couldn't be had. Nothing was done on it since the attachment, and
  -- the source isn't read.
  pub refused : IsKnown disk → 0 < length disk'.history.found → (status ≡ NotEmpty) ⊎ (status ≡ DiskFault)
  pub unwritten : IsKnown disk → 0 < length disk'.history.found → IsFreshlyAttached disk'.history
  pub unread : IsKnown disk → 0 < length disk'.history.found → source' ≡ source
  -- No more is read than a file of version 1 may have.
  pub takes : TakesAtMost (old_size d) source source'

-- A run of `upgrade STORE DESCRIPTOR`, by the number that it answers. The store was attached by its name.
pub record UpgradeEnds (result : ℕ) (store : List ℕ) (d : Descriptor) (old new : Outside) : Type 0 where
  pub status : Status
  pub number : result ≡ number_of status
  pub ends : UpgradesIn status d old new
  pub named : IsKnown old.disk → GainsName old.disk.history.names store new.disk.history.names
  pub run : IsUpgradeRun status d old.source new.source old.disk new.disk
  pub rooted : (new.book ≡ old.book) ⊎ IsBookOf d new.book
