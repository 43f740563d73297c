-- What a run of `check STORE DESCRIPTOR` does.
use Rattle.std.specs.Prelude.{◌≡◌, ◌⊎◌, ℕ, ◌<◌, Bool, true, false, List, length, slice_index_or}
use Rattle.pp_terms.specs.Count.{HasRisen}
use Rattle.pp_terms.specs.format.Descriptor.{Descriptor, chunks_of}
use Rattle.pp_terms.specs.disk.Image.{is_found}
use Rattle.pp_terms.specs.disk.Disk.{IsKnown, GainsName}
use Rattle.pp_terms.specs.command.Stream.{SinkState}
use Rattle.pp_terms.specs.command.Report.{disk_fault_line, not_a_store_line, SaysHeld}
use Rattle.pp_tree.specs.Book.{IsBookOf}
use Rattle.pp_scan.specs.declared.scanning.ScanFault.{ScanFault}
use Rattle.pp_scan.specs.declared.scanning.ScanFault.TheVariants as fault
use Rattle.pp_node.specs.Looking.{IsOf, Lasts, IsUnwritten}
use Rattle.pp_node.specs.Outside.{Outside}
use Rattle.pp_node.specs.Faults.{Faults}
use Rattle.pp_node.specs.Text.{Says}
use Rattle.pp_node.specs.Status.{number_of}
use Rattle.pp_node.specs.declared.status.Status.{Status}
use Rattle.pp_node.specs.declared.status.Status.TheVariants.{Done, NotAStore, DiskFault, SinkFault, Memory}

-- Done: the set was printed. Over a disk that is honest and tells it is exactly the chunks that are found in what reads
-- gave when the store was attached.
pub record IsChecked (d : Descriptor) (old new : Outside) : Type 0 where
  pub set : List Bool
  pub count : length set ≡ chunks_of d
  pub found : IsKnown old.disk → (i : ℕ) → i < chunks_of d → slice_index_or set i false ≡ is_found d new.disk.history.found i
  pub begins : IsKnown old.disk → IsOf d new.disk.history.found
  pub said : SaysHeld set old.sink new.sink

pub record IsSinkFault (d : Descriptor) (old new : Outside) : Type 0 where
  pub begins : IsKnown old.disk → IsOf d new.disk.history.found
  pub risen : HasRisen old.sink.faults new.sink.faults

-- When each status comes, and what was said.
abbrev pub ChecksIn : Status → Descriptor → Outside → Outside → Type 0
ChecksIn Done d old new = IsChecked d old new
ChecksIn NotAStore d old new = Faults true NotAStore d old new
ChecksIn DiskFault d old new = Faults true DiskFault d old new
ChecksIn SinkFault d old new = IsSinkFault d old new
ChecksIn Memory d old new = Faults true Memory d old new
ChecksIn _ d old new = ⊥

-- what is said of a fault, and the status that stands for it
abbrev pub ReportsScan : ScanFault → Status → SinkState → SinkState → Type 0
ReportsScan (fault.NotAStore at found want) status old new = (status ≡ NotAStore) × Says (not_a_store_line at found want) old new
ReportsScan fault.Disk status old new = (status ≡ DiskFault) × Says disk_fault_line old new
ReportsScan fault.Memory status old new = (status ≡ Memory) × (new ≡ old)

-- A run of `check`, by the number that it answers. The store was attached by its name. Since then nothing was written to it,
-- with one sync at the most: what stood in every image goes on standing, and sound images stay sound. The source isn't read.
pub record CheckEnds (result : ℕ) (store : List ℕ) (d : Descriptor) (old new : Outside) : Type 0 where
  pub status : Status
  pub number : result ≡ number_of status
  pub ends : ChecksIn status d old new
  pub named : IsKnown old.disk → GainsName old.disk.history.names store new.disk.history.names
  pub unwritten : IsUnwritten old.disk new.disk
  pub lasts : IsKnown old.disk → Lasts d new.disk.history
  pub unread : new.source ≡ old.source
  pub rooted : (new.book ≡ old.book) ⊎ IsBookOf d new.book
