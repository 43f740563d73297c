-- What a run of `import STORE CHUNK` does.
-- The store was attached once; `start` and `found` of the disk's history are its moment then, and what reads gave.
use Rattle.std.specs.Prelude.{◌≡◌, ◌⊎◌, ℕ, ◌+◌, ◌<◌, ◌≤◌, min, Some, List, [], length}
use Rattle.pp_terms.specs.Count.{HasRisen}
use Rattle.pp_terms.specs.tree.Content.{IsContentSize}
use Rattle.pp_terms.specs.disk.Store.{header, Has, IsStoreOf, IsNoStore}
use Rattle.pp_terms.specs.disk.Disk.{DiskState, IsKnown, GainsName, Throughout, moment_of}
use Rattle.pp_terms.specs.disk.Untouched.{IsFreshlyAttached}
use Rattle.pp_terms.specs.command.Stream.{SourceState, SinkState, Gains}
use Rattle.pp_terms.specs.command.Report.{descriptor_line, disk_fault_line, source_fault_line, not_empty_line, content_size_line}
use Rattle.pp_terms.specs.disk.Sound.{IsSound, BeganSound}
use Rattle.pp_store.specs.Growing.{IsContent}
use Rattle.pp_store.specs.Imported.{imported}
use Rattle.pp_store.specs.Import.{most_bytes, TakesAtMost}
use Rattle.pp_store.specs.declared.importing.ImportFault.{ImportFault}
use Rattle.pp_store.specs.declared.importing.ImportFault.TheVariants as fault
use Rattle.pp_node.specs.Outside.{Outside}
use Rattle.pp_node.specs.Text.{Says}
use Rattle.pp_node.specs.Status.{number_of}
use Rattle.pp_node.specs.declared.status.Status.{Status}
use Rattle.pp_node.specs.declared.status.Status.TheVariants.{Done, DiskFault, SourceFault, SinkFault, NotEmpty, ContentSize}

-- The bytes that the source gave are a content, and each image that a crash may leave is their whole store.
pub record IsStored (chunk : ℕ) (source : SourceState) (disk disk' : DiskState) : Type 0 where
  pub fits : (content : List ℕ) → source.left ≡ Some content → IsContentSize chunk (length content)
  pub stored : IsKnown disk → (content : List ℕ) → source.left ≡ Some content
      → Throughout disk'.history (moment_of disk'.history) (IsStoreOf (imported content chunk) content)

-- Done: and the sink gained their descriptor's line.
pub record IsDone (chunk : ℕ) (old new : Outside) : Type 0 where
  pub import : IsStored chunk old.source old.disk new.disk
  pub printed : (content : List ℕ) → old.source.left ≡ Some content
      → Gains old.sink.taken (descriptor_line (imported content chunk)) new.sink.taken

-- The disk refused a call other than a reading.
pub record IsDiskFault (old new : Outside) : Type 0 where
  pub risen : HasRisen old.disk.faults new.disk.faults
  pub hard : HasRisen old.disk.hard new.disk.hard
  pub said : Says disk_fault_line old.sink new.sink

-- The source refused a read. Nothing was written that could be taken for a store.
pub record IsSourceFault (old new : Outside) : Type 0 where
  pub risen : HasRisen old.source.faults new.source.faults
  pub no_store : IsKnown old.disk → IsNoStore new.disk.history.reads
  pub said : Says source_fault_line old.sink new.sink

-- The sink refused the line; the store is whole.
pub record IsSinkFault (chunk : ℕ) (old new : Outside) : Type 0 where
  pub import : IsStored chunk old.source old.disk new.disk
  pub risen : HasRisen old.sink.faults new.sink.faults

-- The disk wasn't empty, and its length is said. Nothing was done on the disk since the attachment, and the source wasn't
-- read.
pub record IsNotEmpty (old new : Outside) : Type 0 where
  pub len : ℕ
  pub some : 0 < len
  pub counted : IsKnown old.disk → len ≡ length new.disk.history.found
  pub unwritten : IsKnown old.disk → IsFreshlyAttached new.disk.history
  pub unread : new.source ≡ old.source
  pub said : Says (not_empty_line len) old.sink new.sink

-- The source gave nothing or more than 2 ^ 20 chunks: it is said how many bytes were read, 0 or those and a byte more.
-- Nothing was written that could be taken for a store.
pub record IsNoContent (chunk : ℕ) (old new : Outside) : Type 0 where
  pub count : ℕ
  pub either : (count ≡ 0) ⊎ (count ≡ most_bytes chunk + 1)
  pub counted : (content : List ℕ) → old.source.left ≡ Some content → count ≡ min (length content) (most_bytes chunk + 1)
  pub no_store : IsKnown old.disk → IsNoStore new.disk.history.reads
  pub said : Says (content_size_line count) old.sink new.sink

-- what is said of a fault, and the status that stands for it
abbrev pub Reports : ImportFault → Status → SinkState → SinkState → Type 0
Reports (fault.NotEmpty len) status old new = (status ≡ NotEmpty) × Says (not_empty_line len) old new
Reports (fault.ContentSize count) status old new = (status ≡ ContentSize) × Says (content_size_line count) old new
Reports fault.Source status old new = (status ≡ SourceFault) × Says source_fault_line old new
Reports fault.Disk status old new = (status ≡ DiskFault) × Says disk_fault_line old new

-- When each status comes, and what was said.
abbrev pub ImportsIn : Status → ℕ → Outside → Outside → Type 0
ImportsIn Done chunk old new = IsDone chunk old new
ImportsIn DiskFault chunk old new = IsDiskFault old new
ImportsIn SourceFault chunk old new = IsSourceFault old new
ImportsIn SinkFault chunk old new = IsSinkFault chunk old new
ImportsIn NotEmpty chunk old new = IsNotEmpty old new
ImportsIn ContentSize chunk old new = IsNoContent chunk old new
ImportsIn _ chunk old new = ⊥

-- What holds of a run whatever its status.
pub record IsImportRun (status : Status) (chunk : ℕ) (source source' : SourceState) (disk disk' : DiskState) : Type 0 where
  -- Each image since the first successful sync that begins with the content's header is its whole store.
  pub whole : IsKnown disk → (content : List ℕ) → source.left ≡ Some content
      → (moment : ℕ) → disk'.history.start < moment → moment ≤ moment_of disk'.history
      → Throughout disk'.history moment (λ image. Has 0 (header (imported content chunk)) image
      → IsStoreOf (imported content chunk) content image)
  -- Where every image was sound at the attachment, each is since.
  pub sound : IsKnown disk → (content : List ℕ) → source.left ≡ Some content → IsContent chunk content
      → BeganSound (imported content chunk) disk'.history → Throughout disk'.history disk'.history.start (IsSound (imported content chunk))
  -- While no sync succeeded, what reads give of a disk that was empty is no store.
  pub no_store : IsKnown disk → disk'.history.found ≡ [] → moment_of disk'.history ≡ disk'.history.start → IsNoStore disk'.history.reads
  -- A disk that wasn't empty is refused, unless its length couldn't be had. Nothing was done on it since the attachment, and
  -- the source isn't read.
  pub refused : IsKnown disk → 0 < length disk'.history.found → (status ≡ NotEmpty) ⊎ (status ≡ DiskFault)
  pub unwritten : IsKnown disk → 0 < length disk'.history.found → IsFreshlyAttached disk'.history
  pub unread : IsKnown disk → 0 < length disk'.history.found → source' ≡ source
  -- At most 2 ^ 20 chunks and a byte are read.
  pub takes : TakesAtMost (most_bytes chunk + 1) source source'

-- A run of `import STORE CHUNK`, by the number that it answers. The store was attached by its name.
pub record ImportEnds (result : ℕ) (store : List ℕ) (chunk : ℕ) (old new : Outside) : Type 0 where
  pub status : Status
  pub number : result ≡ number_of status
  pub ends : ImportsIn status chunk old new
  pub named : IsKnown old.disk → GainsName old.disk.history.names store new.disk.history.names
  pub run : IsImportRun status chunk old.source new.source old.disk new.disk
