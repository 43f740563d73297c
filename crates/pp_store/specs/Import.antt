-- What an import does to a source and to a disk.
use Rattle.std.specs.Prelude.{◌≡◌, ◌⊎◌, ℕ, ◌+◌, ◌*◌, ◌^◌, ◌<◌, ◌≤◌, min, Some, Ok, Err, List, [], length, drop, Result}
use Rattle.pp_terms.specs.Count.{HasRisen}
use Rattle.pp_terms.specs.tree.Content.{IsContentSize}
use Rattle.pp_terms.specs.format.Descriptor.{Descriptor}
use Rattle.pp_terms.specs.disk.Store.{header, Has, IsStoreOf, IsNoStore}
use Rattle.pp_terms.specs.disk.Disk.{DiskState, History, IsKnown, Throughout, moment_of}
use Rattle.pp_terms.specs.command.Stream.{SourceState}
use Rattle.pp_store.specs.declared.importing.ImportFault.{ImportFault}
use Rattle.pp_store.specs.declared.importing.ImportFault.TheVariants.{NotEmpty, ContentSize, Source, Disk}
use Rattle.pp_store.specs.Keep.{KeepsDisk}
use Rattle.pp_store.specs.Behind.{IsBehind}
use Rattle.pp_store.specs.Imported.{imported}
use Rattle.pp_store.specs.Growing.{IsContent, IsPartial, IsWhole}
use Rattle.pp_store.specs.Sound.{StaysSound}
use Rattle.pp_store.specs.Front.{Leaves}

-- the greatest size of a content in bytes: 2 ^ 20 chunks
abbrev pub most_bytes : ℕ → ℕ
most_bytes chunk = 2 ^ 20 * chunk

-- a source gave at most so many bytes
abbrev pub TakesAtMost : ℕ → SourceState → SourceState → Type 0
TakesAtMost most old new =
    (content : List ℕ) → old.left ≡ Some content → ((n : ℕ) × (n ≤ most) × (new.left ≡ Some (drop n content)))

-- When each answer comes. The source and the disk are given as they were and as they are.
pub record IsImported (chunk : ℕ) (source : SourceState) (disk disk' : DiskState) (d : Descriptor) : Type 0 where
  pub empty : IsKnown disk → disk.history.reads ≡ []
  -- the descriptor is that of the bytes that the source gave
  pub described : (content : List ℕ) → source.left ≡ Some content → IsContentSize chunk (length content) × (d ≡ imported content chunk)
  -- and each image that a crash may leave is their store
  pub stored : IsKnown disk → (content : List ℕ) → source.left ≡ Some content
      → Throughout disk'.history (moment_of disk'.history) (IsStoreOf (imported content chunk) content)

pub record IsNotEmpty (len : ℕ) (source source' : SourceState) (disk disk' : DiskState) : Type 0 where
  pub some : 0 < len
  pub counted : IsKnown disk → len ≡ length disk.history.reads
  pub unread : source' ≡ source
  pub unwritten : disk'.history ≡ disk.history

-- No store was begun: what reads give is none, nor is any image that a crash since the first sync may leave.
pub record IsUnbegun (disk disk' : DiskState) : Type 0 where
  pub no_store : IsKnown disk → IsNoStore disk'.history.reads
  pub images : IsKnown disk → (moment : ℕ) → moment_of disk.history < moment → moment ≤ moment_of disk'.history
      → Throughout disk'.history moment IsNoStore

-- The content has no byte or more than 2 ^ 20 chunks.
pub record IsNoContent (chunk count : ℕ) (source : SourceState) (disk disk' : DiskState) : Type 0 where
  pub empty : IsKnown disk → disk.history.reads ≡ []
  pub either : (count ≡ 0) ⊎ (count ≡ most_bytes chunk + 1)
  pub counted : (content : List ℕ) → source.left ≡ Some content → count ≡ min (length content) (most_bytes chunk + 1)
  pub left : IsUnbegun disk disk'

pub record IsSourceFault (source source' : SourceState) (disk disk' : DiskState) : Type 0 where
  pub empty : IsKnown disk → disk.history.reads ≡ []
  pub risen : HasRisen source.faults source'.faults
  pub left : IsUnbegun disk disk'

pub record IsDiskFault (disk disk' : DiskState) : Type 0 where
  pub risen : HasRisen disk.faults disk'.faults
  pub hard : HasRisen disk.hard disk'.hard

abbrev pub HasAnswer : ℕ → SourceState → SourceState → DiskState → DiskState → Result Descriptor ImportFault → Type 0
HasAnswer chunk source source' disk disk' (Ok d) = IsImported chunk source disk disk' d
HasAnswer chunk source source' disk disk' (Err (NotEmpty len)) = IsNotEmpty len source source' disk disk'
HasAnswer chunk source source' disk disk' (Err (ContentSize count)) = IsNoContent chunk count source disk disk'
HasAnswer chunk source source' disk disk' (Err Source) = IsSourceFault source source' disk disk'
HasAnswer chunk source source' disk disk' (Err Disk) = IsDiskFault disk disk'

-- On a disk that isn't empty nothing is written, and the source isn't read.
pub record IsUntouched (source source' : SourceState) (disk disk' : DiskState) : Type 0 where
  pub unread : source' ≡ source
  pub unwritten : disk'.history ≡ disk.history

-- Each image that a crash since the first sync may leave, and that begins with the content's header, is its whole store.
abbrev pub LeavesWholeStores : ℕ → List ℕ → History → History → Type 0
LeavesWholeStores chunk content old new =
    (moment : ℕ) → moment_of old < moment → moment ≤ moment_of new
    → Throughout new moment (λ image. Has 0 (header (imported content chunk)) image → IsStoreOf (imported content chunk) content image)

-- An import to an empty disk, all in one.
pub record DoesImport (chunk : ℕ) (source source' : SourceState) (disk disk' : DiskState)
    (result : Result Descriptor ImportFault) : Type 0 where
  pub answer : HasAnswer chunk source source' disk disk' result
  pub whole : IsKnown disk → (content : List ℕ) → source.left ≡ Some content → LeavesWholeStores chunk content disk.history disk'.history
  pub sound : IsKnown disk → (content : List ℕ) → source.left ≡ Some content → IsContent chunk content
      → StaysSound (imported content chunk) disk.history disk'.history
  pub no_store : IsKnown disk → moment_of disk'.history ≡ moment_of disk.history → IsNoStore disk'.history.reads
  pub takes : TakesAtMost (most_bytes chunk + 1) source source'
  pub later : source.faults ≤ source'.faults
  pub keeps : KeepsDisk disk disk'

-- The fault of a source or of a disk, where it rose.
abbrev pub HasFault : ImportFault → SourceState → SourceState → DiskState → DiskState → Type 0
HasFault (NotEmpty len) source source' disk disk' = ⊥
HasFault (ContentSize count) source source' disk disk' = ⊥
HasFault Source source source' disk disk' = HasRisen source.faults source'.faults
HasFault Disk source source' disk disk' = IsDiskFault disk disk'

-- How a disk may be left once the chunks of a content of that size are stored: what was left to be written or its sync was
-- refused, or the descriptor's header was begun over the whole store.
pub data IsLeft (chunk size count : ℕ) (peaks : List (List ℕ)) (old : DiskState) : History → Type 0 where
  unfinished : (new : History) → IsBehind old.history new → IsLeft chunk size count peaks old new
  finished : (d : Descriptor) (walked new : History) → IsBehind old.history walked
      → ((content : List ℕ) → length content ≡ size → IsPartial chunk content count peaks old
      → (d ≡ imported content chunk) × IsWhole chunk content walked.reads)
      → Leaves (header d) walked new → IsLeft chunk size count peaks old new
