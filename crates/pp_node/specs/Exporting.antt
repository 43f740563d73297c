-- What a run of `export STORE DESCRIPTOR` does. `found` of the disk's history is what reads gave when the store was attached.
use Rattle.std.specs.Prelude.{◌≡◌, ◌⊎◌, ℕ, ◌+◌, ◌-◌, ◌*◌, ◌<◌, ◌≤◌, min, true, false, List, length, take, is_some, Option, Result, Some, None, Ok, Err}
use Rattle.pp_terms.specs.Count.{HasRisen}
use Rattle.pp_terms.specs.tree.Content.{chunk_of, chunk_length}
use Rattle.pp_terms.specs.tree.Book.{LookUp, IsRooted, IsBacked}
use Rattle.sha2.specs.Sha256.{sha256}
use Rattle.pp_terms.specs.disk.Sound.{BeganSound}
use Rattle.pp_terms.specs.format.Descriptor.{Descriptor, chunks_of}
use Rattle.pp_terms.specs.disk.Store.{chunk_place}
use Rattle.pp_terms.specs.disk.Image.{is_found}
use Rattle.pp_terms.specs.disk.Disk.{DiskState, IsKnown, GainsName, IsRead}
use Rattle.pp_terms.specs.command.Stream.{SinkState, Gains}
use Rattle.pp_tree.specs.Book.{entry, IsBookOf}
use Rattle.pp_scan.specs.declared.scanning.ScanFault.{ScanFault}
use Rattle.pp_scan.specs.declared.scanning.ScanFault.TheVariants as scans
use Rattle.pp_scan.specs.Holding.{is_there}
use Rattle.pp_store.specs.declared.reading.ReadFault.{ReadFault}
use Rattle.pp_store.specs.declared.reading.ReadFault.TheVariants as reads
use Rattle.pp_node.specs.Looking.{IsOf, Lasts, IsRefused, IsUnwritten}
use Rattle.pp_node.specs.Outside.{Outside}
use Rattle.pp_node.specs.Faults.{Faults}
use Rattle.pp_stream.specs.Pieces.{GainsPart}
use Rattle.pp_node.specs.Status.{number_of}
use Rattle.pp_node.specs.declared.exporting.PutFault.{PutFault}
use Rattle.pp_node.specs.declared.exporting.PutFault.TheVariants as puts
use Rattle.pp_node.specs.declared.status.Status.{Status}
use Rattle.pp_node.specs.declared.status.Status.TheVariants.{Done, NotAStore, Incomplete, DiskFault, SinkFault, Memory, Damaged}

-- Chunk i's bytes, backed by the book. Over a disk that is honest and tells they are what reads gave at the chunk's place.
pub record IsChunk (d : Descriptor) (disk disk' : DiskState) (book : LookUp) (i : ℕ) (bytes : List ℕ) : Type 0 where
  pub backed : IsBacked d book i bytes
  pub read : IsKnown disk → IsRead disk'.history.found (chunk_place d.chunk i) bytes

-- The first n chunks of a content, in order.
pub record AreChunks (d : Descriptor) (disk disk' : DiskState) (book : LookUp) (n : ℕ) (bytes : List ℕ) : Type 0 where
  pub within : n ≤ chunks_of d
  pub size : length bytes ≡ min (n * d.chunk) d.size
  pub each : (i : ℕ) → i < n → IsChunk d disk disk' book i (chunk_of bytes d.chunk i)

-- The sink gained the first n chunks and no more.
pub record HasPut (d : Descriptor) (old new : Outside) (n : ℕ) : Type 0 where
  pub bytes : List ℕ
  pub chunks : AreChunks d old.disk new.disk (entry new.book) n bytes
  pub gained : Gains old.sink.taken bytes new.sink.taken

-- The file begins with the header, and every chunk was found.
pub record IsWhole (d : Descriptor) (disk disk' : DiskState) : Type 0 where
  pub begins : IsKnown disk → IsOf d disk'.history.found
  pub holding : IsKnown disk → (i : ℕ) → i < chunks_of d → is_found d disk'.history.found i ≡ true

-- Done: the sink gained the whole content.
pub record IsExported (d : Descriptor) (old new : Outside) : Type 0 where
  pub whole : IsWhole d old.disk new.disk
  pub content : List ℕ
  pub size : length content ≡ d.size
  pub each : (i : ℕ) → i < chunks_of d → IsChunk d old.disk new.disk (entry new.book) i (chunk_of content d.chunk i)
  pub gained : Gains old.sink.taken content new.sink.taken

-- Some chunk wasn't found.
pub record IsIncomplete (d : Descriptor) (old new : Outside) : Type 0 where
  pub begins : IsKnown old.disk → IsOf d new.disk.history.found
  pub absent : IsKnown old.disk → (i : ℕ) × (i < chunks_of d) × (is_found d new.disk.history.found i ≡ false)
  pub silent : new.sink ≡ old.sink

-- The disk refused a call: before any chunk was written, or the reading of chunk n.
pub record IsDiskFault (d : Descriptor) (old new : Outside) : Type 0 where
  pub refused : IsRefused d old.disk new.disk
  pub stopped : (new.sink ≡ old.sink) ⊎ ((n : ℕ) × (n < chunks_of d) × HasPut d old new n × IsWhole d old.disk new.disk)

-- The sink refused a piece of chunk n, and took the chunks before it and what it took of this one.
pub record IsSinkFault (d : Descriptor) (old new : Outside) : Type 0 where
  pub risen : HasRisen old.sink.faults new.sink.faults
  pub whole : IsWhole d old.disk new.disk
  pub n : ℕ
  pub count : ℕ
  pub bytes : List ℕ
  pub chunks : AreChunks d old.disk new.disk (entry new.book) (n + 1) bytes
  pub least : n * d.chunk ≤ count
  pub short : count < length bytes
  pub gained : Gains old.sink.taken (take count bytes) new.sink.taken

-- Bytes that were read at chunk n have another digest than the book's: both are named. Over a disk that is honest and tells the bytes
-- are what reads gave at the chunk's place, and that never happens where every image was sound at the attachment.
pub record IsDamagedChunk (d : Descriptor) (disk disk' : DiskState) (book : LookUp) (n : ℕ) : Type 0 where
  pub bytes : List ℕ
  pub found : List ℕ
  pub kept : List ℕ
  pub size : length bytes ≡ chunk_length d.size d.chunk n
  pub found_is : found ≡ sha256 bytes
  pub kept_is : book 0 n ≡ Some kept
  pub differ : found ≡ kept → ⊥
  pub read : IsKnown disk → IsRead disk'.history.found (chunk_place d.chunk n) bytes
  pub never : IsKnown disk → BeganSound d disk'.history → ⊥

-- Chunk n was damaged, and the sink gained the chunks before it and no more.
pub record IsDamaged (d : Descriptor) (old new : Outside) : Type 0 where
  pub n : ℕ
  pub within : n < chunks_of d
  pub put : HasPut d old new n
  pub damaged : IsDamagedChunk d old.disk new.disk (entry new.book) n

-- When each status comes, and what the sink gained.
abbrev pub ExportsIn : Status → Descriptor → Outside → Outside → Type 0
ExportsIn Done d old new = IsExported d old new
ExportsIn NotAStore d old new = Faults false NotAStore d old new
ExportsIn Incomplete d old new = IsIncomplete d old new
ExportsIn DiskFault d old new = IsDiskFault d old new
ExportsIn SinkFault d old new = IsSinkFault d old new
ExportsIn Memory d old new = Faults false Memory d old new
ExportsIn Damaged d old new = IsDamaged d old new
ExportsIn _ d old new = ⊥

-- the status that stands for a fault of the scan
abbrev pub status_of_scan : ScanFault → Status
status_of_scan (scans.NotAStore at found want) = NotAStore
status_of_scan scans.Disk = DiskFault
status_of_scan scans.Memory = Memory

-- the status that stands for a fault while the chunks are written
abbrev pub status_of_fault : PutFault → Status
status_of_fault puts.Disk = DiskFault
status_of_fault puts.Sink = SinkFault
status_of_fault puts.Damaged = Damaged

abbrev pub status_of_put : Result (Unit {0}) PutFault → Status
status_of_put (Ok _) = Done
status_of_put (Err fault) = status_of_fault fault

-- what is answered once the right chunks of a run are written; no chunk is absent
abbrev pub answer_of : ℕ → Option ReadFault → Result ℕ PutFault
answer_of count None = Ok count
answer_of count (Some reads.Disk) = Err puts.Disk
answer_of count (Some reads.Absent) = Err puts.Disk
answer_of count (Some (reads.Damaged found kept)) = Err puts.Damaged

-- Every chunk was found at the scan, and reads give what they gave at the attachment.
pub record IsReadable (d : Descriptor) (disk : DiskState) (book : LookUp) : Type 0 where
  pub rooted : IsRooted d book
  pub whole : IsWhole d disk disk
  pub leaf : (i : ℕ) → i < chunks_of d → is_some (book 0 i) ≡ true
  pub there : IsKnown disk → BeganSound d disk.history → (i : ℕ) → i < chunks_of d → is_there d disk.history.reads book i ≡ true
  pub same : IsKnown disk → disk.history.reads ≡ disk.history.found

-- The bytes are those of a number of chunks of a content from chunk `first` on, in order.
pub record AreNext (d : Descriptor) (disk disk' : DiskState) (book : LookUp) (first count : ℕ) (bytes : List ℕ) : Type 0 where
  pub within : first + count ≤ chunks_of d
  pub size : length bytes ≡ min (count * d.chunk) (d.size - first * d.chunk)
  pub each : (k : ℕ) → k < count → IsChunk d disk disk' book (first + k) (chunk_of bytes d.chunk k)

-- The sink gained them and no more.
pub record PutsNext (d : Descriptor) (disk disk' : DiskState) (book : LookUp) (first count : ℕ) (sink sink' : SinkState) : Type 0 where
  pub bytes : List ℕ
  pub chunks : AreNext d disk disk' book first count bytes
  pub gained : Gains sink.taken bytes sink'.taken

-- The sink refused a piece of them, and took what is before it.
pub record StopsNext (d : Descriptor) (disk disk' : DiskState) (book : LookUp) (first : ℕ) (sink sink' : SinkState) : Type 0 where
  pub risen : HasRisen sink.faults sink'.faults
  pub count : ℕ
  pub bytes : List ℕ
  pub chunks : AreNext d disk disk' book first count bytes
  pub part : GainsPart bytes sink sink'

-- What comes of reading chunks from chunk `first` on, and of writing those that are right.
abbrev pub PutsRun : Descriptor → ℕ → SinkState → SinkState → DiskState → DiskState → LookUp → Result ℕ PutFault → Type 0
PutsRun d first sink sink' disk disk' book (Ok count) = (0 < count) × PutsNext d disk disk' book first count sink sink'
PutsRun d first sink sink' disk disk' book (Err puts.Disk) =
    HasRisen disk.faults disk'.faults × ((count : ℕ) × (first + count < chunks_of d) × PutsNext d disk disk' book first count sink sink')
PutsRun d first sink sink' disk disk' book (Err puts.Sink) = StopsNext d disk disk' book first sink sink'
PutsRun d first sink sink' disk disk' book (Err puts.Damaged) = (count : ℕ) × (first + count < chunks_of d)
    × PutsNext d disk disk' book first count sink sink' × IsDamagedChunk d disk disk' book (first + count)

-- A run of `export`, by the number that it answers. The store was attached by its name. Since then nothing was written to it,
-- with one sync at the most: what stood in every image goes on standing, and sound images stay sound. No line is printed, and
-- the source isn't read.
pub record ExportEnds (result : ℕ) (store : List ℕ) (d : Descriptor) (old new : Outside) : Type 0 where
  pub status : Status
  pub number : result ≡ number_of status
  pub ends : ExportsIn status d old new
  pub named : IsKnown old.disk → GainsName old.disk.history.names store new.disk.history.names
  pub unwritten : IsUnwritten old.disk new.disk
  pub lasts : IsKnown old.disk → Lasts d new.disk.history
  pub unread : new.source ≡ old.source
  pub rooted : (new.book ≡ old.book) ⊎ IsBookOf d new.book
