-- What a run of `check STORE DESC` does where DESC names a swarm without its size, which the store's header tells.
use Rattle.std.specs.Prelude.{◌≡◌, ◌⊎◌, ℕ, ◌<◌, ◌≤◌, Bool, true, Ok, Err, List, [], ◌++◌, length, codes, decimal, slice_index, Option, Some, None, Result}
use Rattle.pp_terms.specs.Count.{HasRisen}
use Rattle.pp_terms.specs.command.Report.{line, disk_fault_line, content_size_line, not_a_store_line, SaysHeld}
use Rattle.pp_terms.specs.command.Stream.{SinkState}
use Rattle.pp_terms.specs.disk.Disk.{DiskState, IsKnown, GainsName}
use Rattle.pp_terms.specs.disk.Store.{header, HasHeader}
use Rattle.pp_terms.specs.disk.Untouched.{IsFreshlyAttached}
use Rattle.pp_terms.specs.format.Descriptor.{Descriptor, IsDescriptor}
use Rattle.pp_tree.specs.Book.{BookState, IsBookOf, entry}
use Rattle.pp_targets.specs.Target.{SwarmName, Target, Sized, Auto, IsOfName}
use Rattle.pp_named.specs.Front.{sized, size_in, IsFixed, IsNoSize}
use Rattle.pp_named.specs.Shape.{IsMisshapen, IsFirstMisshapen}
use Rattle.pp_named.specs.declared.probing.NameFault.{NameFault}
use Rattle.pp_named.specs.declared.probing.NameFault.TheVariants as names
use Rattle.pp_node.specs.Checking.{CheckEnds}
use Rattle.pp_node.specs.Faults.{Tells}
use Rattle.pp_node.specs.Looking.{IsFound, IsOther, IsUnwritten, Lasts}
use Rattle.pp_node.specs.Outside.{Outside}
use Rattle.pp_node.specs.Status.{number_of}
use Rattle.pp_node.specs.Text.{Says}
use Rattle.pp_node.specs.declared.naming.Found.{Found}
use Rattle.pp_node.specs.declared.naming.NamingFault.{NamingFault}
use Rattle.pp_node.specs.declared.naming.NamingFault.TheVariants as fault
use Rattle.pp_node.specs.declared.status.Status.{Status}
use Rattle.pp_node.specs.declared.status.Status.TheVariants.{Done, NotAStore, DiskFault, SinkFault, ContentSize, Memory, Shape}

-- The file isn't empty, and its header tells this descriptor of the name, zeros past its end.
pub record IsTold (name : SwarmName) (e : Descriptor) (old new : DiskState) : Type 0 where
  pub valid : IsDescriptor e
  pub of : IsOfName name e
  pub some : IsKnown old → 0 < length new.history.found
  pub begins : IsKnown old → HasHeader e new.history.found
  pub size : IsKnown old → e.size ≡ size_in new.history.found

-- The first byte, the size's aside, that differs from the header of each of the name's stores; an empty file has zeros. The byte that
-- was wanted is the header's over every disk. Nothing was done on the disk since the attachment.
pub record IsOtherThan (name : SwarmName) (at found want : ℕ) (old new : DiskState) : Type 0 where
  pub within : at < 64
  pub fixed : IsFixed at
  pub differ : found ≡ want → ⊥
  pub wanted : (size : ℕ) → want ≡ slice_index (header (sized name size)) at
  pub found_is : IsKnown old → found ≡ slice_index new.history.found at
  pub first : IsKnown old → (k size : ℕ) → k < at → IsFixed k
      → slice_index new.history.found k ≡ slice_index (header (sized name size)) k
  pub untouched : IsKnown old → IsFreshlyAttached new.history

-- A disk that isn't honest, or doesn't tell, gave another header after it told a descriptor of the name.
pub record IsChanged (name : SwarmName) (at found want : ℕ) (old new : DiskState) : Type 0 where
  pub unknown : IsKnown old → ⊥
  pub descriptor : Descriptor
  pub of : IsOfName name descriptor
  pub other : IsOther descriptor at found want old new

-- The header tells a size that no descriptor of the name has. Nothing was done on the disk since the attachment.
pub record IsOfNoSize (name : SwarmName) (size : ℕ) (old new : DiskState) : Type 0 where
  pub cause : IsNoSize name size
  pub some : IsKnown old → 0 < length new.history.found
  pub begins : IsKnown old → HasHeader (sized name size) new.history.found
  pub untouched : IsKnown old → IsFreshlyAttached new.history

-- What is told of the swarm, with a book of its descriptor.
pub record IsScanned (name : SwarmName) (e : Descriptor) (old new : DiskState) (book : BookState) : Type 0 where
  pub told : IsTold name e old new
  pub rooted : IsBookOf e book

-- The chunks that were found at the attachment, of the descriptor that the header tells. Each node that covers no chunk is 32 zero bytes.
pub record HasFound (name : SwarmName) (e : Descriptor) (set : List Bool) (old new : DiskState) (book : BookState) : Type 0 where
  pub scanned : IsScanned name e old new book
  pub chunks : IsFound e old new (entry book) set
  pub shaped : (k j : ℕ) → IsMisshapen e (entry book) k j → ⊥

-- The book has a node that covers no chunk and isn't 32 zero bytes, and this is the first by layer and offset.
pub record IsOutOfShape (name : SwarmName) (k j : ℕ) (old new : DiskState) (book : BookState) : Type 0 where
  pub descriptor : Descriptor
  pub scanned : IsScanned name descriptor old new book
  pub first : IsFirstMisshapen descriptor (entry book) k j

abbrev pub fault_of_name : NameFault → NamingFault
fault_of_name (names.NotAStore at found want) = fault.NotAStore at found want
fault_of_name (names.Size size) = fault.Size size
fault_of_name names.Disk = fault.Disk

-- What was found by the name, or why nothing was.
abbrev pub FindsNamed : SwarmName → DiskState → DiskState → BookState → Result Found NamingFault → Type 0
FindsNamed name old new book (Ok found) = HasFound name found.descriptor found.set old new book
FindsNamed name old new book (Err (fault.NotAStore at found want)) =
    IsOtherThan name at found want old new ⊎ IsChanged name at found want old new
FindsNamed name old new book (Err (fault.Size size)) = IsOfNoSize name size old new
FindsNamed name old new book (Err (fault.Shape node)) = IsOutOfShape name node.layer node.offset old new book
FindsNamed name old new book (Err fault.Disk) = HasRisen old.faults new.faults
FindsNamed name old new book (Err fault.Memory) = (e : Descriptor) × IsTold name e old new

-- What is answered for a book of a descriptor, and the set that was found with it.
abbrev pub IsInShape : Descriptor → List Bool → BookState → Result Found NamingFault → Type 0
IsInShape d set book (Ok found) = (found.descriptor ≡ d) × (found.set ≡ set) × ((k j : ℕ) → IsMisshapen d (entry book) k j → ⊥)
IsInShape d set book (Err (fault.NotAStore at found want)) = ⊥
IsInShape d set book (Err (fault.Size size)) = ⊥
IsInShape d set book (Err (fault.Shape node)) = IsFirstMisshapen d (entry book) node.layer node.offset
IsInShape d set book (Err fault.Disk) = ⊥
IsInShape d set book (Err fault.Memory) = ⊥

-- The store was attached by its name, and only read since.
pub record HasAttached (store : List ℕ) (old new : DiskState) : Type 0 where
  pub tells : new.tells ≡ old.tells
  pub honest : new.honest ≡ old.honest
  pub faults : old.faults ≤ new.faults
  pub hard : old.hard ≤ new.hard
  pub named : IsKnown old → GainsName old.history.names store new.history.names
  pub fresh : IsKnown old → IsFreshlyAttached new.history

-- The descriptor of the name that the header tells, or why it tells none.
abbrev pub TellsNamed : SwarmName → DiskState → DiskState → Result Descriptor NamingFault → Type 0
TellsNamed name old new (Ok e) = IsTold name e old new
TellsNamed name old new (Err (fault.NotAStore at found want)) = IsOtherThan name at found want old new
TellsNamed name old new (Err (fault.Size size)) = IsOfNoSize name size old new
TellsNamed name old new (Err (fault.Shape node)) = ⊥
TellsNamed name old new (Err fault.Disk) = HasRisen old.faults new.faults
TellsNamed name old new (Err fault.Memory) = ⊥

-- The file that was attached was empty, and nothing was done on the disk since.
pub record FindsNothing (old new : DiskState) : Type 0 where
  pub empty : IsKnown old → new.history.found ≡ []
  pub untouched : IsKnown old → IsFreshlyAttached new.history

-- The same, but that an empty file is no fault.
abbrev pub FindsTold : SwarmName → DiskState → DiskState → Result (Option Descriptor) NamingFault → Type 0
FindsTold name old new (Ok None) = FindsNothing old new
FindsTold name old new (Ok (Some e)) = IsTold name e old new
FindsTold name old new (Err (fault.NotAStore at found want)) =
    IsOtherThan name at found want old new × (IsKnown old → 0 < length new.history.found)
FindsTold name old new (Err (fault.Size size)) = IsOfNoSize name size old new
FindsTold name old new (Err (fault.Shape node)) = ⊥
FindsTold name old new (Err fault.Disk) = HasRisen old.faults new.faults
FindsTold name old new (Err fault.Memory) = ⊥

-- the book is as it was, or of a descriptor of the name
abbrev pub IsRootedByName : SwarmName → BookState → BookState → Type 0
IsRootedByName name old new = (new ≡ old) ⊎ ((e : Descriptor) × IsOfName name e × IsBookOf e new)

-- the first node that covers no chunk and isn't 32 zero bytes, by its layer and its offset there
unfoldable pub shape_line : ℕ → ℕ → List ℕ
shape_line k j = line (codes "shape: node " ++ decimal k ++ codes " " ++ decimal j)

-- what is said of a fault, and the status that stands for it
abbrev pub ReportsNaming : NamingFault → Status → SinkState → SinkState → Type 0
ReportsNaming (fault.NotAStore at found want) status old new = (status ≡ NotAStore) × Says (not_a_store_line at found want) old new
ReportsNaming (fault.Size size) status old new = (status ≡ ContentSize) × Says (content_size_line size) old new
ReportsNaming (fault.Shape node) status old new = (status ≡ Shape) × Says (shape_line node.layer node.offset) old new
ReportsNaming fault.Disk status old new = (status ≡ DiskFault) × Says disk_fault_line old new
ReportsNaming fault.Memory status old new = (status ≡ Memory) × (new ≡ old)

-- Done: the set was printed. Over a disk that is honest and tells it is exactly the chunks that are found in what reads gave when the
-- store was attached.
pub record IsCheckedByName (name : SwarmName) (old new : Outside) : Type 0 where
  pub descriptor : Descriptor
  pub set : List Bool
  pub found : HasFound name descriptor set old.disk new.disk new.book
  pub said : SaysHeld set old.sink new.sink

pub record IsUnsaidByName (name : SwarmName) (old new : Outside) : Type 0 where
  pub descriptor : Descriptor
  pub set : List Bool
  pub found : HasFound name descriptor set old.disk new.disk new.book
  pub risen : HasRisen old.sink.faults new.sink.faults

-- Why nothing was found by the name, and what a command said of it that says its faults.
pub record IsOtherFile (says : Bool) (name : SwarmName) (old new : Outside) : Type 0 where
  pub at : ℕ
  pub found : ℕ
  pub want : ℕ
  pub other : IsOtherThan name at found want old.disk new.disk ⊎ IsChanged name at found want old.disk new.disk
  pub said : Tells says (not_a_store_line at found want) old.sink new.sink

pub record IsWrongSize (says : Bool) (name : SwarmName) (old new : Outside) : Type 0 where
  pub size : ℕ
  pub is : IsOfNoSize name size old.disk new.disk
  pub said : Tells says (content_size_line size) old.sink new.sink

pub record IsMisshaped (says : Bool) (name : SwarmName) (old new : Outside) : Type 0 where
  pub layer : ℕ
  pub offset : ℕ
  pub is : IsOutOfShape name layer offset old.disk new.disk new.book
  pub said : Tells says (shape_line layer offset) old.sink new.sink

pub record IsRefusedByDisk (says : Bool) (old new : Outside) : Type 0 where
  pub risen : HasRisen old.disk.faults new.disk.faults
  pub said : Tells says disk_fault_line old.sink new.sink

pub record IsOutOfMemory (name : SwarmName) (old new : Outside) : Type 0 where
  pub descriptor : Descriptor
  pub told : IsTold name descriptor old.disk new.disk
  pub silent : new.sink ≡ old.sink

-- When each status comes, and what was said.
abbrev pub NamedChecksIn : Status → SwarmName → Outside → Outside → Type 0
NamedChecksIn Done name old new = IsCheckedByName name old new
NamedChecksIn NotAStore name old new = IsOtherFile true name old new
NamedChecksIn DiskFault name old new = IsRefusedByDisk true old new
NamedChecksIn SinkFault name old new = IsUnsaidByName name old new
NamedChecksIn ContentSize name old new = IsWrongSize true name old new
NamedChecksIn Memory name old new = IsOutOfMemory name old new
NamedChecksIn Shape name old new = IsMisshaped true name old new
NamedChecksIn _ name old new = ⊥

-- A run of `check` by a name, by the number that it answers. The store was attached by its name. Since then nothing was written to it,
-- with one sync at the most: what stood in every image goes on standing, and sound images stay sound. The source isn't read.
pub record NamedCheckEnds (result : ℕ) (store : List ℕ) (name : SwarmName) (old new : Outside) : Type 0 where
  pub status : Status
  pub number : result ≡ number_of status
  pub ends : NamedChecksIn status name old new
  pub named : IsKnown old.disk → GainsName old.disk.history.names store new.disk.history.names
  pub unwritten : IsUnwritten old.disk new.disk
  pub lasts : IsKnown old.disk → (e : Descriptor) → IsTold name e old.disk new.disk → Lasts e new.disk.history
  pub unread : new.source ≡ old.source
  pub rooted : IsRootedByName name old.book new.book

-- A run of `check`, by either form of a swarm's text.
abbrev pub TargetCheckEnds : ℕ → List ℕ → Target → Outside → Outside → Type 0
TargetCheckEnds result store (Sized d) old new = CheckEnds result store d old new
TargetCheckEnds result store (Auto name) old new = NamedCheckEnds result store name old new
