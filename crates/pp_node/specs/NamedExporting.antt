-- What a run of `export STORE DESC` does where DESC names a swarm without its size, which the store's header tells.
use Rattle.std.specs.Prelude.{◌≡◌, ◌⊎◌, ℕ, false, List}
use Rattle.pp_terms.specs.disk.Disk.{IsKnown, GainsName}
use Rattle.pp_terms.specs.format.Descriptor.{Descriptor}
use Rattle.pp_tree.specs.Book.{entry}
use Rattle.pp_targets.specs.Target.{SwarmName, Target, Sized, Auto, FitsName}
use Rattle.pp_targets.specs.Depth.{HasZeroNode}
use Rattle.pp_targets.specs.Law.{ClashesSomewhere}
use Rattle.pp_named.specs.Shape.{IsMisshapen}
use Rattle.pp_node.specs.Exporting.{IsExported, ExportsIn, ExportEnds}
use Rattle.pp_node.specs.Looking.{IsUnwritten, Lasts}
use Rattle.pp_node.specs.Naming.{IsTold, IsScanned, IsOtherFile, IsWrongSize, IsMisshaped, IsRefusedByDisk, IsOutOfMemory, IsRootedByName}
use Rattle.pp_node.specs.Outside.{Outside}
use Rattle.pp_node.specs.Status.{number_of}
use Rattle.pp_node.specs.declared.naming.NamingFault.{NamingFault}
use Rattle.pp_node.specs.declared.naming.NamingFault.TheVariants as fault
use Rattle.pp_node.specs.declared.status.Status.{Status}
use Rattle.pp_node.specs.declared.status.Status.TheVariants.{Done, NotAStore, Incomplete, DiskFault, SinkFault, ContentSize, Memory, Damaged, Shape}

-- What came of writing the content of the descriptor that the header tells. Each node of the book that covers no chunk is 32 zero bytes.
pub record ExportsTold (status : Status) (name : SwarmName) (old new : Outside) : Type 0 where
  pub descriptor : Descriptor
  pub scanned : IsScanned name descriptor old.disk new.disk new.book
  pub shaped : (k j : ℕ) → IsMisshapen descriptor (entry new.book) k j → ⊥
  pub ends : ExportsIn status descriptor old new

-- Done: what the sink gained is each content of the name, or on the way to some chunk of it two texts have one digest, or a node of the
-- content that covers a chunk is as one that covers none.
pub record IsExportedByName (name : SwarmName) (old new : Outside) : Type 0 where
  pub descriptor : Descriptor
  pub scanned : IsScanned name descriptor old.disk new.disk new.book
  pub shaped : (k j : ℕ) → IsMisshapen descriptor (entry new.book) k j → ⊥
  pub exported : IsExported descriptor old new
  pub contents : (content : List ℕ) → FitsName name content
      → (exported.content ≡ content)
      ⊎ (ClashesSomewhere descriptor content (entry new.book) exported.content ⊎ HasZeroNode content descriptor.chunk)

-- When each status comes, and what the sink gained.
abbrev pub NamedExportsIn : Status → SwarmName → Outside → Outside → Type 0
NamedExportsIn Done name old new = IsExportedByName name old new
NamedExportsIn NotAStore name old new = IsOtherFile false name old new
NamedExportsIn Incomplete name old new = ExportsTold Incomplete name old new
NamedExportsIn DiskFault name old new = IsRefusedByDisk false old new ⊎ ExportsTold DiskFault name old new
NamedExportsIn SinkFault name old new = ExportsTold SinkFault name old new
NamedExportsIn ContentSize name old new = IsWrongSize false name old new
NamedExportsIn Memory name old new = IsOutOfMemory name old new
NamedExportsIn Damaged name old new = ExportsTold Damaged name old new
NamedExportsIn Shape name old new = IsMisshaped false name old new
NamedExportsIn _ name old new = ⊥

-- the status that stands for what was at fault
abbrev pub status_of_naming : NamingFault → Status
status_of_naming (fault.NotAStore at found want) = NotAStore
status_of_naming (fault.Size size) = ContentSize
status_of_naming (fault.Shape node) = Shape
status_of_naming fault.Disk = DiskFault
status_of_naming fault.Memory = Memory

-- A run of `export` by a name, by the number that it answers. The store was attached by its name. Since then nothing was written to it,
-- with one sync at the most: what stood in every image goes on standing, and sound images stay sound. No line is printed, and the
-- source isn't read.
pub record NamedExportEnds (result : ℕ) (store : List ℕ) (name : SwarmName) (old new : Outside) : Type 0 where
  pub status : Status
  pub number : result ≡ number_of status
  pub ends : NamedExportsIn status name old new
  pub named : IsKnown old.disk → GainsName old.disk.history.names store new.disk.history.names
  pub unwritten : IsUnwritten old.disk new.disk
  pub lasts : IsKnown old.disk → (e : Descriptor) → IsTold name e old.disk new.disk → Lasts e new.disk.history
  pub unread : new.source ≡ old.source
  pub rooted : IsRootedByName name old.book new.book

-- A run of `export`, by either form of a swarm's text.
abbrev pub TargetExportEnds : ℕ → List ℕ → Target → Outside → Outside → Type 0
TargetExportEnds result store (Sized d) old new = ExportEnds result store d old new
TargetExportEnds result store (Auto name) old new = NamedExportEnds result store name old new
