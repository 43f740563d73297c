-- What is found of a file for a name.
use Rattle.std.specs.Prelude.{◌≡◌, ℕ, ◌<◌, Option, Some, None, Ok, Err, [], length, slice_index, Result}
use Rattle.pp_terms.specs.Count.{HasRisen}
use Rattle.pp_terms.specs.format.Descriptor.{Descriptor, IsDescriptor}
use Rattle.pp_terms.specs.disk.Disk.{DiskState, IsKnown}
use Rattle.pp_terms.specs.disk.Store.{header, HasHeader}
use Rattle.pp_targets.specs.Target.{SwarmName, IsOfName}
use Rattle.pp_named.specs.Front.{sized, size_in, IsFixed, IsNoSize}
use Rattle.pp_named.specs.declared.probing.NameFault.{NameFault}
use Rattle.pp_named.specs.declared.probing.NameFault.TheVariants.{NotAStore, Size, Disk}

-- A descriptor of the name, and of the size that the file's header tells. The file isn't empty and begins with the
-- descriptor's header, zeros past the end.
pub record TellsDescriptor (name : SwarmName) (disk : DiskState) (e : Descriptor) : Type 0 where
  pub valid : IsDescriptor e
  pub of : IsOfName name e
  pub some : IsKnown disk → 0 < length disk.history.reads
  pub begins : IsKnown disk → HasHeader e disk.history.reads
  pub size : IsKnown disk → e.size ≡ size_in disk.history.reads

-- The file isn't empty and is no store of the name's. Named is the first byte, the size's aside, that differs from the
-- header, with what it is and what was wanted, which over every disk is the byte there of each of the name's headers.
pub record IsNoStoreOf (name : SwarmName) (disk : DiskState) (at found want : ℕ) : Type 0 where
  pub within : at < 64
  pub fixed : IsFixed at
  pub differ : found ≡ want → ⊥
  pub wanted : (size : ℕ) → want ≡ slice_index (header (sized name size)) at
  pub some : IsKnown disk → 0 < length disk.history.reads
  pub found_is : IsKnown disk → found ≡ slice_index disk.history.reads at
  pub first : IsKnown disk → (k size : ℕ) → k < at → IsFixed k
      → slice_index disk.history.reads k ≡ slice_index (header (sized name size)) k

-- No descriptor of the name has that size. The file isn't empty and begins with the header that tells it.
pub record TellsNoSize (name : SwarmName) (disk : DiskState) (size : ℕ) : Type 0 where
  pub cause : IsNoSize name size
  pub none : (e : Descriptor) → IsDescriptor e → IsOfName name e → e.size ≡ size → ⊥
  pub some : IsKnown disk → 0 < length disk.history.reads
  pub begins : IsKnown disk → HasHeader (sized name size) disk.history.reads
  pub size_is : IsKnown disk → size ≡ size_in disk.history.reads

-- When each answer comes.
abbrev pub HasTold : SwarmName → DiskState → DiskState → Result (Option Descriptor) NameFault → Type 0
HasTold name old new (Ok None) = IsKnown old → old.history.reads ≡ []
HasTold name old new (Ok (Some e)) = TellsDescriptor name old e
HasTold name old new (Err (NotAStore at found want)) = IsNoStoreOf name old at found want
HasTold name old new (Err (Size size)) = TellsNoSize name old size
HasTold name old new (Err Disk) = HasRisen old.faults new.faults
