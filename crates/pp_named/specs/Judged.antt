-- What the first 64 bytes of a file come to for a name, and what a size does.
use Rattle.std.specs.Prelude.{◌≡◌, ℕ, ◌<◌, Option, Some, None, Ok, Err, List, slice_index, Result}
use Rattle.pp_terms.specs.format.Descriptor.{Descriptor, IsDescriptor}
use Rattle.pp_terms.specs.disk.Store.{header, HasHeader}
use Rattle.pp_targets.specs.Target.{SwarmName, IsOfName}
use Rattle.pp_named.specs.Front.{sized, size_in, IsFixed, IsNoSize}
use Rattle.pp_named.specs.declared.probing.NameFault.{NameFault}
use Rattle.pp_named.specs.declared.probing.NameFault.TheVariants.{NotAStore, Size, Disk}

-- The descriptor with that size is one of the name, or no descriptor is.
abbrev pub IsFitting : SwarmName → ℕ → Result (Option Descriptor) NameFault → Type 0
IsFitting name size (Ok None) = ⊥
IsFitting name size (Ok (Some e)) = (e ≡ sized name size) × IsDescriptor e × IsOfName name e
IsFitting name size (Err (NotAStore at found want)) = ⊥
IsFitting name size (Err (Size size')) = (size' ≡ size) × IsNoSize name size
IsFitting name size (Err Disk) = ⊥

-- The first byte of some that isn't one of the size's and differs from the header.
pub record IsFirstOther (name : SwarmName) (bytes : List ℕ) (at found want : ℕ) : Type 0 where
  pub within : at < 64
  pub fixed : IsFixed at
  pub differ : found ≡ want → ⊥
  pub wanted : (size : ℕ) → want ≡ slice_index (header (sized name size)) at
  pub found_is : found ≡ slice_index bytes at
  pub first : (k size : ℕ) → k < at → IsFixed k → slice_index bytes k ≡ slice_index (header (sized name size)) k

-- What 64 bytes tell, where they are the first of a file.
abbrev pub IsJudged : SwarmName → List ℕ → Result (Option Descriptor) NameFault → Type 0
IsJudged name bytes (Ok None) = ⊥
IsJudged name bytes (Ok (Some e)) = IsDescriptor e × IsOfName name e × HasHeader e bytes × (e.size ≡ size_in bytes)
IsJudged name bytes (Err (NotAStore at found want)) = IsFirstOther name bytes at found want
IsJudged name bytes (Err (Size size)) = IsNoSize name size × HasHeader (sized name size) bytes × (size ≡ size_in bytes)
IsJudged name bytes (Err Disk) = ⊥
