-- The text of a target: that of a descriptor, with `auto` where the size would stand if the swarm is named without it.
use Rattle.std.specs.Prelude.{◌≡◌, ℕ, List, ◌++◌, length, codes, decimal}
use Rattle.hex.specs.Hex.{encode_lower}
use Rattle.pp_terms.specs.tree.Content.{IsChunkSize}
use Rattle.pp_terms.specs.format.Descriptor.{method_number, descriptor_text, IsDescriptor}
use Rattle.pp_targets.specs.Target.{SwarmName, Target, Sized, Auto}

-- A name that a swarm can have.
pub record IsName (name : SwarmName) : Type 0 where
  pub root_length : length name.root ≡ 32
  pub chunk_size : IsChunkSize name.chunk

abbrev pub IsTarget : Target → Type 0
IsTarget (Sized d) = IsDescriptor d
IsTarget (Auto name) = IsName name

abbrev pub root_in : Target → List ℕ
root_in (Sized d) = d.root
root_in (Auto name) = name.root

-- "ppspp1:ROOT:CHUNK:auto:METHOD"
unfoldable pub name_text : SwarmName → List ℕ
name_text name =
    codes "ppspp1:" ++ encode_lower name.root ++ codes ":" ++ decimal name.chunk ++ codes ":auto:"
    ++ decimal (method_number name.method)

abbrev pub target_text : Target → List ℕ
target_text (Sized d) = descriptor_text d
target_text (Auto name) = name_text name
