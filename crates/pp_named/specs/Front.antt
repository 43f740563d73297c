-- The header of a store of a name, and what it tells of the size: bytes 12 to 19 are the size, the high byte first;
-- the others are the same for every size.
use Rattle.std.specs.Prelude.{◌≡◌, ◌⊎◌, ℕ, ◌*◌, ◌^◌, ◌<◌, ◌≤◌, List, drop, slice_index}
use Rattle.std.specs.Int.{w64, from_be_bytes}
use Rattle.pp_terms.specs.format.Descriptor.{Descriptor}
use Rattle.pp_targets.specs.Target.{SwarmName, last_length}

-- the descriptor of a name with that size
abbrev pub sized : SwarmName → ℕ → Descriptor
sized name size = record { root = name.root; chunk = name.chunk; size = size; method = name.method }

-- Byte k of a header isn't one of the size's.
abbrev pub IsFixed : ℕ → Type 0
IsFixed k = (k < 12) ⊎ (20 ≤ k)

-- the size that a file's header tells: bytes 12 to 19, the high byte first, zeros past the file's end
unfoldable pub size_in : List ℕ → ℕ
size_in file = from_be_bytes w64 (drop 12 file)

-- No descriptor of the name has that size: it is 0, above that of 2 ^ 20 chunks, or the last chunk has the 64 bytes of
-- two digests joined.
abbrev pub IsNoSize : SwarmName → ℕ → Type 0
IsNoSize name size = (size ≡ 0) ⊎ (2 ^ 20 * name.chunk < size) ⊎ (last_length size name.chunk ≡ 64)

-- This is the first of 64 bytes that differs from those that are wanted, the size's aside.
pub record IsFixedDifference (bytes wanted : List ℕ) (at found want : ℕ) : Type 0 where
  pub within : at < 64
  pub fixed : IsFixed at
  pub found_is : found ≡ slice_index bytes at
  pub want_is : want ≡ slice_index wanted at
  pub differ : found ≡ want → ⊥
  pub first : (k : ℕ) → k < at → IsFixed k → slice_index bytes k ≡ slice_index wanted k
