-- Writes that are kept back: pieces of a file's bytes that are to go out to it.
use Rattle.std.specs.Prelude.{◌≡◌, ◌⊎◌, ℕ, ◌+◌, ◌-◌, ◌^◌, ◌<◌, ◌≤◌, Bool, ◌&&◌, nat_le, nat_lt, if◌then◌else◌, Option, Some, None, List, [], ◌∷◌, ◌++◌, length, map, slice_index, slice_range}
use Rattle.pp_terms.specs.disk.Store.{IsWithin}
use Rattle.pp_terms.specs.disk.Disk.{Write}
use Rattle.pp_adapt.specs.Extents.{AreApart}
use Rattle.pp_adapt.specs.declared.extents.Extent.{Extent}
use Rattle.pp_adapt.specs.declared.extents.TheConstants.{WINDOW, MOST}

-- place k lies in a range
abbrev pub is_within : ℕ → ℕ → ℕ → Bool
is_within place size k = nat_le place k && nat_lt k (place + size)

-- the byte at place k, where a piece has one
abbrev pub byte_at : List Write → ℕ → Option ℕ
byte_at [] k = None
byte_at (w ∷ ws) k = if is_within w.place (length w.bytes) k then Some (slice_index w.bytes (k - w.place)) else byte_at ws k

-- no piece has a byte of this range
abbrev pub IsFree : List Write → ℕ → ℕ → Type 0
IsFree pieces place size = (k : ℕ) → IsWithin place size k → byte_at pieces k ≡ None

-- the pieces with these bytes at this place, over what they had there
abbrev pub IsGatheredOver : List Write → ℕ → List ℕ → List Write → Type 0
IsGatheredOver old place bytes new =
    (k : ℕ) → byte_at new k ≡ (if is_within place (length bytes) k then Some (slice_index bytes (k - place)) else byte_at old k)

-- Where the window begins in the file, and the pieces in it.
pub record Gathered : Type 0 where
  pub base : ℕ
  pub pieces : List Write

-- Why a write isn't kept back: it is too long, or it leaves the window, or it can be in need of a piece of its own
-- where there are as many as may be.
abbrev pub HasNoRoom : Gathered → ℕ → ℕ → Type 0
HasNoRoom g place size =
    (WINDOW < size) ⊎ ((0 < length g.pieces) × ((place < g.base) ⊎ (g.base + WINDOW < place + size) ⊎ (length g.pieces ≡ MOST)))

-- the pieces of a window's bytes
abbrev pub piece_of : ℕ → List ℕ → Extent → Write
piece_of base bytes e = record { place = base + e.start; bytes = slice_range bytes e.start e.end }

abbrev pub pieces_of : ℕ → List ℕ → List Extent → List Write
pieces_of base bytes extents = map (piece_of base bytes) extents

-- A window's bytes, and what is gathered there: sorted, apart, in the window, and no more than may be.
pub record IsGathering (base : ℕ) (bytes : List ℕ) (extents : List Extent) (capacity : ℕ) : Type 0 where
  pub low : base ≤ 2 ^ 40
  pub long : length bytes ≡ WINDOW
  pub apart : AreApart 0 extents
  pub few : length extents ≤ MOST
  pub room : MOST ≤ capacity

-- What took writes took these too, where it tells.
abbrev pub with_taken : Option (List Write) → List Write → Option (List Write)
with_taken None more = None
with_taken (Some taken) more = Some (taken ++ more)
