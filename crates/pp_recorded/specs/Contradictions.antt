-- Whether a book contradicts what the climbs of a chunk meet, as a test: at each layer three nodes can be met.
use Rattle.std.specs.Prelude.{◌≡◌, ◌↔◌, ℕ, ◌-◌, ◌/◌, ◌^◌, ◌≤◌, ◌==◌, nat_le, nat_eq, Bool, true, false, not, ◌&&◌, ◌||◌, if◌then◌else◌, Option, Some, None, List}
use Rattle.std.specs.Cmp.Lexicographic.{pointwise}
use Rattle.sha2.specs.Sha256.{sha256}
use Rattle.pp_terms.specs.format.Descriptor.{Descriptor, chunks_of, height_of}
use Rattle.pp_terms.specs.tree.Book.{LookUp}
use Rattle.pp_terms.specs.tree.Claims.{or_else, met, Contradicts}
use Rattle.pp_terms.specs.tree.Proves.{climbed, last_layer, peak_offset}
use Rattle.pp_terms.specs.tree.Tree.{is_full, is_peak}
use Rattle.pp_recorded.specs.Provings.{climbed_last}
use Rattle.pp_recorded.specs.Search.{some_below}

-- the offsets of the nodes of a layer above a chunk, of its last full node, and above the last peak
abbrev pub way_offset : ℕ → ℕ → ℕ
way_offset i k = i / 2 ^ k

abbrev pub full_offset : ℕ → ℕ → ℕ
full_offset n k = n / 2 ^ k - 1

abbrev pub root_offset : ℕ → ℕ → ℕ
root_offset n k = peak_offset (last_layer n) n / 2 ^ (k - last_layer n)

-- what the climb from a chunk's digest meets at a node, on the way to its peak; at the other peaks; and on the way to the root
abbrev pub met_on_way : LookUp → ℕ → List ℕ → LookUp
met_on_way known i digest k j = if way_offset i k == j then climbed known k 0 i digest else None

abbrev pub met_at_peak : ℕ → LookUp → LookUp
met_at_peak n known k j = if is_peak n (record { layer = k; offset = j }) then known k j else None

abbrev pub met_to_root : ℕ → LookUp → LookUp
met_to_root n known k j = if nat_le (last_layer n) k && root_offset n k == j then climbed_last n known (k - last_layer n) else None

-- all of them
abbrev pub met_by : Descriptor → LookUp → ℕ → List ℕ → LookUp
met_by d known i digest k j =
    if is_full (chunks_of d) (record { layer = k; offset = j })
    then or_else (met_on_way known i digest k j) (met_at_peak (chunks_of d) known k j)
    else (if nat_le k (height_of d) then met_to_root (chunks_of d) known k j else None)

-- both are there, and other ones
abbrev pub differs : Option (List ℕ) → Option (List ℕ) → Bool
differs None kept = false
differs (Some digest) None = false
differs (Some digest) (Some kept) = not (pointwise nat_eq kept digest)

-- the book has another digest at the node; at one of the three of a layer
abbrev pub contradicts_at : Descriptor → LookUp → LookUp → ℕ → List ℕ → ℕ → ℕ → Bool
contradicts_at d book known i digest k j = differs (met_by d known i digest k j) (book k j)

abbrev pub contradicts_in : Descriptor → LookUp → LookUp → ℕ → List ℕ → ℕ → Bool
contradicts_in d book known i digest k =
    contradicts_at d book known i digest k (way_offset i k) || contradicts_at d book known i digest k (full_offset (chunks_of d) k)
    || contradicts_at d book known i digest k (root_offset (chunks_of d) k)

unfoldable pub contradicts : Descriptor → LookUp → LookUp → ℕ → List ℕ → Bool
contradicts d book known i bytes = some_below (contradicts_in d book known i (sha256 bytes)) 21

-- which it does
abbrev pub ContradictsIsTested : Type 0
ContradictsIsTested = (d : Descriptor) (book known : LookUp) (i : ℕ) (bytes : List ℕ) → chunks_of d ≤ 2 ^ 20 → height_of d ≤ 20
    → (contradicts d book known i bytes ≡ true) ↔ Contradicts book (met d known i bytes)
