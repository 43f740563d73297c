-- What a chunk and claimed digests tell of the size of a swarm's content.
use Rattle.std.specs.Prelude.{◌≡◌, ℕ, zero, suc, ◌+◌, ◌-◌, ◌*◌, ◌/◌, ◌==◌, if◌then◌else◌, Option, Some, None, is_none, option_and_then, List, length}
use Rattle.sha2.specs.Sha256.{sha256}
use Rattle.pp_terms.specs.tree.Tree as tree
use Rattle.pp_terms.specs.tree.Tree.{height}
use Rattle.pp_terms.specs.tree.Book.{LookUp}
use Rattle.pp_terms.specs.tree.Bins.{sibling}
use Rattle.pp_terms.specs.tree.Proves.{climbed, filled, first_absent, last_layer, peak_offset, Proves}
use Rattle.pp_terms.specs.format.Descriptor.{Descriptor, chunks_of}
use Rattle.pp_paths.specs.Climb.{node_at}
use Rattle.pp_paths.specs.Judge.{same}
use Rattle.pp_targets.specs.Target.{SwarmName, IsOfName}
use Rattle.pp_targets.specs.declared.learning.Learned.{Learned}
use Rattle.pp_targets.specs.declared.learning.Learned.TheVariants.{Size, SixtyFour, Missing, Wrong}

-- The descriptor is of the name, chunk i is its last one, and the digests prove the bytes to be that chunk.
pub record IsLearned (name : SwarmName) (known : LookUp) (i : ℕ) (bytes : List ℕ) (e : Descriptor) : Type 0 where
  pub of : IsOfName name e
  pub last : i + 1 ≡ chunks_of e
  pub proves : Proves e known i bytes

-- the descriptor of the name whose content ends with a chunk i of so many bytes
abbrev pub ended : SwarmName → ℕ → ℕ → Descriptor
ended name i part = record { root = name.root; chunk = name.chunk; size = i * name.chunk + part; method = name.method }

-- the first sibling on the way n layers up from node (k, j) that isn't known
abbrev pub first_beside : LookUp → ℕ → ℕ → ℕ → Option tree.Node
first_beside known zero k j = None
first_beside known (suc n) k j =
    if is_none (known k (sibling j)) then Some (record { layer = k; offset = sibling j })
    else first_beside known n (suc k) (j / 2)

-- a node that isn't known comes first
abbrev pub missing_or : Option tree.Node → Learned → Learned
missing_or None rest = rest
missing_or (Some at) rest = Missing (node_at at.layer at.offset)

-- a climb that ends in another digest comes first
abbrev pub wrong_or : Option (List ℕ) → Option (List ℕ) → Learned → Learned
wrong_or None kept rest = rest
wrong_or (Some found) None rest = rest
wrong_or (Some found) (Some kept) rest = if same found kept then rest else Wrong found kept

-- the digest of the root over n chunks, by their peaks
abbrev pub root_by_peaks : ℕ → LookUp → Option (List ℕ)
root_by_peaks n known =
    let last = last_layer n in
    option_and_then (climbed (filled n known) (height n - last) last (peak_offset last n)) (known last (peak_offset last n))

-- The answer for bytes as the last chunk, number i. Their length comes first, then the leftmost peak that isn't known, then the
-- first sibling on the climb to the last peak, then the two ends of the chunk's climb, then those of the peaks'.
abbrev pub learned : SwarmName → LookUp → ℕ → List ℕ → Learned
learned name known i bytes =
    let n = i + 1 in
    let last = last_layer n in
    if length bytes == 64 then SixtyFour
    else missing_or (first_absent known n)
    (missing_or (first_beside known last 0 i)
    (wrong_or (climbed known last 0 i (sha256 bytes)) (known last (peak_offset last n))
    (wrong_or (root_by_peaks n known) (Some name.root)
    (Size (ended name i (length bytes))))))
