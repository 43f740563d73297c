-- The digests that another peer claims, what a climb by them meets, and when a book contradicts them (RFC 7574, sections
-- 3.5, 5.2 and 5.6).
use Rattle.std.specs.Prelude.{◌≡◌, ℕ, ◌-◌, ◌==◌, nat_le, ◌&&◌, if◌then◌else◌, Option, Some, None, option_and_then, List, [], ◌∷◌}
use Rattle.sha2.specs.Sha256.{sha256}
use Rattle.pp_terms.specs.tree.Tree.{Node, above, is_full, is_peak}
use Rattle.pp_terms.specs.tree.Book.{LookUp}
use Rattle.pp_terms.specs.tree.Proves.{climbed, filled, last_layer, peak_offset}
use Rattle.pp_terms.specs.format.Descriptor.{Descriptor, chunks_of, height_of}

-- a node, and the digest that is claimed of it
pub record Claim : Type 0 where
  pub node : Node
  pub digest : List ℕ

-- the latest claim of each node; the newest stand first
abbrev pub latest : List Claim → LookUp
latest [] k j = None
latest (c ∷ cs) k j = if c.node.layer == k && c.node.offset == j then Some c.digest else latest cs k j

-- the digest that the climb from a chunk has at a node above it
abbrev pub met_below : (known : LookUp) (i : ℕ) (bytes : List ℕ) → LookUp
met_below known i bytes k j = if above k i == j then climbed known k 0 i (sha256 bytes) else None

-- the digest that is claimed of a peak over n chunks
abbrev pub met_at_peaks : (n : ℕ) (known : LookUp) → LookUp
met_at_peaks n known k j = if is_peak n (record { layer = k; offset = j }) then known k j else None

-- the digest that the climb from the last peak over n chunks has at a node above it
abbrev pub met_above : (n : ℕ) (known : LookUp) → LookUp
met_above n known k j =
    let last = last_layer n in
    let offset = peak_offset last n in
    if nat_le last k && above (k - last) offset == j
    then option_and_then (climbed (filled n known) (k - last) last offset) (known last offset)
    else None

-- the first look-up's digest, or else the other's
abbrev pub or_else : Option (List ℕ) → Option (List ℕ) → Option (List ℕ)
or_else None other = other
or_else (Some digest) other = Some digest

-- The digests that the climbs of a proof meet, as a book: those on the way from the chunk up to its peak, whose nodes are
-- full; those of the other peaks; and those on the way from the last peak up to the root, whose nodes aren't.
abbrev pub met : Descriptor → (known : LookUp) (i : ℕ) (bytes : List ℕ) → LookUp
met d known i bytes k j =
    let n = chunks_of d in
    if is_full n (record { layer = k; offset = j })
    then or_else (met_below known i bytes k j) (met_at_peaks n known k j)
    else (if nat_le k (height_of d) then met_above n known k j else None)

-- The book has another digest at a node that a climb meets: two texts with one digest, or a false claim.
pub record Contradicts (book meets : LookUp) : Type 0 where
  pub layer : ℕ
  pub offset : ℕ
  pub digest : List ℕ
  pub kept : List ℕ
  pub is_met : meets layer offset ≡ Some digest
  pub here : book layer offset ≡ Some kept
  pub other : kept ≡ digest → ⊥
