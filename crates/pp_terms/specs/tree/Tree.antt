-- The Merkle hash tree of a content under SHA-256 (RFC 7574, sections 4.1 and 5.1 to 5.3; FIPS 180-4).
-- Node (k, j) is the j-th node of layer k, counted from the left; the leaves are layer 0.
use Rattle.std.specs.Prelude.{ℕ, zero, suc, ◌+◌, ◌-◌, ◌*◌, ◌/◌, ◌%◌, ◌^◌, ◌<◌, ◌≤◌, ◌==◌, nat_lt, nat_le, Bool, cond, ◌&&◌, List, [], ◌∷◌, ◌++◌, length, replicate, count_by}
use Rattle.std.specs.List.{range_with_len, list_any}
use Rattle.sha2.specs.Sha256.{sha256}
use Rattle.pp_terms.specs.tree.Content.{chunk_of, chunk_count}

-- The hash of a node that covers no chunk: 32 zero bytes, at every layer.
unfoldable pub empty_hash : List ℕ
empty_hash = replicate 32 0

-- The digest of node (k, j) of the tree over n leaves: a leaf's own, the digest of its two children
-- joined, left then right, or the empty hash where it covers no chunk.
unfoldable pub node : (ℕ → List ℕ) → ℕ → ℕ → ℕ → List ℕ
node leaf n zero j = cond (nat_lt j n) (leaf j) empty_hash
node leaf n (suc k) j =
    cond (nat_lt (j * 2 ^ suc k) n) (sha256 (node leaf n k (2 * j) ++ node leaf n k (2 * j + 1))) empty_hash

-- the two children of node (k + 1, j), joined
abbrev pub pair : (ℕ → List ℕ) → ℕ → ℕ → ℕ → List ℕ
pair leaf n k j = node leaf n k (2 * j) ++ node leaf n k (2 * j + 1)

-- A leaf is the digest of its chunk, the last one at its own length.
abbrev pub leaf_of : List ℕ → ℕ → ℕ → List ℕ
leaf_of content chunk i = sha256 (chunk_of content chunk i)

-- How high the smallest tree over n leaves is: the number of powers of two below n, for n up to 2 ^ 20.
unfoldable pub height : ℕ → ℕ
height n = count_by (λ k. nat_lt (2 ^ k) n) (range_with_len 0 20)

-- The same, as what it is: the least h with 2 ^ h at least n.
pub record IsHeight (n h : ℕ) : Type 0 where
  pub covers : n ≤ 2 ^ h
  pub least : (k : ℕ) → k < h → 2 ^ k < n

-- The root hash, which is the swarm identifier.
abbrev pub root_of : List ℕ → ℕ → List ℕ
root_of content chunk =
    let n = chunk_count (length content) chunk in node (leaf_of content chunk) n (height n) 0

-- c halved k times: how many nodes of layer k are full under c leaves
abbrev pub above : ℕ → ℕ → ℕ
above zero c = c
above (suc k) c = above k c / 2

-- A node by its layer and its offset in that layer.
pub record Node : Type 0 where
  pub layer : ℕ
  pub offset : ℕ

-- all leaves under the node are chunks
abbrev pub is_full : ℕ → Node → Bool
is_full n at = nat_le ((at.offset + 1) * 2 ^ at.layer) n

-- The peaks: the roots of the largest full subtrees, from left to right (section 5.6.1).
-- Layer k has one where the number of its full nodes is odd: the last of them.
abbrev pub peaks_below : ℕ → ℕ → List Node
peaks_below zero n = []
peaks_below (suc k) n =
    cond (above k n % 2 == 1) (record { layer = k; offset = above k n - 1 } ∷ peaks_below k n) (peaks_below k n)

abbrev pub peaks : ℕ → List Node
peaks n = peaks_below 21 n

abbrev pub same_node : Node → Node → Bool
same_node a b = a.layer == b.layer && a.offset == b.offset

-- the node is a peak of the tree over so many chunks
abbrev pub is_peak : ℕ → Node → Bool
is_peak chunks n = list_any (same_node n) (peaks chunks)

abbrev pub leaf_at : ℕ → Node
leaf_at i = record { layer = 0; offset = i }
