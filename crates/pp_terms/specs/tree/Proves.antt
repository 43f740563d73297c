-- When digests prove a chunk (RFC 7574, sections 5.2 and 5.6): they lead from the chunk up to its peak, and from the peaks to
-- the root.
use Rattle.std.specs.Prelude.{◌≡◌, ℕ, zero, suc, ◌-◌, ◌*◌, ◌/◌, ◌%◌, ◌^◌, ◌==◌, nat_lt, cond, Option, Some, None, is_none, option_and_then, List, ◌++◌, length}
use Rattle.std.specs.List.{find}
use Rattle.std.specs.Int.{w32, trailing_zeros}
use Rattle.sha2.specs.Sha256.{sha256}
use Rattle.pp_terms.specs.tree.Content.{chunk_length}
use Rattle.pp_terms.specs.tree.Tree.{Node, empty_hash, above, peaks}
use Rattle.pp_terms.specs.tree.Book.{LookUp, AreDigests}
use Rattle.pp_terms.specs.tree.Bins.{sibling}
use Rattle.pp_terms.specs.format.Descriptor.{Descriptor, chunks_of, height_of}

-- the digests of child j and of its sibling, joined left then right
abbrev pub joined : ℕ → List ℕ → List ℕ → List ℕ
joined j digest other = cond (j % 2 == 0) (digest ++ other) (other ++ digest)

-- The digest of the node n layers above node (k, j), by that node's own and the siblings' on the way. None where a
-- sibling's isn't known.
abbrev pub climbed : LookUp → ℕ → ℕ → ℕ → List ℕ → Option (List ℕ)
climbed known zero k j digest = Some digest
climbed known (suc n) k j digest =
    option_and_then (λ other. climbed known n (suc k) (j / 2) (sha256 (joined j digest other))) (known k (sibling j))

-- what is known over n chunks, where a node that covers none has the empty hash
abbrev pub filled : ℕ → LookUp → LookUp
filled n known k j = cond (nat_lt (j * 2 ^ k) n) (known k j) (Some empty_hash)

-- the leftmost peak over n chunks that isn't known
unfoldable pub first_absent : LookUp → ℕ → Option Node
first_absent known n = find (λ at. is_none (known at.layer at.offset)) (peaks n)

-- The layer of the last peak over n chunks, the lowest one: how many zero bits n ends in.
unfoldable pub last_layer : ℕ → ℕ
last_layer n = trailing_zeros w32 n

-- the offset of the peak of a layer
abbrev pub peak_offset : ℕ → ℕ → ℕ
peak_offset k n = above k n - 1

-- Digests of 32 bytes prove that the bytes are chunk i: every peak is known, climbing from the chunk gives the digest of
-- the peak above it, and climbing from the last peak, with the others as siblings, gives the root. A longer digest could
-- be a piece of a chunk that is joined from two.
pub record Proves (d : Descriptor) (known : LookUp) (i : ℕ) (bytes : List ℕ) : Type 0 where
  pub whole : length bytes ≡ chunk_length d.size d.chunk i
  pub digests : AreDigests known
  pub peaks_known : first_absent known (chunks_of d) ≡ None
  -- the layer of the peak above the chunk
  pub top : ℕ
  pub has_peak : above top (chunks_of d) % 2 ≡ 1
  pub below_it : above top i ≡ peak_offset top (chunks_of d)
  pub to_peak : climbed known top 0 i (sha256 bytes) ≡ known top (peak_offset top (chunks_of d))
  pub to_root :
      let last = last_layer (chunks_of d) in
      option_and_then (climbed (filled (chunks_of d) known) (height_of d - last) last (peak_offset last (chunks_of d)))
      (known last (peak_offset last (chunks_of d))) ≡ Some d.root
