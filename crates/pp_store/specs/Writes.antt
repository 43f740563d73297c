-- What a put writes, in its order.
use Rattle.std.specs.Prelude.{◌≡◌, ℕ, zero, suc, ◌+◌, ◌*◌, ◌^◌, nat_lt, Bool, true, cond, unwrap_or, map, List, [], ◌∷◌, ◌++◌, slice_set}
use Rattle.pp_terms.specs.tree.Tree.{above}
use Rattle.pp_terms.specs.tree.Book.{LookUp}
use Rattle.pp_terms.specs.format.Descriptor.{Descriptor, chunks_of, height_of}
use Rattle.pp_terms.specs.disk.Store.{chunk_place, pair_slot, pair_place}
use Rattle.pp_terms.specs.disk.Disk.{DiskState, History, IsKnown, Write, after_write}
use Rattle.pp_store.specs.Pairs.{has_pair}

-- these writes, one after the other
abbrev pub after_writes : History → List Write → History
after_writes h [] = h
after_writes h (w ∷ ws) = after_writes (after_write h w.place w.bytes) ws

-- The pair of node (layer + 1, offset).
pub record Pair : Type 0 where
  pub layer : ℕ
  pub offset : ℕ

abbrev pub pair_at : ℕ → ℕ → Pair
pair_at k j = record { layer = k; offset = j }

-- the pairs of the first k layers on a chunk's way to the root, from below
abbrev pub way_pairs : ℕ → ℕ → List Pair
way_pairs i zero = []
way_pairs i (suc k) = way_pairs i k ++ pair_at k (above (suc k) i) ∷ []

-- the pair of the node of layer k + 1 that covers one of n chunks and isn't full, where there is one
abbrev pub unfilled_pair : ℕ → ℕ → List Pair
unfilled_pair n k = cond (nat_lt (above (suc k) n * 2 ^ suc k) n) (pair_at k (above (suc k) n) ∷ []) []

-- the same of the first k layers, from below
abbrev pub unfilled_pairs : ℕ → ℕ → List Pair
unfilled_pairs n zero = []
unfilled_pairs n (suc k) = unfilled_pairs n k ++ unfilled_pair n k

-- all pairs that a chunk needs: those on its way, then those of the nodes that aren't full
abbrev pub pairs_for : Descriptor → ℕ → List Pair
pairs_for d i = way_pairs i (height_of d) ++ unfilled_pairs (chunks_of d) (height_of d)

-- with this pair stored, and with all of these
abbrev pub with_pair : List Bool → Pair → List Bool
with_pair pairs p = slice_set pairs (pair_slot p.layer p.offset) true

abbrev pub with_pairs : List Bool → List Pair → List Bool
with_pairs pairs [] = pairs
with_pairs pairs (p ∷ ps) = with_pairs (with_pair pairs p) ps

-- the pairs of them that aren't stored, each once
abbrev pub unstored : List Bool → List Pair → List Pair
unstored pairs [] = []
unstored pairs (p ∷ ps) = cond (has_pair pairs p.layer p.offset) (unstored pairs ps) (p ∷ unstored (with_pair pairs p) ps)

-- the write of a pair, with the book's digests, and that of a chunk
abbrev pub pair_write : Descriptor → LookUp → Pair → Write
pair_write d book p = record {
  place = pair_place d.chunk p.layer p.offset;
  bytes = unwrap_or (book p.layer (2 * p.offset)) [] ++ unwrap_or (book p.layer (2 * p.offset + 1)) [];
}

abbrev pub chunk_write : Descriptor → ℕ → List ℕ → Write
chunk_write d i bytes = record { place = chunk_place d.chunk i; bytes = bytes }

-- What a put of chunk i writes: the chunk, and then each pair that it needs and that isn't stored, one write each.
abbrev pub put_writes : Descriptor → List Bool → LookUp → ℕ → List ℕ → List Write
put_writes d pairs book i bytes = chunk_write d i bytes ∷ map (pair_write d book) (unstored pairs (pairs_for d i))

-- These pairs were written where they weren't stored, and nothing else.
pub record Wrote (d : Descriptor) (book : LookUp) (ps : List Pair) (pairs pairs' : List Bool) (old new : DiskState) : Type 0 where
  pub pairs_are : pairs' ≡ with_pairs pairs ps
  pub history_is : IsKnown old → new.history ≡ after_writes old.history (map (pair_write d book) (unstored pairs ps))
