-- A book of digests, seen as a look-up from nodes (layer, offset) to the digests that are known (RFC 7574, section 5.3).
-- The same words serve a book in memory, what an image of a store lets be known, and the tree of a content.
use Rattle.std.specs.Prelude.{◌≡◌, ◌⊎◌, ℕ, zero, suc, ◌*◌, ◌+◌, ◌-◌, ◌/◌, ◌%◌, ◌<◌, ◌==◌, Bool, true, ◌&&◌, ◌||◌, Option, Some, is_some, List, ◌++◌, length}
use Rattle.sha2.specs.Sha256.{sha256}
use Rattle.pp_terms.specs.tree.Content.{chunk_of, chunk_length}
use Rattle.pp_terms.specs.tree.Tree.{leaf_of, pair, above}
use Rattle.pp_terms.specs.format.Descriptor.{Descriptor, chunks_of, height_of}

abbrev pub LookUp : Type 0
LookUp = ℕ → ℕ → Option (List ℕ)

-- the book has every peak over n leaves of the layers below one; layer k has a peak where `above k n` is odd
abbrev pub has_peaks_below : LookUp → ℕ → ℕ → Bool
has_peaks_below book n zero = true
has_peaks_below book n (suc k) = (above k n % 2 == 0 || is_some (book k (above k n - 1))) && has_peaks_below book n k

-- the book has every peak over n leaves
abbrev pub has_peaks : LookUp → ℕ → Bool
has_peaks book n = has_peaks_below book n 21

-- each digest has 32 bytes
abbrev pub AreDigests : LookUp → Type 0
AreDigests book = (k j : ℕ) (digest : List ℕ) → book k j ≡ Some digest → length digest ≡ 32

-- Node (k + 1, i) and its two children are in the book, and the digest of the two joined is the parent's.
pub record IsJoined (book : LookUp) (k i : ℕ) (left right : List ℕ) : Type 0 where
  pub left_is : book k (2 * i) ≡ Some left
  pub right_is : book k (2 * i + 1) ≡ Some right
  pub joined : book (suc k) i ≡ Some (sha256 (left ++ right))

-- The root is the descriptor's, and every other entry has its sibling and its parent beside it, whose digest
-- is that of the two.
pub record IsRooted (d : Descriptor) (book : LookUp) : Type 0 where
  pub root_is : book (height_of d) 0 ≡ Some d.root
  pub digests : AreDigests book
  pub hangs : (k j : ℕ) (x : List ℕ) → book k j ≡ Some x
      → ((k ≡ height_of d) × (j ≡ 0)) ⊎ ((left : List ℕ) × (right : List ℕ) × IsJoined book k (j / 2) left right)

-- The bytes are of chunk i's length and their digest is the book's for its leaf, up to the root.
pub record IsBacked (d : Descriptor) (book : LookUp) (i : ℕ) (bytes : List ℕ) : Type 0 where
  pub rooted : IsRooted d book
  pub within : i < chunks_of d
  pub whole : length bytes ≡ chunk_length d.size d.chunk i
  pub leaf : book 0 i ≡ Some (sha256 bytes)

-- Two texts with one digest: above node (k, j), on the way of n layers up, the pair of the content's tree is another than
-- the book's.
abbrev pub PairsClash : (ℕ → ℕ → List ℕ) → LookUp → ℕ → ℕ → ℕ → Type 0
PairsClash tree book zero k j = ⊥
PairsClash tree book (suc n) k j =
    ((left : List ℕ) × (right : List ℕ) × IsJoined book k (j / 2) left right
    × (tree k (j / 2) ≡ left ++ right → ⊥) × (sha256 (tree k (j / 2)) ≡ sha256 (left ++ right)))
    ⊎ PairsClash tree book n (suc k) (j / 2)

-- Two texts with one digest, one of the content and one of the book or the bytes: the chunks, or two pairs above them.
abbrev pub Clash : Descriptor → List ℕ → LookUp → ℕ → List ℕ → Type 0
Clash d content book i bytes =
    ((bytes ≡ chunk_of content d.chunk i → ⊥) × (sha256 bytes ≡ sha256 (chunk_of content d.chunk i)))
    ⊎ PairsClash (pair (leaf_of content d.chunk) (chunks_of d)) book (height_of d) 0 i
