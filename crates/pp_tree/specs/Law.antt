-- Laws of rooted books, which a function of this crate states.
use Rattle.std.specs.Prelude.{◌≡◌, ◌⊎◌, ℕ, zero, suc, ◌+◌, ◌/◌, ◌^◌, ◌<◌, Some, List, ◌++◌}
use Rattle.sha2.specs.Sha256.{sha256}
use Rattle.pp_terms.specs.tree.Content.{chunk_of}
use Rattle.pp_terms.specs.tree.Book.{LookUp, IsJoined, IsRooted, IsBacked, Clash}
use Rattle.pp_terms.specs.format.Descriptor.{Descriptor, height_of, IsDescriptor, IsContentOf}

-- Two texts with one digest: above node (k, j), on the way of n layers up, the pairs of the two books differ.
abbrev pub BooksClash : LookUp → LookUp → ℕ → ℕ → ℕ → Type 0
BooksClash book other zero k j = ⊥
BooksClash book other (suc n) k j =
    ((a : List ℕ) × (b : List ℕ) × (c : List ℕ) × (d : List ℕ) × IsJoined book k (j / 2) a b × IsJoined other k (j / 2) c d
    × (a ++ b ≡ c ++ d → ⊥) × (sha256 (a ++ b) ≡ sha256 (c ++ d)))
    ⊎ BooksClash book other n (suc k) (j / 2)

-- Two rooted books of one descriptor have the same digest of a node that both have, n layers below the root, or clash
-- on the way up.
abbrev pub RootedBooksAgree : Type 0
RootedBooksAgree = (d : Descriptor) (book other : LookUp) (k n j : ℕ) (x y : List ℕ) → IsRooted d book → IsRooted d other
    → k + n ≡ height_of d → j < 2 ^ n → book k j ≡ Some x → other k j ≡ Some y → (x ≡ y) ⊎ BooksClash book other n k j

-- Bytes that a book backs are the content's chunk, or there is a clash.
abbrev pub BackedIsChunk : Type 0
BackedIsChunk = (d : Descriptor) (content : List ℕ) (book : LookUp) (i : ℕ) (bytes : List ℕ)
    → IsDescriptor d → IsContentOf d content → IsBacked d book i bytes
    → (bytes ≡ chunk_of content d.chunk i) ⊎ Clash d content book i bytes
