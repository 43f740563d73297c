-- A book that leads up to the root, pair by pair.
use Rattle.std.specs.Prelude.{◌≡◌, ◌⊎◌, ℕ, ◌+◌, ◌-◌, ◌*◌, ◌^◌, ◌<◌, Some, None, List, length}
use Rattle.pp_terms.specs.tree.Book.{LookUp, IsJoined}
use Rattle.pp_terms.specs.format.Descriptor.{Descriptor, height_of}

-- Two digests stand side by side, each of 32 bytes, and the node above them has that of the two.
pub record IsPair (book : LookUp) (k i : ℕ) : Type 0 where
  pub left : List ℕ
  pub right : List ℕ
  pub joined : IsJoined book k i left right
  pub left_length : length left ≡ 32
  pub right_length : length right ≡ 32

-- the children of node (k + 1, i) are a pair, or both absent
abbrev pub Hangs : LookUp → ℕ → ℕ → Type 0
Hangs book k i = ((book k (2 * i) ≡ None) × (book k (2 * i + 1) ≡ None)) ⊎ IsPair book k i

-- all nodes of a layer below the root hang so
abbrev pub HangsAll : Descriptor → LookUp → ℕ → Type 0
HangsAll d book k = (i : ℕ) → i < 2 ^ (height_of d - k - 1) → Hangs book k i

-- The root is the descriptor's, and each layer below it hangs.
pub record HangsFromRoot (d : Descriptor) (book : LookUp) : Type 0 where
  pub root_is : book (height_of d) 0 ≡ Some d.root
  pub root_length : length d.root ≡ 32
  pub layers : (k : ℕ) → k < height_of d → HangsAll d book k
