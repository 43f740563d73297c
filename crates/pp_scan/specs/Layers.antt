-- A book while the nodes of a tree are looked up in an image, from the root down.
use Rattle.std.specs.Prelude.{◌≡◌, ℕ, ◌+◌, ◌<◌, None, Some, List}
use Rattle.pp_terms.specs.tree.Tree.{above}
use Rattle.pp_terms.specs.tree.Book.{LookUp}
use Rattle.pp_terms.specs.format.Descriptor.{Descriptor}
use Rattle.pp_terms.specs.disk.Image.{known}

-- Node (l, j) lies under node (k, i), so many layers down.
pub record IsUnder (k i l j : ℕ) : Type 0 where
  pub down : ℕ
  pub some : 0 < down
  pub layer : l + down ≡ k
  pub way : above down j ≡ i

-- The book has nothing under a node.
abbrev pub IsBareUnder : ℕ → ℕ → LookUp → Type 0
IsBareUnder k i book = (l j : ℕ) → IsUnder k i l j → book l j ≡ None

-- The book has exactly the known nodes under a node; or no others.
abbrev pub HasKnownUnder : Descriptor → List ℕ → ℕ → ℕ → LookUp → Type 0
HasKnownUnder d image k i book = (l j : ℕ) → IsUnder k i l j → book l j ≡ known d image l j

abbrev pub HasOnlyKnownUnder : Descriptor → List ℕ → ℕ → ℕ → LookUp → Type 0
HasOnlyKnownUnder d image k i book =
    (l j : ℕ) (digest : List ℕ) → IsUnder k i l j → book l j ≡ Some digest → known d image l j ≡ Some digest

-- The book has only known nodes.
abbrev pub HasOnlyKnown : Descriptor → List ℕ → LookUp → Type 0
HasOnlyKnown d image book = (k j : ℕ) (digest : List ℕ) → book k j ≡ Some digest → known d image k j ≡ Some digest

-- The book has exactly the known nodes.
abbrev pub HasKnown : Descriptor → List ℕ → LookUp → Type 0
HasKnown d image book = (k j : ℕ) → book k j ≡ known d image k j
