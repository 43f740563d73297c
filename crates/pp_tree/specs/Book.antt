-- What is meant by a book in memory: its cells, and the look-up that they are.
use Rattle.std.specs.Prelude.{◌≡◌, ℕ, suc, ◌+◌, ◌-◌, ◌*◌, ◌/◌, ◌^◌, ◌<◌, ◌≤◌, Option, Some, None, List, [], length, slice_index_or}
use Rattle.pp_terms.specs.tree.Book.{LookUp, IsRooted}
use Rattle.pp_terms.specs.format.Descriptor.{Descriptor, chunks_of, height_of}

-- The descriptor that the book was prepared for, if it was, and the cells.
pub record BookState : Type 0 where
  pub descriptor : Option Descriptor
  pub cells : List (Option (List ℕ))

abbrev pub empty_book : BookState
empty_book = record { descriptor = None; cells = [] }

abbrev pub chunks_or_none : Option Descriptor → ℕ
chunks_or_none None = 0
chunks_or_none (Some d) = chunks_of d

-- how many chunks the content of a book has, 0 before the book is prepared
abbrev pub chunks_in_book : BookState → ℕ
chunks_in_book book = chunks_or_none book.descriptor

-- the cell of node (k, j): its bin number (RFC 7574, section 4.2)
abbrev pub cell_of : ℕ → ℕ → ℕ
cell_of k j = 2 ^ k * (2 * j + 1) - 1

abbrev pub in_cells : List (Option (List ℕ)) → LookUp
in_cells cells k j = slice_index_or cells (cell_of k j) None

abbrev pub entry : BookState → LookUp
entry book = in_cells book.cells

-- The book was prepared for the descriptor, and is rooted.
pub record IsBookOf (d : Descriptor) (book : BookState) : Type 0 where
  pub descriptor_is : book.descriptor ≡ Some d
  pub rooted : IsRooted d (entry book)

-- A node of the smallest full tree over the content's chunks: the root, or a node below it.
pub record IsInTree (d : Descriptor) (k j : ℕ) : Type 0 where
  pub layer : k ≤ height_of d
  pub offset : j < 2 ^ (height_of d - k)

-- The book was prepared for the descriptor: it has a cell for each node of the tree, and no other.
pub record IsPreparedFor (d : Descriptor) (book : BookState) : Type 0 where
  pub descriptor_is : book.descriptor ≡ Some d
  pub cells : length book.cells ≡ 2 ^ suc (height_of d) - 1

-- The book has the root and no other node.
pub record HasRootAlone (d : Descriptor) (book : LookUp) : Type 0 where
  pub root_is : book (height_of d) 0 ≡ Some d.root
  pub others : (k j : ℕ) → ((k ≡ height_of d) × (j ≡ 0) → ⊥) → book k j ≡ None

-- The two children of node (k + 1, i) were added, and all else stays.
pub record IsAdopted (k i : ℕ) (left right : List ℕ) (old new : LookUp) : Type 0 where
  pub left_is : new k (2 * i) ≡ Some left
  pub right_is : new k (2 * i + 1) ≡ Some right
  pub others : (l j : ℕ) → ((l ≡ k) × (j / 2 ≡ i) → ⊥) → new l j ≡ old l j

-- Node (k, j) was given the digest, and all else stays.
pub record IsEntered (k j : ℕ) (digest : List ℕ) (old new : LookUp) : Type 0 where
  pub entry_is : new k j ≡ Some digest
  pub others : (l i : ℕ) → ((l ≡ k) × (i ≡ j) → ⊥) → new l i ≡ old l i
