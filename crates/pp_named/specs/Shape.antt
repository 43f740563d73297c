-- The nodes of a book that no content's tree has.
use Rattle.std.specs.Prelude.{◌≡◌, ◌⊎◌, ℕ, ◌*◌, ◌^◌, ◌<◌, ◌≤◌, Option, Some, None, List}
use Rattle.pp_terms.specs.format.Descriptor.{Descriptor, chunks_of}
use Rattle.pp_terms.specs.tree.Book.{LookUp}
use Rattle.pp_terms.specs.tree.Tree.{empty_hash}
use Rattle.pp_tree.specs.Book.{IsInTree}
use Rattle.pp_tree.specs.declared.node.Node.{Node}

-- The book has the node, with another digest than 32 zero bytes.
pub record IsFilled (book : LookUp) (k j : ℕ) : Type 0 where
  pub digest : List ℕ
  pub is : book k j ≡ Some digest
  pub differ : digest ≡ empty_hash → ⊥

-- The node is one of the tree and covers no chunk, and the book has it with another digest than 32 zero bytes.
pub record IsMisshapen (e : Descriptor) (book : LookUp) (k j : ℕ) : Type 0 where
  pub in_tree : IsInTree e k j
  pub past : chunks_of e ≤ j * 2 ^ k
  pub filled : IsFilled book k j

-- The first such node of a layer.
pub record IsFirstInLayer (e : Descriptor) (book : LookUp) (k j : ℕ) : Type 0 where
  pub is : IsMisshapen e book k j
  pub first : (i : ℕ) → IsMisshapen e book k i → j ≤ i

-- The first such node: none is in a lower layer, and none is before it in its own.
pub record IsFirstMisshapen (e : Descriptor) (book : LookUp) (k j : ℕ) : Type 0 where
  pub is : IsMisshapen e book k j
  pub first : (l i : ℕ) → IsMisshapen e book l i → (k < l) ⊎ ((k ≡ l) × (j ≤ i))

-- The answer for a book that was prepared for a descriptor, or wasn't prepared.
abbrev pub FindsMisshapen : Option Descriptor → LookUp → Option Node → Type 0
FindsMisshapen None book found = found ≡ None
FindsMisshapen (Some e) book None = (k j : ℕ) → IsMisshapen e book k j → ⊥
FindsMisshapen (Some e) book (Some at) = IsFirstMisshapen e book at.layer at.offset
