-- What may be wrong with a sender's book: it has another digest than the receiver's at a node, which of two rooted books means two
-- texts with one digest; or at a node that covers no chunk another than the empty hash.
use Rattle.std.specs.Prelude.{◌≡◌, ◌⊎◌, ℕ, ◌*◌, ◌^◌, ◌≤◌, Some, List}
use Rattle.pp_terms.specs.format.Descriptor.{Descriptor, chunks_of}
use Rattle.pp_terms.specs.tree.Book.{LookUp}
use Rattle.pp_terms.specs.tree.Tree.{empty_hash}
use Rattle.pp_world.specs.Agreement.{IsBelow}

-- Two books have different digests of a node of the tree, n layers below the root.
pub record Differ (d : Descriptor) (one other : LookUp) : Type 0 where
  pub n : ℕ
  pub k : ℕ
  pub j : ℕ
  pub below : IsBelow d n k j
  pub digest : List ℕ
  pub digest' : List ℕ
  pub is : one k j ≡ Some digest
  pub is' : other k j ≡ Some digest'
  pub differ : digest ≡ digest' → ⊥

-- The book has a node of the tree that covers no chunk, with another digest than the empty hash.
pub record HasStray (d : Descriptor) (book : LookUp) : Type 0 where
  pub n : ℕ
  pub k : ℕ
  pub j : ℕ
  pub below : IsBelow d n k j
  pub past : chunks_of d ≤ j * 2 ^ k
  pub digest : List ℕ
  pub is : book k j ≡ Some digest
  pub differ : digest ≡ empty_hash → ⊥

-- The sender's book differs from the receiver's, or has a stray digest.
abbrev pub AreAtFault : Descriptor → (mine theirs : LookUp) → Type 0
AreAtFault d mine theirs = Differ d mine theirs ⊎ HasStray d theirs
