-- What the books of a world have in common: any two have the same digest at each node that both have, or there are
-- two texts with one digest.
use Rattle.std.specs.Prelude.{◌≡◌, ◌⊎◌, ℕ, ◌+◌, ◌<◌, ◌^◌, Some, List, Contains}
use Rattle.pp_terms.specs.format.Descriptor.{Descriptor, chunks_of, height_of}
use Rattle.pp_terms.specs.tree.Book.{LookUp, PairsClash}
use Rattle.pp_terms.specs.tree.Tree.{leaf_of, pair}
use Rattle.pp_tree.specs.Law.{BooksClash}
use Rattle.pp_world.specs.Session.{Session}
use Rattle.pp_world.specs.World.{PeerState, World}

-- Node (k, j) is one of the tree, n layers below the root.
pub record IsBelow (d : Descriptor) (n k j : ℕ) : Type 0 where
  pub layer : k + n ≡ height_of d
  pub within : j < 2 ^ n

-- Two books have the same digest of a node that both have, or at some ancestor of it the pairs that they join
-- differ and have the same digest.
abbrev pub BooksAgree : Descriptor → (one other : LookUp) → Type 0
BooksAgree d one other = (n k j : ℕ) (x y : List ℕ) → IsBelow d n k j → one k j ≡ Some x → other k j ≡ Some y
    → (x ≡ y) ⊎ BooksClash one other n k j

-- Two books clash above some node of the tree; and a book clashes so with the tree of a content.
abbrev pub HaveClashed : Descriptor → (one other : LookUp) → Type 0
HaveClashed d one other = (n : ℕ) × (k : ℕ) × (j : ℕ) × IsBelow d n k j × BooksClash one other n k j

abbrev pub ClashesWithTree : Descriptor → (content : List ℕ) → LookUp → Type 0
ClashesWithTree d content book =
    (n : ℕ) × (k : ℕ) × (j : ℕ) × IsBelow d n k j
    × PairsClash (pair (leaf_of content d.chunk) (chunks_of d)) book n k j

-- The session is one of some peer's of the world.
pub record IsSession (w : World) (s : Session) : Type 0 where
  pub peer : PeerState
  pub here : Contains w.peers peer
  pub among : Contains peer.sessions s

-- The books of any two sessions of any peers agree.
abbrev pub AllBooksAgree : Descriptor → World → Type 0
AllBooksAgree d w = (one other : Session) → IsSession w one → IsSession w other → BooksAgree d one.book other.book
