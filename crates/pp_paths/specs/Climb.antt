-- Climbing from a node towards the root of its tree, up to the first node that a book has (RFC 7574, sections 5.2 and 5.6).
use Rattle.std.specs.Prelude.{◌≡◌, ℕ, zero, suc, ◌/◌, ◌==◌, ◌&&◌, cond, Option, Some, None, option_and_then, List}
use Rattle.std.specs.Option.{option_or}
use Rattle.sha2.specs.Sha256.{sha256}
use Rattle.pp_terms.specs.tree.Book.{LookUp, IsRooted}
use Rattle.pp_terms.specs.format.Descriptor.{Descriptor, height_of}
use Rattle.pp_terms.specs.tree.Proves.{joined}
use Rattle.pp_terms.specs.tree.Bins.{sibling}
use Rattle.pp_tree.specs.declared.node.Node.{Node}
use Rattle.pp_paths.specs.declared.climbing.Climb.{Climb}
use Rattle.pp_paths.specs.declared.climbing.Climb.TheVariants.{Reached, Lacks}

abbrev pub node_at : ℕ → ℕ → Node
node_at k j = record { layer = k; offset = j }

-- the book's digest, or else the other one
abbrev pub or_else : LookUp → LookUp → LookUp
or_else book others k j = option_or (book k j) (others k j)

-- where the book has the node, the climb ends there
abbrev pub ends_or : Option (List ℕ) → Node → List ℕ → Climb → Climb
ends_or None at digest rest = rest
ends_or (Some kept) at digest rest = Reached at digest kept

-- where the sibling isn't known, it ends there
abbrev pub lacks_or : Option (List ℕ) → Node → (List ℕ → Climb) → Climb
lacks_or None at rest = Lacks at
lacks_or (Some other) at rest = rest other

-- The climb from node (k, j) with a digest of its own, n layers below the root. It ends at the first node that the book
-- has, or at the first sibling that is neither in the book nor among the others; its next digest is that of both joined.
abbrev pub climb : LookUp → LookUp → ℕ → ℕ → ℕ → List ℕ → Climb
climb book others zero k j digest = ends_or (book k j) (node_at k j) digest (Lacks (node_at k j))
climb book others (suc n) k j digest =
    ends_or (book k j) (node_at k j) digest
    (lacks_or (or_else book others k (sibling j)) (node_at k (sibling j))
    (λ other. climb book others n (suc k) (j / 2) (sha256 (joined j digest other))))

-- The digests of the pairs on the way from node (k, j) to the node n layers above it: the climb's own, and the siblings'.
abbrev pub path : LookUp → ℕ → ℕ → ℕ → List ℕ → LookUp
path others zero k j digest l m = None
path others (suc n) k j digest l m =
    cond (l == k && m / 2 == j / 2) (cond (m == j) (Some digest) (others k (sibling j)))
    (option_and_then (λ other. path others n (suc k) (j / 2) (sha256 (joined j digest other)) l m) (others k (sibling j)))

-- The climb ended at that node of the book.
abbrev pub IsEndAt : Node → Climb → Type 0
IsEndAt node (Reached at found kept) = at ≡ node
IsEndAt node (Lacks at) = ⊥

-- The climb ended at a node that the book has, with that node's digest.
abbrev pub IsFit : Climb → Type 0
IsFit (Reached at found kept) = found ≡ kept
IsFit (Lacks at) = ⊥

-- The book is rooted, in a tree whose root lies in that layer.
pub record IsRootedAt (top : ℕ) (book : LookUp) : Type 0 where
  pub descriptor : Descriptor
  pub rooted : IsRooted descriptor book
  pub top_is : height_of descriptor ≡ top

-- The pairs on the path were added, where the book lacked them, and all else stays.
abbrev pub AddsPath : LookUp → LookUp → LookUp → Type 0
AddsPath way old new = (k j : ℕ) → new k j ≡ or_else old way k j
