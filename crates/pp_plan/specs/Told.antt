-- What a peer has told that it knows.
use Rattle.std.specs.Prelude.{◌≡◌, ℕ, zero, suc, ◌+◌, ◌*◌, ◌^◌, nat_le, Bool, false, ◌&&◌, ◌||◌, List, [], ◌∷◌}
use Rattle.pp_terms.specs.tree.Tree.{Node, height, is_peak}
use Rattle.pp_terms.specs.tree.Bins.{parent_of}
use Rattle.pp_terms.specs.tree.Range.{Span}
use Rattle.pp_traffic.specs.Hashes.{tells}
use Rattle.pp_tree.specs.Bits.{bit_of}

-- one of so many numbers, from one on, passes a test
unfoldable pub some_among : (ℕ → Bool) → ℕ → ℕ → Bool
some_among test from zero = false
some_among test from (suc count) = test from || some_among test (from + 1) count

-- Of a content of so many chunks, whether any chunk was told of, and of each chunk whether it was, 64 bits to a word.
pub record ToldNodes : Type 0 where
  pub chunks : ℕ
  pub some : Bool
  pub told : List ℕ

-- The node lies in the content's tree, and some chunk under it was told of.
abbrev pub is_marked : ToldNodes → Node → Bool
is_marked t n = nat_le n.layer (height t.chunks) && some_among (bit_of t.told) (n.offset * 2 ^ n.layer) (2 ^ n.layer)

-- The peer has told that it knows the node: a peak, once any chunk was told of, and each child of a marked node.
abbrev pub knows : ToldNodes → Node → Bool
knows t n = t.some && (is_peak t.chunks n || is_marked t (parent_of n))

-- a range as messages name it
abbrev pub span_of : Span → Span
span_of r = record { first = r.first; last = r.last }

-- What a peer told by these ranges since the last forgetting, the newest first: some range tells that it knows the node.
abbrev pub tells_any : ℕ → List Span → Node → Bool
tells_any chunks [] n = false
tells_any chunks (range ∷ before) n = tells chunks range n || tells_any chunks before n

-- These ranges were told since the last forgetting, and nothing else.
abbrev pub IsToldBy : List Span → ToldNodes → Type 0
IsToldBy ranges t = (n : Node) → knows t n ≡ tells_any t.chunks ranges n
