-- Ranges of chunks, lists of them, and the nodes that cover a range (RFC 7574, sections 4.1 to 4.3).
use Rattle.std.specs.Prelude.{◌≡◌, ℕ, ◌+◌, ◌-◌, ◌*◌, ◌^◌, ◌<◌, ◌≤◌, nat_le, Bool, false, ◌&&◌, ◌||◌, List, [], ◌∷◌, length}
use Rattle.pp_terms.specs.tree.Tree.{Node}

-- A range, both ends included.
pub record Span : Type 0 where
  pub first : ℕ
  pub last : ℕ

abbrev pub within : Span → ℕ → Bool
within span i = nat_le span.first i && nat_le i span.last

-- number i lies in one of the ranges
abbrev pub has : List Span → ℕ → Bool
has [] i = false
has (x ∷ xs) i = within x i || has xs i

-- The ranges rise from a number on, and between two of them a number is left out.
abbrev pub IsRunsFrom : ℕ → List Span → Type 0
IsRunsFrom from [] = Unit {0}
IsRunsFrom from (x ∷ xs) = (from ≤ x.first) × (x.first ≤ x.last) × IsRunsFrom (x.last + 2) xs

-- Every list of ranges with just these numbers is longer than that.
abbrev pub NeedsMore : ℕ → (ℕ → Bool) → Type 0
NeedsMore limit numbers = (xs : List Span) → ((i : ℕ) → has xs i ≡ numbers i) → limit < length xs

-- the leaves under a node
abbrev pub leaves_of : Node → Span
leaves_of at = record { first = at.offset * 2 ^ at.layer; last = (at.offset + 1) * 2 ^ at.layer - 1 }

-- leaf i lies under one of the nodes
abbrev pub is_covered : List Node → ℕ → Bool
is_covered [] i = false
is_covered (x ∷ xs) i = within (leaves_of x) i || is_covered xs i

-- The leaves under the nodes are those from one number on, each once and in rising order, and end before another.
abbrev pub IsTiling : ℕ → ℕ → List Node → Type 0
IsTiling from end [] = from ≡ end
IsTiling from end (x ∷ xs) = (x.offset * 2 ^ x.layer ≡ from) × IsTiling (from + 2 ^ x.layer) end xs

-- The nodes' leaves are the range, each once, in rising order; and no list of nodes with these leaves is shorter.
pub record IsLeastCover (span : Span) (nodes : List Node) : Type 0 where
  pub tiles : IsTiling span.first (span.last + 1) nodes
  pub least : (others : List Node) → ((i : ℕ) → is_covered others i ≡ within span i) → length nodes ≤ length others
