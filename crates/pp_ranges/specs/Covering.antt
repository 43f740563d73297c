-- A cover of a range's beginning, node by node.
use Rattle.std.specs.Prelude.{◌≡◌, ℕ, ◌+◌, ◌*◌, ◌^◌, ◌<◌, ◌≤◌, nat_lt, true, List, length, count_by}
use Rattle.pp_terms.specs.tree.Tree.{Node}
use Rattle.pp_terms.specs.tree.Range.{IsTiling, is_covered}

abbrev pub IsMultiple : ℕ → ℕ → Type 0
IsMultiple layer at = (times : ℕ) × (at ≡ times * 2 ^ layer)

-- how many of the nodes begin below a leaf
abbrev pub begun_below : ℕ → List Node → ℕ
begun_below at nodes = count_by (λ (y : Node). nat_lt (y.offset * 2 ^ y.layer) at) nodes

-- The nodes cover the range up to a leaf; no node inside the range has that leaf and one before it, and every list of
-- nodes that covers the range has begun so many of them.
pub record IsCoverTo (low end at : ℕ) (nodes : List Node) : Type 0 where
  pub order : low ≤ at
  pub tiles : IsTiling low at nodes
  pub apart : (l j : ℕ) → low ≤ j * 2 ^ l → (j + 1) * 2 ^ l ≤ end → j * 2 ^ l ≤ at → at < (j + 1) * 2 ^ l → at ≤ j * 2 ^ l
  pub least : (others : List Node) → ((i : ℕ) → is_covered others i ≡ true → (low ≤ i) × (i < end))
      → ((i : ℕ) → low ≤ i → i < end → is_covered others i ≡ true) → length nodes ≤ begun_below at others
