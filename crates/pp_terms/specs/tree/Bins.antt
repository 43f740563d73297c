-- Bins (RFC 7574, section 4.2): the nodes of a tree over chunks, each with one number. Bin 2 * i is leaf i, and a node's
-- number is halfway between those of its children.
use Rattle.std.specs.Prelude.{◌≡◌, ℕ, zero, suc, ◌+◌, ◌-◌, ◌*◌, ◌/◌, ◌%◌, ◌^◌, ◌<◌, ◌==◌, if◌then◌else◌}
use Rattle.std.specs.Int.{w32, w64, trailing_ones}
use Rattle.pp_terms.specs.tree.Tree.{Node}

-- the number of the bin at a layer and an offset in it
abbrev pub bin_number : Node → ℕ
bin_number n = 2 ^ (n.layer + 1) * n.offset + 2 ^ n.layer - 1

-- The node has a number of so many bits; the greatest, of one bits alone, is no bin's.
abbrev pub IsBin : ℕ → Node → Type 0
IsBin width n = bin_number n < 2 ^ width - 1

-- the least and the greatest leaf under it
abbrev pub first_leaf : Node → ℕ
first_leaf n = n.offset * 2 ^ n.layer

abbrev pub last_leaf : Node → ℕ
last_leaf n = (n.offset + 1) * 2 ^ n.layer - 1

abbrev pub parent_of : Node → Node
parent_of n = record { layer = n.layer + 1; offset = n.offset / 2 }

-- the other child of its parent, and the offset of that child in its layer
abbrev pub sibling : ℕ → ℕ
sibling j = if j % 2 == 0 then j + 1 else j - 1

abbrev pub sibling_of : Node → Node
sibling_of n = record { layer = n.layer; offset = sibling n.offset }

-- the bin of a number of so many bits: an even one is a leaf's, and an odd one that of the half, a layer higher
abbrev pub bin_of : ℕ → ℕ → Node
bin_of zero number = record { layer = 0; offset = number / 2 }
bin_of (suc width) number =
    let half = bin_of width (number / 2) in
    if number % 2 == 0 then record { layer = 0; offset = number / 2 } else record half { layer = half.layer + 1 }

-- Each number but the greatest is one bin's, each bin has one number, its layer is the count of trailing one bits, and
-- the number is the sum of the least and the greatest leaf.
abbrev pub BinsAreNumbers : Type 0
BinsAreNumbers = ((w number : ℕ) → number < 2 ^ w - 1 → bin_number (bin_of w number) ≡ number)
    × ((a b : Node) → bin_number a ≡ bin_number b → a ≡ b)
    × ((n : Node) → IsBin 32 n → trailing_ones w32 (bin_number n) ≡ n.layer)
    × ((n : Node) → IsBin 64 n → trailing_ones w64 (bin_number n) ≡ n.layer)
    × ((n : Node) → first_leaf n + last_leaf n ≡ bin_number n)

-- Bins of a small tree, and those at the edges of 32 bits.
pub record BinExamples : Type 0 where
  pub small : (bin_number (record { layer = 0; offset = 1 }) ≡ 2) × (bin_number (record { layer = 1; offset = 1 }) ≡ 5)
      × (bin_number (record { layer = 1; offset = 2 }) ≡ 9) × (bin_number (record { layer = 0; offset = 6 }) ≡ 12)
  pub back : (bin_of 32 2 ≡ record { layer = 0; offset = 1 }) × (bin_of 32 5 ≡ record { layer = 1; offset = 1 })
      × (bin_of 32 9 ≡ record { layer = 1; offset = 2 }) × (bin_of 32 12 ≡ record { layer = 0; offset = 6 })
  -- the four leaves under bin 3, and those under bin 11
  pub leaves : (first_leaf (bin_of 32 3) ≡ 0) × (last_leaf (bin_of 32 3) ≡ 3)
      × (first_leaf (bin_of 32 11) ≡ 4) × (last_leaf (bin_of 32 11) ≡ 7)
  -- bins 1 and 5 are the children of bin 3
  pub family : (parent_of (bin_of 32 1) ≡ bin_of 32 3) × (parent_of (bin_of 32 5) ≡ bin_of 32 3)
      × (sibling_of (bin_of 32 1) ≡ bin_of 32 5) × (sibling_of (bin_of 32 5) ≡ bin_of 32 1)
  -- the greatest bin of layer 31, and its leaves
  pub edge : (bin_number (record { layer = 31; offset = 0 }) ≡ 2147483647) × (last_leaf (record { layer = 31; offset = 0 }) ≡ 2147483647)
