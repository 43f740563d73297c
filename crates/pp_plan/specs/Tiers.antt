-- Bits in words of 64, and tiers of them, each over the words of the one below.
use Rattle.std.specs.Prelude.{◌≡◌, ℕ, ◌-◌, ◌*◌, ◌^◌, ◌<◌, ◌≤◌, ◌==◌, not, List, length, slice_index}
use Rattle.pp_tree.specs.Bits.{bit_of}
use Rattle.pp_plan.specs.Told.{some_among}

-- One bit a word says whether the word lacks some bit.
pub record IsLacking (words lacks : List ℕ) : Type 0 where
  pub small : length words < 2 ^ 32
  pub size : length words ≤ 64 * length lacks
  pub least : length lacks < 2 ^ 32
  pub marks : (w : ℕ) → w < length words → bit_of lacks w ≡ not (slice_index words w == 2 ^ 64 - 1)

-- One bit a word says whether the word has some bit.
abbrev pub IsOver : List ℕ → List ℕ → Type 0
IsOver above below = (w : ℕ) → bit_of above w ≡ some_among (bit_of below) (64 * w) 64

-- Four tiers, each over the one before it, the last of one word.
pub record AreTiers (lowest second third highest : List ℕ) : Type 0 where
  pub second_size : length lowest ≤ 64 * length second
  pub third_size : length second ≤ 64 * length third
  pub highest_size : length third ≤ 64
  pub one : length highest ≡ 1
  pub second_is : IsOver second lowest
  pub third_is : IsOver third second
  pub highest_is : IsOver highest third
