-- Rows of bits in words of 64.
use Rattle.std.specs.Prelude.{◌≡◌, ℕ, ◌/◌, ◌%◌, ◌==◌, Bool, false, ◌&&◌, List, length, slice_index_or}
use Rattle.std.specs.Int.{bit_at}
use Rattle.pp_tree.specs.Bits.{bit_of}
use Rattle.pp_tree.specs.Marks.{words_for}

-- a number is among those whose bits are set in the word of that number
abbrev pub is_among : ℕ → ℕ → ℕ → Bool
is_among w word i = i / 64 == w && bit_at word (i % 64) == 1

-- these are the words of a row
pub record AreWordsOf (row : List Bool) (words : List ℕ) : Type 0 where
  pub size : length words ≡ words_for (length row)
  pub bits : (i : ℕ) → bit_of words i ≡ slice_index_or row i false
