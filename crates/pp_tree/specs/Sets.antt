-- What several sets have in common, and the words of one.
use Rattle.std.specs.Prelude.{◌≡◌, ℕ, ◌+◌, ◌*◌, ◌/◌, ◌<◌, ◌==◌, Bool, true, false, ◌&&◌, List, length, slice_index_or}
use Rattle.std.specs.Int.{bit_at}
use Rattle.pp_tree.specs.Bits.{bit_of}
use Rattle.pp_tree.specs.Marks.{words_for}

-- a number is in all of three sets
abbrev pub is_in_all : List Bool → List Bool → List Bool → ℕ → Bool
is_in_all a b c i = slice_index_or a i false && (slice_index_or b i false && slice_index_or c i false)

-- the members among the 64 numbers of one word, as its bits
abbrev pub IsWordOf : List Bool → ℕ → ℕ → Type 0
IsWordOf set w word = (k : ℕ) → k < 64 → (bit_at word k == 1) ≡ slice_index_or set (64 * w + k) false

-- One bit for each word of 64 numbers, which is set where any of them is a member, and none past the last word.
pub record AreMarksOf (set : List Bool) (marks : List ℕ) : Type 0 where
  pub size : length marks ≡ words_for (words_for (length set))
  pub some : (i : ℕ) → slice_index_or set i false ≡ true → bit_of marks (i / 64) ≡ true
  pub inside : (w : ℕ) → bit_of marks w ≡ true → w < words_for (length set)
