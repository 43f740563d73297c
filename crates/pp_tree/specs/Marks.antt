-- Words of 64 bits with two marks a word, and the search for a bit in them.
use Rattle.std.specs.Prelude.{◌≡◌, ℕ, ◌+◌, ◌-◌, ◌*◌, ◌/◌, ◌^◌, ◌<◌, ◌≤◌, ◌==◌, min, not, true, false, Bool, List, length, slice_index, Option, MatchOption}
use Rattle.pp_tree.specs.Bits.{bit_of}

-- the least number from one on that passes a test
abbrev pub IsFirstFrom : (ℕ → Bool) → ℕ → Option ℕ → Type 0
IsFirstFrom p from found =
    MatchOption found ((k : ℕ) → from ≤ k → p k ≡ false)
    (λ i. (from ≤ i) × (p i ≡ true) × ((k : ℕ) → from ≤ k → k < i → p k ≡ false))

-- how many words hold so many bits
abbrev pub words_for : ℕ → ℕ
words_for count = (count + 63) / 64

-- a word of which each bit is set whose number is below a count
abbrev pub full_word : ℕ → ℕ → ℕ
full_word count w = 2 ^ min 64 (count - 64 * w) - 1

-- Words hold as many bits as the number says, and no bit past them. Of each word one mark says whether a bit is set, and one
-- whether a bit is not.
pub record IsMarked (count : ℕ) (words any lacks : List ℕ) : Type 0 where
  pub small : count < 2 ^ 32
  pub size : length words ≡ words_for count
  pub any_size : length any ≡ words_for (length words)
  pub lacks_size : length lacks ≡ words_for (length words)
  pub inside : (i : ℕ) → count ≤ i → bit_of words i ≡ false
  pub any_marks : (w : ℕ) → bit_of any w ≡ not (slice_index words w == 0)
  pub lacks_marks : (w : ℕ) → bit_of lacks w ≡ not (slice_index words w == full_word count w)
