-- The counts of the seats that have each chunk.
use Rattle.std.specs.Prelude.{◌≡◌, ℕ, ◌*◌, ◌^◌, ◌<◌, ◌≤◌, Bool, List, [], length, slice_index, slice_index_or}
use Rattle.pp_tree.specs.Marks.{words_for}
use Rattle.pp_avail.specs.Offers.{copies_in}

-- of each of 64 seats which of so many chunks it has, and for each chunk how many do, up to the end of the last word of 64
pub record IsCounted (chunks : ℕ) (seats : List (List Bool)) (counts : List ℕ) : Type 0 where
  pub most : chunks ≤ 2 ^ 20
  pub width : length seats ≡ 64
  pub sizes : (k : ℕ) → k < 64 → length (slice_index_or seats k []) ≡ chunks
  pub count : length counts ≡ 64 * words_for chunks
  pub copies : (i : ℕ) → slice_index counts i ≡ copies_in seats i
