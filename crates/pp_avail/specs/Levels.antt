-- For each number of copies which words have a chunk of so many.
use Rattle.std.specs.Prelude.{◌≡◌, ◌≢◌, ℕ, ◌+◌, ◌^◌, ◌<◌, ◌≤◌, ◌==◌, Bool, true, false, ◌&&◌, List, [], length, slice_index, slice_index_or}
use Rattle.pp_avail.specs.declared.planes.Planes.{Planes}
use Rattle.pp_avail.specs.Planes.{number_at, number_of, no_planes}

-- whether one of several rows has a number
abbrev pub is_in : List (List Bool) → ℕ → ℕ → Bool
is_in rows k i = slice_index_or (slice_index_or rows k []) i false

-- Of several rows, the one of so many copies and one more has a word exactly where a place of its planes has that number.
pub record IsLevelAt (levels : List (List Bool)) (w : ℕ) (planes : Planes) (fewer : ℕ) : Type 0 where
  pub some : (k : ℕ) → k < 64 → number_at planes k ≡ fewer + 1 → is_in levels fewer w ≡ true
  pub none : ((k : ℕ) → k < 64 → number_at planes k ≢ fewer + 1) → is_in levels fewer w ≡ false

-- The planes of so many words hold numbers up to 64, and of 64 rows the first has the words with a 1, the
-- next those with a 2, and so on.
pub record IsLevelled (planes : List Planes) (levels : List (List Bool)) : Type 0 where
  pub small : length planes < 2 ^ 26
  pub width : length levels ≡ 64
  pub sizes : (k : ℕ) → k < 64 → length (slice_index_or levels k []) ≡ length planes
  pub most : (i : ℕ) → number_of planes i ≤ 64
  pub level : (w fewer : ℕ) → fewer < 64 → w < length planes → IsLevelAt levels w (slice_index_or planes w no_planes) fewer

-- a number of two rows, and of so many copies
abbrev pub is_found : List Bool → List Bool → List ℕ → ℕ → ℕ → Bool
is_found wanted row counts copies i = slice_index_or wanted i false && (slice_index_or row i false && slice_index counts i == copies)
