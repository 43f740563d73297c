-- Sets of chunks that pass a test.
use Rattle.std.specs.Prelude.{◌≡◌, ℕ, ◌<◌, Bool, false, List, length, slice_index_or}

-- The set is that of so many chunks that pass the test.
pub record IsSetOf (chunks : ℕ) (test : ℕ → Bool) (set : List Bool) : Type 0 where
  pub size : length set ≡ chunks
  pub each : (i : ℕ) → i < chunks → slice_index_or set i false ≡ test i
