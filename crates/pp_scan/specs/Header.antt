-- Where a file differs from a descriptor's header.
use Rattle.std.specs.Prelude.{◌≡◌, ℕ, ◌<◌, List, slice_index}

-- This is the first of 64 bytes that differs from those that are wanted.
pub record IsDifference (bytes wanted : List ℕ) (at found want : ℕ) : Type 0 where
  pub within : at < 64
  pub found_is : found ≡ slice_index bytes at
  pub want_is : want ≡ slice_index wanted at
  pub differ : found ≡ want → ⊥
  pub first : (k : ℕ) → k < at → slice_index bytes k ≡ slice_index wanted k
