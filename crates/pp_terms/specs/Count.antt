-- Counts of a device's faults: a count never falls, and stands still at the greatest number of 64 bits.
use Rattle.std.specs.Prelude.{ℕ, ◌+◌, ◌-◌, ◌^◌, ◌<◌, ◌≤◌, min, Result, IsErr}

-- a number, but at most the greatest of 64 bits; and one more, so too
abbrev pub capped : ℕ → ℕ
capped n = min n (2 ^ 64 - 1)

abbrev pub one_more : ℕ → ℕ
one_more n = capped (n + 1)

-- The count rose, or stands at the greatest number, where a rise can't be seen.
abbrev pub HasRisen : ℕ → ℕ → Type 0
HasRisen before now = now < 2 ^ 64 - 1 → before < now

-- The count didn't fall, and an error is answered only where it rose.
pub record HasCause {T E : Type 0} (before now : ℕ) (result : Result T E) : Type 0 where
  pub later : before ≤ now
  pub risen : IsErr result → HasRisen before now
