-- How many numbers below one pass a test.
use Rattle.std.specs.Prelude.{ℕ, zero, suc, ◌+◌, Bool, if◌then◌else◌}

unfoldable pub counted : (ℕ → Bool) → ℕ → ℕ
counted test zero = 0
counted test (suc n) = counted test n + (if test n then 1 else 0)
