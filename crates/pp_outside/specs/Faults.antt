-- How a device in memory counts its faults.
use Rattle.std.specs.Prelude.{ℕ, ◌+◌, ◌-◌, ◌^◌, min, if◌then◌else◌, Result, is_ok}

-- a count after one more, which stands still at the greatest number
abbrev pub one_more : ℕ → ℕ
one_more count = min (count + 1) (2 ^ 64 - 1)

-- each refusal is counted once, and nothing else is
abbrev pub counted : {T E : Type 0} → ℕ → Result T E → ℕ
counted before result = if is_ok result then before else one_more before
