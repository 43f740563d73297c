-- How far one acknowledgement moves a congestion window (RFC 6817, section 2.4.2), in bytes and microseconds.
use Rattle.std.specs.Prelude.{ℕ, ◌+◌, ◌*◌, ◌/◌, min, max, ℤ, pos, negsuc, ◌+ℤ◌, ◌-ℤ◌, ◌*ℤ◌}
use Rattle.std.specs.Int.{int_min}

-- the queuing delay to which the window is steered
abbrev pub target : ℕ
target = 100000

-- the most chunks that a window lets fly, and the fewest of one that grows or was halved
abbrev pub most : ℕ
most = 512

abbrev pub fewest : ℕ
fewest = 2

-- the greatest whole number that is at most the quotient
abbrev pub floored : ℤ → ℕ → ℤ
floored (pos n) divisor = pos (n / divisor)
floored (negsuc n) divisor = negsuc (n / divisor)

-- a whole number, 0 for those below
abbrev pub natural : ℤ → ℕ
natural (pos n) = n
natural (negsuc n) = 0

-- what the window gains; it is negative where the queuing delay is above the target
abbrev pub gain : (window acked queuing chunk : ℕ) → ℤ
gain window acked queuing chunk = floored ((pos target -ℤ pos queuing) *ℤ pos acked *ℤ pos chunk) (target * window)

-- the window then: at most one chunk above the flight, then at least two chunks, then at most 512
abbrev pub gained : (window acked queuing chunk flight : ℕ) → ℕ
gained window acked queuing chunk flight =
    min (most * chunk) (max (fewest * chunk) (natural (int_min (pos window +ℤ gain window acked queuing chunk) (pos (flight + chunk)))))
