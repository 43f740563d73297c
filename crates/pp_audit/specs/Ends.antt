-- At how many ends of turns a test fails, and the place at which the last turn's sendings begin.
use Rattle.std.specs.Prelude.{ℕ, ◌+◌, nat_le, Bool, if◌then◌else◌, List, [], ◌∷◌, length}
use Rattle.pp_terms.specs.format.Traffic.{Record}
use Rattle.pp_traffic.specs.Past.{is_event}

-- a turn begins with the record, and the test fails of the records before it
abbrev pub fails_at : (List Record → Bool) → Record → List Record → ℕ
fails_at test r before = if is_event r then (if test before then 0 else 1) else 0

-- at how many ends of turns but the last it does
abbrev pub failing_before : (List Record → Bool) → List Record → ℕ
failing_before test [] = 0
failing_before test (r ∷ before) = failing_before test before + fails_at test r before

-- A test fails at the ends of at most so many turns.
abbrev pub fails_few : ℕ → (List Record → Bool) → List Record → Bool
fails_few r test turns = nat_le (failing_before test turns + (if test turns then 0 else 1)) r

-- the number of records up to the event with which the last turn began
abbrev pub turn_start : List Record → ℕ
turn_start [] = 0
turn_start (r ∷ before) = if is_event r then length before + 1 else turn_start before
