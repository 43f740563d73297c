-- Round trips of a channel and its timeout (RFC 6298, sections 2 and 5), in microseconds.
use Rattle.std.specs.Prelude.{ℕ, ◌+◌, ◌-◌, ◌*◌, ◌/◌, min, max, Option, Some, None}

-- the smoothed round trip, none before the first; its variation; and the timeout
pub record Trips : Type 0 where
  pub smoothed : Option ℕ
  pub variation : ℕ
  pub timeout : ℕ

-- one second and sixty
abbrev pub least_timeout : ℕ
least_timeout = 1000000

abbrev pub greatest_timeout : ℕ
greatest_timeout = 60000000

abbrev pub no_trips : Trips
no_trips = record { smoothed = None; variation = 0; timeout = least_timeout }

-- one round trip more
abbrev pub smoothed_by : ℕ → Option ℕ → ℕ
smoothed_by trip None = trip
smoothed_by trip (Some smoothed) = (7 * smoothed + trip) / 8

abbrev pub varied_by : ℕ → Option ℕ → ℕ → ℕ
varied_by trip None variation = trip / 2
varied_by trip (Some smoothed) variation = (3 * variation + ((smoothed - trip) + (trip - smoothed))) / 4

abbrev pub timeout_of : (smoothed variation : ℕ) → ℕ
timeout_of smoothed variation = min greatest_timeout (max least_timeout (smoothed + 4 * variation))

abbrev pub timed : ℕ → Trips → Trips
timed trip trips = record {
  smoothed = Some (smoothed_by trip trips.smoothed);
  variation = varied_by trip trips.smoothed trips.variation;
  timeout = timeout_of (smoothed_by trip trips.smoothed) (varied_by trip trips.smoothed trips.variation);
}

-- the trip of what was sent at a moment, where there is one; a longer one counts as sixty seconds
abbrev pub timed_by : ℕ → Option ℕ → Trips → Trips
timed_by now None trips = trips
timed_by now (Some sent_at) trips = timed (min greatest_timeout (now - sent_at)) trips

-- the timeout after one has passed
abbrev pub backed_off : Trips → Trips
backed_off trips = record { smoothed = trips.smoothed; variation = trips.variation; timeout = min greatest_timeout (2 * trips.timeout) }

-- how long a halving of the window stands before another one
abbrev pub halving_time : Option ℕ → ℕ
halving_time None = least_timeout
halving_time (Some smoothed) = smoothed
