-- What a channel's window remembers, beside what flies: a meter in which nothing does.
use Rattle.std.specs.Prelude.{ℕ, ◌-◌, ◌*◌, ◌==◌, nat_le, Bool, ◌&&◌, if◌then◌else◌, Option, Some, None, List, []}
use Rattle.pp_terms.specs.format.Descriptor.{Descriptor}
use Rattle.pp_traffic.specs.Life.{Life}
use Rattle.pp_traffic.specs.Gain.{gained}
use Rattle.pp_traffic.specs.Delays.{sample_of, is_near, sampled, queuing}
use Rattle.pp_traffic.specs.Trips.{Trips, timed_by}
use Rattle.pp_traffic.specs.Meter.{Meter, is_rested, half_of}
use Rattle.pp_traffic.specs.declared.entries.Entry as flown
use Rattle.pp_recorded.specs.declared.entry.Entry.{Entry}
use Rattle.pp_recorded.specs.declared.flying.Row.{Row}
use Rattle.pp_recorded.specs.Flying.{flight_in}

-- the meter in which these fly; and what flies of a row
abbrev pub with_flight : Meter → List flown.Entry → Meter
with_flight m entries = record {
  chunk = m.chunk;
  window = m.window;
  entries = entries;
  delays = m.delays;
  trips = m.trips;
  halved = m.halved;
  timer = m.timer;
}

abbrev pub metered : Descriptor → Life → List Entry → Row → Meter → Meter
metered d life xs row m = with_flight m (flight_in d life xs row)

-- a chunk is sent while something flies, or nothing
abbrev pub departed : Bool → ℕ → Meter → Meter
departed is_flying now m = record {
  chunk = m.chunk;
  window = m.window;
  entries = [];
  delays = m.delays;
  trips = m.trips;
  halved = m.halved;
  timer = if is_flying then m.timer else now;
}

-- when the only one of those that were acknowledged was sent
abbrev pub alone : ℕ → Option ℕ → Option ℕ
alone hits sent_at = if hits == 1 then sent_at else None

-- the round trips after an acknowledgement of so many chunks that fly, the oldest of which was sent then
abbrev pub trips_after : (hits : ℕ) → Option ℕ → ℕ → Meter → Trips
trips_after hits sent_at now m = timed_by now (alone hits sent_at) m.trips

abbrev pub window_gained : (total hits delay now : ℕ) → Meter → ℕ
window_gained total hits delay now m =
    if is_near (sample_of m.delays.first delay)
    then gained m.window (hits * m.chunk) (queuing (sampled delay now m.delays)) m.chunk (total * m.chunk)
    else m.window

abbrev pub is_halved : (hits : ℕ) → Option ℕ → Bool → ℕ → Meter → Bool
is_halved hits sent_at has_lost now m = has_lost && is_rested now (trips_after hits sent_at now m) m.halved

abbrev pub answered : (total hits : ℕ) → Option ℕ → Bool → (delay now : ℕ) → Meter → Meter
answered total hits sent_at has_lost delay now m = record {
  chunk = m.chunk;
  window =
      if is_halved hits sent_at has_lost now m
      then half_of m.chunk (window_gained total hits delay now m)
      else window_gained total hits delay now m;
  entries = [];
  delays = sampled delay now m.delays;
  trips = trips_after hits sent_at now m;
  halved = if is_halved hits sent_at has_lost now m then Some now else m.halved;
  timer = now;
}

-- a timeout has passed, if something flies
abbrev pub is_overdue : ℕ → Meter → Bool
is_overdue now m = nat_le m.trips.timeout (now - m.timer)
