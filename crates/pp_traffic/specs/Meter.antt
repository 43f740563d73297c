-- The congestion window of a channel, LEDBAT (RFC 6817, section 2.4; RFC 7574, section 8.16): what flies, and how many bytes may,
-- as a fold over the channel's story. Bytes and microseconds; each chunk counts as one of full size.
use Rattle.std.specs.Prelude.{ℕ, ◌+◌, ◌-◌, ◌*◌, ◌/◌, ◌==◌, min, max, nat_lt, nat_le, Bool, true, false, not, ◌&&◌, ◌||◌, if◌then◌else◌, Option, Some, None, List, [], ◌∷◌, ◌++◌, length}
use Rattle.std.specs.List.{count_by}
use Rattle.pp_terms.specs.format.Messages.{Message, Data, Ack}
use Rattle.pp_traffic.specs.Story.{Line, Heard, Said, Taken}
use Rattle.pp_traffic.specs.Gain.{fewest, gained}
use Rattle.pp_traffic.specs.Delays.{Delays, no_delays, sample_of, is_near, sampled, queuing}
use Rattle.pp_traffic.specs.Trips.{Trips, no_trips, timed_by, backed_off, halving_time}
use Rattle.pp_traffic.specs.declared.entries.Entry.{Entry}

-- The size of a chunk; the window; what flies, the oldest first; the delays and the round trips; the moment of the last
-- halving; and the moment from which a timeout counts: the last acknowledgement, the last timeout or the last sending that
-- found nothing in flight, whichever came last.
pub record Meter : Type 0 where
  pub chunk : ℕ
  pub window : ℕ
  pub entries : List Entry
  pub delays : Delays
  pub trips : Trips
  pub halved : Option ℕ
  pub timer : ℕ

-- Nothing is due before something flies, and the first sending sets the moment.
abbrev pub new_meter : (chunk : ℕ) → Meter
new_meter chunk =
    record { chunk = chunk; window = fewest * chunk; entries = []; delays = no_delays; trips = no_trips; halved = None; timer = 0 }

-- the bytes in flight, and whether there is room for a chunk more
abbrev pub flight : Meter → ℕ
flight m = length m.entries * m.chunk

abbrev pub has_room : Meter → Bool
has_room m = nat_le (flight m + m.chunk) m.window

abbrev pub is_flying : Meter → Bool
is_flying m = nat_lt 0 (length m.entries)

-- ---- a chunk is sent

abbrev pub sent : (chunk now : ℕ) → Meter → Meter
sent chunk now m = record {
  chunk = m.chunk;
  window = m.window;
  entries = m.entries ++ record { chunk = chunk; overtaken = 0; sent_at = now } ∷ [];
  delays = m.delays;
  trips = m.trips;
  halved = m.halved;
  timer = if is_flying m then m.timer else now;
}

-- ---- chunks are acknowledged, from first to last

abbrev pub covers : (first last : ℕ) → Entry → Bool
covers first last e = nat_le first e.chunk && nat_le e.chunk last

-- how many entries are, and when the oldest of them was sent
abbrev pub hits : (first last : ℕ) → List Entry → ℕ
hits first last entries = count_by (covers first last) entries

abbrev pub oldest : (first last : ℕ) → List Entry → Option ℕ
oldest first last [] = None
oldest first last (e ∷ later) = if covers first last e then Some e.sent_at else oldest first last later

-- a round trip is taken of one alone
abbrev pub alone : (first last : ℕ) → List Entry → Option ℕ
alone first last entries = if hits first last entries == 1 then oldest first last entries else None

-- how many entries that were sent after this one have been acknowledged since
abbrev pub overtakes : (first last : ℕ) → Entry → List Entry → ℕ
overtakes first last e later = e.overtaken + hits first last later

-- What flies on: not what is acknowledged, and not what three that were sent after it have overtaken, which is lost.
abbrev pub flying : (first last : ℕ) → List Entry → List Entry
flying first last [] = []
flying first last (e ∷ later) =
    if covers first last e || nat_le 3 (overtakes first last e later)
    then flying first last later
    else record { chunk = e.chunk; overtaken = overtakes first last e later; sent_at = e.sent_at } ∷ flying first last later

-- something is lost
abbrev pub loses : (first last : ℕ) → List Entry → Bool
loses first last [] = false
loses first last (e ∷ later) = (not (covers first last e) && nat_le 3 (overtakes first last e later)) || loses first last later

-- the last halving was long ago
abbrev pub is_rested : (now : ℕ) → Trips → Option ℕ → Bool
is_rested now trips None = true
is_rested now trips (Some halved) = nat_le (halving_time trips.smoothed) (now - halved)

-- half the window, but at least two chunks, where it isn't less already
abbrev pub half_of : (chunk window : ℕ) → ℕ
half_of chunk window = min window (max (window / 2) (fewest * chunk))

-- the parts of the meter after that; the flight counts as it was before
abbrev pub trips_after : (first last now : ℕ) → Meter → Trips
trips_after first last now m = timed_by now (alone first last m.entries) m.trips

abbrev pub window_gained : (first last delay now : ℕ) → Meter → ℕ
window_gained first last delay now m =
    if is_near (sample_of m.delays.first delay)
    then gained m.window (hits first last m.entries * m.chunk) (queuing (sampled delay now m.delays)) m.chunk (flight m)
    else m.window

abbrev pub is_halved : (first last now : ℕ) → Meter → Bool
is_halved first last now m = loses first last m.entries && is_rested now (trips_after first last now m) m.halved

abbrev pub settled : (first last delay now : ℕ) → Meter → Meter
settled first last delay now m = record {
  chunk = m.chunk;
  window = if is_halved first last now m then half_of m.chunk (window_gained first last delay now m)
      else window_gained first last delay now m;
  entries = flying first last m.entries;
  delays = sampled delay now m.delays;
  trips = trips_after first last now m;
  halved = if is_halved first last now m then Some now else m.halved;
  timer = now;
}

-- an ACK of nothing that flies does nothing
abbrev pub acked : (first last delay now : ℕ) → Meter → Meter
acked first last delay now m = if hits first last m.entries == 0 then m else settled first last delay now m

-- ---- a wait ends

abbrev pub is_due : ℕ → Meter → Bool
is_due now m = is_flying m && nat_le m.trips.timeout (now - m.timer)

abbrev pub timed_out : ℕ → Meter → Meter
timed_out now m = record {
  chunk = m.chunk;
  window = m.chunk;
  entries = [];
  delays = m.delays;
  trips = backed_off m.trips;
  halved = m.halved;
  timer = now;
}

abbrev pub ended : ℕ → Meter → Meter
ended now m = if is_due now m then timed_out now m else m

-- ---- the meter of a story, for a chunk size

abbrev pub heard_by : ℕ → Message → Meter → Meter
heard_by now (Ack span delay) m = acked span.first span.last delay now m
heard_by now _ m = m

abbrev pub said_by : ℕ → Message → Meter → Meter
said_by now (Data chunk sent_at bytes) m = sent chunk now m
said_by now _ m = m

abbrev pub meter : (chunk : ℕ) → List Line → Meter
meter chunk [] = new_meter chunk
meter chunk (Heard now message ∷ before) = heard_by now message (meter chunk before)
meter chunk (Said now message ∷ before) = said_by now message (meter chunk before)
meter chunk (Taken now ∷ before) = ended now (meter chunk before)

-- the story lets one more chunk be sent
abbrev pub lets_send : (chunk : ℕ) → List Line → Bool
lets_send chunk story = has_room (meter chunk story)
