-- The one-way delays of a channel (RFC 6817, section 3.4.2; RFC 7574, section 8.16), in microseconds. The clocks of two peers
-- differ, so a delay counts from the channel's first one.
use Rattle.std.specs.Prelude.{ℕ, ◌+◌, ◌-◌, ◌/◌, ◌%◌, ◌^◌, ◌==◌, min, nat_le, Bool, if◌then◌else◌, Option, Some, None, List, [], ◌∷◌, take, map}
use Rattle.std.specs.List.{fold}
use Rattle.pp_traffic.specs.declared.entries.Minute.{Minute}

-- The channel's first delay; its last samples, at most four; and its last minutes that have samples, at most ten, each with
-- the least. Both lists have the newest first.
pub record Delays : Type 0 where
  pub first : Option ℕ
  pub samples : List ℕ
  pub minutes : List Minute

abbrev pub no_delays : Delays
no_delays = record { first = None; samples = []; minutes = [] }

-- the sample of a delay: how far it is above the first one, modulo 2 ^ 64, with 2 ^ 40 added
abbrev pub sample_of : Option ℕ → ℕ → ℕ
sample_of None delay = 2 ^ 40
sample_of (Some first) delay = (delay + (2 ^ 64 - first) + 2 ^ 40) % 2 ^ 64

-- a sample is at most 2 ^ 40 away from the first; another one is ignored
abbrev pub is_near : ℕ → Bool
is_near sample = nat_le sample (2 ^ 41)

abbrev pub first_delay : ℕ → Option ℕ → ℕ
first_delay delay None = delay
first_delay delay (Some first) = first

-- the number of the minute of a moment
abbrev pub minute_of : ℕ → ℕ
minute_of now = now / 60000000

-- the minutes with one more sample
abbrev pub noted : (minute sample : ℕ) → List Minute → List Minute
noted minute sample [] = record { number = minute; least = sample } ∷ []
noted minute sample (newest ∷ older) =
    if newest.number == minute then record { number = minute; least = min newest.least sample } ∷ older
    else record { number = minute; least = sample } ∷ take 9 (newest ∷ older)

-- a delay more
abbrev pub sampled : (delay now : ℕ) → Delays → Delays
sampled delay now delays =
    let sample = sample_of delays.first delay in record {
      first = Some (first_delay delay delays.first);
      samples = if is_near sample then sample ∷ take 3 delays.samples else delays.samples;
      minutes = if is_near sample then noted (minute_of now) sample delays.minutes else delays.minutes;
    }

-- the least of some numbers
abbrev pub least : List ℕ → ℕ
least [] = 0
least (x ∷ xs) = fold min x xs

-- the least of the last samples, of the last minutes, and the difference
abbrev pub current : Delays → ℕ
current delays = least delays.samples

abbrev pub base : Delays → ℕ
base delays = least (map (λ minute. minute.least) delays.minutes)

abbrev pub queuing : Delays → ℕ
queuing delays = current delays - base delays
