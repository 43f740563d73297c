-- What became of each DATA that was ever sent on a story (RFC 6817, section 3.2; RFC 6298, section 5), and each delay,
-- as it was measured (RFC 6817, section 3.4.2). Nothing is dropped here, and nothing counted on the way: there is a list
-- of all DATA, and a list of all samples.
use Rattle.std.specs.Prelude.{◌≡◌, ℕ, ◌-◌, max, ◌==◌, nat_lt, nat_le, Bool, true, false, not, ◌&&◌, if◌then◌else◌, Option, Some, None, List, [], ◌∷◌, ◌++◌, map, filter}
use Rattle.std.specs.List.{count_by, list_any}
use Rattle.pp_terms.specs.format.Messages.{Message, Data, Ack}
use Rattle.pp_terms.specs.tree.Range.{Span, within}
use Rattle.pp_traffic.specs.Story.{Line, Heard, Said, Taken}
use Rattle.pp_traffic.specs.Delays.{sample_of, is_near, first_delay, minute_of, least}
use Rattle.pp_traffic.specs.Trips.{Trips, no_trips, timed_by, backed_off}
use Rattle.pp_traffic.specs.Meter.{meter, is_due}
use Rattle.pp_traffic.specs.declared.entries.Entry.{Entry}

-- A DATA flies until it is acknowledged, is lost, or is written off by a timeout.
pub data Fate : Type 0 where
  Flies : Fate
  Acknowledged : Fate
  Lost : Fate
  WrittenOff : Fate

abbrev pub is_in_flight : Fate → Bool
is_in_flight Flies = true
is_in_flight _ = false

abbrev pub is_acknowledged : Fate → Bool
is_acknowledged Acknowledged = true
is_acknowledged _ = false

abbrev pub is_lost : Fate → Bool
is_lost Lost = true
is_lost _ = false

-- one DATA: its chunk, the moment at which it was sent, and its fate
pub record Sending : Type 0 where
  pub chunk : ℕ
  pub sent_at : ℕ
  pub fate : Fate

abbrev pub with_fate : Fate → Sending → Sending
with_fate fate s = record { chunk = s.chunk; sent_at = s.sent_at; fate = fate }

-- how many of a list of DATA fly, are acknowledged, and are lost
abbrev pub in_flight_of : List Sending → ℕ
in_flight_of sendings = count_by (λ s. is_in_flight s.fate) sendings

abbrev pub acknowledged_of : List Sending → ℕ
acknowledged_of sendings = count_by (λ s. is_acknowledged s.fate) sendings

abbrev pub lost_of : List Sending → ℕ
lost_of sendings = count_by (λ s. is_lost s.fate) sendings

-- ---- what changes a fate; a list of DATA has the oldest first

-- An ACK acknowledges each that flies and whose chunk lies in its span.
abbrev pub is_hit : Span → Sending → Bool
is_hit span s = is_in_flight s.fate && within span s.chunk

abbrev pub after_hits : Span → List Sending → List Sending
after_hits span sendings = map (λ s. if is_hit span s then with_fate Acknowledged s else s) sendings

-- One that flies is lost where three behind it are acknowledged.
abbrev pub is_passed : Sending → (behind : List Sending) → Bool
is_passed s behind = is_in_flight s.fate && nat_le 3 (acknowledged_of behind)

abbrev pub after_losses : List Sending → List Sending
after_losses [] = []
after_losses (s ∷ behind) = (if is_passed s behind then with_fate Lost s else s) ∷ after_losses behind

-- A timeout writes off all that fly.
abbrev pub after_timeout : List Sending → List Sending
after_timeout sendings = map (λ s. if is_in_flight s.fate then with_fate WrittenOff s else s) sendings

abbrev pub after_heard : Message → List Sending → List Sending
after_heard (Ack span delay) sendings = after_losses (after_hits span sendings)
after_heard _ sendings = sendings

abbrev pub after_said : ℕ → Message → List Sending → List Sending
after_said now (Data chunk sent_at bytes) sendings =
    sendings ++ record { chunk = chunk; sent_at = now; fate = Flies } ∷ []
after_said now _ sendings = sendings

-- A rule of timeouts: whether one is due at a moment, after a story.
abbrev pub Timeouts : Type 0
Timeouts = ℕ → List Line → Bool

-- all DATA of a story with their fates
abbrev pub fates : Timeouts → List Line → List Sending
fates due [] = []
fates due (Heard now message ∷ before) = after_heard message (fates due before)
fates due (Said now message ∷ before) = after_said now message (fates due before)
fates due (Taken now ∷ before) = if due now before then after_timeout (fates due before) else fates due before

-- the rule of the meter
abbrev pub timeouts : (chunk : ℕ) → Timeouts
timeouts chunk now story = is_due now (meter chunk story)

-- what a meter keeps of a list of DATA: those that fly, each with how many behind it are acknowledged
abbrev pub entries_of : List Sending → List Entry
entries_of [] = []
entries_of (s ∷ behind) =
    if is_in_flight s.fate
    then record { chunk = s.chunk; overtaken = acknowledged_of behind; sent_at = s.sent_at } ∷ entries_of behind
    else entries_of behind

-- ---- the timer (RFC 6298, section 5)

-- an ACK that acknowledges something; a DATA that is sent while nothing flies
abbrev pub is_answer : Message → List Sending → Bool
is_answer (Ack span delay) sendings = list_any (is_hit span) sendings
is_answer _ sendings = false

abbrev pub is_departure : Message → List Sending → Bool
is_departure (Data chunk sent_at bytes) sendings = not (list_any (λ s. is_in_flight s.fate) sendings)
is_departure _ sendings = false

-- now, as it was at a line
abbrev pub now_of : Line → ℕ
now_of (Heard now message) = now
now_of (Said now message) = now
now_of (Taken now) = now

-- the greatest moment of the story, 0 before its first line
abbrev pub clock : List Line → ℕ
clock [] = 0
clock (line ∷ before) = max (now_of line) (clock before)

-- The timer starts with each such ACK, each such DATA and each timeout.
abbrev pub is_start : Timeouts → Line → (before : List Line) → Bool
is_start due (Heard now message) before = is_answer message (fates due before)
is_start due (Said now message) before = is_departure message (fates due before)
is_start due (Taken now) before = due now before

abbrev pub started : Timeouts → List Line → ℕ
started due [] = 0
started due (line ∷ before) = if is_start due line before then now_of line else started due before

-- when the only DATA of a list was sent, where it has no other
abbrev pub sent_alone : List Sending → Option ℕ
sent_alone (s ∷ []) = Some s.sent_at
sent_alone _ = None

-- An ACK of one DATA alone measures a round trip.
abbrev pub trips_heard : ℕ → Message → List Sending → Trips → Trips
trips_heard now (Ack span delay) sendings trips = timed_by now (sent_alone (filter (is_hit span) sendings)) trips
trips_heard now _ sendings trips = trips

abbrev pub trips_of : Timeouts → List Line → Trips
trips_of due [] = no_trips
trips_of due (Heard now message ∷ before) = trips_heard now message (fates due before) (trips_of due before)
trips_of due (Said now message ∷ before) = trips_of due before
trips_of due (Taken now ∷ before) = if due now before then backed_off (trips_of due before) else trips_of due before

-- Something flies, and the timer started as long ago as the timeout, or longer.
abbrev pub is_overdue : Timeouts → ℕ → List Line → Bool
is_overdue due now story =
    list_any (λ s. is_in_flight s.fate) (fates due story)
    && nat_le (trips_of due story).timeout (now - started due story)

-- A rule by which a timeout is due where it is overdue by the fates that the rule itself makes.
abbrev pub IsRule : Timeouts → Type 0
IsRule due = (now : ℕ) (story : List Line) → due now story ≡ is_overdue due now story

-- ---- samples; a list of them has the newest first

-- the delay of each ACK that acknowledged something, with its moment
pub record Measure : Type 0 where
  pub now : ℕ
  pub delay : ℕ

abbrev pub measured : ℕ → Message → List Sending → List Measure → List Measure
measured now (Ack span delay) sendings earlier =
    if list_any (is_hit span) sendings then record { now = now; delay = delay } ∷ earlier else earlier
measured now _ sendings earlier = earlier

abbrev pub measures : Timeouts → List Line → List Measure
measures due [] = []
measures due (Heard now message ∷ before) = measured now message (fates due before) (measures due before)
measures due (Said now message ∷ before) = measures due before
measures due (Taken now ∷ before) = measures due before

-- the delay that was measured first
abbrev pub first_of : List Measure → Option ℕ
first_of [] = None
first_of (m ∷ earlier) = Some (first_delay m.delay (first_of earlier))

-- the samples that count, each with its minute
pub record Sample : Type 0 where
  pub minute : ℕ
  pub value : ℕ

abbrev pub samples_of : List Measure → List Sample
samples_of [] = []
samples_of (m ∷ earlier) =
    if is_near (sample_of (first_of earlier) m.delay)
    then record { minute = minute_of m.now; value = sample_of (first_of earlier) m.delay } ∷ samples_of earlier
    else samples_of earlier

-- the minutes that have samples, each once
abbrev pub minutes_of : List Sample → List ℕ
minutes_of [] = []
minutes_of (x ∷ earlier) =
    if list_any (λ y. y.minute == x.minute) earlier then minutes_of earlier else x.minute ∷ minutes_of earlier

-- A sample is of the latest minutes, so many, where fewer minutes with samples are later than its own.
abbrev pub is_recent : (minutes : ℕ) → List Sample → Sample → Bool
is_recent minutes samples x = nat_lt (count_by (λ minute. nat_lt x.minute minute) (minutes_of samples)) minutes

-- the least sample of the ten latest minutes that have samples
abbrev pub base_of : List Sample → ℕ
base_of samples = least (map (λ x. x.value) (filter (is_recent 10 samples) samples))
