-- Laws on fates, and on the meter as a summary of them.
use Rattle.std.specs.Prelude.{◌≡◌, ◌↔◌, ℕ, suc, ◌≤◌, nat_lt, true, false, Some, List, [], ◌∷◌, ◌++◌, length, take, drop, map}
use Rattle.std.specs.List.{AllByRecursion, count_by, slice_get}
use Rattle.pp_terms.specs.format.Traffic.{Record}
use Rattle.pp_terms.specs.format.Descriptor.{Descriptor}
use Rattle.pp_terms.specs.format.Messages.{Message, Data, Ack}
use Rattle.pp_terms.specs.tree.Range.{Span, within}
use Rattle.pp_traffic.specs.Past.{now, is_event, some_since}
use Rattle.pp_traffic.specs.Life.{Life}
use Rattle.pp_traffic.specs.Story.{Line, Heard, Said, Taken, story}
use Rattle.pp_traffic.specs.Delays.{base}
use Rattle.pp_traffic.specs.Meter.{meter, hits, loses}
use Rattle.pp_traffic.specs.Fates.{Acknowledged, Lost, WrittenOff, is_in_flight, Sending, in_flight_of, acknowledged_of, lost_of, is_hit, Timeouts, fates, timeouts, entries_of, now_of, clock, started, trips_of, IsRule, measures, samples_of, base_of}

-- The chunk and the moment of each DATA that was sent, the oldest first; each of them has a fate.
abbrev pub sent_by : ℕ → Message → List (ℕ × ℕ) → List (ℕ × ℕ)
sent_by now (Data chunk sent_at bytes) earlier = earlier ++ (chunk, now) ∷ []
sent_by now _ earlier = earlier

abbrev pub sent_of : List Line → List (ℕ × ℕ)
sent_of [] = []
sent_of (Heard now message ∷ before) = sent_of before
sent_of (Said now message ∷ before) = sent_by now message (sent_of before)
sent_of (Taken now ∷ before) = sent_of before

abbrev pub FatesAreOfAll : Type 0
FatesAreOfAll = (due : Timeouts) (story : List Line) → map (λ s. (s.chunk, s.sent_at)) (fates due story) ≡ sent_of story

-- The same DATA later: one that doesn't fly keeps its fate.
pub record IsSameLater (s later : Sending) : Type 0 where
  pub chunk : later.chunk ≡ s.chunk
  pub sent_at : later.sent_at ≡ s.sent_at
  pub final : is_in_flight s.fate ≡ false → later.fate ≡ s.fate

-- Whatever lines follow, each DATA stays at its place, and its fate is final.
abbrev pub FatesAreFinal : Type 0
FatesAreFinal = (due : Timeouts) (lines story : List Line) (place : ℕ) (s : Sending)
    → slice_get (fates due story) place ≡ Some s
    → (later : Sending) × (slice_get (fates due (lines ++ story)) place ≡ Some later) × IsSameLater s later

-- What an ACK does to a DATA that flies: it is acknowledged exactly where its chunk lies in the span, and lost exactly
-- where it doesn't and at least three behind it are acknowledged then.
pub record AcksDecide : Type 0 where
  pub acknowledged : (due : Timeouts) (now delay place : ℕ) (span : Span) (story : List Line) (s later : Sending)
      → slice_get (fates due story) place ≡ Some s → is_in_flight s.fate ≡ true
      → slice_get (fates due (Heard now (Ack span delay) ∷ story)) place ≡ Some later
      → (later.fate ≡ Acknowledged) ↔ (within span s.chunk ≡ true)
  pub lost : (due : Timeouts) (now delay place : ℕ) (span : Span) (story : List Line) (s later : Sending)
      → slice_get (fates due story) place ≡ Some s → is_in_flight s.fate ≡ true
      → slice_get (fates due (Heard now (Ack span delay) ∷ story)) place ≡ Some later
      → (later.fate ≡ Lost) ↔ ((within span s.chunk ≡ false)
      × (3 ≤ acknowledged_of (drop (suc place) (fates due (Heard now (Ack span delay) ∷ story)))))

-- A timeout writes off exactly all that fly.
abbrev pub TimeoutsDecide : Type 0
TimeoutsDecide = (due : Timeouts) (now place : ℕ) (story : List Line) (s : Sending) → due now story ≡ true
    → slice_get (fates due story) place ≡ Some s → is_in_flight s.fate ≡ true
    → slice_get (fates due (Taken now ∷ story)) place
    ≡ Some (record { chunk = s.chunk; sent_at = s.sent_at; fate = WrittenOff })

-- What flies in the meter is what flies, and what an ACK hits and loses there is what becomes acknowledged and lost.
pub record MetersFly : Type 0 where
  pub entries : (chunk : ℕ) (story : List Line)
      → (meter chunk story).entries ≡ entries_of (fates (timeouts chunk) story)
  pub count : (chunk : ℕ) (story : List Line)
      → length (meter chunk story).entries ≡ in_flight_of (fates (timeouts chunk) story)
  pub hits : (chunk : ℕ) (span : Span) (story : List Line)
      → hits span.first span.last (meter chunk story).entries ≡ count_by (is_hit span) (fates (timeouts chunk) story)
  pub loses : (chunk now delay : ℕ) (span : Span) (story : List Line)
      → loses span.first span.last (meter chunk story).entries
      ≡ nat_lt (lost_of (fates (timeouts chunk) story))
      (lost_of (fates (timeouts chunk) (Heard now (Ack span delay) ∷ story)))

-- A timeout is due in the meter where it is overdue by the fates, so the meter's timeouts keep the rule; and there is only
-- one rule, which no chunk size decides.
pub record MetersTimeOut : Type 0 where
  pub trips : (chunk : ℕ) (story : List Line) → (meter chunk story).trips ≡ trips_of (timeouts chunk) story
  pub timer : (chunk : ℕ) (story : List Line) → (meter chunk story).timer ≡ started (timeouts chunk) story
  pub keeps : (chunk : ℕ) → IsRule (timeouts chunk)
  pub alone : (due other : Timeouts) → IsRule due → IsRule other → (now : ℕ) (story : List Line)
      → due now story ≡ other now story

-- The moments of a story don't fall.
abbrev pub NeverFalls : List Line → Type 0
NeverFalls [] = Unit {0}
NeverFalls (line ∷ before) = AllByRecursion (λ earlier. now_of earlier ≤ now_of line) before × NeverFalls before

abbrev pub StoriesNeverFall : Type 0
StoriesNeverFall = (d : Descriptor) (life : Life) (past : List Record) → NeverFalls (story d life past)

-- Once the link handed in something since a life's opening, the greatest moment of its story is the moment now.
abbrev pub ClocksAreNow : Type 0
ClocksAreNow = (d : Descriptor) (life : Life) (past : List Record) → some_since is_event life.opening past ≡ true
    → clock (story d life past) ≡ now past

-- The meter's last samples are the four latest of all, and its base is the least sample of the ten latest minutes that
-- have samples.
pub record MetersMeasure : Type 0 where
  pub samples : (chunk : ℕ) (story : List Line)
      → (meter chunk story).delays.samples ≡ take 4 (map (λ x. x.value) (samples_of (measures (timeouts chunk) story)))
  pub base : (chunk : ℕ) (story : List Line) → NeverFalls story
      → base (meter chunk story).delays ≡ base_of (samples_of (measures (timeouts chunk) story))
