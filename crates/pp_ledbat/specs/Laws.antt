-- Laws on the congestion window of a story.
use Rattle.std.specs.Prelude.{◌≡◌, ◌↔◌, ℕ, ◌+◌, ◌-◌, ◌*◌, ◌%◌, ◌^◌, ◌<◌, ◌≤◌, nat_lt, min, true, false, if◌then◌else◌, ℤ, pos, ◌+ℤ◌, ◌-ℤ◌, nat_abs, Some, List, [], ◌∷◌, length}
use Rattle.std.specs.List.{AllByRecursion}
use Rattle.pp_terms.specs.format.Messages.{Data, Ack}
use Rattle.pp_terms.specs.tree.Range.{Span}
use Rattle.pp_traffic.specs.Story.{Line, Heard, Said, Taken}
use Rattle.pp_traffic.specs.Gain.{gained}
use Rattle.pp_traffic.specs.Delays.{sample_of, is_near, current, base}
use Rattle.pp_traffic.specs.Meter.{Meter, new_meter, sent, hits, flying, loses, acked, is_due, timed_out, ended, meter}

-- how far a delay is above the first one, modulo 2 ^ 64; and a number of 64 bits as a signed one
abbrev pub apart : (first delay : ℕ) → ℕ
apart first delay = (delay + (2 ^ 64 - first)) % 2 ^ 64

abbrev pub signed : ℕ → ℤ
signed n = if nat_lt n (2 ^ 63) then pos n else pos n -ℤ pos (2 ^ 64)

-- The samples that count are those at most 2 ^ 40 from zero, as signed numbers, and they are kept with that added.
pub record SamplesAreSigned : Type 0 where
  pub near : (first delay : ℕ) → first < 2 ^ 64 → delay < 2 ^ 64
      → (is_near (sample_of (Some first) delay) ≡ true) ↔ (nat_abs (signed (apart first delay)) ≤ 2 ^ 40)
  pub kept : (first delay : ℕ) → first < 2 ^ 64 → delay < 2 ^ 64 → is_near (sample_of (Some first) delay) ≡ true
      → signed (apart first delay) +ℤ pos (2 ^ 40) ≡ pos (sample_of (Some first) delay)

-- The base is at most the current delay, so their difference is the queuing delay.
abbrev pub BaseIsLeast : Type 0
BaseIsLeast = (chunk : ℕ) (story : List Line) → base (meter chunk story).delays ≤ current (meter chunk story).delays

-- A window stays from one chunk to 512; one that moved is at least two.
pub record WindowsAreBounded : Type 0 where
  pub least : (chunk : ℕ) (story : List Line) → chunk ≤ (meter chunk story).window
  pub most : (chunk : ℕ) (story : List Line) → (meter chunk story).window ≤ 512 * chunk
  pub moved_least : (window acked queuing chunk flight : ℕ) → 2 * chunk ≤ gained window acked queuing chunk flight
  pub moved_most : (window acked queuing chunk flight : ℕ) → gained window acked queuing chunk flight ≤ 512 * chunk

-- What flies was overtaken by fewer than three, so where none of it is acknowledged all of it flies on.
pub record FlightsAreFresh : Type 0 where
  pub few : (chunk : ℕ) (story : List Line) → AllByRecursion (λ e. e.overtaken < 3) (meter chunk story).entries
  pub same : (first last chunk : ℕ) (story : List Line) → let entries = (meter chunk story).entries in
      hits first last entries ≡ 0 → (flying first last entries ≡ entries) × (loses first last entries ≡ false)

-- After a timeout nothing flies, and looking for one again, or an ACK, changes nothing.
pub record TimeoutsSettle : Type 0 where
  pub none_fly : (now : ℕ) (m : Meter) → length (timed_out now m).entries ≡ 0
  pub none_due : (now later : ℕ) (m : Meter) → is_due later (timed_out now m) ≡ false
  pub ends_once : (now later : ℕ) (m : Meter) → ended later (timed_out now m) ≡ timed_out now m
  pub ends_twice : (now : ℕ) (m : Meter) → ended now (ended now m) ≡ ended now m
  pub ignores : (now first last delay later : ℕ) (m : Meter) → acked first last delay later (timed_out now m) ≡ timed_out now m

-- What a window's calls leave stands for the same calls as lines of a story: `new` for none, and each other call for one more.
pub record CallsStand : Type 0 where
  pub new : (chunk : ℕ) → new_meter chunk ≡ meter chunk []
  pub sends : (chunk i now sent_at : ℕ) (bytes : List ℕ) (story : List Line) (m : Meter) → m ≡ meter chunk story
      → sent i now m ≡ meter chunk (Said now (Data i sent_at bytes) ∷ story)
  pub hears : (chunk delay now : ℕ) (span : Span) (story : List Line) (m : Meter) → m ≡ meter chunk story
      → acked span.first span.last delay now m ≡ meter chunk (Heard now (Ack span delay) ∷ story)
  pub times_out : (chunk now : ℕ) (story : List Line) (m : Meter) → m ≡ meter chunk story → is_due now m ≡ true
      → timed_out now m ≡ meter chunk (Taken now ∷ story)
  pub waits : (chunk now : ℕ) (story : List Line) (m : Meter) → m ≡ meter chunk story → is_due now m ≡ false
      → m ≡ meter chunk (Taken now ∷ story)

-- Where all that flies are chunks of a content, an ACK that is cut to the content acknowledges the same, and whatever is
-- acknowledged, or sent of the content, all that flies then are chunks of it too.
pub record CutsAcknowledgeAlike : Type 0 where
  pub same : (chunks first last delay now : ℕ) (m : Meter) → AllByRecursion (λ e. e.chunk < chunks) m.entries
      → acked first (min last (chunks - 1)) delay now m ≡ acked first last delay now m
  pub hears : (chunks first last delay now : ℕ) (m : Meter) → AllByRecursion (λ e. e.chunk < chunks) m.entries
      → AllByRecursion (λ e. e.chunk < chunks) (acked first last delay now m).entries
  pub sends : (chunks i now : ℕ) (m : Meter) → i < chunks → AllByRecursion (λ e. e.chunk < chunks) m.entries
      → AllByRecursion (λ e. e.chunk < chunks) (sent i now m).entries
  pub waits : (chunks now : ℕ) (m : Meter) → AllByRecursion (λ e. e.chunk < chunks) m.entries
      → AllByRecursion (λ e. e.chunk < chunks) (ended now m).entries
