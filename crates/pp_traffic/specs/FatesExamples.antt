-- Worked examples of fates and samples. Their values are worked out by hand from the rules: three acknowledged behind
-- make a loss; a timeout is one second before a round trip is measured, and counts from a sending that finds nothing in
-- flight; a sample counts from the first delay, with 2 ^ 40 added.
use Rattle.std.specs.Prelude.{◌≡◌, ℕ, ◌+◌, ◌-◌, ◌*◌, ◌^◌, true, false, List, [], ◌∷◌}
use Rattle.pp_terms.specs.format.Messages.{Data, Ack}
use Rattle.pp_traffic.specs.Story.{Line, Heard, Said, Taken}
use Rattle.pp_traffic.specs.Delays.{base}
use Rattle.pp_traffic.specs.Meter.{meter}
use Rattle.pp_traffic.specs.Fates.{Fate, Flies, Acknowledged, Lost, WrittenOff, Sending, fates, timeouts, measures, samples_of, base_of}

abbrev pub sent_at : (now chunk : ℕ) → Line
sent_at now chunk = Said now (Data chunk now [])

abbrev pub acked_at : (now first last delay : ℕ) → Line
acked_at now first last delay = Heard now (Ack (record { first = first; last = last }) delay)

abbrev pub sending : (chunk sent_at : ℕ) → Fate → Sending
sending chunk sent_at fate = record { chunk = chunk; sent_at = sent_at; fate = fate }

-- five DATA, the newest first
abbrev pub five : List Line
five = sent_at 1004000 4 ∷ sent_at 1003000 3 ∷ sent_at 1002000 2 ∷ sent_at 1001000 1 ∷ sent_at 1000000 0 ∷ []

-- the last three are acknowledged, and then two are sent
abbrev pub seven : List Line
seven = sent_at 1210000 5 ∷ sent_at 1200000 0 ∷ acked_at 1100000 2 4 5000 ∷ five

-- a chunk is sent and acknowledged in each of twelve minutes: 0 and 1, and 30 to 39
abbrev pub in_minute : (minute delay : ℕ) → List Line → List Line
in_minute minute delay before =
    acked_at (minute * 60000000 + 500000) minute minute delay ∷ sent_at (minute * 60000000) minute ∷ before

abbrev pub eleven_minutes : List Line
eleven_minutes =
    in_minute 38 4800 (in_minute 37 4700 (in_minute 36 4600 (in_minute 35 4500 (in_minute 34 4400 (in_minute 33 4300
    (in_minute 32 4200 (in_minute 31 4100 (in_minute 30 4000 (in_minute 1 3000 (in_minute 0 5000 []))))))))))

abbrev pub base_by_samples : List Line → ℕ
base_by_samples story = base_of (samples_of (measures (timeouts 1024) story))

pub record FatesExamples : Type 0 where
  -- two behind them are acknowledged, and then three
  pub two : fates (timeouts 1024) (acked_at 1100000 3 4 5000 ∷ five)
      ≡ sending 0 1000000 Flies ∷ sending 1 1001000 Flies ∷ sending 2 1002000 Flies
      ∷ sending 3 1003000 Acknowledged ∷ sending 4 1004000 Acknowledged ∷ []
  pub three : fates (timeouts 1024) (acked_at 1110000 2 2 5000 ∷ acked_at 1100000 3 4 5000 ∷ five)
      ≡ sending 0 1000000 Lost ∷ sending 1 1001000 Lost ∷ sending 2 1002000 Acknowledged
      ∷ sending 3 1003000 Acknowledged ∷ sending 4 1004000 Acknowledged ∷ []
  -- three in one span; and the meter has the two that were sent then
  pub one_span : fates (timeouts 1024) seven
      ≡ sending 0 1000000 Lost ∷ sending 1 1001000 Lost ∷ sending 2 1002000 Acknowledged
      ∷ sending 3 1003000 Acknowledged ∷ sending 4 1004000 Acknowledged
      ∷ sending 0 1200000 Flies ∷ sending 5 1210000 Flies ∷ []
  pub entries : (meter 1024 seven).entries
      ≡ record { chunk = 0; overtaken = 0; sent_at = 1200000 }
      ∷ record { chunk = 5; overtaken = 0; sent_at = 1210000 } ∷ []
  -- the timeout passes one second after the first of these two
  pub early : timeouts 1024 2199999 seven ≡ false
  pub due : timeouts 1024 2200000 seven ≡ true
  pub written_off : fates (timeouts 1024) (sent_at 2300000 5 ∷ Taken 2200000 ∷ Taken 2199999 ∷ seven)
      ≡ sending 0 1000000 Lost ∷ sending 1 1001000 Lost ∷ sending 2 1002000 Acknowledged
      ∷ sending 3 1003000 Acknowledged ∷ sending 4 1004000 Acknowledged
      ∷ sending 0 1200000 WrittenOff ∷ sending 5 1210000 WrittenOff ∷ sending 5 2300000 Flies ∷ []
  -- the least of the ten latest minutes that have samples, 2000 below the first delay; with one more, 1000
  pub eleven : (base_by_samples eleven_minutes ≡ 2 ^ 40 - 2000)
      × (base (meter 1024 eleven_minutes).delays ≡ 2 ^ 40 - 2000)
  pub twelve : (base_by_samples (in_minute 39 4900 eleven_minutes) ≡ 2 ^ 40 - 1000)
      × (base (meter 1024 (in_minute 39 4900 eleven_minutes)).delays ≡ 2 ^ 40 - 1000)
