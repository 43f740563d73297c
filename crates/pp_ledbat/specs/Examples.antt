-- Worked examples of windows. Their values are of a plain program that keeps every chunk that was ever sent.
use Rattle.std.specs.Prelude.{◌≡◌, ℕ, List, [], ◌∷◌}
use Rattle.pp_traffic.specs.Story.{Line, Taken}
use Rattle.pp_traffic.specs.Gain.{gained}
use Rattle.pp_traffic.specs.Trips.{no_trips, timed}
use Rattle.pp_traffic.specs.Meter.{flight, half_of, meter}
use Rattle.pp_traffic.specs.FatesExamples.{sent_at, acked_at}

-- fifty lines of one story of chunks of 1024 bytes, the newest first
abbrev pub fifty : List Line
fifty =
    acked_at 600000000 28 28 18446744073709546616 ∷ sent_at 50000000 28 ∷ Taken 40000000
    ∷ sent_at 20000000 27 ∷ Taken 14000000 ∷ sent_at 7000000 26
    ∷ acked_at 6700000 0 4294967295 0 ∷ sent_at 6610000 25 ∷ sent_at 6600000 25
    ∷ acked_at 6500000 24 24 1099511607776 ∷ sent_at 6400000 24 ∷ acked_at 6300000 23 23 1099511607777
    ∷ sent_at 6100000 23 ∷ Taken 6000000 ∷ Taken 5999999
    ∷ sent_at 5000000 22 ∷ acked_at 1802000 200 300 18446744073709531616 ∷ Taken 1800000
    ∷ acked_at 1730000 21 21 160000 ∷ sent_at 1723000 21 ∷ acked_at 1722000 20 20 150000
    ∷ sent_at 1721000 20 ∷ acked_at 1720000 19 19 140000 ∷ acked_at 1710000 17 17 130000
    ∷ acked_at 1705000 16 16 20000 ∷ acked_at 1700000 15 15 10000 ∷ sent_at 1579000 19
    ∷ sent_at 1578000 18 ∷ sent_at 1577000 17 ∷ sent_at 1576000 16
    ∷ sent_at 1575000 15 ∷ sent_at 1574000 14 ∷ acked_at 1550000 9 13 0
    ∷ sent_at 1423000 13 ∷ sent_at 1422000 12 ∷ sent_at 1421000 11
    ∷ sent_at 1420000 10 ∷ sent_at 1419000 9 ∷ acked_at 1400000 5 8 18446744073709536616
    ∷ sent_at 1268000 8 ∷ sent_at 1267000 7 ∷ sent_at 1266000 6
    ∷ sent_at 1265000 5 ∷ acked_at 1250000 2 4 18446744073709541616 ∷ sent_at 1114000 4
    ∷ sent_at 1113000 3 ∷ sent_at 1112000 2 ∷ acked_at 1100000 0 1 18446744073709531616
    ∷ sent_at 1001000 1 ∷ sent_at 1000000 0 ∷ []

-- the window, the flight and the timeout after each line
abbrev pub readings : List Line → List (ℕ × ℕ × ℕ)
readings [] = []
readings (line ∷ before) = let m = meter 1024 (line ∷ before) in (m.window, flight m, m.trips.timeout) ∷ readings before

pub record WindowExamples : Type 0 where
  -- the delay at the base, at half the target, at the target and at twice it; and the greatest window
  pub gains : (gained 2048 1024 0 1024 2048 ≡ 2560) × (gained 2048 1024 50000 1024 2048 ≡ 2304)
      × (gained 2048 1024 100000 1024 2048 ≡ 2048) × (gained 2048 1024 200000 1024 2048 ≡ 2048)
      × (gained 524288 1024 0 1024 524288 ≡ 524288)
  -- a fall of exactly 1, and one of a little more
  pub falls : (gained 524288 1024 150000 1024 524288 ≡ 524287) × (gained 524288 1024 150001 1024 524288 ≡ 524286)
  -- round trips of 0.2 seconds and then one second
  pub timeouts : ((timed 200000 no_trips).timeout ≡ 1000000) × ((timed 1000000 (timed 200000 no_trips)).timeout ≡ 1400000)
  -- windows after a loss
  pub halves : (half_of 1024 4096 ≡ 2048) × (half_of 1024 3072 ≡ 2048)
  pub read : readings fifty ≡
      (2048, 0, 60000000) ∷ (1024, 1024, 4000000) ∷ (1024, 0, 4000000) ∷ (1024, 1024, 2000000) ∷ (1024, 0, 2000000)
      ∷ (2867, 1024, 1000000) ∷ (2867, 0, 1000000) ∷ (2048, 2048, 1000000) ∷ (2048, 1024, 1000000) ∷ (2048, 0, 1000000)
      ∷ (1024, 1024, 1000000) ∷ (1024, 0, 1000000) ∷ (1024, 1024, 2000000) ∷ (1024, 0, 2000000) ∷ (2896, 1024, 1000000)
      ∷ (2896, 1024, 1000000) ∷ (2896, 0, 1000000) ∷ (2896, 0, 1000000) ∷ (2896, 0, 1000000) ∷ (3067, 2048, 1000000)
      ∷ (3067, 1024, 1000000) ∷ (2846, 2048, 1000000) ∷ (2846, 1024, 1000000) ∷ (2560, 2048, 1000000) ∷ (6144, 4096, 1000000)
      ∷ (6306, 5120, 1000000) ∷ (6144, 6144, 1000000) ∷ (6144, 5120, 1000000) ∷ (6144, 4096, 1000000) ∷ (6144, 3072, 1000000)
      ∷ (6144, 2048, 1000000) ∷ (6144, 1024, 1000000) ∷ (6144, 0, 1000000) ∷ (5120, 5120, 1000000) ∷ (5120, 4096, 1000000)
      ∷ (5120, 3072, 1000000) ∷ (5120, 2048, 1000000) ∷ (5120, 1024, 1000000) ∷ (5120, 0, 1000000) ∷ (4096, 4096, 1000000)
      ∷ (4096, 3072, 1000000) ∷ (4096, 2048, 1000000) ∷ (4096, 1024, 1000000) ∷ (4096, 0, 1000000) ∷ (3072, 3072, 1000000)
      ∷ (3072, 2048, 1000000) ∷ (3072, 1024, 1000000) ∷ (3072, 0, 1000000) ∷ (2048, 2048, 1000000) ∷ (2048, 1024, 1000000) ∷ []
