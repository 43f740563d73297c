-- The base of the delays is at most the current one: each of the last samples stands in one of as many of the last minutes.
use Rattle.std.proofs.Common.{◌≡◌, ◌⊎◌, inl, inr, ℕ, zero, suc, ◌+◌, ◌≤◌, min, ◌==◌, Bool, true, false, cond, List, [], ◌∷◌, take, map, length, refl, arith}
use Rattle.std.specs.List.{fold}
use Rattle.pp_terms.specs.format.Messages.{Message, Data, Ack}
use Rattle.pp_traffic.specs.declared.entries.Minute.{Minute}
use Rattle.pp_traffic.specs.Story.{Line, Heard, Said, Taken}
use Rattle.pp_traffic.specs.Delays.{Delays, sample_of, is_near, minute_of, noted, sampled, least}
use Rattle.pp_traffic.specs.Meter.{Meter, hits, settled, is_due, timed_out, heard_by, said_by, meter}
use Rattle.pp_traffic.proofs.Measures.{fold_least}
use Rattle.pp_ledbat.specs.Laws.{BaseIsLeast}

-- one of the first minutes, so many, is at most the sample
abbrev IsAbove : ℕ → ℕ → List Minute → Type 0
IsAbove zero sample minutes = ⊥
IsAbove (suc n) sample [] = ⊥
IsAbove (suc n) sample (minute ∷ minutes) = (minute.least ≤ sample) ⊎ IsAbove n sample minutes

-- so it is for each sample, by one minute more for each
abbrev AllAbove : ℕ → List ℕ → List Minute → Type 0
AllAbove n [] minutes = Unit {0}
AllAbove n (sample ∷ samples) minutes = IsAbove n sample minutes × AllAbove (suc n) samples minutes

above_more : (n sample : ℕ) (minutes : List Minute) → IsAbove n sample minutes → IsAbove (suc n) sample minutes
above_more zero sample minutes is = absurd is
above_more (suc n) sample [] is = absurd is
above_more (suc n) sample (minute ∷ minutes) (inl le) = inl le
above_more (suc n) sample (minute ∷ minutes) (inr is) = inr (above_more n sample minutes is)

above_take : (n count sample : ℕ) (minutes : List Minute) → n ≤ count → IsAbove n sample minutes → IsAbove n sample (take count minutes)
above_take zero count sample minutes le is = absurd is
above_take (suc n) zero sample minutes le is = absurd (omega (arith, le))
above_take (suc n) (suc count) sample [] le is = absurd is
above_take (suc n) (suc count) sample (minute ∷ minutes) le (inl least) = inl least
above_take (suc n) (suc count) sample (minute ∷ minutes) le (inr is) = inr (above_take n count sample minutes (omega (arith, le)) is)

above_same : (n sample : ℕ) (minute lower : Minute) (minutes : List Minute) → lower.least ≤ minute.least → IsAbove n sample (minute ∷ minutes) → IsAbove (suc n) sample (lower ∷ minutes)
above_same zero sample minute lower minutes le is = absurd is
above_same (suc n) sample minute lower minutes le (inl least) = inl (omega (arith, le, least))
above_same (suc n) sample minute lower minutes le (inr is) = inr (above_more n sample minutes is)

all_new : (n count : ℕ) (samples : List ℕ) (minutes : List Minute) (newest : Minute) → n + count ≤ 10 → AllAbove n samples minutes → AllAbove (suc n) (take count samples) (newest ∷ take 9 minutes)
all_new n zero samples minutes newest le all = tt
all_new n (suc count) [] minutes newest le all = tt
all_new n (suc count) (sample ∷ samples) minutes newest le all =
    (inr (above_take n 9 sample minutes (omega (arith, le)) all.0), all_new (suc n) count samples minutes newest (omega (arith, le)) all.1)

all_same : (n count : ℕ) (samples : List ℕ) (minute lower : Minute) (minutes : List Minute) → lower.least ≤ minute.least → AllAbove n samples (minute ∷ minutes)
    → AllAbove (suc n) (take count samples) (lower ∷ minutes)
all_same n zero samples minute lower minutes le all = tt
all_same n (suc count) [] minute lower minutes le all = tt
all_same n (suc count) (sample ∷ samples) minute lower minutes le all =
    (above_same n sample minute lower minutes le all.0, all_same (suc n) count samples minute lower minutes le all.1)

noted_above : (minute sample : ℕ) (samples : List ℕ) (minutes : List Minute) → AllAbove 1 samples minutes → AllAbove 1 (sample ∷ take 3 samples) (noted minute sample minutes)
noted_above minute sample [] [] all = (inl (omega arith), tt)
noted_above minute sample (s ∷ samples) [] all = absurd all.0
noted_above minute sample samples (newest ∷ older) all = either (newest.number == minute)
  where
    either : (b : Bool)
        → AllAbove 1 (sample ∷ take 3 samples) (cond b (record { number = minute; least = min newest.least sample } ∷ older) (record { number = minute; least = sample } ∷ take 9 (newest ∷ older)))
    either true = (inl (omega arith), all_same 1 3 samples newest (record { number = minute; least = min newest.least sample }) older (omega arith) all)
    either false = (inl (omega arith), all_new 1 3 samples (newest ∷ older) (record { number = minute; least = sample }) (omega arith) all)

record IsKept (delays : Delays) : Type 0 where
  all : AllAbove 1 delays.samples delays.minutes
  none : length delays.samples ≡ 0 → length delays.minutes ≡ 0

either_sampled : (b : Bool) (minute sample : ℕ) (samples : List ℕ) (minutes : List Minute) → AllAbove 1 samples minutes → (length samples ≡ 0 → length minutes ≡ 0)
    → AllAbove 1 (cond b (sample ∷ take 3 samples) samples) (cond b (noted minute sample minutes) minutes)
    × (length (cond b (sample ∷ take 3 samples) samples) ≡ 0 → length (cond b (noted minute sample minutes) minutes) ≡ 0)
either_sampled true minute sample samples minutes all none = (noted_above minute sample samples minutes all, λ e. absurd (omega (arith, e)))
either_sampled false minute sample samples minutes all none = (all, none)

sampled_kept : (delay now : ℕ) (delays : Delays) → IsKept delays → IsKept (sampled delay now delays)
sampled_kept delay now delays is =
    let parts = either_sampled (is_near (sample_of delays.first delay)) (minute_of now) (sample_of delays.first delay) delays.samples delays.minutes is.all is.none in
    record { all = parts.0; none = parts.1 }

-- ---- through a story

either_kept : (b : Bool) (m n : Meter) → IsKept m.delays → IsKept n.delays → IsKept (cond b m n).delays
either_kept true m n p q = p
either_kept false m n p q = q

heard_kept : (now : ℕ) (message : Message) (m : Meter) → IsKept m.delays → IsKept (heard_by now message m).delays
heard_kept now (Ack span delay) m is =
    either_kept (hits span.first span.last m.entries == 0) m (settled span.first span.last delay now m) is (sampled_kept delay now m.delays is)
heard_kept now _ m is = is

said_kept : (now : ℕ) (message : Message) (m : Meter) → IsKept m.delays → IsKept (said_by now message m).delays
said_kept now (Data i sent_at bytes) m is = is
said_kept now _ m is = is

meter_kept : (chunk : ℕ) (story : List Line) → IsKept (meter chunk story).delays
meter_kept chunk [] = record { all = tt; none = λ e. refl }
meter_kept chunk (Heard now message ∷ before) = heard_kept now message (meter chunk before) (meter_kept chunk before)
meter_kept chunk (Said now message ∷ before) = said_kept now message (meter chunk before) (meter_kept chunk before)
meter_kept chunk (Taken now ∷ before) =
    either_kept (is_due now (meter chunk before)) (timed_out now (meter chunk before)) (meter chunk before)
    (meter_kept chunk before) (meter_kept chunk before)

-- ---- the least of each

abbrev leasts : List Minute → List ℕ
leasts minutes = map (λ minute. minute.least) minutes

fold_below : (x n sample : ℕ) (minutes : List Minute) → IsAbove n sample minutes → fold min x (leasts minutes) ≤ sample
fold_below x zero sample minutes is = absurd is
fold_below x (suc n) sample [] is = absurd is
fold_below x (suc n) sample (minute ∷ minutes) (inl le) = omega (arith, le, fold_least (min x minute.least) (leasts minutes))
fold_below x (suc n) sample (minute ∷ minutes) (inr is) = fold_below (min x minute.least) n sample minutes is

least_below : (n sample : ℕ) (minutes : List Minute) → IsAbove n sample minutes → least (leasts minutes) ≤ sample
least_below zero sample minutes is = absurd is
least_below (suc n) sample [] is = absurd is
least_below (suc n) sample (minute ∷ minutes) (inl le) = omega (arith, le, fold_least minute.least (leasts minutes))
least_below (suc n) sample (minute ∷ minutes) (inr is) = fold_below minute.least n sample minutes is

fold_above : (low x n : ℕ) (samples : List ℕ) (minutes : List Minute) → low ≡ least (leasts minutes) → low ≤ x → AllAbove n samples minutes → low ≤ fold min x samples
fold_above low x n [] minutes is le all = le
fold_above low x n (sample ∷ samples) minutes is le all =
    fold_above low (min x sample) (suc n) samples minutes is (omega (arith, le, is, least_below n sample minutes all.0)) all.1

least_above : (samples : List ℕ) (minutes : List Minute) → AllAbove 1 samples minutes → (length samples ≡ 0 → length minutes ≡ 0) → least (leasts minutes) ≤ least samples
least_above [] [] all none = omega arith
least_above [] (minute ∷ minutes) all none = absurd (omega (arith, none refl))
least_above (sample ∷ samples) minutes all none =
    fold_above (least (leasts minutes)) sample 2 samples minutes refl (least_below 1 sample minutes all.0) all.1

pub base_is_least : BaseIsLeast
base_is_least chunk story =
    let m = meter chunk story in
    let kept = meter_kept chunk story in
    least_above m.delays.samples m.delays.minutes kept.all kept.none
