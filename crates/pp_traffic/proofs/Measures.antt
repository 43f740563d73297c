-- The meter's delays are a summary of all samples: the four latest, and the least of each of the ten latest minutes.
use Rattle.std.proofs.Common.{◌≡◌, ◌⊎◌, inl, inr, not, ℕ, zero, suc, ◌+◌, ◌<◌, ◌≤◌, min, max, ◌==◌, ltb, Bool, true, false, cond, Option, Some, List, [], ◌∷◌, take, map, refl, sym, ◌∙◌, ap, subst, arith}
use Rattle.std.specs.List.{AllByRecursion, count_by, list_any, filter, fold}
use Rattle.std.proofs.lemmas.Bool.Decides.{nat_tests}
use Rattle.std.proofs.lemmas.List.{take-take}
use Rattle.std.proofs.lemmas.List.Sums.{sum_by-cons}
use Rattle.pp_terms.specs.format.Messages.{Message, Data, Ack}
use Rattle.pp_terms.specs.tree.Range.{Span}
use Rattle.pp_traffic.specs.declared.entries.Minute.{Minute}
use Rattle.pp_traffic.specs.Story.{Line, Heard, Said, Taken}
use Rattle.pp_traffic.specs.Delays.{Delays, sample_of, is_near, first_delay, minute_of, noted, sampled, least, base}
use Rattle.pp_traffic.specs.Meter.{Meter, hits, settled, is_due, timed_out, heard_by, said_by, meter}
use Rattle.pp_traffic.specs.Fates.{Sending, is_hit, Timeouts, fates, entries_of, timeouts, now_of, Measure, measured, measures, first_of, Sample, samples_of, minutes_of, base_of}
use Rattle.pp_traffic.specs.FatesLaws.{NeverFalls, MetersMeasure}
use Rattle.pp_traffic.proofs.Fates.{entries_same}
use Rattle.pp_traffic.proofs.Timers.{any_hit}

abbrev values : List Sample → List ℕ
values samples = map (λ x. x.value) samples

abbrev leasts : List Minute → List ℕ
leasts minutes = map (λ minute. minute.least) minutes

-- ---- all minutes, each with the least of its samples

abbrev least_minute : ℕ → ℕ → Minute
least_minute number least = record { number = number; least = least }

abbrev grown : Sample → List Minute → List Minute
grown x [] = least_minute x.minute x.value ∷ []
grown x (newest ∷ older) =
    cond (newest.number == x.minute) (least_minute x.minute (min newest.least x.value) ∷ older) (least_minute x.minute x.value ∷ newest ∷ older)

abbrev grouped : List Sample → List Minute
grouped [] = []
grouped (x ∷ earlier) = grown x (grouped earlier)

noted_ten : (x : Sample) (minutes : List Minute) → noted x.minute x.value (take 10 minutes) ≡ take 10 (grown x minutes)
noted_ten x [] = refl
noted_ten x (newest ∷ older) = either (newest.number == x.minute)
  where
    either : (b : Bool)
        → cond b (least_minute x.minute (min newest.least x.value) ∷ take 9 older) (least_minute x.minute x.value ∷ take 9 (newest ∷ take 9 older))
        ≡ take 10 (cond b (least_minute x.minute (min newest.least x.value) ∷ older) (least_minute x.minute x.value ∷ newest ∷ older))
    either true = refl
    either false = ap (λ (ms : List Minute). least_minute x.minute x.value ∷ newest ∷ ms) (take-take 8 9 older (omega arith))

-- ---- through a story

record IsMeasured (delays : Delays) (ms : List Measure) : Type 0 where
  first : delays.first ≡ first_of ms
  samples : delays.samples ≡ take 4 (values (samples_of ms))
  minutes : delays.minutes ≡ take 10 (grouped (samples_of ms))

either_samples : (b : Bool) (value minute : ℕ) (samples : List Sample)
    → cond b (value ∷ take 3 (take 4 (values samples))) (take 4 (values samples))
    ≡ take 4 (values (cond b (record { minute = minute; value = value } ∷ samples) samples))
either_samples true value minute samples = ap (λ (xs : List ℕ). value ∷ xs) (take-take 3 4 (values samples) (omega arith))
either_samples false value minute samples = refl

either_minutes : (b : Bool) (value minute : ℕ) (samples : List Sample)
    → cond b (noted minute value (take 10 (grouped samples))) (take 10 (grouped samples))
    ≡ take 10 (grouped (cond b (record { minute = minute; value = value } ∷ samples) samples))
either_minutes true value minute samples = noted_ten (record { minute = minute; value = value }) (grouped samples)
either_minutes false value minute samples = refl

sampled_measured : (delay now : ℕ) (delays : Delays) (ms : List Measure) → IsMeasured delays ms
    → IsMeasured (sampled delay now delays) (record { now = now; delay = delay } ∷ ms)
sampled_measured delay now delays ms is =
    let value = sample_of (first_of ms) delay in
    record {
      first = ap (λ (o : Option ℕ). Some (first_delay delay o)) is.first;
      samples = rw (is.first, is.samples) (either_samples (is_near value) value (minute_of now) (samples_of ms));
      minutes = rw (is.first, is.minutes) (either_minutes (is_near value) value (minute_of now) (samples_of ms));
    }

acked_measured : (b c : Bool) (span : Span) (delay now : ℕ) (m : Meter) (ms : List Measure) → c ≡ not b → IsMeasured m.delays ms
    → IsMeasured (cond b m (settled span.first span.last delay now m)).delays (cond c (record { now = now; delay = delay } ∷ ms) ms)
acked_measured true true span delay now m ms e is = absurd cc
acked_measured true false span delay now m ms e is = is
acked_measured false true span delay now m ms e is = sampled_measured delay now m.delays ms is
acked_measured false false span delay now m ms e is = absurd cc

heard_measured : (now : ℕ) (message : Message) (m : Meter) (sendings : List Sending) (ms : List Measure) → m.entries ≡ entries_of sendings
    → IsMeasured m.delays ms → IsMeasured (heard_by now message m).delays (measured now message sendings ms)
heard_measured now (Ack span delay) m sendings ms same is =
    acked_measured (hits span.first span.last m.entries == 0) (list_any (is_hit span) sendings) span delay now m ms (any_hit span m sendings same) is
heard_measured now _ m sendings ms same is = is

said_delays : (now : ℕ) (message : Message) (m : Meter) → m.delays ≡ (said_by now message m).delays
said_delays now (Data i sent_at bytes) m = refl
said_delays now _ m = refl

taken_delays : (b : Bool) (now : ℕ) (m : Meter) → m.delays ≡ (cond b (timed_out now m) m).delays
taken_delays true now m = refl
taken_delays false now m = refl

meter_measured : (chunk : ℕ) (story : List Line) → IsMeasured (meter chunk story).delays (measures (timeouts chunk) story)
meter_measured chunk [] = record { first = refl; samples = refl; minutes = refl }
meter_measured chunk (Heard now message ∷ before) =
    heard_measured now message (meter chunk before) (fates (timeouts chunk) before) (measures (timeouts chunk) before)
    (entries_same chunk before) (meter_measured chunk before)
meter_measured chunk (Said now message ∷ before) =
    subst (λ (d : Delays). IsMeasured d (measures (timeouts chunk) before)) (said_delays now message (meter chunk before)) (meter_measured chunk before)
meter_measured chunk (Taken now ∷ before) =
    subst (λ (d : Delays). IsMeasured d (measures (timeouts chunk) before)) (taken_delays (is_due now (meter chunk before)) now (meter chunk before))
    (meter_measured chunk before)

-- ---- the ten latest minutes, where minutes don't fall

abbrev AreFalling : List Sample → Type 0
AreFalling [] = Unit {0}
AreFalling (x ∷ earlier) = AllByRecursion (λ y. y.minute ≤ x.minute) earlier × AreFalling earlier

-- how many minutes after this one have samples
abbrev after : List Sample → ℕ → ℕ
after samples minute = count_by (λ m. ltb minute m) (minutes_of samples)

abbrev has : ℕ → List Sample → Bool
has minute samples = list_any (λ y. y.minute == minute) samples

after_cons : (minute m : ℕ) (ms : List ℕ) → count_by (λ k. ltb minute k) (m ∷ ms) ≡ cond (ltb minute m) 1 0 + count_by (λ k. ltb minute k) ms
after_cons minute m ms = sum_by-cons (λ k. cond (ltb minute k) 1 0) m ms

none_after : (top : ℕ) (samples : List Sample) → AllByRecursion (λ y. y.minute ≤ top) samples → after samples top ≡ 0
none_after top [] all = refl
none_after top (x ∷ earlier) all = either (has x.minute earlier) (none_after top earlier all.1)
  where
    either : (b : Bool) → after earlier top ≡ 0 → count_by (λ m. ltb top m) (cond b (minutes_of earlier) (x.minute ∷ minutes_of earlier)) ≡ 0
    either true none = none
    either false none =
        let head : ltb top x.minute ≡ false = (let le = all.0 in grind (arith, nat_tests)) in
        after_cons top x.minute (minutes_of earlier) ∙ rw head (ap (λ (n : ℕ). 0 + n) none)

filter_same : (p q : Sample → Bool) (samples : List Sample) → AllByRecursion (λ y. p y ≡ q y) samples → filter p samples ≡ filter q samples
filter_same p q [] all = refl
filter_same p q (x ∷ earlier) all = rw (all.0, filter_same p q earlier all.1) refl

filter_none : (p : Sample → Bool) (samples : List Sample) → ((y : Sample) → p y ≡ false) → filter p samples ≡ []
filter_none p [] none = refl
filter_none p (x ∷ earlier) none = rw (none x) (filter_none p earlier none)

take_none : {X : Type 0} (n : ℕ) → take {A = X} n [] ≡ []
take_none zero = refl
take_none (suc n) = refl

-- the newest sample's minute has samples before, or not
record IsOld (x : Sample) (earlier : List Sample) : Type 0 where
  has_it : has x.minute earlier ≡ true
  newest : Minute
  older : List Minute
  before : grouped earlier ≡ newest ∷ older
  now : grouped (x ∷ earlier) ≡ least_minute x.minute (min newest.least x.value) ∷ older

record IsNew (x : Sample) (earlier : List Sample) : Type 0 where
  hasnt : has x.minute earlier ≡ false
  now : grouped (x ∷ earlier) ≡ least_minute x.minute x.value ∷ grouped earlier
  below : AllByRecursion (λ y. y.minute < x.minute) earlier

none_has : (minute : ℕ) (samples : List Sample) → AllByRecursion (λ y. y.minute < minute) samples → has minute samples ≡ false
none_has minute [] all = refl
none_has minute (y ∷ earlier) all =
    let head : (y.minute == minute) ≡ false = (let lt = all.0 in grind (arith, nat_tests)) in
    rw head (none_has minute earlier all.1)

all_map : (P Q : Sample → Type 0) → ((y : Sample) → P y → Q y) → (samples : List Sample) → AllByRecursion P samples → AllByRecursion Q samples
all_map P Q f [] all = tt
all_map P Q f (y ∷ earlier) all = (f y all.0, all_map P Q f earlier all.1)

record HasHead (minutes : List Minute) (number : ℕ) : Type 0 where
  newest : Minute
  older : List Minute
  is : minutes ≡ newest ∷ older
  numbered : newest.number ≡ number

grown_head : (x : Sample) (minutes : List Minute) → HasHead (grown x minutes) x.minute
grown_head x [] = record { newest = least_minute x.minute x.value; older = []; is = refl; numbered = refl }
grown_head x (newest ∷ older) = either (newest.number == x.minute)
  where
    either : (b : Bool)
        → HasHead (cond b (least_minute x.minute (min newest.least x.value) ∷ older) (least_minute x.minute x.value ∷ newest ∷ older)) x.minute
    either true = record { newest = least_minute x.minute (min newest.least x.value); older = older; is = refl; numbered = refl }
    either false = record { newest = least_minute x.minute x.value; older = newest ∷ older; is = refl; numbered = refl }

old_or_new : (x : Sample) (earlier : List Sample) → AllByRecursion (λ y. y.minute ≤ x.minute) earlier → AreFalling earlier → IsOld x earlier ⊎ IsNew x earlier
old_or_new x [] all falling = inr (record { hasnt = refl; now = refl; below = tt })
old_or_new x (y ∷ rest) all falling = either (y.minute == x.minute) refl
  where
    head : HasHead (grouped (y ∷ rest)) y.minute
    head = grown_head y (grouped rest)

    either : (b : Bool) → (y.minute == x.minute) ≡ b → IsOld x (y ∷ rest) ⊎ IsNew x (y ∷ rest)
    either true e = inl (record {
      has_it = rw e refl;
      newest = head.newest;
      older = head.older;
      before = head.is;
      now = ap (λ (ms : List Minute). grown x ms) head.is ∙ rw (head.numbered, e) refl;
    })
    either false e =
        let less : y.minute < x.minute = (let le = all.0 in grind (arith, nat_tests)) in
        let below : AllByRecursion (λ z. z.minute < x.minute) (y ∷ rest) =
        (less, all_map (λ z. z.minute ≤ y.minute) (λ z. z.minute < x.minute) (λ z le. omega arith) rest falling.0) in
        inr (record {
          hasnt = none_has x.minute (y ∷ rest) below;
          now = ap (λ (ms : List Minute). grown x ms) head.is ∙ rw (head.numbered, e) (ap (λ (ms : List Minute). least_minute x.minute x.value ∷ ms) (sym head.is));
          below = below;
        })

-- those of the latest minutes, so many of these
abbrev recents : ℕ → List ℕ → List Sample → List Sample
recents n minutes samples = filter (λ y. ltb (count_by (λ m. ltb y.minute m) minutes) n) samples

recents_head : (k : ℕ) (minutes : List ℕ) (x : Sample) (earlier : List Sample) → count_by (λ m. ltb x.minute m) minutes ≡ 0
    → recents (suc k) minutes (x ∷ earlier) ≡ x ∷ recents (suc k) minutes earlier
recents_head k minutes x earlier e =
    let n = count_by (λ m. ltb x.minute m) minutes in
    let passes : ltb n (suc k) ≡ true = pass n e in
    rw passes refl
  where
    pass : (n : ℕ) → n ≡ 0 → ltb n (suc k) ≡ true
    pass n e = grind (arith, nat_tests)

one_minute_more : (k n m : ℕ) → m ≡ 1 + n → ltb m (suc k) ≡ ltb n k
one_minute_more k n m e = grind (arith, nat_tests)

recents_less : (k minute : ℕ) (minutes : List ℕ) (y : Sample) → y.minute < minute
    → ltb (count_by (λ m. ltb y.minute m) (minute ∷ minutes)) (suc k) ≡ ltb (count_by (λ m. ltb y.minute m) minutes) k
recents_less k minute minutes y lt =
    let head : ltb y.minute minute ≡ true = grind (arith, nat_tests) in
    one_minute_more k (count_by (λ m. ltb y.minute m) minutes) (count_by (λ m. ltb y.minute m) (minute ∷ minutes))
    (after_cons y.minute minute minutes ∙ ap (λ (b : Bool). cond b 1 0 + count_by (λ m. ltb y.minute m) minutes) head)

abbrev FoldsAlike : List Sample → ℕ → ℕ → Type 0
FoldsAlike samples n a = fold min a (values (recents n (minutes_of samples) samples)) ≡ fold min a (leasts (take n (grouped samples)))

alike_old : (x : Sample) (earlier : List Sample) (k a : ℕ) → AllByRecursion (λ y. y.minute ≤ x.minute) earlier → IsOld x earlier
    → FoldsAlike earlier (suc k) (min a x.value) → FoldsAlike (x ∷ earlier) (suc k) a
alike_old x earlier k a all old alike =
    let same : minutes_of (x ∷ earlier) ≡ minutes_of earlier = rw old.has_it refl in
    ap (λ (ms : List ℕ). fold min a (values (recents (suc k) ms (x ∷ earlier)))) same
    ∙ ap (λ (ss : List Sample). fold min a (values ss)) (recents_head k (minutes_of earlier) x earlier (none_after x.minute earlier all))
    ∙ alike
    ∙ ap (λ (ms : List Minute). fold min (min a x.value) (leasts (take (suc k) ms))) old.before
    ∙ ap (λ (n : ℕ). fold min n (leasts (take k old.older))) (swapped a x.value old.newest.least)
    ∙ sym (ap (λ (ms : List Minute). fold min a (leasts (take (suc k) ms))) old.now)
  where
    swapped : (a x l : ℕ) → min (min a x) l ≡ min a (min l x)
    swapped a x l = omega arith

alike_new : (x : Sample) (earlier : List Sample) (k a : ℕ) → AllByRecursion (λ y. y.minute ≤ x.minute) earlier → IsNew x earlier
    → FoldsAlike earlier k (min a x.value) → FoldsAlike (x ∷ earlier) (suc k) a
alike_new x earlier k a all new alike =
    let more : minutes_of (x ∷ earlier) ≡ x.minute ∷ minutes_of earlier = rw new.hasnt refl in
    let itself : ltb x.minute x.minute ≡ false = grind (arith, nat_tests) in
    let none : count_by (λ m. ltb x.minute m) (x.minute ∷ minutes_of earlier) ≡ 0 =
    after_cons x.minute x.minute (minutes_of earlier)
    ∙ ap (λ (b : Bool). cond b 1 0 + count_by (λ m. ltb x.minute m) (minutes_of earlier)) itself
    ∙ ap (λ (n : ℕ). 0 + n) (none_after x.minute earlier all) in
    ap (λ (ms : List ℕ). fold min a (values (recents (suc k) ms (x ∷ earlier)))) more
    ∙ ap (λ (ss : List Sample). fold min a (values ss)) (recents_head k (x.minute ∷ minutes_of earlier) x earlier none)
    ∙ ap (λ (ss : List Sample). fold min (min a x.value) (values ss))
    (filter_same (λ y. ltb (count_by (λ m. ltb y.minute m) (x.minute ∷ minutes_of earlier)) (suc k)) (λ y. ltb (count_by (λ m. ltb y.minute m) (minutes_of earlier)) k) earlier
    (all_map (λ y. y.minute < x.minute) _ (λ y lt. recents_less k x.minute (minutes_of earlier) y lt) earlier new.below))
    ∙ alike
    ∙ sym (ap (λ (ms : List Minute). fold min a (leasts (take (suc k) ms))) new.now)

folds_alike : (samples : List Sample) → AreFalling samples → (n a : ℕ) → FoldsAlike samples n a
folds_alike [] falling n a = sym (ap (λ (ms : List Minute). fold min a (leasts ms)) (take_none n))
folds_alike (x ∷ earlier) falling zero a =
    ap (λ (ss : List Sample). fold min a (values ss))
    (filter_none (λ y. ltb (count_by (λ m. ltb y.minute m) (minutes_of (x ∷ earlier))) 0) (x ∷ earlier) (λ y. grind (arith, nat_tests)))
folds_alike (x ∷ earlier) falling (suc k) a = either (old_or_new x earlier falling.0 falling.1) (λ n. folds_alike earlier falling.1 n (min a x.value))
  where
    either : IsOld x earlier ⊎ IsNew x earlier → ((n : ℕ) → FoldsAlike earlier n (min a x.value)) → FoldsAlike (x ∷ earlier) (suc k) a
    either (inl old) alike = alike_old x earlier k a falling.0 old (alike (suc k))
    either (inr new) alike = alike_new x earlier k a falling.0 new (alike k)

-- two lists that fold alike from every number have one least
pub fold_least : (x : ℕ) (xs : List ℕ) → fold min x xs ≤ x
fold_least x [] = omega arith
fold_least x (y ∷ ys) = omega (arith, fold_least (min x y) ys)

least_alike : (xs ys : List ℕ) → ((a : ℕ) → fold min a xs ≡ fold min a ys) → least xs ≡ least ys
least_alike [] [] alike = refl
least_alike [] (y ∷ ys) alike = absurd (omega (arith, alike (y + 1), fold_least (min (y + 1) y) ys))
least_alike (x ∷ xs) [] alike = absurd (omega (arith, alike (x + 1), fold_least (min (x + 1) x) xs))
least_alike (x ∷ xs) (y ∷ ys) alike =
    let left : min (max x y) x ≡ x = omega arith in
    let right : min (max x y) y ≡ y = omega arith in
    sym (ap (λ (n : ℕ). fold min n xs) left) ∙ alike (max x y) ∙ ap (λ (n : ℕ). fold min n ys) right

-- ---- a story's samples have falling minutes

abbrev AreEarlier : ℕ → List Measure → Type 0
AreEarlier top ms = AllByRecursion (λ m. m.now ≤ top) ms

either_earlier : (c : Bool) (top now delay : ℕ) (ms : List Measure) → now ≤ top → AreEarlier top ms
    → AreEarlier top (cond c (record { now = now; delay = delay } ∷ ms) ms)
either_earlier true top now delay ms le all = (le, all)
either_earlier false top now delay ms le all = all

measured_earlier : (top now : ℕ) (message : Message) (sendings : List Sending) (ms : List Measure) → now ≤ top → AreEarlier top ms
    → AreEarlier top (measured now message sendings ms)
measured_earlier top now (Ack span delay) sendings ms le all = either_earlier (list_any (is_hit span) sendings) top now delay ms le all
measured_earlier top now _ sendings ms le all = all

measures_earlier : (due : Timeouts) (top : ℕ) (story : List Line) → AllByRecursion (λ line. now_of line ≤ top) story → AreEarlier top (measures due story)
measures_earlier due top [] all = tt
measures_earlier due top (Heard now message ∷ before) all =
    measured_earlier top now message (fates due before) (measures due before) all.0 (measures_earlier due top before all.1)
measures_earlier due top (Said now message ∷ before) all = measures_earlier due top before all.1
measures_earlier due top (Taken now ∷ before) all = measures_earlier due top before all.1

minutes_grow : (now top : ℕ) → now ≤ top → minute_of now ≤ minute_of top
minutes_grow now top le = omega arith

either_below : (c : Bool) (top minute value : ℕ) (samples : List Sample) → minute ≤ top → AllByRecursion (λ y. y.minute ≤ top) samples
    → AllByRecursion (λ y. y.minute ≤ top) (cond c (record { minute = minute; value = value } ∷ samples) samples)
either_below true top minute value samples le all = (le, all)
either_below false top minute value samples le all = all

samples_below : (top : ℕ) (ms : List Measure) → AreEarlier top ms → AllByRecursion (λ y. y.minute ≤ minute_of top) (samples_of ms)
samples_below top [] all = tt
samples_below top (m ∷ earlier) all =
    either_below (is_near (sample_of (first_of earlier) m.delay)) (minute_of top) (minute_of m.now) (sample_of (first_of earlier) m.delay) (samples_of earlier)
    (minutes_grow m.now top all.0) (samples_below top earlier all.1)

either_falling : (c : Bool) (minute value : ℕ) (samples : List Sample) → AllByRecursion (λ y. y.minute ≤ minute) samples → AreFalling samples
    → AreFalling (cond c (record { minute = minute; value = value } ∷ samples) samples)
either_falling true minute value samples all falling = (all, falling)
either_falling false minute value samples all falling = falling

heard_falling : (c : Bool) (now delay : ℕ) (ms : List Measure) → AreEarlier now ms → AreFalling (samples_of ms)
    → AreFalling (samples_of (cond c (record { now = now; delay = delay } ∷ ms) ms))
heard_falling true now delay ms all falling =
    either_falling (is_near (sample_of (first_of ms) delay)) (minute_of now) (sample_of (first_of ms) delay) (samples_of ms) (samples_below now ms all) falling
heard_falling false now delay ms all falling = falling

measured_falling : (now : ℕ) (message : Message) (sendings : List Sending) (ms : List Measure) → AreEarlier now ms → AreFalling (samples_of ms)
    → AreFalling (samples_of (measured now message sendings ms))
measured_falling now (Ack span delay) sendings ms all falling = heard_falling (list_any (is_hit span) sendings) now delay ms all falling
measured_falling now _ sendings ms all falling = falling

story_falling : (due : Timeouts) (story : List Line) → NeverFalls story → AreFalling (samples_of (measures due story))
story_falling due [] never = tt
story_falling due (Heard now message ∷ before) never =
    measured_falling now message (fates due before) (measures due before) (measures_earlier due now before never.0) (story_falling due before never.1)
story_falling due (Said now message ∷ before) never = story_falling due before never.1
story_falling due (Taken now ∷ before) never = story_falling due before never.1

base_same : (chunk : ℕ) (story : List Line) → NeverFalls story
    → base (meter chunk story).delays ≡ base_of (samples_of (measures (timeouts chunk) story))
base_same chunk story never =
    let samples = samples_of (measures (timeouts chunk) story) in
    ap (λ (ms : List Minute). least (leasts ms)) (meter_measured chunk story).minutes
    ∙ sym (least_alike (values (recents 10 (minutes_of samples) samples)) (leasts (take 10 (grouped samples)))
    (λ a. folds_alike samples (story_falling (timeouts chunk) story never) 10 a))

pub meters_measure : MetersMeasure
meters_measure = record {
  samples = λ chunk story. (meter_measured chunk story).samples;
  base = base_same;
}
