-- The meter's timer and its timeout are those of the fates.
use Rattle.std.proofs.Common.{◌≡◌, ℕ, ◌+◌, ◌-◌, ◌==◌, leb, ltb, Bool, true, false, not, cond, ◌&&◌, ◌||◌, Option, Some, None, List, [], ◌∷◌, length, refl, sym, ◌∙◌, ap, arith}
use Rattle.std.specs.List.{count_by, list_any, filter}
use Rattle.std.proofs.lemmas.Bool.{eqb-true}
use Rattle.std.proofs.lemmas.Bool.Decides.{nat_tests}
use Rattle.std.proofs.lemmas.List.Sums.{sum_by-cons, length-filter}
use Rattle.pp_terms.specs.format.Messages.{Message, Data, Ack}
use Rattle.pp_terms.specs.tree.Range.{Span, within}
use Rattle.pp_traffic.specs.declared.entries.Entry.{Entry}
use Rattle.pp_traffic.specs.Story.{Line, Heard, Said, Taken}
use Rattle.pp_traffic.specs.Trips.{Trips, timed_by, backed_off}
use Rattle.pp_traffic.specs.Meter.{Meter, is_flying, hits, oldest, alone, settled, is_due, timed_out, heard_by, said_by, meter}
use Rattle.pp_traffic.specs.Fates.{Fate, Flies, Acknowledged, Lost, WrittenOff, Sending, is_in_flight, is_hit, fates, timeouts, entries_of, is_answer, is_departure, started, sent_alone, trips_heard, trips_of, is_overdue, Timeouts, IsRule}
use Rattle.pp_traffic.specs.FatesLaws.{MetersTimeOut}
use Rattle.pp_traffic.proofs.Fates.{one, hits_same, flight_same, entries_same}

-- some pass where their number isn't 0
pub any_counted : {X : Type 0} (p : X → Bool) (xs : List X) → list_any p xs ≡ ltb 0 (count_by p xs)
any_counted p [] = refl
any_counted p (x ∷ xs) = step (p x) (list_any p xs) (count_by p xs) (count_by p (x ∷ xs)) (any_counted p xs) (sum_by-cons (λ y. cond (p y) 1 0) x xs)
  where
    step : (b c : Bool) (n m : ℕ) → c ≡ ltb 0 n → m ≡ cond b 1 0 + n → (b || c) ≡ ltb 0 m
    step true c n m is e = grind (arith, nat_tests)
    step false c n m is e = is ∙ ap (λ (k : ℕ). ltb 0 k) (let same : n ≡ m = omega (arith, e) in same)

-- ---- the one that an ACK hits

abbrev first_sent : List Sending → Option ℕ
first_sent [] = None
first_sent (s ∷ later) = Some s.sent_at

oldest_one : (span : Span) (fate : Fate) (chunk sent_at : ℕ) (b : Bool) (behind : List Sending) → within span chunk ≡ b
    → oldest span.first span.last (entries_of behind) ≡ first_sent (filter (is_hit span) behind)
    → oldest span.first span.last (entries_of (one fate chunk sent_at ∷ behind)) ≡ first_sent (filter (is_hit span) (one fate chunk sent_at ∷ behind))
oldest_one span Flies chunk sent_at true behind e is = rw e refl
oldest_one span Flies chunk sent_at false behind e is = rw e is
oldest_one span Acknowledged chunk sent_at b behind e is = is
oldest_one span Lost chunk sent_at b behind e is = is
oldest_one span WrittenOff chunk sent_at b behind e is = is

oldest_same : (span : Span) (sendings : List Sending) → oldest span.first span.last (entries_of sendings) ≡ first_sent (filter (is_hit span) sendings)
oldest_same span [] = refl
oldest_same span (s ∷ behind) = oldest_one span s.fate s.chunk s.sent_at (within span s.chunk) behind refl (oldest_same span behind)

only_is : (xs : List Sending) → cond (length xs == 1) (first_sent xs) None ≡ sent_alone xs
only_is [] = refl
only_is (s ∷ []) = refl
only_is (s ∷ t ∷ rest) = let more : (length (s ∷ t ∷ rest) == 1) ≡ false = grind (arith, nat_tests) in rw more refl

alone_same : (span : Span) (sendings : List Sending) → alone span.first span.last (entries_of sendings) ≡ sent_alone (filter (is_hit span) sendings)
alone_same span sendings =
    let count : hits span.first span.last (entries_of sendings) ≡ length (filter (is_hit span) sendings) =
    hits_same span sendings ∙ sym (length-filter (is_hit span) sendings) in
    ap (λ (n : ℕ). cond (n == 1) (oldest span.first span.last (entries_of sendings)) None) count
    ∙ ap (λ (o : Option ℕ). cond (length (filter (is_hit span) sendings) == 1) o None) (oldest_same span sendings)
    ∙ only_is (filter (is_hit span) sendings)

-- ---- through a story

record IsTimed (m : Meter) (sendings : List Sending) (trips : Trips) (start : ℕ) : Type 0 where
  entries : m.entries ≡ entries_of sendings
  trips_are : m.trips ≡ trips
  timer : m.timer ≡ start

pub any_hit : (span : Span) (m : Meter) (sendings : List Sending) → m.entries ≡ entries_of sendings
    → list_any (is_hit span) sendings ≡ not (hits span.first span.last m.entries == 0)
any_hit span m sendings is =
    any_counted (is_hit span) sendings ∙ ap (λ (n : ℕ). ltb 0 n) (sym (hits_same span sendings) ∙ ap (λ (es : List Entry). hits span.first span.last es) (sym is))
    ∙ (let n = hits span.first span.last m.entries in some n)
  where
    some : (n : ℕ) → ltb 0 n ≡ not (n == 0)
    some n = grind (arith, nat_tests)

any_flies : (m : Meter) (sendings : List Sending) → m.entries ≡ entries_of sendings → list_any (λ s. is_in_flight s.fate) sendings ≡ is_flying m
any_flies m sendings is =
    any_counted (λ s. is_in_flight s.fate) sendings ∙ ap (λ (n : ℕ). ltb 0 n) (sym (flight_same sendings) ∙ ap (λ (es : List Entry). length es) (sym is))

-- trips and the timer of a meter that is one of two
acked_trips : (b : Bool) (span : Span) (delay now : ℕ) (m : Meter) → (hits span.first span.last m.entries == 0) ≡ b
    → (cond b m (settled span.first span.last delay now m)).trips ≡ timed_by now (alone span.first span.last m.entries) m.trips
acked_trips true span delay now m none = rw (eqb-true (hits span.first span.last m.entries) 0 none) refl
acked_trips false span delay now m none = refl

acked_timer : (b : Bool) (span : Span) (delay now : ℕ) (m : Meter)
    → (cond b m (settled span.first span.last delay now m)).timer ≡ cond (not b) now m.timer
acked_timer true span delay now m = refl
acked_timer false span delay now m = refl

heard_trips : (now : ℕ) (message : Message) (m : Meter) (sendings : List Sending) (trips : Trips) (start : ℕ) → IsTimed m sendings trips start
    → (heard_by now message m).trips ≡ trips_heard now message sendings trips
heard_trips now (Ack span delay) m sendings trips start is =
    acked_trips (hits span.first span.last m.entries == 0) span delay now m refl
    ∙ ap (λ (es : List Entry). timed_by now (alone span.first span.last es) m.trips) is.entries
    ∙ ap (λ (o : Option ℕ). timed_by now o m.trips) (alone_same span sendings)
    ∙ ap (λ (t : Trips). timed_by now (sent_alone (filter (is_hit span) sendings)) t) is.trips_are
heard_trips now _ m sendings trips start is = is.trips_are

heard_timer : (now : ℕ) (message : Message) (m : Meter) (sendings : List Sending) (trips : Trips) (start : ℕ) → IsTimed m sendings trips start
    → (heard_by now message m).timer ≡ cond (is_answer message sendings) now start
heard_timer now (Ack span delay) m sendings trips start is =
    acked_timer (hits span.first span.last m.entries == 0) span delay now m
    ∙ ap (λ (b : Bool). cond b now m.timer) (sym (any_hit span m sendings is.entries)) ∙ ap (λ (t : ℕ). cond (list_any (is_hit span) sendings) now t) is.timer
heard_timer now _ m sendings trips start is = is.timer

turned : (b : Bool) (x y : ℕ) → cond b x y ≡ cond (not b) y x
turned true x y = refl
turned false x y = refl

said_trips : (now : ℕ) (message : Message) (m : Meter) → (said_by now message m).trips ≡ m.trips
said_trips now (Data i sent_at bytes) m = refl
said_trips now _ m = refl

said_timer : (now : ℕ) (message : Message) (m : Meter) (sendings : List Sending) (trips : Trips) (start : ℕ) → IsTimed m sendings trips start
    → (said_by now message m).timer ≡ cond (is_departure message sendings) now start
said_timer now (Data i sent_at bytes) m sendings trips start is =
    turned (is_flying m) m.timer now ∙ ap (λ (b : Bool). cond (not b) now m.timer) (sym (any_flies m sendings is.entries))
    ∙ ap (λ (t : ℕ). cond (not (list_any (λ s. is_in_flight s.fate) sendings)) now t) is.timer
said_timer now _ m sendings trips start is = is.timer

taken_trips : (b : Bool) (now : ℕ) (m : Meter) (trips : Trips) → m.trips ≡ trips → (cond b (timed_out now m) m).trips ≡ cond b (backed_off trips) trips
taken_trips true now m trips is = ap (λ (t : Trips). backed_off t) is
taken_trips false now m trips is = is

taken_timer : (b : Bool) (now : ℕ) (m : Meter) (start : ℕ) → m.timer ≡ start → (cond b (timed_out now m) m).timer ≡ cond b now start
taken_timer true now m start is = refl
taken_timer false now m start is = is

timed_same : (chunk : ℕ) (story : List Line)
    → IsTimed (meter chunk story) (fates (timeouts chunk) story) (trips_of (timeouts chunk) story) (started (timeouts chunk) story)
timed_same chunk [] = record { entries = refl; trips_are = refl; timer = refl }
timed_same chunk (Heard now message ∷ before) =
    let m = meter chunk before in
    let f = fates (timeouts chunk) before in
    let is = timed_same chunk before in
    record {
      entries = entries_same chunk (Heard now message ∷ before);
      trips_are = heard_trips now message m f (trips_of (timeouts chunk) before) (started (timeouts chunk) before) is;
      timer = heard_timer now message m f (trips_of (timeouts chunk) before) (started (timeouts chunk) before) is;
    }
timed_same chunk (Said now message ∷ before) =
    let m = meter chunk before in
    let f = fates (timeouts chunk) before in
    let is = timed_same chunk before in
    record {
      entries = entries_same chunk (Said now message ∷ before);
      trips_are = said_trips now message m ∙ is.trips_are;
      timer = said_timer now message m f (trips_of (timeouts chunk) before) (started (timeouts chunk) before) is;
    }
timed_same chunk (Taken now ∷ before) =
    let m = meter chunk before in
    let is = timed_same chunk before in
    record {
      entries = entries_same chunk (Taken now ∷ before);
      trips_are = taken_trips (is_due now m) now m (trips_of (timeouts chunk) before) is.trips_are;
      timer = taken_timer (is_due now m) now m (started (timeouts chunk) before) is.timer;
    }

due_same : (b c : Bool) (s t : Trips) (now x y : ℕ) → b ≡ c → s ≡ t → x ≡ y → (b && leb s.timeout (now - x)) ≡ (c && leb t.timeout (now - y))
due_same b c s t now x y e f g = rw (e, f, g) refl

keeps_rule : (chunk : ℕ) → IsRule (timeouts chunk)
keeps_rule chunk now story =
    let is = timed_same chunk story in
    due_same (is_flying (meter chunk story)) (list_any (λ s. is_in_flight s.fate) (fates (timeouts chunk) story))
    (meter chunk story).trips (trips_of (timeouts chunk) story) now (meter chunk story).timer (started (timeouts chunk) story)
    (sym (any_flies (meter chunk story) (fates (timeouts chunk) story) is.entries)) is.trips_are is.timer

-- ---- one rule

record Agree (due other : Timeouts) (story : List Line) : Type 0 where
  fates_are : fates due story ≡ fates other story
  trips_are : trips_of due story ≡ trips_of other story
  starts : started due story ≡ started other story

due_agree : (due other : Timeouts) → IsRule due → IsRule other → (now : ℕ) (story : List Line) → Agree due other story → due now story ≡ other now story
due_agree due other keeps others now story agree =
    let same : is_overdue due now story ≡ is_overdue other now story = rw (agree.fates_are, agree.trips_are, agree.starts) refl in
    keeps now story ∙ same ∙ sym (others now story)

agree_on : (due other : Timeouts) → IsRule due → IsRule other → (story : List Line) → Agree due other story
agree_on due other keeps others [] = record { fates_are = refl; trips_are = refl; starts = refl }
agree_on due other keeps others (Heard now message ∷ before) =
    let is = agree_on due other keeps others before in
    record {
      fates_are = rw is.fates_are refl;
      trips_are = rw (is.fates_are, is.trips_are) refl;
      starts = rw (is.fates_are, is.starts) refl;
    }
agree_on due other keeps others (Said now message ∷ before) =
    let is = agree_on due other keeps others before in
    record {
      fates_are = rw is.fates_are refl;
      trips_are = is.trips_are;
      starts = rw (is.fates_are, is.starts) refl;
    }
agree_on due other keeps others (Taken now ∷ before) =
    let is = agree_on due other keeps others before in
    let same = due_agree due other keeps others now before is in
    record {
      fates_are = rw (same, is.fates_are) refl;
      trips_are = rw (same, is.trips_are) refl;
      starts = rw (same, is.starts) refl;
    }

pub meters_time_out : MetersTimeOut
meters_time_out = record {
  trips = λ chunk story. (timed_same chunk story).trips_are;
  timer = λ chunk story. (timed_same chunk story).timer;
  keeps = keeps_rule;
  alone = λ due other keeps others now story. due_agree due other keeps others now story (agree_on due other keeps others story);
}
