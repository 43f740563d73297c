-- Plain channels in words by places.
use Rattle.std.proofs.Common.{◌≡◌, ◌⊎◌, inl, inr, ⊎_elim, ℕ, ◌+◌, ◌<◌, ◌≤◌, ltb, leb, Bool, true, false, not, ◌&&◌, ◌||◌, Option, Some, None, List, [], ◌∷◌, ◌++◌, length, refl, sym, ◌∙◌, ap, subst, arith}
use Rattle.std.proofs.lemmas.Bool.{and_parts, and_from, or_cases, or_left, or_right, and_cases, not-true, lt-ltb, ltb-true, ltb-false, leb-true, le-leb, cases_Bool, both_ways, false_from_ne_true, cond-true, cond-false, and_right}
use Rattle.std.specs.Prelude.{MatchBool}
use Rattle.std.specs.List.{AllByRecursion}
use Rattle.std.proofs.lemmas.List.{length-append}
use Rattle.pp_terms.specs.format.Traffic.{Record}
use Rattle.pp_terms.specs.format.Descriptor.{Descriptor}
use Rattle.pp_traffic.specs.Past.{now, now_at, comes_from, goes_to, is_event, some_since, some_until}
use Rattle.pp_traffic.specs.Life.{Life, greets, answers, comes_on, closes_on}
use Rattle.pp_traffic.specs.Plain.{greets_once, asks_anew, concerns, first_since, none_until_first, heard_at, greeting_time, silence_time, is_in_time, is_timely, IsPlainAnswer, IsPlainDial, IsPlain}
use Rattle.pp_traffic.specs.Places.{Stands, StandsFrom, IsFirst, IsLatest, InTime, IsPlainAnswerByPlaces, IsPlainDialByPlaces, IsPlainByPlaces, PlainByPlaces, HeardByPlaces}
use Rattle.pp_traffic.proofs.Standing.{found_since, stands_since, found_until, stands_until, found_at, stands_at, none_since, stands_none, since_from}

-- the first that passes a test
first_found : (which test : Record → Bool) (place : ℕ) (past : List Record) → first_since which test place past ≡ true → IsFirst which test place past
first_found which test place [] e = absurd cc
first_found which test place (r ∷ past) e = ⊎_elim
    (λ some. let f = first_found which test place past (sym (cond-true (some_since which place past) (first_since which test place past) (leb place (length past) && which r && test r) some) ∙ e) in
    record { after = r ∷ f.after; here = f.here; before = f.before; split = ap (λ (xs : List Record). r ∷ xs) f.split; since = f.since; is_one = f.is_one; passes = f.passes; first = f.first })
    (λ none.
    let now_is = sym (cond-false (some_since which place past) (first_since which test place past) (leb place (length past) && which r && test r) none) ∙ e in
    let outer = and_parts (leb place (length past) && which r) (test r) now_is in
    let inner = and_parts (leb place (length past)) (which r) outer.0 in
    record { after = []; here = r; before = past; split = refl; since = leb-true place (length past) inner.0; is_one = inner.1; passes = outer.1; first = stands_none which place past none })
    (cases_Bool (some_since which place past))

first_from : (which test : Record → Bool) (place : ℕ) (after : List Record) (r : Record) (before : List Record) → place ≤ length before
    → which r ≡ true → test r ≡ true → (StandsFrom which place before → ⊥) → first_since which test place (after ++ r ∷ before) ≡ true
first_from which test place [] r before le one passes first =
    cond-false (some_since which place before) (first_since which test place before) (leb place (length before) && which r && test r) (none_since which place before first)
    ∙ and_from (leb place (length before) && which r) (test r) (and_from (leb place (length before)) (which r) (le-leb place (length before) le) one) passes
first_from which test place (x ∷ after) r before le one passes first =
    cond-true (some_since which place (after ++ r ∷ before)) (first_since which test place (after ++ r ∷ before)) (leb place (length (after ++ r ∷ before)) && which x && test x)
    (since_from which place after r before le one)
    ∙ first_from which test place after r before le one passes first

found_first : (which test : Record → Bool) (place : ℕ) (past : List Record) → IsFirst which test place past → first_since which test place past ≡ true
found_first which test place past f = subst (λ (xs : List Record). first_since which test place xs ≡ true) (sym f.split) (first_from which test place f.after f.here f.before f.since f.is_one f.passes f.first)

abbrev OnlyBehind : (which test : Record → Bool) → ℕ → List Record → Type 0
OnlyBehind which test place past = (after : List Record) (r : Record) (before : List Record) → past ≡ after ++ r ∷ before
    → place < length before → test r ≡ true → StandsFrom which place before

behind_here : (which test : Record → Bool) (place : ℕ) (r : Record) (before : List Record)
    → (not (ltb place (length before) && test r) || some_since which place before) ≡ true → place < length before → test r ≡ true → StandsFrom which place before
behind_here which test place r before e lt passes = ⊎_elim
    (λ isnt. absurd (both_ways (ltb place (length before) && test r) (not-true (ltb place (length before) && test r) isnt) (and_from (ltb place (length before)) (test r) (lt-ltb place (length before) lt) passes)))
    (λ some. found_since which place before some)
    (or_cases (not (ltb place (length before) && test r)) (some_since which place before) e)

pub only_from : (which test : Record → Bool) (place : ℕ) (after : List Record) (r : Record) (before : List Record) → none_until_first which test place (after ++ r ∷ before) ≡ true
    → place < length before → test r ≡ true → StandsFrom which place before
only_from which test place [] r before e lt passes =
    behind_here which test place r before (and_parts (not (ltb place (length before) && test r) || some_since which place before) (none_until_first which test place before) e).0 lt passes
only_from which test place (x ∷ after) r before e lt passes =
    only_from which test place after r before
    (and_parts (not (ltb place (length (after ++ r ∷ before)) && test x) || some_since which place (after ++ r ∷ before)) (none_until_first which test place (after ++ r ∷ before)) e).1 lt passes

none_by : (which test : Record → Bool) (place : ℕ) (past : List Record) → OnlyBehind which test place past → none_until_first which test place past ≡ true
none_by which test place [] all = refl
none_by which test place (r ∷ before) all = and_from (not (ltb place (length before) && test r) || some_since which place before) (none_until_first which test place before)
    (⊎_elim
    (λ here. let parts = and_parts (ltb place (length before)) (test r) here in
    or_right (not (ltb place (length before) && test r)) (some_since which place before) (stands_since which place before (all [] r before refl (ltb-true place (length before) parts.0) parts.1)))
    (λ not_here. or_left (not (ltb place (length before) && test r)) (some_since which place before) (rw not_here refl))
    (cases_Bool (ltb place (length before) && test r)))
    (none_by which test place before (λ after x older split. all (r ∷ after) x older (ap (λ (xs : List Record). r ∷ xs) split)))

stands_earlier : (IsPlace : ℕ → Type 0) (test : Record → Bool) (r : Record) (past : List Record) → (IsPlace (length past) → test r ≡ true → ⊥)
    → Stands IsPlace test (r ∷ past) → Stands IsPlace test past
stands_earlier IsPlace test r past never s = step s.after s.split
  where
    step : (after : List Record) → r ∷ past ≡ after ++ s.here ∷ s.before → Stands IsPlace test past
    step [] split =
        let same : past ≡ s.before = cc in
        let one : r ≡ s.here = cc in
        absurd (never (subst (λ (xs : List Record). IsPlace (length xs)) (sym same) s.place) (subst (λ (x : Record). test x ≡ true) (sym one) s.passes))
    step (x ∷ after) split = record { after = after; here = s.here; before = s.before; split = cc; place = s.place; passes = s.passes }

option? : (o : Option ℕ) → (o ≡ None) ⊎ ((x : ℕ) × (o ≡ Some x))
option? None = inl refl
option? (Some x) = inr (x, refl)

same_some : (x y : ℕ) → Some x ≡ Some y → x ≡ y
same_some x y e = cc

latest_of : (d : Descriptor) (life : Life) (past : List Record) (at : ℕ) → heard_at d life past ≡ Some at → IsLatest d life past at
latest_of d life [] at e = absurd cc
latest_of d life (r ∷ before) at e = ⊎_elim
    (λ yes_here.
    let parts = and_parts (ltb life.opening (length before)) (comes_on d life r) yes_here in
    let is_now : Some (now (r ∷ before)) ≡ Some at = sym (cond-true (ltb life.opening (length before) && comes_on d life r) (Some (now (r ∷ before))) (heard_at d life before) yes_here) ∙ e in
    record { after = []; here = r; before = before; split = refl; behind = ltb-true life.opening (length before) parts.0; came = parts.1; moment = sym (same_some (now (r ∷ before)) at is_now); latest = tt })
    (λ not_here.
    let older = latest_of d life before at (sym (cond-false (ltb life.opening (length before) && comes_on d life r) (Some (now (r ∷ before))) (heard_at d life before) not_here) ∙ e) in
    record {
      after = r ∷ older.after;
      here = older.here;
      before = older.before;
      split = ap (λ (xs : List Record). r ∷ xs) older.split;
      behind = older.behind;
      came = older.came;
      moment = older.moment;
      latest = (comes_not d life r before older.after older.here older.before older.split older.behind not_here, older.latest);
    })
    (cases_Bool (ltb life.opening (length before) && comes_on d life r))
  where
    comes_not : (d : Descriptor) (life : Life) (r : Record) (before after : List Record) (h : Record) (oldest : List Record) → before ≡ after ++ h ∷ oldest
        → life.opening < length oldest → (ltb life.opening (length before) && comes_on d life r) ≡ false → comes_on d life r ≡ false
    comes_not d life r before after h oldest split lt e = ⊎_elim
        (λ past. absurd (omega (arith, ltb-false life.opening (length before) past, ap length split, length-append after (h ∷ oldest))))
        (λ isnt. isnt)
        (and_cases (ltb life.opening (length before)) (comes_on d life r) e)

heard_from : (d : Descriptor) (life : Life) (after : List Record) (h : Record) (before : List Record) → life.opening < length before → comes_on d life h ≡ true
    → AllByRecursion (λ r. comes_on d life r ≡ false) after → heard_at d life (after ++ h ∷ before) ≡ Some (now (h ∷ before))
heard_from d life [] h before lt came all =
    cond-true (ltb life.opening (length before) && comes_on d life h) (Some (now (h ∷ before))) (heard_at d life before)
    (and_from (ltb life.opening (length before)) (comes_on d life h) (lt-ltb life.opening (length before) lt) came)
heard_from d life (r ∷ after) h before lt came all =
    cond-false (ltb life.opening (length (after ++ h ∷ before)) && comes_on d life r) (Some (now (r ∷ (after ++ h ∷ before)))) (heard_at d life (after ++ h ∷ before))
    (and_right (ltb life.opening (length (after ++ h ∷ before))) (comes_on d life r) all.0)
    ∙ heard_from d life after h before lt came all.1

heard_latest : (d : Descriptor) (life : Life) (past : List Record) (at : ℕ) → IsLatest d life past at → heard_at d life past ≡ Some at
heard_latest d life past at is = subst (λ (xs : List Record). heard_at d life xs ≡ Some at) (sym is.split)
    (heard_from d life is.after is.here is.before is.behind is.came is.latest ∙ ap (λ (n : ℕ). Some n) (sym is.moment))

none_heard : (d : Descriptor) (life : Life) (past : List Record) → heard_at d life past ≡ None → Stands (λ n. life.opening < n) (comes_on d life) past → ⊥
none_heard d life [] e s = no_split s.after s.split
  where
    no_split : (after : List Record) → [] ≡ after ++ s.here ∷ s.before → ⊥
    no_split [] split = cc
    no_split (x ∷ after) split = cc
none_heard d life (r ∷ before) e s = ⊎_elim
    (λ yes_here. absurd (let is : Some (now (r ∷ before)) ≡ None = sym (cond-true (ltb life.opening (length before) && comes_on d life r) (Some (now (r ∷ before))) (heard_at d life before) yes_here) ∙ e in cc))
    (λ not_here. none_heard d life before (sym (cond-false (ltb life.opening (length before) && comes_on d life r) (Some (now (r ∷ before))) (heard_at d life before) not_here) ∙ e)
    (stands_earlier (λ n. life.opening < n) (comes_on d life) r before
    (λ lt came. both_ways (ltb life.opening (length before) && comes_on d life r) not_here (and_from (ltb life.opening (length before)) (comes_on d life r) (lt-ltb life.opening (length before) lt) came)) s))
    (cases_Bool (ltb life.opening (length before) && comes_on d life r))

latest_stands : (d : Descriptor) (life : Life) (past : List Record) (at : ℕ) → IsLatest d life past at → Stands (λ n. life.opening < n) (comes_on d life) past
latest_stands d life past at is = record { after = is.after; here = is.here; before = is.before; split = is.split; place = is.behind; passes = is.came }

in_time : (d : Descriptor) (life : Life) (opened : ℕ) (past : List Record) → is_in_time opened (heard_at d life past) (now past) ≡ true → InTime d life opened past
in_time d life opened past e = ⊎_elim
    (λ none. inl (none_heard d life past none, ltb-true (now past) (opened + greeting_time) (subst (λ (o : Option ℕ). is_in_time opened o (now past) ≡ true) none e)))
    (λ some. inr (some.0, latest_of d life past some.0 some.1, ltb-true (now past) (some.0 + silence_time) (subst (λ (o : Option ℕ). is_in_time opened o (now past) ≡ true) some.1 e)))
    (option? (heard_at d life past))

time_in : (d : Descriptor) (life : Life) (opened : ℕ) (past : List Record) → InTime d life opened past → is_in_time opened (heard_at d life past) (now past) ≡ true
time_in d life opened past (inl early) = ⊎_elim
    (λ none. subst (λ (o : Option ℕ). is_in_time opened o (now past) ≡ true) (sym none) (lt-ltb (now past) (opened + greeting_time) early.1))
    (λ some. absurd (early.0 (latest_stands d life past some.0 (latest_of d life past some.0 some.1))))
    (option? (heard_at d life past))
time_in d life opened past (inr since) =
    subst (λ (o : Option ℕ). is_in_time opened o (now past) ≡ true) (sym (heard_latest d life past since.0 since.1)) (lt-ltb (now past) (since.0 + silence_time) since.2)

abbrev AllInTime : Descriptor → Life → List Record → Type 0
AllInTime d life past = (after : List Record) (r : Record) (before : List Record) → past ≡ after ++ r ∷ before
    → life.opening < length before → is_event r ≡ true → InTime d life (now_at life.opening before) (r ∷ before)

timely_here : (d : Descriptor) (life : Life) (r : Record) (before : List Record)
    → (not (is_event r && ltb life.opening (length before)) || is_in_time (now_at life.opening before) (heard_at d life (r ∷ before)) (now (r ∷ before))) ≡ true
    → life.opening < length before → is_event r ≡ true → InTime d life (now_at life.opening before) (r ∷ before)
timely_here d life r before e lt event = ⊎_elim
    (λ isnt. absurd (both_ways (is_event r && ltb life.opening (length before)) (not-true (is_event r && ltb life.opening (length before)) isnt) (and_from (is_event r) (ltb life.opening (length before)) event (lt-ltb life.opening (length before) lt))))
    (λ timely. in_time d life (now_at life.opening before) (r ∷ before) timely)
    (or_cases (not (is_event r && ltb life.opening (length before))) (is_in_time (now_at life.opening before) (heard_at d life (r ∷ before)) (now (r ∷ before))) e)

timely_from : (d : Descriptor) (life : Life) (after : List Record) (r : Record) (before : List Record) → is_timely d life (after ++ r ∷ before) ≡ true
    → life.opening < length before → is_event r ≡ true → InTime d life (now_at life.opening before) (r ∷ before)
timely_from d life [] r before e lt event =
    timely_here d life r before (and_parts (not (is_event r && ltb life.opening (length before)) || is_in_time (now_at life.opening before) (heard_at d life (r ∷ before)) (now (r ∷ before))) (is_timely d life before) e).0 lt event
timely_from d life (x ∷ after) r before e lt event =
    timely_from d life after r before
    (and_parts (not (is_event x && ltb life.opening (length (after ++ r ∷ before))) || is_in_time (now_at life.opening (after ++ r ∷ before)) (heard_at d life (x ∷ (after ++ r ∷ before))) (now (x ∷ (after ++ r ∷ before)))) (is_timely d life (after ++ r ∷ before)) e).1 lt event

timely_by : (d : Descriptor) (life : Life) (past : List Record) → AllInTime d life past → is_timely d life past ≡ true
timely_by d life [] all = refl
timely_by d life (r ∷ before) all = and_from (not (is_event r && ltb life.opening (length before)) || is_in_time (now_at life.opening before) (heard_at d life (r ∷ before)) (now (r ∷ before))) (is_timely d life before)
    (⊎_elim
    (λ here. let parts = and_parts (is_event r) (ltb life.opening (length before)) here in
    or_right (not (is_event r && ltb life.opening (length before))) (is_in_time (now_at life.opening before) (heard_at d life (r ∷ before)) (now (r ∷ before)))
    (time_in d life (now_at life.opening before) (r ∷ before) (all [] r before refl (ltb-true life.opening (length before) parts.1) parts.0)))
    (λ not_here. or_left (not (is_event r && ltb life.opening (length before))) (is_in_time (now_at life.opening before) (heard_at d life (r ∷ before)) (now (r ∷ before))) (rw not_here refl))
    (cases_Bool (is_event r && ltb life.opening (length before))))
    (timely_by d life before (λ after x older split. all (r ∷ after) x older (ap (λ (xs : List Record). r ∷ xs) split)))

answer_places : (d : Descriptor) (life : Life) (past : List Record) → IsPlainAnswer d life past → IsPlainAnswerByPlaces d life past
answer_places d life past is = record {
  opened = found_at (greets_once d life) life.opening past is.opened;
  replied = first_found (goes_to life.address) (answers d life) life.opening past is.replied;
  only_one = λ after r before split lt passes. only_from (goes_to life.address) (asks_anew d life) life.opening after r before
      (subst (λ (xs : List Record). none_until_first (goes_to life.address) (asks_anew d life) life.opening xs ≡ true) split is.only_one) lt passes;
}

places_answer : (d : Descriptor) (life : Life) (past : List Record) → IsPlainAnswerByPlaces d life past → IsPlainAnswer d life past
places_answer d life past by = record {
  opened = stands_at (greets_once d life) life.opening past by.opened;
  replied = found_first (goes_to life.address) (answers d life) life.opening past by.replied;
  only_one = none_by (goes_to life.address) (asks_anew d life) life.opening past by.only_one;
}

dial_places : (d : Descriptor) (life : Life) (reach past : List Record) → IsPlainDial d life reach past → IsPlainDialByPlaces d life reach past
dial_places d life reach past is = record {
  opened = found_at (answers d life) life.opening past is.opened;
  replied = first_found (comes_from life.address) (greets d life) 0 reach is.replied;
}

places_dial : (d : Descriptor) (life : Life) (reach past : List Record) → IsPlainDialByPlaces d life reach past → IsPlainDial d life reach past
places_dial d life reach past by = record {
  opened = stands_at (answers d life) life.opening past by.opened;
  replied = found_first (comes_from life.address) (greets d life) 0 reach by.replied;
}

pub each_way : (b : Bool) (A B X Y : Type 0) → (A → X) → (B → Y) → MatchBool b A B → MatchBool b X Y
each_way true A B X Y f g h = f h
each_way false A B X Y f g h = g h

to_places : (d : Descriptor) (life : Life) (reach past : List Record) → IsPlain d life reach past → IsPlainByPlaces d life reach past
to_places d life reach past is = record {
  local_some = is.local_some;
  remote_some = is.remote_some;
  fresh = λ s. both_ways (some_until (concerns life.address) life.opening past) is.fresh (stands_until (concerns life.address) life.opening past s);
  begins = each_way life.is_dialled (IsPlainDial d life reach past) (IsPlainAnswer d life past) (IsPlainDialByPlaces d life reach past) (IsPlainAnswerByPlaces d life past)
      (dial_places d life reach past) (answer_places d life past) is.begins;
  open_still = stands_none (closes_on d life) life.opening past is.open_still;
  timely = λ after r before split lt event. timely_from d life after r before (subst (λ (xs : List Record). is_timely d life xs ≡ true) split is.timely) lt event;
}

from_places : (d : Descriptor) (life : Life) (reach past : List Record) → IsPlainByPlaces d life reach past → IsPlain d life reach past
from_places d life reach past by = record {
  local_some = by.local_some;
  remote_some = by.remote_some;
  fresh = false_from_ne_true (some_until (concerns life.address) life.opening past) (λ e. by.fresh (found_until (concerns life.address) life.opening past e));
  begins = each_way life.is_dialled (IsPlainDialByPlaces d life reach past) (IsPlainAnswerByPlaces d life past) (IsPlainDial d life reach past) (IsPlainAnswer d life past)
      (places_dial d life reach past) (places_answer d life past) by.begins;
  open_still = none_since (closes_on d life) life.opening past by.open_still;
  timely = timely_by d life past by.timely;
}

pub plain_by_places : PlainByPlaces
plain_by_places d life reach past = (to_places d life reach past, from_places d life reach past)

pub heard_by_places : HeardByPlaces
heard_by_places d life past = (found_since (comes_on d life) life.opening past, stands_since (comes_on d life) life.opening past)
