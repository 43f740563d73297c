-- Lives in words by places.
use Rattle.std.proofs.Common.{◌≡◌, ⊎_elim, ◌<◌, ltb, true, false, not, ◌&&◌, ◌||◌, List, [], ◌∷◌, ◌++◌, length, refl, ap, subst}
use Rattle.std.proofs.lemmas.Bool.{and_parts, and_from, or_cases, or_parts, or_from, and_cases, not-false, not-true, lt-ltb, ltb-true, both_ways, false_from_ne_true}
use Rattle.pp_terms.specs.format.Traffic.{Record}
use Rattle.pp_terms.specs.format.Descriptor.{Descriptor}
use Rattle.pp_traffic.specs.Past.{some_since}
use Rattle.pp_traffic.specs.Life.{Life, IsLife, greets, answers, shakes_on, closes_on, is_closed}
use Rattle.pp_traffic.specs.Places.{StandsFrom, IsLifeByPlaces, LivesByPlaces}
use Rattle.pp_traffic.proofs.Standing.{found_since, stands_since, found_at, stands_at, stands_none}

abbrev Excused : Descriptor → Life → Record → List Record → Type 0
Excused d life r before = (life.is_dialled ≡ true) × (shakes_on d life r ≡ false) × (StandsFrom (shakes_on d life) life.opening before → ⊥)

-- a closing handshake that is excused
excused : (d : Descriptor) (life : Life) (r : Record) (before : List Record)
    → (not life.is_dialled || shakes_on d life r || some_since (shakes_on d life) life.opening before) ≡ false → Excused d life r before
excused d life r before e =
    let first = or_parts (not life.is_dialled || shakes_on d life r) (some_since (shakes_on d life) life.opening before) e in
    let second = or_parts (not life.is_dialled) (shakes_on d life r) first.0 in
    (not-false life.is_dialled second.0, second.1, stands_none (shakes_on d life) life.opening before first.1)

closed_step : (d : Descriptor) (life : Life) (r : Record) (before : List Record) → is_closed d life (r ∷ before) ≡ false
    → life.opening < length before → closes_on d life r ≡ true → Excused d life r before
closed_step d life r before e lt closing =
    let whole = or_parts (ltb life.opening (length before) && closes_on d life r && (not life.is_dialled || shakes_on d life r || some_since (shakes_on d life) life.opening before)) (is_closed d life before) e in
    ⊎_elim
    (λ early. absurd (both_ways (ltb life.opening (length before) && closes_on d life r) early (and_from (ltb life.opening (length before)) (closes_on d life r) (lt-ltb life.opening (length before) lt) closing)))
    (λ rest. excused d life r before rest)
    (and_cases (ltb life.opening (length before) && closes_on d life r) (not life.is_dialled || shakes_on d life r || some_since (shakes_on d life) life.opening before) whole.0)

closed_rest : (d : Descriptor) (life : Life) (r : Record) (before : List Record) → is_closed d life (r ∷ before) ≡ false → is_closed d life before ≡ false
closed_rest d life r before e =
    (or_parts (ltb life.opening (length before) && closes_on d life r && (not life.is_dialled || shakes_on d life r || some_since (shakes_on d life) life.opening before)) (is_closed d life before) e).1

open_at : (d : Descriptor) (life : Life) (after : List Record) (r : Record) (before : List Record) → is_closed d life (after ++ r ∷ before) ≡ false
    → life.opening < length before → closes_on d life r ≡ true → Excused d life r before
open_at d life [] r before e lt closing = closed_step d life r before e lt closing
open_at d life (x ∷ after) r before e lt closing = open_at d life after r before (closed_rest d life x (after ++ r ∷ before) e) lt closing

abbrev AllExcused : Descriptor → Life → List Record → Type 0
AllExcused d life past = (after : List Record) (r : Record) (before : List Record) → past ≡ after ++ r ∷ before
    → life.opening < length before → closes_on d life r ≡ true → Excused d life r before

excused_closes_none : (d : Descriptor) (life : Life) (r : Record) (before : List Record)
    → (life.opening < length before → closes_on d life r ≡ true → Excused d life r before)
    → (ltb life.opening (length before) && closes_on d life r && (not life.is_dialled || shakes_on d life r || some_since (shakes_on d life) life.opening before)) ≡ false
excused_closes_none d life r before all = false_from_ne_true _ (λ e.
    let outer = and_parts (ltb life.opening (length before) && closes_on d life r) (not life.is_dialled || shakes_on d life r || some_since (shakes_on d life) life.opening before) e in
    let inner = and_parts (ltb life.opening (length before)) (closes_on d life r) outer.0 in
    let out = all (ltb-true life.opening (length before) inner.0) inner.1 in
    ⊎_elim
    (λ first. ⊎_elim (λ answered. both_ways life.is_dialled (not-true life.is_dialled answered) out.0) (λ shakes. both_ways (shakes_on d life r) out.1 shakes) (or_cases (not life.is_dialled) (shakes_on d life r) first))
    (λ some. out.2 (found_since (shakes_on d life) life.opening before some))
    (or_cases (not life.is_dialled || shakes_on d life r) (some_since (shakes_on d life) life.opening before) outer.1))

open_by : (d : Descriptor) (life : Life) (past : List Record) → AllExcused d life past → is_closed d life past ≡ false
open_by d life [] all = refl
open_by d life (r ∷ before) all = or_from
    (ltb life.opening (length before) && closes_on d life r && (not life.is_dialled || shakes_on d life r || some_since (shakes_on d life) life.opening before))
    (is_closed d life before)
    (excused_closes_none d life r before (all [] r before refl))
    (open_by d life before (λ after x older split. all (r ∷ after) x older (ap (λ (xs : List Record). r ∷ xs) split)))

to_places : (d : Descriptor) (life : Life) (past : List Record) → IsLife d life past → IsLifeByPlaces d life past
to_places d life past is = record {
  local_some = is.local_some;
  remote_some = is.remote_some;
  greeted = found_since (greets d life) life.opening past is.greeted;
  answered = found_since (answers d life) life.opening past is.answered;
  opened = found_at (λ r. greets d life r || answers d life r) life.opening past is.opened;
  open_still = λ after r before split lt closing. open_at d life after r before (subst (λ (xs : List Record). is_closed d life xs ≡ false) split is.open_still) lt closing;
}

from_places : (d : Descriptor) (life : Life) (past : List Record) → IsLifeByPlaces d life past → IsLife d life past
from_places d life past by = record {
  local_some = by.local_some;
  remote_some = by.remote_some;
  greeted = stands_since (greets d life) life.opening past by.greeted;
  answered = stands_since (answers d life) life.opening past by.answered;
  opened = stands_at (λ r. greets d life r || answers d life r) life.opening past by.opened;
  open_still = open_by d life past by.open_still;
}

pub lives_by_places : LivesByPlaces
lives_by_places d life past = (to_places d life past, from_places d life past)
