-- What one record more does.
use Rattle.std.proofs.Common.{◌≡◌, ⊎_elim, ℕ, ◌<◌, ◌≤◌, ltb, leb, eqb, Bool, true, false, not, ◌&&◌, ◌||◌, List, [], ◌∷◌, length, refl, ap, arith}
use Rattle.std.proofs.lemmas.Bool.{or_left, or_right, or_from, or_cases, le-leb, lt-leb, ne_eqb, eq-eqb, eqb-true, and_parts, and_from, and_left, and_right}
use Rattle.std.proofs.lemmas.List.{length-append}
use Rattle.pp_terms.specs.format.Traffic.{Record, Received, Quiet, Sent}
use Rattle.pp_terms.specs.format.Descriptor.{Descriptor}
use Rattle.pp_traffic.specs.Past.{now, some_since, is_at}
use Rattle.pp_traffic.specs.Life.{Life, greets, answers, shakes_on, closes_on, is_closed}
use Rattle.pp_traffic.specs.Story.{Heard, Said, Taken, told, story}
use Rattle.pp_traffic.specs.Hashes.{is_told, told_by}
use Rattle.pp_traffic.specs.Laws.{LivesStay, LivesBegan, StoriesGrow, ToldStays}
use Rattle.pp_traffic.proofs.Standing.{found_at}

-- the place of a record is one of the past's
pub at_within : (test : Record → Bool) (place : ℕ) (past : List Record) → is_at test place past ≡ true → place < length past
at_within test place past e =
    let s = found_at test place past e in
    omega (arith, s.place, ap length s.split, length-append s.after (s.here ∷ s.before))

-- a record at a place that passes a test is one since then that does
pub at_since : (test : Record → Bool) (place : ℕ) (past : List Record) → is_at test place past ≡ true → some_since test place past ≡ true
at_since test place [] e = absurd cc
at_since test place (r ∷ past) e = ⊎_elim
    (λ here. let parts = and_parts (eqb place (length past)) (test r) here in
    or_left (leb place (length past) && test r) (some_since test place past)
    (and_from (leb place (length past)) (test r) (le-leb place (length past) (omega (arith, eqb-true place (length past) parts.0))) parts.1))
    (λ before. or_right (leb place (length past) && test r) (some_since test place past) (at_since test place past before))
    (or_cases (eqb place (length past) && test r) (is_at test place past) e)

-- and one that passes a weaker test
pub at_more : (test more : Record → Bool) → ((r : Record) → test r ≡ true → more r ≡ true) → (place : ℕ) (past : List Record) → is_at test place past ≡ true → is_at more place past ≡ true
at_more test more grows place [] e = absurd cc
at_more test more grows place (r ∷ past) e = ⊎_elim
    (λ here. let parts = and_parts (eqb place (length past)) (test r) here in
    or_left (eqb place (length past) && more r) (is_at more place past) (and_from (eqb place (length past)) (more r) parts.0 (grows r parts.1)))
    (λ before. or_right (eqb place (length past) && more r) (is_at more place past) (at_more test more grows place past before))
    (or_cases (eqb place (length past) && test r) (is_at test place past) e)

pub lives_began : LivesBegan
lives_began d life past is = at_within (λ r. greets d life r || answers d life r) life.opening past is.opened

pub closed_no : (d : Descriptor) (life : Life) (r : Record) (past : List Record) → closes_on d life r ≡ false → is_closed d life past ≡ false → is_closed d life (r ∷ past) ≡ false
closed_no d life r past none before =
    or_from
    (ltb life.opening (length past) && closes_on d life r && (not life.is_dialled || shakes_on d life r || some_since (shakes_on d life) life.opening past))
    (is_closed d life past)
    (and_left (ltb life.opening (length past) && closes_on d life r) (not life.is_dialled || shakes_on d life r || some_since (shakes_on d life) life.opening past)
    (and_right (ltb life.opening (length past)) (closes_on d life r) none))
    before

pub lives_stay : LivesStay
lives_stay d life r past is none = record {
  local_some = is.local_some;
  remote_some = is.remote_some;
  greeted = or_right (leb life.opening (length past) && greets d life r) (some_since (greets d life) life.opening past) is.greeted;
  answered = or_right (leb life.opening (length past) && answers d life r) (some_since (answers d life) life.opening past) is.answered;
  opened = or_right (eqb life.opening (length past) && (greets d life r || answers d life r)) (is_at (λ x. greets d life x || answers d life x) life.opening past) is.opened;
  open_still = closed_no d life r past none is.open_still;
}

-- the story of a life that has begun
pub story_step : (d : Descriptor) (life : Life) (r : Record) (past : List Record) → life.opening < length past
    → story d life (r ∷ past) ≡ told d life false (now (r ∷ past)) r (story d life past)
story_step d life r past lt =
    let in_story : leb life.opening (length past) ≡ true = le-leb life.opening (length past) (omega arith) in
    let not_opening : eqb life.opening (length past) ≡ false = ne_eqb life.opening (length past) (λ e. omega arith) in
    rw (in_story, not_opening) refl

pub before_opening : (d : Descriptor) (life : Life) (past : List Record) → length past ≤ life.opening → story d life past ≡ []
before_opening d life [] le = refl
before_opening d life (r ∷ past) le =
    let early : leb life.opening (length past) ≡ false = lt-leb life.opening (length past) (omega arith) in rw early refl

pub story_opening : (d : Descriptor) (life : Life) (r : Record) (past : List Record) → life.opening ≡ length past
    → story d life (r ∷ past) ≡ told d life true (now (r ∷ past)) r []
story_opening d life r past e =
    let in_story : leb life.opening (length past) ≡ true = le-leb life.opening (length past) (omega arith) in
    let is_opening : eqb life.opening (length past) ≡ true = eq-eqb life.opening (length past) e in
    let none : story d life past ≡ [] = before_opening d life past (omega arith) in
    rw (in_story, is_opening, none) refl

pub stories_grow : StoriesGrow
stories_grow = record {
  received = λ d life at sender bytes past lt. story_step d life (Received at sender bytes) past lt;
  quiet = λ d life at past lt. story_step d life (Quiet at) past lt;
  sent = λ d life moment receiver bytes past lt. story_step d life (Sent moment receiver bytes) past lt;
  opening = λ d life at sender bytes past e. story_opening d life (Received at sender bytes) past e;
}

pub told_stays : ToldStays
told_stays chunks (Heard now m) story n e = or_right (told_by chunks n m) (is_told chunks story n) e
told_stays chunks (Said now m) story n e = e
told_stays chunks (Taken now) story n e = e
