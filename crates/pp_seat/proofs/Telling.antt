-- What a story says once several REQUESTs, HAVEs or addresses were sent.
use Rattle.std.proofs.Common.{◌≡◌, ◌⊎◌, inl, inr, ⊎_elim, ℕ, ◌+◌, ◌≤◌, max, eqb, Bool, true, false, ◌&&◌, ◌||◌, Option, Some, List, [], ◌∷◌, map, refl, ◌∙◌, arith}
use Rattle.std.proofs.lemmas.Bool.{and_from, and_right, or_cases, or_left, or_right, or_from, false≢true, eq-eqb, and_left}
use Rattle.std.proofs.lemmas.Bool.Decides.{nat_tests}
use Rattle.pp_terms.specs.format.Messages.{Message, Have, Request, Pex4, Pex6}
use Rattle.pp_terms.specs.tree.Range.{Span, within, has}
use Rattle.pp_traffic.specs.Story.{Said}
use Rattle.pp_promises.specs.Announced.{is_told_of}
use Rattle.pp_seat.specs.Lines.{is_named_at, last_answer, last_question, Tale, with_line, with_said}
use Rattle.pp_seat.specs.Own.{EachAddress, AreAddresses}
use Rattle.pp_seat.specs.Aspects.{Fresh, Exchanges}
use Rattle.pp_seat.proofs.Passing.{AreLight}

-- ---- REQUESTs

pub requests_light : (spans : List Span) → AreLight (map Request spans)
requests_light [] = tt
requests_light (span ∷ spans) = (tt, requests_light spans)

pub requests_tell : (i now : ℕ) (p : Bool) (spans : List Span) (t : Tale) → is_told_of i t.story ≡ true
    → is_told_of i (with_said now (map Request spans) p t).story ≡ true
requests_tell i now p [] t e = e
requests_tell i now p (span ∷ spans) t e = requests_tell i now p spans (with_line (Said now (Request span)) p t) e

pub requests_fresh : (cursor now : ℕ) (p : Bool) (spans : List Span) (t : Tale) (refused : ℕ) → Fresh cursor p t.told refused
    → Fresh cursor p (with_said now (map Request spans) p t).told refused
requests_fresh cursor now p [] t refused h = h
requests_fresh cursor now p (span ∷ spans) t refused h = requests_fresh cursor now p spans (with_line (Said now (Request span)) p t) refused h

pub requests_exchange : (answer question : Option ℕ) (now : ℕ) (p : Bool) (spans : List Span) (t : Tale)
    → Exchanges answer question (last_answer t.story) (last_question t.story)
    → Exchanges answer question (last_answer (with_said now (map Request spans) p t).story) (last_question (with_said now (map Request spans) p t).story)
requests_exchange answer question now p [] t h = h
requests_exchange answer question now p (span ∷ spans) t h = requests_exchange answer question now p spans (with_line (Said now (Request span)) p t) h

-- what they name was asked for now
pub requests_name : (i now : ℕ) (p : Bool) (spans : List Span) (t : Tale) → (has spans i ≡ true) ⊎ (is_named_at i now t.story ≡ true)
    → is_named_at i now (with_said now (map Request spans) p t).story ≡ true
requests_name i now p [] t (inl here) = absurd (false≢true here)
requests_name i now p [] t (inr there) = there
requests_name i now p (span ∷ spans) t (inl here) = requests_name i now p spans (with_line (Said now (Request span)) p t) (⊎_elim
    (λ one. inr (or_left (within span i && eqb now now) (is_named_at i now t.story) (and_from (within span i) (eqb now now) one (eq-eqb now now refl))))
    (λ rest. inl rest)
    (or_cases (within span i) (has spans i) here))
requests_name i now p (span ∷ spans) t (inr there) =
    requests_name i now p spans (with_line (Said now (Request span)) p t) (inr (or_right (within span i && eqb now now) (is_named_at i now t.story) there))

-- ---- HAVEs

pub haves_light : (spans : List Span) → AreLight (map Have spans)
haves_light [] = tt
haves_light (span ∷ spans) = (tt, haves_light spans)

pub haves_tell : (i now : ℕ) (p : Bool) (spans : List Span) (t : Tale) → (has spans i ≡ true) ⊎ (is_told_of i t.story ≡ true)
    → is_told_of i (with_said now (map Have spans) p t).story ≡ true
haves_tell i now p [] t (inl here) = absurd (false≢true here)
haves_tell i now p [] t (inr there) = there
haves_tell i now p (span ∷ spans) t (inl here) = haves_tell i now p spans (with_line (Said now (Have span)) p t) (⊎_elim
    (λ one. inr (or_left (within span i) (is_told_of i t.story) one))
    (λ rest. inl rest)
    (or_cases (within span i) (has spans i) here))
haves_tell i now p (span ∷ spans) t (inr there) =
    haves_tell i now p spans (with_line (Said now (Have span)) p t) (inr (or_right (within span i) (is_told_of i t.story) there))

pub haves_keep : (i now : ℕ) (p : Bool) (spans : List Span) (t : Tale) → is_told_of i t.story ≡ true
    → is_told_of i (with_said now (map Have spans) p t).story ≡ true
haves_keep i now p spans t e = haves_tell i now p spans t (inr e)

pub haves_exchange : (answer question : Option ℕ) (now : ℕ) (p : Bool) (spans : List Span) (t : Tale)
    → Exchanges answer question (last_answer t.story) (last_question t.story)
    → Exchanges answer question (last_answer (with_said now (map Have spans) p t).story) (last_question (with_said now (map Have spans) p t).story)
haves_exchange answer question now p [] t h = h
haves_exchange answer question now p (span ∷ spans) t h = haves_exchange answer question now p spans (with_line (Said now (Have span)) p t) h

-- no other chunk is told of, and none while the channel isn't proven
none_more : (i now : ℕ) (p : Bool) (spans : List Span) (t : Tale) → (has spans i && p) ≡ false → t.told i ≡ false
    → (with_said now (map Have spans) p t).told i ≡ false
none_more i now p [] t none e = e
none_more i now p (span ∷ spans) t none e =
    none_more i now p spans (with_line (Said now (Have span)) p t) (later (within span i) (has spans i) p none)
    (or_from (within span i && p) (t.told i) (first (within span i) (has spans i) p none) e)
  where
    first : (a b c : Bool) → ((a || b) && c) ≡ false → (a && c) ≡ false
    first true b c e = e
    first false b c e = refl

    later : (a b c : Bool) → ((a || b) && c) ≡ false → (b && c) ≡ false
    later true true c e = e
    later true false c e = refl
    later false b c e = e

pub haves_fresh : (cursor : ℕ) (range : Span) (now : ℕ) (p : Bool) (spans : List Span) (t : Tale) (refused : ℕ) → ((i : ℕ) → has spans i ≡ within range i)
    → Fresh cursor p t.told refused → Fresh (max cursor (range.last + 1)) p (with_said now (map Have spans) p t).told refused
haves_fresh cursor range now p spans t refused split h = record {
  early = λ unproven i. none_more i now p spans t (and_right (has spans i) p unproven) (h.early unproven i);
  above = λ none i high. none_more i now p spans t (off i high) (h.above none i (omega arith));
}
  where
    out : (i : ℕ) → max cursor (range.last + 1) ≤ i → within range i ≡ false
    out i high = grind (arith, nat_tests)

    off : (i : ℕ) → max cursor (range.last + 1) ≤ i → (has spans i && p) ≡ false
    off i high = and_left (has spans i) p (split i ∙ out i high)

-- ---- addresses

pub addresses_light : (ms : List Message) → EachAddress ms → AreLight ms
addresses_light [] all = tt
addresses_light (Pex4 address port ∷ ms) all = (tt, addresses_light ms all.1)
addresses_light (Pex6 address port ∷ ms) all = (tt, addresses_light ms all.1)
addresses_light (_ ∷ ms) all = absurd all.0

pub addresses_keep : (i now : ℕ) (p : Bool) (ms : List Message) (t : Tale) → EachAddress ms → is_told_of i t.story ≡ true
    → is_told_of i (with_said now ms p t).story ≡ true
addresses_keep i now p [] t all e = e
addresses_keep i now p (Pex4 address port ∷ ms) t all e = addresses_keep i now p ms (with_line (Said now (Pex4 address port)) p t) all.1 e
addresses_keep i now p (Pex6 address port ∷ ms) t all e = addresses_keep i now p ms (with_line (Said now (Pex6 address port)) p t) all.1 e
addresses_keep i now p (_ ∷ ms) t all e = absurd all.0

pub addresses_fresh : (cursor now : ℕ) (p : Bool) (ms : List Message) (t : Tale) (refused : ℕ) → EachAddress ms → Fresh cursor p t.told refused
    → Fresh cursor p (with_said now ms p t).told refused
addresses_fresh cursor now p [] t refused all h = h
addresses_fresh cursor now p (Pex4 address port ∷ ms) t refused all h =
    addresses_fresh cursor now p ms (with_line (Said now (Pex4 address port)) p t) refused all.1 h
addresses_fresh cursor now p (Pex6 address port ∷ ms) t refused all h =
    addresses_fresh cursor now p ms (with_line (Said now (Pex6 address port)) p t) refused all.1 h
addresses_fresh cursor now p (_ ∷ ms) t refused all h = absurd all.0

pub addresses_question : (now : ℕ) (p : Bool) (ms : List Message) (t : Tale) → EachAddress ms
    → last_question (with_said now ms p t).story ≡ last_question t.story
addresses_question now p [] t all = refl
addresses_question now p (Pex4 address port ∷ ms) t all = addresses_question now p ms (with_line (Said now (Pex4 address port)) p t) all.1
addresses_question now p (Pex6 address port ∷ ms) t all = addresses_question now p ms (with_line (Said now (Pex6 address port)) p t) all.1
addresses_question now p (_ ∷ ms) t all = absurd all.0

answered_on : (now : ℕ) (p : Bool) (ms : List Message) (t : Tale) → EachAddress ms → last_answer t.story ≡ Some now
    → last_answer (with_said now ms p t).story ≡ Some now
answered_on now p [] t all e = e
answered_on now p (Pex4 address port ∷ ms) t all e = answered_on now p ms (with_line (Said now (Pex4 address port)) p t) all.1 refl
answered_on now p (Pex6 address port ∷ ms) t all e = answered_on now p ms (with_line (Said now (Pex6 address port)) p t) all.1 refl
answered_on now p (_ ∷ ms) t all e = absurd all.0

pub addresses_answer : (now : ℕ) (p : Bool) (ms : List Message) (t : Tale) → AreAddresses ms → last_answer (with_said now ms p t).story ≡ Some now
addresses_answer now p [] t all = absurd (omega (arith, all.0))
addresses_answer now p (Pex4 address port ∷ ms) t all = answered_on now p ms (with_line (Said now (Pex4 address port)) p t) all.1.1 refl
addresses_answer now p (Pex6 address port ∷ ms) t all = answered_on now p ms (with_line (Said now (Pex6 address port)) p t) all.1.1 refl
addresses_answer now p (_ ∷ ms) t all = absurd all.1.0
