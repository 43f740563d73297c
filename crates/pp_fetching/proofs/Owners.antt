-- How own requests and what is noted of them stay tied.
use Rattle.std.proofs.Common.{◌≡◌, ◌≢◌, ◌⊎◌, inl, inr, ℕ, ◌+◌, eqb, Bool, true, false, cond, not, ◌&&◌, ◌||◌, Option, Some, None, List, [], ◌∷◌, get_or, set, refl, sym, ◌∙◌, ap, subst, arith}
use Rattle.std.specs.Prelude.{is_some}
use Rattle.std.proofs.lemmas.Bool.{cases_eq, eq-eqb, eqb-true, false≢true}
use Rattle.std.proofs.lemmas.Bool.Decides.{nat_tests}
use Rattle.std.proofs.Math.Bool.{and-true, and-false, or-true, or-false}
use Rattle.pp_terms.specs.tree.Range.{Span, has, IsRunsFrom}
use Rattle.pp_requests.specs.declared.asking.Asking.{Asking}
use Rattle.pp_requests.specs.Moments.{asked_at, Changes}
use Rattle.pp_ranges.proofs.Runs.{none_below}
use Rattle.pp_fetching.specs.Owners.{is_at, awaits, AreOwned, SameElsewhere}
use Rattle.pp_fetching.specs.Laws.{NoneOwned, AnsweredStays, UnawaitedStays, DroppedStays, AsksStay, CancelledStays, SameStays, TieStays, NotElsewhere, AwaitedIsAsked, OnOneSeat, AreApart, PicksFit}
use Rattle.pp_fetching.proofs.GivenBack.{cleared}

-- ---- one chunk, by what was noted and awaited before and after

-- What is noted of a chunk goes with what the seat awaits, and a chunk that the seat begins to await was awaited on no other.
pub record GoesAlong (asked asked' was is : Bool) : Type 0 where
  pub noted : asked' ≡ ((asked && not was) || is)
  pub begins : is ≡ true → was ≡ false → asked ≡ false

-- of whom a chunk is asked then
abbrev owner_after : (seat : ℕ) (was is : Bool) → Option ℕ → Option ℕ
owner_after seat was true owner = Some seat
owner_after seat true false owner = None
owner_after seat false false owner = owner

noted_after : (seat : ℕ) (asked asked' was is : Bool) (owner : Option ℕ) → GoesAlong asked asked' was is → asked ≡ is_some owner
    → asked' ≡ is_some (owner_after seat was is owner)
noted_after seat asked asked' true true owner goes noted = goes.noted ∙ or-true (asked && false)
noted_after seat asked asked' false true owner goes noted = goes.noted ∙ or-true (asked && true)
noted_after seat asked asked' true false owner goes noted = goes.noted ∙ or-false (asked && false) ∙ and-false asked
noted_after seat asked asked' false false owner goes noted = goes.noted ∙ or-false (asked && true) ∙ and-true asked ∙ noted

here_after : (seat : ℕ) (was is : Bool) (owner : Option ℕ) → was ≡ is_at seat owner → is ≡ is_at seat (owner_after seat was is owner)
here_after seat true true owner e = sym (eq-eqb seat seat refl)
here_after seat false true owner e = sym (eq-eqb seat seat refl)
here_after seat true false owner e = refl
here_after seat false false owner e = e

none_at : (seat : ℕ) (owner : Option ℕ) → is_some owner ≡ false → is_at seat owner ≡ false
none_at seat None e = refl
none_at seat (Some k) e = absurd (false≢true (sym e))

at_one : (seat other : ℕ) (owner : Option ℕ) → is_at seat owner ≡ true → other ≢ seat → is_at other owner ≡ false
at_one seat other None e apart = refl
at_one seat other (Some k) e apart = let same : k ≡ seat = eqb-true k seat e in grind (arith, nat_tests)

apart_at : (seat other : ℕ) → other ≢ seat → eqb seat other ≡ false
apart_at seat other apart = grind (arith, nat_tests)

elsewhere_after : (seat other : ℕ) (asked was is : Bool) (owner : Option ℕ) → other ≢ seat → asked ≡ is_some owner → was ≡ is_at seat owner
    → (is ≡ true → was ≡ false → asked ≡ false) → is_at other owner ≡ is_at other (owner_after seat was is owner)
elsewhere_after seat other asked true true owner apart noted here begins = at_one seat other owner (sym here) apart ∙ sym (apart_at seat other apart)
elsewhere_after seat other asked false true owner apart noted here begins =
    none_at other owner (sym noted ∙ begins refl refl) ∙ sym (apart_at seat other apart)
elsewhere_after seat other asked true false owner apart noted here begins = at_one seat other owner (sym here) apart
elsewhere_after seat other asked false false owner apart noted here begins = refl

-- ---- all chunks

goes_on : (seat : ℕ) (asked asked' : List Bool) (old new : ℕ → List Asking) → AreOwned asked old → SameElsewhere seat old new
    → ((i : ℕ) → GoesAlong (get_or asked i false) (get_or asked' i false) (awaits (old seat) i) (awaits (new seat) i)) → AreOwned asked' new
goes_on seat asked asked' old new owned same goes = record {
  owner = λ i. owner_after seat (awaits (old seat) i) (awaits (new seat) i) (owned.owner i);
  noted = λ i. noted_after seat (get_or asked i false) (get_or asked' i false) (awaits (old seat) i) (awaits (new seat) i) (owned.owner i) (goes i) (owned.noted i);
  each = λ other i. of other i (cases_eq other seat);
}
  where
    of : (other i : ℕ) → (other ≡ seat) ⊎ (other ≡ seat → ⊥)
        → awaits (new other) i ≡ is_at other (owner_after seat (awaits (old seat) i) (awaits (new seat) i) (owned.owner i))
    of other i (inl is) =
        subst (λ (k : ℕ). awaits (new k) i ≡ is_at k (owner_after seat (awaits (old seat) i) (awaits (new seat) i) (owned.owner i))) (sym is)
        (here_after seat (awaits (old seat) i) (awaits (new seat) i) (owned.owner i) (owned.each seat i))
    of other i (inr apart) =
        ap (λ (own : List Asking). awaits own i) (same other apart) ∙ owned.each other i
        ∙ elsewhere_after seat other (get_or asked i false) (awaits (old seat) i) (awaits (new seat) i) (owned.owner i) apart (owned.noted i) (owned.each seat i)
        (goes i).begins

none_owned : NoneOwned
none_owned asked own_of nothing empty = record {
  owner = λ i. None;
  noted = nothing;
  each = λ seat i. ap (λ (own : List Asking). awaits own i) (empty seat);
}

-- what is left of own requests after one was taken out
left : (i k : ℕ) (old new : List Asking) → Changes i None old new → awaits new k ≡ (awaits old k && not (eqb i k))
left i k old new changes = ap (λ (o : Option ℕ). is_some o) (changes k) ∙ of (eqb i k) (asked_at old k)
  where
    of : (b : Bool) (o : Option ℕ) → is_some (cond b None o) ≡ (is_some o && not b)
    of true o = sym (and-false (is_some o))
    of false o = sym (and-true (is_some o))

taken_out : (asked asked' was is here : Bool) → asked' ≡ (asked && not here) → is ≡ (was && not here) → (here ≡ true → was ≡ true)
    → (was ≡ true → asked ≡ true) → GoesAlong asked asked' was is
taken_out asked asked' was is here noted left awaited known = record { noted = noted ∙ of asked was here awaited known ∙ ap (λ (b : Bool). (asked && not was) || b) (sym left); begins = λ e f. absurd (false≢true (sym (left ∙ ap (λ (b : Bool). b && not here) f) ∙ e)) }
  where
    of : (a w h : Bool) → (h ≡ true → w ≡ true) → (w ≡ true → a ≡ true) → (a && not h) ≡ ((a && not w) || (w && not h))
    of a true true p q = and-false a ∙ sym (or-false (a && false) ∙ and-false a)
    of a true false p q = and-true a ∙ q refl ∙ sym (or-true (a && false))
    of a false true p q = absurd (false≢true (p refl))
    of a false false p q = sym (or-false (a && true))

awaited_is_noted : (asked : List Bool) (own_of : ℕ → List Asking) (seat i : ℕ) → AreOwned asked own_of → awaits (own_of seat) i ≡ true
    → get_or asked i false ≡ true
awaited_is_noted asked own_of seat i owned awaited = owned.noted i ∙ some_at (owned.owner i) (sym (owned.each seat i) ∙ awaited)
  where
    some_at : (o : Option ℕ) → is_at seat o ≡ true → is_some o ≡ true
    some_at None e = e
    some_at (Some k) e = refl

answered_stays : AnsweredStays
answered_stays seat i asked old new owned same changes awaited = goes_on seat asked (set asked i false) old new owned same
    (λ k. taken_out (get_or asked k false) (get_or (set asked i false) k false) (awaits (old seat) k) (awaits (new seat) k) (eqb i k)
    (cleared asked i k) (left i k (old seat) (new seat) changes)
    (λ e. ap (λ (m : ℕ). awaits (old seat) m) (sym (eqb-true i k e)) ∙ awaited)
    (awaited_is_noted asked old seat k owned))

-- nothing begins and ends
stays_along : (asked was is : Bool) → is ≡ was → (was ≡ true → asked ≡ true) → GoesAlong asked asked was is
stays_along asked was is same known = record {
  noted = of asked was known ∙ ap (λ (b : Bool). (asked && not was) || b) (sym same);
  begins = λ e f. absurd (false≢true (sym f ∙ sym same ∙ e));
}
  where
    of : (a w : Bool) → (w ≡ true → a ≡ true) → a ≡ ((a && not w) || w)
    of a true q = q refl ∙ sym (or-true (a && false))
    of a false q = sym (or-false (a && true) ∙ and-true a)

unawaited_stays : UnawaitedStays
unawaited_stays seat i asked old new owned same changes absent = goes_on seat asked asked old new owned same
    (λ k. stays_along (get_or asked k false) (awaits (old seat) k) (awaits (new seat) k)
    (left i k (old seat) (new seat) changes ∙ of k (cases_eq i k)) (awaited_is_noted asked old seat k owned))
  where
    of : (k : ℕ) → (i ≡ k) ⊎ (i ≡ k → ⊥) → (awaits (old seat) k && not (eqb i k)) ≡ awaits (old seat) k
    of k (inl same) =
        let none : awaits (old seat) k ≡ false = ap (λ (m : ℕ). awaits (old seat) m) (sym same) ∙ absent in
        ap (λ (b : Bool). b && not (eqb i k)) none ∙ sym none
    of k (inr other) = let test : eqb i k ≡ false = grind (arith, nat_tests) in ap (λ (b : Bool). awaits (old seat) k && not b) test ∙ and-true (awaits (old seat) k)

cancelled_stays : CancelledStays
cancelled_stays seat asked asked' old new owned same fewer noted = goes_on seat asked asked' old new owned same
    (λ k. of (get_or asked k false) (get_or asked' k false) (awaits (old seat) k) (awaits (new seat) k) (noted k) (fewer k) (awaited_is_noted asked old seat k owned))
  where
    of : (a a' w is : Bool) → a' ≡ (a && not (w && not is)) → (is ≡ true → w ≡ true) → (w ≡ true → a ≡ true) → GoesAlong a a' w is
    of a a' true true e p q = record { noted = e ∙ and-true a ∙ q refl ∙ sym (or-true (a && false)); begins = λ f g. absurd (false≢true (sym g)) }
    of a a' true false e p q = record { noted = e ∙ sym (or-false (a && false)); begins = λ f g. absurd (false≢true f) }
    of a a' false true e p q = absurd (false≢true (p refl))
    of a a' false false e p q = record { noted = e ∙ sym (or-false (a && true)); begins = λ f g. absurd (false≢true f) }

dropped_stays : DroppedStays
dropped_stays seat asked asked' old new owned same none noted = cancelled_stays seat asked asked' old new owned same
    (λ i e. absurd (false≢true (sym (nothing i) ∙ e)))
    (λ i. noted i ∙ ap (λ (b : Bool). get_or asked i false && not b) (sym (and-true (awaits (old seat) i)) ∙ ap (λ (b : Bool). awaits (old seat) i && not b) (sym (nothing i))))
  where
    nothing : (i : ℕ) → awaits (new seat) i ≡ false
    nothing i = ap (λ (own : List Asking). awaits own i) none

asks_stay : AsksStay
asks_stay seat picks asked noted asked' old new owned same fresh picked others settled = goes_on seat asked asked' old new owned same
    (λ k. of (get_or asked k false) (get_or noted k false) (get_or asked' k false) (has picks k) (awaits (old seat) k) (awaits (new seat) k)
    (fresh k) (picked k) (others k) (settled k) (awaited_is_noted asked old seat k owned))
  where
    of : (a n a' p w is : Bool) → (p ≡ true → a ≡ false) → n ≡ (a || p) → (p ≡ false → is ≡ w) → a' ≡ (n && not (p && not is)) → (w ≡ true → a ≡ true)
        → GoesAlong a a' w is
    of a n a' false w is fresh noted others settled known =
        let along = stays_along a w is (others refl) known in
        record { noted = settled ∙ and-true n ∙ noted ∙ or-false a ∙ along.noted; begins = along.begins }
    of a n a' true true is fresh noted others settled known = absurd (false≢true (sym (fresh refl) ∙ known refl))
    of a n a' true false true fresh noted others settled known =
        record { noted = settled ∙ and-true n ∙ noted ∙ or-true a ∙ sym (or-true (a && true)); begins = λ e f. fresh refl }
    of a n a' true false false fresh noted others settled known =
        record { noted = settled ∙ and-false n ∙ sym (or-false (a && true) ∙ and-true a ∙ fresh refl); begins = λ e f. absurd (false≢true e) }

same_stays : SameStays
same_stays asked asked' old new owned same noted = record {
  owner = owned.owner;
  noted = λ i. noted i ∙ owned.noted i;
  each = λ seat i. same seat i ∙ owned.each seat i;
}

pub tie_stays : TieStays
tie_stays = record {
  none = none_owned;
  answered = answered_stays;
  unawaited = unawaited_stays;
  dropped = dropped_stays;
  asks = asks_stay;
  cancelled = cancelled_stays;
  same = same_stays;
}

-- ---- what follows

pub not_elsewhere : NotElsewhere
not_elsewhere asked own_of seat i owned none = of (asked_at (own_of seat) i) (owned.each seat i ∙ none_at seat (owned.owner i) (sym (owned.noted i) ∙ none))
  where
    of : (o : Option ℕ) → is_some o ≡ false → o ≡ None
    of None e = refl
    of (Some m) e = absurd (false≢true (sym e))

pub awaited_is_asked : AwaitedIsAsked
awaited_is_asked = awaited_is_noted

pub on_one_seat : OnOneSeat
on_one_seat asked own_of one other i owned here there =
    of (owned.owner i) (sym (owned.each one i) ∙ here) (sym (owned.each other i) ∙ there)
  where
    of : (o : Option ℕ) → is_at one o ≡ true → is_at other o ≡ true → one ≡ other
    of None e f = absurd (false≢true e)
    of (Some k) e f = sym (eqb-true k one e) ∙ eqb-true k other f

runs_apart : (xs : List Span) (from : ℕ) → IsRunsFrom from xs → AreApart xs
runs_apart [] from runs = tt
runs_apart (x ∷ xs) from runs = (
  λ i inside. none_below xs (x.last + 2) i runs.2 (let up = runs.1 in grind (arith, nat_tests)),
  runs_apart xs (x.last + 2) runs.2,
)

pub picks_fit : PicksFit
picks_fit seat room old new picks own_of owned picked is = record {
  room = (let few = picked.few in omega arith);
  absent = λ i there. not_elsewhere old.want.asked own_of seat i owned (picked.fresh i there);
  apart = runs_apart picks 0 picked.runs;
}
