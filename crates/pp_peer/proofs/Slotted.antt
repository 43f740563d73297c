-- Slots that change hands.
use Rattle.std.proofs.Common.{◌≡◌, ◌⊎◌, inl, inr, ℕ, zero, suc, ◌+◌, ◌<◌, ◌≤◌, Bool, true, false, cond, Option, Some, None, List, [], ◌∷◌, refl, sym, ◌∙◌, ap, subst, arith}
use Rattle.std.specs.Prelude.{◌↔◌, IsTrue, is_some, nat_lt, if◌then◌else◌}
use Rattle.std.specs.Bool.{OnTrue}
use Rattle.std.proofs.Math.ListN.{set}
use Rattle.std.proofs.lemmas.Bool.{ltb-true, ltb-false}
use Rattle.std.proofs.lemmas.List.Sums.{sum_by-cons}
use Rattle.pp_requests.specs.Seats.{Seating, since, seat_count, IsLongest, IsNone, IsDue}
use Rattle.pp_seat.specs.Seats.{SeatState}
use Rattle.pp_seats.specs.Standing.{SeatsState}
use Rattle.pp_seats.specs.Turning.{Turns}
use Rattle.pp_peer.specs.declared.parts.Parts.{Parts}
use Rattle.pp_peer.specs.Slotting.{KeepsButSlots, with_slot, GrantsOne, HasNoneToGrant, GrantsAll, TurnsLongest, TurnsNone, without_slot}
use Rattle.pp_peer.proofs.Fetched.{same_fetches}
use Rattle.pp_peer.proofs.Ending.{stands_same}

-- ---- lists of seats

abbrev bit : Option ℕ → ℕ
bit o = cond {A = ℕ} (is_some o) 1 0

count_cons : (x : Option ℕ) (xs : List (Option ℕ)) → seat_count (x ∷ xs) ≡ bit x + seat_count xs
count_cons x xs = sum_by-cons (λ (o : Option ℕ). cond {A = ℕ} (is_some o) 1 0) x xs

-- the later change counts
pub set_later : (xs : List (Option ℕ)) (i : ℕ) (x y : Option ℕ) → set (set xs i x) i y ≡ set xs i y
set_later [] i x y = refl
set_later (z ∷ xs) zero x y = refl
set_later (z ∷ xs) (suc i) x y = ap (λ (ys : List (Option ℕ)). z ∷ ys) (set_later xs i x y)

pub none_there : (xs : List (Option ℕ)) (i : ℕ) → since (set xs i None) i ≡ None
none_there [] i = refl
none_there (x ∷ xs) zero = refl
none_there (x ∷ xs) (suc i) = none_there xs i

pub no_more : (xs : List (Option ℕ)) (i : ℕ) → seat_count (set xs i None) ≤ seat_count xs
no_more [] i = omega arith
no_more (x ∷ xs) zero = let old = count_cons x xs in let new = count_cons None xs in omega (arith, old, new)
no_more (x ∷ xs) (suc i) =
    let rest = no_more xs i in let old = count_cons x xs in let new = count_cons x (set xs i None) in omega (arith, rest, old, new)

pub fewer : (xs : List (Option ℕ)) (i m : ℕ) → since xs i ≡ Some m → seat_count (set xs i None) < seat_count xs
fewer [] i m there = absurd cc
fewer (x ∷ xs) zero m there =
    let was : bit x ≡ 1 = ap bit there in let old = count_cons x xs in let new = count_cons None xs in omega (arith, was, old, new)
fewer (x ∷ xs) (suc i) m there =
    let rest = fewer xs i m there in let old = count_cons x xs in let new = count_cons x (set xs i None) in omega (arith, rest, old, new)

longest_alone : (xs : List (Option ℕ)) (s t : ℕ) → IsLongest xs s → IsLongest xs t → s ≡ t
longest_alone xs s t a b = of (a.first t b.moment b.is_there) (b.first s a.moment a.is_there)
  where
    of : (a.moment < b.moment) ⊎ ((a.moment ≡ b.moment) × (s ≤ t)) → (b.moment < a.moment) ⊎ ((b.moment ≡ a.moment) × (t ≤ s)) → s ≡ t
    of (inl u) (inl v) = absurd (omega (arith, u, v))
    of (inl u) (inr v) = let w = v.0 in absurd (omega (arith, u, w))
    of (inr u) (inl v) = let w = u.0 in absurd (omega (arith, w, v))
    of (inr u) (inr v) = let x = u.1 in let y = v.1 in omega (arith, x, y)

-- where the longest is no seat, no seat is longest
outside : (xs : List (Option ℕ)) (k : ℕ) → IsLongest xs k → 64 ≤ k → (seat : ℕ) → seat < 64 → IsLongest xs seat → ⊥
outside xs k longest high seat low other = let same = longest_alone xs k seat longest other in omega (arith, high, low, same)

-- ---- what stays

pub keeps_none : (p : Parts) → KeepsButSlots p p
keeps_none p = record { rest = refl; fetches = λ f. f; stands = λ b most past h. h }

pub keeps_twice : (a b c : Parts) → KeepsButSlots a b → KeepsButSlots b c → KeepsButSlots a c
keeps_twice a b c one two = record {
  rest = two.rest ∙ ap (λ (p : Parts). record p { seats = record p.seats { seats = c.seats.seats }; slots = c.slots }) one.rest;
  fetches = λ f. two.fetches (one.fetches f);
  stands = λ x most past h. two.stands x most past (one.stands x most past h);
}

pub keeps_slots : (p : Parts) (slots : Seating) → KeepsButSlots p (record p { slots = slots })
keeps_slots p slots = record {
  rest = refl;
  fetches = λ f. record { owned = f.owned; idle = f.idle };
  stands = λ b most past h. stands_same b most most p (record p { slots = slots }) past refl
      (record { datagrams = refl; short = refl; sent = refl })
      (λ x h. h) (λ f. record { owned = f.owned; idle = f.idle }) h;
}

module _ (p : Parts) (s : SeatsState) (slots : Seating) (k : ℕ) (turns : Turns k p.seats s) where
  abbrev q : Parts
  q = record p { seats = s; slots = slots }

  pub keeps_turned : KeepsButSlots p q
  keeps_turned = record {
    rest = ap (λ (o : SeatsState). record p { seats = o; slots = slots })
        (turns.is ∙ ap (λ (xs : List SeatState). record p.seats { seats = xs }) (sym (ap (λ (o : SeatsState). o.seats) turns.is)));
    fetches = same_fetches p q k turns.before turns.after turns.there turns.is (ap (λ (t : SeatState). t.own) turns.exact) refl;
    stands = λ b most past h. stands_same b most most p q past refl (record { datagrams = refl; short = refl; sent = refl })
        (λ x h. turns.stands x most past h)
        (same_fetches p q k turns.before turns.after turns.there turns.is (ap (λ (t : SeatState). t.own) turns.exact) refl) h;
  }

-- ---- free slots

pub none_free : (p : Parts) (free : Bool) → free ≡ nat_lt (seat_count p.slots.slots) 8 → free ≡ false → HasNoneToGrant p
none_free p free is not = inl (ltb-false (seat_count p.slots.slots) 8 (sym is ∙ not))

pub none_waits : (p : Parts) → IsNone p.slots.waiting → HasNoneToGrant p
none_waits p none = inr (λ seat low longest. let e : None ≡ Some longest.moment = sym (none seat) ∙ longest.is_there in cc)

pub none_below : (p : Parts) (k : ℕ) → IsLongest p.slots.waiting k → 64 ≤ k → HasNoneToGrant p
none_below p k longest high = inr (outside p.slots.waiting k longest high)

-- nobody has the seat, and then it has a slot
module _ (p : Parts) (s : SeatsState) (free granted : Seating) (is_free took : Bool) (k now : ℕ) (low : k < 64)
    (some : is_free ≡ nat_lt (seat_count p.slots.slots) 8) (yes : is_free ≡ true) (longest : IsLongest p.slots.waiting k)
    (now_is : now ≡ p.seats.moment)
    (release : free ≡ record { slots = set p.slots.slots k None; waiting = set p.slots.waiting k None; turned = p.slots.turned })
    (took_is : IsTrue took ↔ (seat_count free.slots < 8))
    (grant : OnTrue took (granted ≡ record { slots = set free.slots k (Some now); waiting = set free.waiting k None; turned = free.turned }))
    (turns : Turns k p.seats s) where
  room : seat_count p.slots.slots < 8
  room = ltb-true (seat_count p.slots.slots) 8 (sym some ∙ yes)

  is_taken : took ≡ true
  is_taken = took_is.1 (let few = no_more p.slots.slots k in let here : seat_count free.slots ≡ seat_count (set p.slots.slots k None) =
      ap (λ (x : Seating). seat_count x.slots) release in let left = room in omega (arith, few, here, left))

  granted_is : granted ≡ with_slot k p.seats.moment p.slots
  granted_is =
      subst (λ (b : Bool). OnTrue b
      (granted ≡ record { slots = set free.slots k (Some now); waiting = set free.waiting k None; turned = free.turned })) is_taken grant
      ∙ ap (λ (x : Seating). record { slots = set x.slots k (Some now); waiting = set x.waiting k None; turned = x.turned }) release
      ∙ (λ t. record {
        slots = (set_later p.slots.slots k None (Some now) ∙ ap (λ (n : ℕ). set p.slots.slots k (Some n)) now_is) t;
        waiting = set_later p.slots.waiting k None None t;
        turned = p.slots.turned;
      })

  pub fewer_wait : seat_count granted.waiting < seat_count p.slots.waiting
  fewer_wait =
      let less = fewer p.slots.waiting k longest.moment longest.is_there in
      let here : seat_count granted.waiting ≡ seat_count (set p.slots.waiting k None) =
      ap (λ (x : Seating). seat_count x.waiting) granted_is in
      omega (arith, less, here)

  pub grants_one : GrantsOne p (record p { seats = s; slots = granted })
  grants_one = (
    k,
    record {
      below = low;
      free = room;
      longest = longest;
      turns = turns;
      rest = ap (λ (x : Seating). record p { seats = s; slots = x }) granted_is;
    },
  )

-- ---- one after the other

-- what goes on from there goes on from here
abbrev pub LeadsOn : Parts → Parts → Type 0
LeadsOn a b = (new : Parts) → GrantsAll b new → GrantsAll a new

pub leads_none : (p : Parts) → LeadsOn p p
leads_none p new grants = grants

pub leads_more : (a b c : Parts) → LeadsOn a b → GrantsOne b c → LeadsOn a c
leads_more a b c leads one new grants = leads new (one.0 ∷ grants.0, (c, one.1, grants.1))

pub leads_end : (a b : Parts) → LeadsOn a b → HasNoneToGrant b → GrantsAll a b
leads_end a b leads none = leads b ([], (refl, none))

-- ---- slots that are turned

pub turns_longest : (p : Parts) (s : SeatsState) (slots : Seating) (k now : ℕ) → now ≡ p.seats.moment → IsDue p.slots now
    → IsLongest p.slots.slots k → slots ≡ record p.slots { turned = now } → Turns k p.seats s → TurnsLongest p (record p { seats = s; slots = slots })
turns_longest p s slots k now now_is due longest turned turns = record {
  due = subst (λ (n : ℕ). IsDue p.slots n) now_is due;
  seat = k;
  longest = longest;
  turns = turns;
  rest = ap (λ (x : Seating). record p { seats = s; slots = x }) (turned ∙ ap (λ (n : ℕ). record p.slots { turned = n }) now_is);
}

pub none_turned : (p : Parts) (now : ℕ) → now ≡ p.seats.moment → (IsDue p.slots now → ⊥) → TurnsNone p p
none_turned p now now_is idle = record {
  idle = λ due seat low longest. idle (subst (λ (n : ℕ). IsDue p.slots n) (sym now_is) due);
  same = refl;
}

pub none_longest : (p : Parts) (k : ℕ) → IsLongest p.slots.slots k → 64 ≤ k → TurnsNone p p
none_longest p k longest high = record { idle = λ due. outside p.slots.slots k longest high; same = refl }

-- ---- a slot that is given up

pub given_up : (seating free last : Seating) (k now moment : ℕ) → now ≡ moment
    → free ≡ record { slots = set seating.slots k None; waiting = set seating.waiting k None; turned = seating.turned }
    → last ≡ record free { waiting = (if is_some (since free.waiting k) then free.waiting else set free.waiting k (Some now)) }
    → last ≡ without_slot k moment seating
given_up seating free last k now moment now_is release wait =
    wait
    ∙ ap (λ (b : Bool). record free { waiting = (if b then free.waiting else set free.waiting k (Some now)) })
    (ap (λ (x : Seating). is_some (since x.waiting k)) release ∙ ap is_some (none_there seating.waiting k))
    ∙ ap (λ (x : Seating). record x { waiting = set x.waiting k (Some now) }) release
    ∙ (λ t. record {
      slots = set seating.slots k None;
      waiting = (set_later seating.waiting k None (Some now) ∙ ap (λ (n : ℕ). set seating.waiting k (Some n)) now_is) t;
      turned = seating.turned;
    })
