-- So many addresses were missed, counted one by one, exactly where so few may be left out.
use Rattle.std.proofs.Common.{◌≡◌, ◌↔◌, ◌⊎◌, inl, inr, ⊎_elim, ℕ, ◌≤◌, Bool, true, false, cond, not, ◌&&◌, List, [], ◌∷◌, length, refl, sym, subst, arith}
use Rattle.std.specs.List.{list_any, IsDistinct, AllByRecursion}
use Rattle.std.proofs.lemmas.Bool.{and_parts, and_from, or_cases, or_left, or_right, not-true, not_from_false, both_ways, or_parts, false_from_ne_true}
use Rattle.std.proofs.lemmas.Map.Made.{length-le_from_is_member}
use Rattle.pp_terms.specs.format.Traffic.{Address, same_address, Record}
use Rattle.pp_terms.specs.format.Descriptor.{Descriptor}
use Rattle.pp_traffic.specs.Past.{comes_from}
use Rattle.pp_traffic.specs.Turns.{in_turns}
use Rattle.pp_promises.specs.LastTurn.{first_turn}
use Rattle.pp_promises.specs.Asked.{dials, IsMissed, DialsBut}
use Rattle.pp_audit.specs.Dials.{missed, misses}
use Rattle.pp_terms.proofs.Addressed.{same_is}
use Rattle.pp_audit.proofs.Addresses.{same_equiv}

missed_is : (d : Descriptor) (addresses : List Address) (past : List Record) (a : Address) → list_any (same_address a) addresses ≡ true → missed d past a ≡ true → IsMissed d addresses past a
missed_is d addresses past a given e =
    let parts = and_parts (not (list_any (dials d a) past)) (not (list_any (comes_from a) past)) e in
    record { given = given; undialled = not-true (list_any (dials d a) past) parts.0; silent = not-true (list_any (comes_from a) past) parts.1 }

is_missed : (d : Descriptor) (addresses : List Address) (past : List Record) (a : Address) → IsMissed d addresses past a → missed d past a ≡ true
is_missed d addresses past a is =
    and_from (not (list_any (dials d a) past)) (not (list_any (comes_from a) past)) (not_from_false (list_any (dials d a) past) is.undialled)
    (not_from_false (list_any (comes_from a) past) is.silent)

member_same : (a b : Address) (xs : List Address) → a ≡ b → list_any (same_address a) xs ≡ true → list_any (same_address b) xs ≡ true
member_same a b xs e is = subst (λ (x : Address). list_any (same_address x) xs ≡ true) e is

-- each that was missed is among them
among : (d : Descriptor) (past : List Record) (a : Address) (xs : List Address) → missed d past a ≡ true → list_any (same_address a) xs ≡ true
    → list_any (same_address a) (misses d past xs) ≡ true
among d past a [] e is = absurd cc
among d past a (x ∷ xs) e is = by (λ m. among d past a xs e m) (missed d past x) (list_any (same_address x) xs) refl refl (or_cases (same_address a x) (list_any (same_address a) xs) is)
  where
    by : (list_any (same_address a) xs ≡ true → list_any (same_address a) (misses d past xs) ≡ true) → (m b : Bool)
        → missed d past x ≡ m → list_any (same_address x) xs ≡ b → (same_address a x ≡ true) ⊎ (list_any (same_address a) xs ≡ true)
        → list_any (same_address a) (cond (m && not b) (x ∷ misses d past xs) (misses d past xs)) ≡ true
    by more true false is_m is_b (inl here) = or_left (same_address a x) (list_any (same_address a) (misses d past xs)) here
    by more true false is_m is_b (inr later) = or_right (same_address a x) (list_any (same_address a) (misses d past xs)) (more later)
    by more true true is_m is_b (inl here) = more (member_same x a xs (sym (same_is a x here)) is_b)
    by more true true is_m is_b (inr later) = more later
    by more false b is_m is_b (inl here) = absurd (let t : missed d past x ≡ true = subst (λ (y : Address). missed d past y ≡ true) (same_is a x here) e in cc)
    by more false b is_m is_b (inr later) = more later

-- each of them was given, and was missed
given_of : (d : Descriptor) (past : List Record) (a : Address) (xs : List Address) → list_any (same_address a) (misses d past xs) ≡ true
    → (missed d past a ≡ true) × (list_any (same_address a) xs ≡ true)
given_of d past a [] is = absurd cc
given_of d past a (x ∷ xs) is = by (λ e. given_of d past a xs e) (missed d past x) (list_any (same_address x) xs) refl is
  where
    by : (list_any (same_address a) (misses d past xs) ≡ true → (missed d past a ≡ true) × (list_any (same_address a) xs ≡ true)) → (m b : Bool)
        → missed d past x ≡ m → list_any (same_address a) (cond (m && not b) (x ∷ misses d past xs) (misses d past xs)) ≡ true
        → (missed d past a ≡ true) × (list_any (same_address a) (x ∷ xs) ≡ true)
    by more true false is_m e = ⊎_elim
        (λ here. (subst (λ (y : Address). missed d past y ≡ true) (sym (same_is a x here)) is_m, or_left (same_address a x) (list_any (same_address a) xs) here))
        (λ later. let g = more later in (g.0, or_right (same_address a x) (list_any (same_address a) xs) g.1))
        (or_cases (same_address a x) (list_any (same_address a) (misses d past xs)) e)
    by more true true is_m e = let g = more e in (g.0, or_right (same_address a x) (list_any (same_address a) xs) g.1)
    by more false b is_m e = let g = more e in (g.0, or_right (same_address a x) (list_any (same_address a) xs) g.1)

all_other : (a : Address) (xs : List Address) → list_any (same_address a) xs ≡ false → AllByRecursion (λ y. same_address a y ≡ false) xs
all_other a [] e = tt
all_other a (x ∷ xs) e = let parts = or_parts (same_address a x) (list_any (same_address a) xs) e in (parts.0, all_other a xs parts.1)

-- none of them stands twice
once : (d : Descriptor) (past : List Record) (xs : List Address) → IsDistinct same_address (misses d past xs)
unfolding IsDistinct
once d past [] = tt
once d past (x ∷ xs) = by (once d past xs) (missed d past x) (list_any (same_address x) xs) refl
  where
    by : IsDistinct same_address (misses d past xs) → (m b : Bool) → list_any (same_address x) xs ≡ b
        → IsDistinct same_address (cond (m && not b) (x ∷ misses d past xs) (misses d past xs))
    by more true false is_b = (
      all_other x (misses d past xs) (false_from_ne_true (list_any (same_address x) (misses d past xs))
          (λ e. both_ways (list_any (same_address x) xs) is_b (given_of d past x xs e).1)),
      more,
    )
    by more true true is_b = more
    by more false b is_b = more

pub dials_decided : (r : ℕ) (d : Descriptor) (addresses : List Address) (past : List Record)
    → (length (misses d (first_turn (in_turns d past)) addresses) ≤ r) ↔ DialsBut r d addresses past
dials_decided r d addresses past =
    let first = first_turn (in_turns d past) in
    let few = misses d first addresses in (
      λ le. (few, le, λ a is. among d first a addresses (is_missed d addresses first a is) is.given),
      λ but.
          let within : length few ≤ length but.0 =
          length-le_from_is_member same_equiv few but.0 (once d first addresses)
          (λ a is. let g = given_of d first a addresses is in but.2 a (missed_is d addresses first a g.1 g.0)) in
          let le = but.1 in omega (arith, within, le),
    )
