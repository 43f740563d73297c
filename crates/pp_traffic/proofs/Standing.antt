-- Records that pass a test, and where they stand.
use Rattle.std.proofs.Common.{◌≡◌, ⊎_elim, ℕ, ◌<◌, ◌≤◌, ltb, leb, eqb, Bool, true, false, ◌&&◌, List, [], ◌∷◌, ◌++◌, length, refl, sym, ap, subst, arith}
use Rattle.std.proofs.lemmas.Bool.{and_parts, and_from, or_cases, or_left, or_right, leb-true, le-leb, ltb-true, lt-ltb, eqb-true, eq-eqb, ne_eqb, false_from_ne_true, both_ways}
use Rattle.std.proofs.lemmas.List.{length-append}
use Rattle.pp_terms.specs.format.Traffic.{Record}
use Rattle.pp_traffic.specs.Past.{some_since, some_until, is_at, now, now_at}
use Rattle.pp_traffic.specs.Places.{Stands, StandsFrom, StandsBefore, StandsAt}

-- one more record stands before it all
later : (IsPlace : ℕ → Type 0) (test : Record → Bool) (r : Record) (past : List Record) → Stands IsPlace test past → Stands IsPlace test (r ∷ past)
later IsPlace test r past s = record {
  after = r ∷ s.after;
  here = s.here;
  before = s.before;
  split = ap (λ (xs : List Record). r ∷ xs) s.split;
  place = s.place;
  passes = s.passes;
}

newest : (IsPlace : ℕ → Type 0) (test : Record → Bool) (r : Record) (past : List Record) → IsPlace (length past) → test r ≡ true → Stands IsPlace test (r ∷ past)
newest IsPlace test r past at passes = record { after = []; here = r; before = past; split = refl; place = at; passes = passes }

-- What passes a test stands, where the place passes another, and back. A fold over the past finds it.
pub found_since : (test : Record → Bool) (place : ℕ) (past : List Record) → some_since test place past ≡ true → StandsFrom test place past
found_since test place [] e = absurd cc
found_since test place (r ∷ past) e = ⊎_elim
    (λ here. let parts = and_parts (leb place (length past)) (test r) here in newest (λ n. place ≤ n) test r past (leb-true place (length past) parts.0) parts.1)
    (λ earlier. later (λ n. place ≤ n) test r past (found_since test place past earlier))
    (or_cases (leb place (length past) && test r) (some_since test place past) e)

pub since_from : (test : Record → Bool) (place : ℕ) (after : List Record) (r : Record) (before : List Record) → place ≤ length before → test r ≡ true
    → some_since test place (after ++ r ∷ before) ≡ true
since_from test place [] r before le passes = or_left (leb place (length before) && test r) (some_since test place before) (and_from (leb place (length before)) (test r) (le-leb place (length before) le) passes)
since_from test place (x ∷ after) r before le passes =
    or_right (leb place (length (after ++ r ∷ before)) && test x) (some_since test place (after ++ r ∷ before)) (since_from test place after r before le passes)

pub stands_since : (test : Record → Bool) (place : ℕ) (past : List Record) → StandsFrom test place past → some_since test place past ≡ true
stands_since test place past s = subst (λ (xs : List Record). some_since test place xs ≡ true) (sym s.split) (since_from test place s.after s.here s.before s.place s.passes)

-- the place is one of the past's
pub since_within : (test : Record → Bool) (place : ℕ) (past : List Record) → some_since test place past ≡ true → place ≤ length past
since_within test place past e =
    let s = found_since test place past e in omega (arith, s.place, ap length s.split, length-append s.after (s.here ∷ s.before))

pub found_until : (test : Record → Bool) (place : ℕ) (past : List Record) → some_until test place past ≡ true → StandsBefore test place past
found_until test place [] e = absurd cc
found_until test place (r ∷ past) e = ⊎_elim
    (λ here. let parts = and_parts (ltb (length past) place) (test r) here in newest (λ n. n < place) test r past (ltb-true (length past) place parts.0) parts.1)
    (λ earlier. later (λ n. n < place) test r past (found_until test place past earlier))
    (or_cases (ltb (length past) place && test r) (some_until test place past) e)

until_from : (test : Record → Bool) (place : ℕ) (after : List Record) (r : Record) (before : List Record) → length before < place → test r ≡ true
    → some_until test place (after ++ r ∷ before) ≡ true
until_from test place [] r before lt passes = or_left (ltb (length before) place && test r) (some_until test place before) (and_from (ltb (length before) place) (test r) (lt-ltb (length before) place lt) passes)
until_from test place (x ∷ after) r before lt passes =
    or_right (ltb (length (after ++ r ∷ before)) place && test x) (some_until test place (after ++ r ∷ before)) (until_from test place after r before lt passes)

pub stands_until : (test : Record → Bool) (place : ℕ) (past : List Record) → StandsBefore test place past → some_until test place past ≡ true
stands_until test place past s = subst (λ (xs : List Record). some_until test place xs ≡ true) (sym s.split) (until_from test place s.after s.here s.before s.place s.passes)

pub found_at : (test : Record → Bool) (place : ℕ) (past : List Record) → is_at test place past ≡ true → StandsAt test place past
found_at test place [] e = absurd cc
found_at test place (r ∷ past) e = ⊎_elim
    (λ here. let parts = and_parts (eqb place (length past)) (test r) here in newest (λ n. n ≡ place) test r past (sym (eqb-true place (length past) parts.0)) parts.1)
    (λ earlier. later (λ n. n ≡ place) test r past (found_at test place past earlier))
    (or_cases (eqb place (length past) && test r) (is_at test place past) e)

at_from : (test : Record → Bool) (place : ℕ) (after : List Record) (r : Record) (before : List Record) → length before ≡ place → test r ≡ true
    → is_at test place (after ++ r ∷ before) ≡ true
at_from test place [] r before e passes = or_left (eqb place (length before) && test r) (is_at test place before) (and_from (eqb place (length before)) (test r) (eq-eqb place (length before) (sym e)) passes)
at_from test place (x ∷ after) r before e passes =
    or_right (eqb place (length (after ++ r ∷ before)) && test x) (is_at test place (after ++ r ∷ before)) (at_from test place after r before e passes)

pub stands_at : (test : Record → Bool) (place : ℕ) (past : List Record) → StandsAt test place past → is_at test place past ≡ true
stands_at test place past s = subst (λ (xs : List Record). is_at test place xs ≡ true) (sym s.split) (at_from test place s.after s.here s.before s.place s.passes)

-- none of them passes
pub none_since : (test : Record → Bool) (place : ℕ) (past : List Record) → (StandsFrom test place past → ⊥) → some_since test place past ≡ false
none_since test place past none = false_from_ne_true (some_since test place past) (λ e. none (found_since test place past e))

pub stands_none : (test : Record → Bool) (place : ℕ) (past : List Record) → some_since test place past ≡ false → StandsFrom test place past → ⊥
stands_none test place past e s = both_ways (some_since test place past) e (stands_since test place past s)

-- the moment at a place
pub now_at-split : (after : List Record) (r : Record) (before : List Record) → now_at (length before) (after ++ r ∷ before) ≡ now (r ∷ before)
now_at-split [] r before = rw (eq-eqb (length before) (length before) refl) refl
now_at-split (x ∷ after) r before =
    let ne : eqb (length before) (length (after ++ r ∷ before)) ≡ false = ne_eqb (length before) (length (after ++ r ∷ before)) (λ e. omega (arith, length-append after (r ∷ before))) in
    rw ne (now_at-split after r before)
