-- Chunks that were stored and those that are pending, without one list of both.
use Rattle.std.proofs.Common.{◌≡◌, ⊎_elim, ℕ, ◌+◌, leb, eqb, Bool, true, false, ◌&&◌, ◌||◌, List, [], ◌∷◌, length, refl, sym, ◌∙◌, ap, subst, arith}
use Rattle.std.specs.Prelude.{slice_index_or}
use Rattle.std.specs.Cmp.Lexicographic.{pointwise}
use Rattle.std.proofs.Math.Bool.{beq}
use Rattle.std.specs.List.{list_any, list_all, range_with_len}
use Rattle.std.proofs.lemmas.Bool.{lt-leb, eq-eqb, ne_eqb, cases_eq, and_parts, and_from}
use Rattle.pp_promises.specs.Batches.{Pending, Batch, is_same, is_among, most_pending, longest_wait, is_in, is_late, is_full, is_due, with_puts, with_all_pending, CommitsInTime}
use Rattle.pp_recorded.proofs.Sayings.{swap}
use Rattle.pp_audit.specs.Batches as tests

abbrev put : ℕ → ℕ → Pending
put now i = record { chunk = i; put_at = now }

puts_any : (test : Pending → Bool) (stored : List ℕ) (now : ℕ) (pending : List Pending)
    → list_any test (with_puts stored now pending) ≡ (list_any (λ i. test (put now i)) stored || list_any test pending)
puts_any test [] now pending = refl
puts_any test (i ∷ more) now pending =
    puts_any test more now (put now i ∷ pending) ∙ swap (list_any (λ k. test (put now k)) more) (test (put now i)) (list_any test pending)

length-puts : (stored : List ℕ) (now : ℕ) (pending : List Pending) → length (with_puts stored now pending) ≡ length stored + length pending
length-puts [] now pending = omega arith
length-puts (i ∷ more) now pending = let e = length-puts more now (put now i ∷ pending) in omega (arith, e)

none_late : (now : ℕ) (stored : List ℕ) → list_any (λ i. leb (now + longest_wait) now) stored ≡ false
none_late now [] = refl
none_late now (i ∷ stored) = rw (lt-leb (now + longest_wait) now (omega arith)) (none_late now stored)

all_same : (f g : ℕ → Bool) (xs : List ℕ) → ((i : ℕ) → f i ≡ g i) → list_all f xs ≡ list_all g xs
all_same f g [] same = refl
all_same f g (x ∷ xs) same = ap (λ (b : Bool). b && list_all f xs) (same x) ∙ ap (λ (b : Bool). g x && b) (all_same f g xs same)

pub in_by : (stored : List ℕ) (now : ℕ) (b : Batch) (i : ℕ) → is_in (with_all_pending stored now b) i ≡ tests.is_in b.committed stored b.pending i
in_by stored now b i = ap (λ (x : Bool). slice_index_or b.committed i false || x) (puts_any (λ p. eqb p.chunk i) stored now b.pending)

pub due_by : (is_quiet : Bool) (now : ℕ) (stored : List ℕ) (b : Batch) → is_due is_quiet now (with_all_pending stored now b) ≡ tests.is_due is_quiet now stored b
due_by is_quiet now stored b =
    let late : is_late now (with_all_pending stored now b) ≡ tests.is_late now b.pending =
    puts_any (λ p. leb (p.put_at + longest_wait) now) stored now b.pending ∙ ap (λ (x : Bool). x || tests.is_late now b.pending) (none_late now stored) in
    ap (λ (x : Bool). (is_quiet || x) || is_late now (with_all_pending stored now b))
    (all_same (is_in (with_all_pending stored now b)) (tests.is_in b.committed stored b.pending) (range_with_len 0 (length b.committed)) (in_by stored now b))
    ∙ ap (λ (x : Bool). (is_quiet || tests.are_all_in b.committed stored b.pending) || x) late

pub full_by : (stored : List ℕ) (now : ℕ) (b : Batch) → is_full (with_all_pending stored now b) ≡ leb most_pending (length stored + length b.pending)
full_by stored now b = ap (λ (n : ℕ). leb most_pending n) (length-puts stored now b.pending)

-- by the list itself, of entries that mean these
pub full_pending : (stored : List ℕ) (now : ℕ) (b : Batch) (full : Bool) → full ≡ leb most_pending (length stored + length b.pending)
    → is_full (with_all_pending stored now b) ≡ full
full_pending stored now b full e = full_by stored now b ∙ sym e

-- ---- each pending chunk keeps its moment

eqb_swapped : (x y : ℕ) → eqb x y ≡ eqb y x
eqb_swapped x y = ⊎_elim
    (λ e. eq-eqb x y e ∙ sym (eq-eqb y x (sym e)))
    (λ ne. ne_eqb x y ne ∙ sym (ne_eqb y x (λ e. ne (sym e))))
    (cases_eq x y)

stored_now : (stored : List ℕ) (now : ℕ) (p : Pending) → list_any (λ i. is_same p (put now i)) stored ≡ tests.is_put_now stored now p
stored_now [] now p = refl
stored_now (i ∷ stored) now p =
    ap (λ (b : Bool). (b && eqb p.put_at now) || list_any (λ k. is_same p (put now k)) stored) (eqb_swapped p.chunk i)
    ∙ ap (λ (b : Bool). (eqb i p.chunk && eqb p.put_at now) || b) (stored_now stored now p)
    ∙ gathered (eqb i p.chunk) (list_any (λ k. eqb k p.chunk) stored) (eqb p.put_at now)
  where
    gathered : (x y z : Bool) → ((x && z) || (y && z)) ≡ ((x || y) && z)
    gathered true true true = refl
    gathered true true false = refl
    gathered true false true = refl
    gathered true false false = refl
    gathered false y z = refl

among_by : (stored : List ℕ) (now : ℕ) (old : List Pending) (p : Pending) → is_among p (with_puts stored now old) ≡ tests.is_since stored now old p
among_by stored now old p = puts_any (is_same p) stored now old ∙ ap (λ (b : Bool). b || is_among p old) (stored_now stored now p)

since_by : (stored : List ℕ) (now : ℕ) (old new : List Pending) → list_all (λ p. is_among p (with_puts stored now old)) new ≡ tests.are_since stored now old new
since_by stored now old [] = refl
since_by stored now old (p ∷ new) =
    ap (λ (b : Bool). b && list_all (λ q. is_among q (with_puts stored now old)) new) (among_by stored now old p)
    ∙ ap (λ (b : Bool). tests.is_since stored now old p && b) (since_by stored now old new)

-- ---- both halves

pub in_time : (is_quiet : Bool) (stored : List ℕ) (now : ℕ) (old new : Batch)
    → tests.IsTimely is_quiet stored now old new → tests.LosesNone stored now old new → CommitsInTime is_quiet stored now old new
in_time is_quiet stored now old new timely none = record {
  few = timely.few;
  waits = timely.waits;
  settled = timely.settled;
  as_many = none.as_many;
  stays = none.stays;
  keeps = λ i lt. none.keeps i lt ∙ sym (in_by stored now old i);
  since = since_by stored now old.pending new.pending ∙ none.since;
}

pub timely_of : (is_quiet : Bool) (stored : List ℕ) (now : ℕ) (old new : Batch)
    → CommitsInTime is_quiet stored now old new → tests.IsTimely is_quiet stored now old new
timely_of is_quiet stored now old new s = record { few = s.few; waits = s.waits; settled = s.settled }

pub none_lost_of : (is_quiet : Bool) (stored : List ℕ) (now : ℕ) (old new : Batch)
    → CommitsInTime is_quiet stored now old new → tests.LosesNone stored now old new
none_lost_of is_quiet stored now old new s = record {
  as_many = s.as_many;
  stays = s.stays;
  keeps = λ i lt. s.keeps i lt ∙ in_by stored now old i;
  since = sym (since_by stored now old.pending new.pending) ∙ s.since;
}

-- ---- lists of tests

one_bool : (x y : Bool) → beq x y ≡ true → x ≡ y
one_bool true true e = refl
one_bool true false e = absurd cc
one_bool false true e = absurd cc
one_bool false false e = refl

self_bool : (x : Bool) → beq x x ≡ true
self_bool true = refl
self_bool false = refl

pub same_bools : (xs ys : List Bool) → pointwise beq xs ys ≡ true → xs ≡ ys
same_bools [] [] e = refl
same_bools [] (y ∷ ys) e = absurd cc
same_bools (x ∷ xs) [] e = absurd cc
same_bools (x ∷ xs) (y ∷ ys) e =
    let both = and_parts (beq x y) (pointwise beq xs ys) e in
    ap (λ (b : Bool). b ∷ xs) (one_bool x y both.0) ∙ ap (λ (bs : List Bool). y ∷ bs) (same_bools xs ys both.1)

self_bools : (xs : List Bool) → pointwise beq xs xs ≡ true
self_bools [] = refl
self_bools (x ∷ xs) = and_from (beq x x) (pointwise beq xs xs) (self_bool x) (self_bools xs)

pub bools_same : (xs ys : List Bool) → xs ≡ ys → pointwise beq xs ys ≡ true
bools_same xs ys e = subst (λ (bs : List Bool). pointwise beq xs bs ≡ true) e (self_bools xs)
