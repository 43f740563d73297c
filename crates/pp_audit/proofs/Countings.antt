-- Numbers that pass a test, counted run by run, and what few of them are.
use Rattle.std.proofs.Common.{◌≡◌, ◌↔◌, ◌⊎◌, inl, inr, ⊎_elim, ℕ, zero, suc, ◌+◌, ◌-◌, ◌<◌, ◌≤◌, leb, eqb, Bool, true, false, cond, ◌&&◌, ◌||◌, Option, Some, None, List, [], ◌∷◌, ◌++◌, length, refl, sym, ◌∙◌, ap, subst, arith}
use Rattle.std.specs.Prelude.{is_some, MatchOption}
use Rattle.std.specs.List.{list_any, list_all, sum_by, count_by, range_with_len, IsDistinct, AllByRecursion}
use Rattle.std.proofs.lemmas.Bool.{or_cases, or_left, or_right, eqb-true, eq-eqb, cases_eq, cases_lt, both_ways, false_from_ne_true, le-leb, lt-leb}
use Rattle.std.proofs.lemmas.List.{map-id}
use Rattle.std.proofs.lemmas.List.FromFn.{sum_by-map-range_with_len_more, map-range_with_len_more}
use Rattle.std.proofs.lemmas.List.Folds.{list_all-append}
use Rattle.std.proofs.lemmas.Cmp.{nat_eq_equiv}
use Rattle.std.proofs.lemmas.Map.Made.{length-le_from_is_member}
use Rattle.pp_traffic.specs.Turns.{AtMost}
use Rattle.pp_audit.specs.Counted.{counted}

pub counted-zero : (test : ℕ → Bool) → counted test 0 ≡ 0
unfolding counted
counted-zero test = refl

pub counted-more : (test : ℕ → Bool) (n : ℕ) → counted test (suc n) ≡ counted test n + cond (test n) 1 0
unfolding counted
counted-more test n = refl

-- a run of numbers of which all pass, or none
one_run : (b : Bool) (c k : ℕ) → (c + cond b (k + 1) 0) + cond b 1 0 ≡ c + cond b (suc k + 1) 0
one_run true c k = omega arith
one_run false c k = omega arith

run_of : (test : ℕ → Bool) (a k : ℕ) (b : Bool) → ((j : ℕ) → j ≤ k → b ≡ test (a + j)) → counted test (suc (a + k)) ≡ counted test a + cond b (k + 1) 0
run_of test a zero b same =
    let none : a + 0 ≡ a = omega arith in
    ap (λ (n : ℕ). counted test (suc n)) none ∙ counted-more test a
    ∙ ap (λ (x : Bool). counted test a + cond x 1 0) (sym (same 0 (omega arith) ∙ ap (λ (n : ℕ). test n) none))
run_of test a (suc k) b same =
    let more : a + suc k ≡ suc (a + k) = omega arith in
    counted-more test (a + suc k)
    ∙ ap (λ (x : Bool). counted test (a + suc k) + cond x 1 0) (sym (same (suc k) (omega arith)))
    ∙ ap (λ (n : ℕ). counted test n + cond b 1 0) more
    ∙ ap (λ (n : ℕ). n + cond b 1 0) (run_of test a k b (λ j le. same j (omega (arith, le))))
    ∙ one_run b (counted test a) k

pub counted_run : (test : ℕ → Bool) (a b : ℕ) → a ≤ b → ((j : ℕ) → a ≤ j → j ≤ b → test a ≡ test j)
    → counted test (suc b) ≡ counted test a + cond (test a) (b - a + 1) 0
counted_run test a b le same =
    let whole : a + (b - a) ≡ b = omega (arith, le) in
    ap (λ (n : ℕ). counted test (suc n)) (sym whole)
    ∙ run_of test a (b - a) (test a) (λ j under. same (a + j) (omega arith) (omega (arith, under, le)))

grows_by : (test : ℕ → Bool) (a k : ℕ) → counted test a ≤ counted test (a + k)
grows_by test a zero = let e : counted test a ≡ counted test (a + 0) = ap (λ (n : ℕ). counted test n) (let f : a ≡ a + 0 = omega arith in f) in omega (arith, e)
grows_by test a (suc k) =
    let e : counted test (a + suc k) ≡ counted test (a + k) + cond (test (a + k)) 1 0 =
    ap (λ (n : ℕ). counted test n) (let f : a + suc k ≡ suc (a + k) = omega arith in f) ∙ counted-more test (a + k) in
    let le = grows_by test a k in omega (arith, e, le)

pub counted_grows : (test : ℕ → Bool) (a b : ℕ) → a ≤ b → counted test a ≤ counted test b
counted_grows test a b le =
    subst (λ (n : ℕ). counted test a ≤ counted test n) (let e : a + (b - a) ≡ b = omega (arith, le) in e) (grows_by test a (b - a))

-- ---- few of them

listed : (ℕ → Bool) → ℕ → List ℕ
listed test zero = []
listed test (suc n) = cond (test n) (n ∷ listed test n) (listed test n)

length-pick : (b : Bool) (n : ℕ) (xs : List ℕ) → length (cond b (n ∷ xs) xs) ≡ length xs + cond b 1 0
length-pick true n xs = omega arith
length-pick false n xs = omega arith

length-listed : (test : ℕ → Bool) (n : ℕ) → length (listed test n) ≡ counted test n
unfolding listed
length-listed test zero = sym (counted-zero test)
length-listed test (suc n) =
    length-pick (test n) n (listed test n) ∙ ap (λ (m : ℕ). m + cond (test n) 1 0) (length-listed test n) ∙ sym (counted-more test n)

pick_of : (b : Bool) (q n : ℕ) (xs : List ℕ) → list_any (eqb q) (cond b (n ∷ xs) xs) ≡ true → ((b ≡ true) × (q ≡ n)) ⊎ (list_any (eqb q) xs ≡ true)
pick_of true q n xs e = ⊎_elim (λ here. inl (refl, eqb-true q n here)) (λ later. inr later) (or_cases (eqb q n) (list_any (eqb q) xs) e)
pick_of false q n xs e = inr e

-- each of them is below, and passes
listed_of : (test : ℕ → Bool) (n q : ℕ) → list_any (eqb q) (listed test n) ≡ true → (q < n) × (test q ≡ true)
unfolding listed
listed_of test zero q e = absurd cc
listed_of test (suc n) q e = ⊎_elim
    (λ here. (omega (arith, here.1), ap (λ (m : ℕ). test m) here.1 ∙ here.0))
    (λ later. let f = listed_of test n q later in (omega (arith, f.0), f.1))
    (pick_of (test n) q n (listed test n) e)

pick_here : (b : Bool) (q n : ℕ) (xs : List ℕ) → b ≡ true → q ≡ n → list_any (eqb q) (cond b (n ∷ xs) xs) ≡ true
pick_here true q n xs e is = or_left (eqb q n) (list_any (eqb q) xs) (eq-eqb q n is)
pick_here false q n xs e is = absurd cc

pick_later : (b : Bool) (q n : ℕ) (xs : List ℕ) → list_any (eqb q) xs ≡ true → list_any (eqb q) (cond b (n ∷ xs) xs) ≡ true
pick_later true q n xs e = or_right (eqb q n) (list_any (eqb q) xs) e
pick_later false q n xs e = e

-- and each that is so is one of them
of_listed : (test : ℕ → Bool) (n q : ℕ) → q < n → test q ≡ true → list_any (eqb q) (listed test n) ≡ true
unfolding listed
of_listed test zero q lt e = absurd (omega (arith, lt))
of_listed test (suc n) q lt e = ⊎_elim
    (λ same. pick_here (test n) q n (listed test n) (ap (λ (m : ℕ). test m) (sym same) ∙ e) same)
    (λ other. pick_later (test n) q n (listed test n) (of_listed test n q (omega (arith, lt, other)) e))
    (cases_eq q n)

none_of : (n : ℕ) (xs : List ℕ) → (list_any (eqb n) xs ≡ true → ⊥) → AllByRecursion (λ y. eqb n y ≡ false) xs
none_of n [] none = tt
none_of n (x ∷ xs) none =
    (false_from_ne_true (eqb n x) (λ e. none (or_left (eqb n x) (list_any (eqb n) xs) e)), none_of n xs (λ e. none (or_right (eqb n x) (list_any (eqb n) xs) e)))

pick_once : (b : Bool) (n : ℕ) (xs : List ℕ) → AllByRecursion (λ y. eqb n y ≡ false) xs → IsDistinct eqb xs → IsDistinct eqb (cond b (n ∷ xs) xs)
unfolding IsDistinct
pick_once true n xs none once = (none, once)
pick_once false n xs none once = once

once_listed : (test : ℕ → Bool) (n : ℕ) → IsDistinct eqb (listed test n)
unfolding listed IsDistinct
once_listed test zero = tt
once_listed test (suc n) =
    pick_once (test n) n (listed test n) (none_of n (listed test n) (λ e. let f = listed_of test n n e in omega (arith, f.0))) (once_listed test n)

turned : (i : ℕ) (xs : List ℕ) → list_any (λ k. eqb k i) xs ≡ list_any (eqb i) xs
turned i [] = refl
turned i (x ∷ xs) = ap (λ (b : Bool). b || list_any (λ k. eqb k i) xs) (nat_eq_equiv.symm x i) ∙ ap (λ (b : Bool). eqb i x || b) (turned i xs)

-- Where none past a number passes, the numbers below it that do are all.
pub at_most_by : (test : ℕ → Bool) (P : ℕ → Type 0) (n r : ℕ) → ((i : ℕ) → (test i ≡ true) ↔ P i) → ((i : ℕ) → n ≤ i → test i ≡ false)
    → (counted test n ≤ r) ↔ AtMost r P
at_most_by test P n r iff none = (
  λ le. (
    listed test n,
    omega (arith, le, length-listed test n),
    λ i p. turned i (listed test n) ∙ of_listed test n i (below i ((iff i).1 p)) ((iff i).1 p),
  ),
  λ few.
      let within : length (listed test n) ≤ length few.0 =
      length-le_from_is_member nat_eq_equiv (listed test n) few.0 (once_listed test n)
      (λ q e. sym (turned q few.0) ∙ few.2 q ((iff q).0 (listed_of test n q e).1)) in
      let le = few.1 in omega (arith, within, le, length-listed test n),
)
  where
    below : (i : ℕ) → test i ≡ true → i < n
    below i e = ⊎_elim (λ lt. lt) (λ le. absurd (both_ways (test i) (none i le) e)) (cases_lt i n)

-- ---- a walk over the runs

pub walk_more : (test : ℕ → Bool) (a b room more limit : ℕ) → a ≤ b → ((j : ℕ) → a ≤ j → j ≤ b → test a ≡ test j) → counted test a + room ≡ limit
    → more + cond (test a) (b - a + 1) 0 ≡ room → counted test (suc b) + more ≡ limit
walk_more test a b room more limit le same before e =
    let run = counted_run test a b le same in omega (arith, run, before, e)

pub walk_stop : (test : ℕ → Bool) (a b last room limit : ℕ) → a ≤ b → b ≤ last → ((j : ℕ) → a ≤ j → j ≤ b → test a ≡ test j) → counted test a + room ≡ limit
    → room < cond (test a) (b - a + 1) 0 → false ≡ leb (counted test (suc last)) limit
walk_stop test a b last room limit le under same before lt =
    let run = counted_run test a b le same in
    let more = counted_grows test (suc b) (suc last) (omega (arith, under)) in
    sym (lt-leb (counted test (suc last)) limit (omega (arith, run, more, before, lt)))

pub walk_done : (test : ℕ → Bool) (last more limit : ℕ) → counted test (suc last) + more ≡ limit → true ≡ leb (counted test (suc last)) limit
walk_done test last more limit e = sym (le-leb (counted test (suc last)) limit (omega (arith, e)))

pub walk_last : (test : ℕ → Bool) (a last room limit : ℕ) (o : Option ℕ) → a ≡ last → counted test a + room ≡ limit
    → MatchOption o (room < cond (test a) (a - a + 1) 0) (λ more. more + cond (test a) (a - a + 1) 0 ≡ room)
    → is_some o ≡ leb (counted test (suc last)) limit
walk_last test a last room limit None same before lt =
    walk_stop test a a last room limit (omega arith) (omega (arith, same)) (λ j le under. ap (λ (n : ℕ). test n) (let e : a ≡ j = omega (arith, le, under) in e)) before lt
walk_last test a last room limit (Some more) same before e =
    walk_done test last more limit
    (ap (λ (n : ℕ). counted test (suc n) + more) (sym same)
    ∙ walk_more test a a room more limit (omega arith) (λ j le under. ap (λ (n : ℕ). test n) (let f : a ≡ j = omega (arith, le, under) in f)) before e)

-- ---- a count over the first numbers

pub count_range : (test : ℕ → Bool) (n count more : ℕ) → count ≡ count_by test (range_with_len 0 n) → more ≡ cond (test n) 1 0
    → count + more ≡ count_by test (range_with_len 0 (n + 1))
count_range test n count more so_far here =
    let g : ℕ → ℕ = λ x. cond (test x) 1 0 in
    ap (λ (m : ℕ). m + more) so_far ∙ ap (λ (m : ℕ). count_by test (range_with_len 0 n) + m) here
    ∙ sym (ap (λ (xs : List ℕ). sum_by g xs) (sym (map-id (range_with_len 0 (n + 1))))
    ∙ sum_by-map-range_with_len_more g (λ x. x) 0 n n (omega arith)
    ∙ ap (λ (xs : List ℕ). sum_by g xs + g n) (map-id (range_with_len 0 n)))

swap : (x y : Bool) → (x && y) ≡ (y && (x && true))
swap true true = refl
swap true false = refl
swap false true = refl
swap false false = refl

-- a test of all the first numbers
pub all_more : (test : ℕ → Bool) (n : ℕ) (new all : Bool) → new ≡ test n → all ≡ list_all test (range_with_len 0 n) → (new && all) ≡ list_all test (range_with_len 0 (n + 1))
all_more test n new all here so_far =
    let more : range_with_len 0 (n + 1) ≡ range_with_len 0 n ++ n ∷ [] =
    sym (map-id (range_with_len 0 (n + 1))) ∙ map-range_with_len_more (λ x. x) 0 n n (omega arith) ∙ ap (λ (xs : List ℕ). xs ++ n ∷ []) (map-id (range_with_len 0 n)) in
    swap new all
    ∙ ap (λ (b : Bool). b && (new && true)) so_far
    ∙ ap (λ (b : Bool). list_all test (range_with_len 0 n) && (b && true)) here
    ∙ sym (list_all-append test (range_with_len 0 n) (n ∷ []))
    ∙ ap (λ (xs : List ℕ). list_all test xs) (sym more)
