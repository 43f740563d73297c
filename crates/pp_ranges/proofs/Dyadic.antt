-- Covers of ranges by nodes: each node is the highest that fits where it begins, so no cover is shorter.
use Rattle.std.proofs.Common.{◌≡◌, ℕ, zero, suc, ◌+◌, ◌-◌, ◌*◌, ◌/◌, ◌%◌, ◌^◌, ◌<◌, ◌≤◌, nat_lt, true, false, cond, ◌||◌, List, [], ◌∷◌, ◌++◌, length, refl, sym, ◌∙◌, ap, subst, inl, inr, arith}
use Rattle.std.proofs.lemmas.Bool.{cases_lt, cases_Bool}
use Rattle.std.proofs.lemmas.Bool.Decides.{nat_tests}
use Rattle.std.proofs.lemmas.List.{length-append}
use Rattle.std.proofs.lemmas.List.Sums.{sum_by-cons, count_by-le-length}
use Rattle.std.proofs.lemmas.Nat.{pow_pos}
use Rattle.std.proofs.Math.Nat.{mul-le-mul_left, mul-div_cancel, lt_of_mul-lt-mul_right}
use Rattle.std.proofs.Math.Pow.{pow_mono}
use Rattle.pp_terms.specs.tree.Tree.{Node}
use Rattle.pp_terms.specs.tree.Range.{Span, within, leaves_of, is_covered, IsTiling, IsLeastCover}
use Rattle.pp_terms.proofs.Within.{within_from}
use Rattle.pp_terms.proofs.Binning.{double}
use Rattle.pp_ranges.specs.Covering.{IsMultiple, IsCoverTo, begun_below}

-- powers of two and their multiples
power_sum : (k d : ℕ) → 2 ^ (d + k) ≡ 2 ^ d * 2 ^ k
power_sum k zero = grind arith
power_sum k (suc d) =
    let rest = power_sum k d in
    let up : suc d + k ≡ suc (d + k) = omega arith in
    let left : 2 ^ suc (d + k) ≡ 2 * 2 ^ (d + k) = grind arith in
    let right : 2 ^ suc d ≡ 2 * 2 ^ d = grind arith in
    ap (λ n. 2 ^ n) up ∙ left ∙ ap (λ n. 2 * n) rest ∙ assoc (2 ^ d) (2 ^ k) ∙ ap (λ n. n * 2 ^ k) (sym right)
  where
    assoc : (a b : ℕ) → 2 * (a * b) ≡ 2 * a * b
    assoc a b = grind arith

power_split : (k l : ℕ) → k ≤ l → 2 ^ l ≡ 2 ^ (l - k) * 2 ^ k
power_split k l le = let sum : l - k + k ≡ l = omega arith in ap (λ n. 2 ^ n) (sym sum) ∙ power_sum k (l - k)

same_by_factor : (a b c : ℕ) → 0 < c → a * c ≡ b * c → a ≡ b
same_by_factor a b c some e =
    let one = elim (cases_lt a b) as (λ _. b ≤ a) [
      | inl lt ↦ (let up : a + 1 ≤ b = omega arith in let times = mul-le-mul_left c up in absurd (omega (arith, times)))
      | inr ge ↦ ge
    ] in
    let two = elim (cases_lt b a) as (λ _. a ≤ b) [
      | inl lt ↦ (let up : b + 1 ≤ a = omega arith in let times = mul-le-mul_left c up in absurd (omega (arith, times)))
      | inr ge ↦ ge
    ] in
    omega arith

times_assoc : (a b c : ℕ) → a * (b * c) ≡ a * b * c
times_assoc a b c = grind arith

-- a node of a lower layer doesn't cross a multiple
no_crossing : (m j l k : ℕ) → l ≤ k → j * 2 ^ l < m * 2 ^ k → m * 2 ^ k < (j + 1) * 2 ^ l → ⊥
no_crossing m j l k le low high =
    let e : m * 2 ^ k ≡ m * 2 ^ (k - l) * 2 ^ l = ap (λ n. m * n) (power_split l k le) ∙ times_assoc m (2 ^ (k - l)) (2 ^ l) in
    let low' : j * 2 ^ l < m * 2 ^ (k - l) * 2 ^ l = omega (arith, e) in
    let high' : m * 2 ^ (k - l) * 2 ^ l < (j + 1) * 2 ^ l = omega (arith, e) in
    let one = lt_of_mul-lt-mul_right (2 ^ l) {m = j} {n = m * 2 ^ (k - l)} low' in
    let two = lt_of_mul-lt-mul_right (2 ^ l) {m = m * 2 ^ (k - l)} {n = j + 1} high' in
    omega arith

-- one of a higher layer that begins before a node's end begins no later than it
begins_before : (q j l k : ℕ) → k ≤ l → j * 2 ^ l < (q + 1) * 2 ^ k → j * 2 ^ l ≤ q * 2 ^ k
begins_before q j l k le lt =
    let e : j * 2 ^ l ≡ j * 2 ^ (l - k) * 2 ^ k = ap (λ n. j * n) (power_split k l le) ∙ times_assoc j (2 ^ (l - k)) (2 ^ k) in
    let lt' : j * 2 ^ (l - k) * 2 ^ k < (q + 1) * 2 ^ k = omega (arith, e) in
    let less = lt_of_mul-lt-mul_right (2 ^ k) {m = j * 2 ^ (l - k)} {n = q + 1} lt' in
    let le' : j * 2 ^ (l - k) ≤ q = omega arith in
    let up = mul-le-mul_left (2 ^ k) le' in
    omega (arith, e, up)

-- an odd multiple is no multiple of a higher power
odd_is_highest : (q j l k : ℕ) → k < l → q % 2 ≡ 1 → q * 2 ^ k ≡ j * 2 ^ l → ⊥
odd_is_highest q j l k lt odd e =
    let some : 0 < 2 ^ k = pow_pos k in
    let le : k ≤ l = omega arith in
    let split : j * 2 ^ l ≡ j * 2 ^ (l - k) * 2 ^ k = ap (λ n. j * n) (power_split k l le) ∙ times_assoc j (2 ^ (l - k)) (2 ^ k) in
    let same = same_by_factor q (j * 2 ^ (l - k)) (2 ^ k) some (e ∙ split) in
    let up : l - k ≡ suc (l - k - 1) = omega arith in
    let two : 2 ^ suc (l - k - 1) ≡ 2 ^ (l - k - 1) * 2 = grind arith in
    let even : j * 2 ^ (l - k) ≡ j * 2 ^ (l - k - 1) * 2 =
    ap (λ n. j * 2 ^ n) up ∙ ap (λ n. j * n) two ∙ times_assoc j (2 ^ (l - k - 1)) 2 in
    omega (arith, same, even)

-- counting nodes by where they begin
begun_cons : (n : ℕ) (y : Node) (ys : List Node) → begun_below n (y ∷ ys) ≡ cond {A = ℕ} (nat_lt (y.offset * 2 ^ y.layer) n) 1 0 + begun_below n ys
begun_cons n y ys = sum_by-cons (λ (z : Node). cond {A = ℕ} (nat_lt (z.offset * 2 ^ z.layer) n) 1 0) y ys

more_begun : (ys : List Node) (a b : ℕ) → a ≤ b → begun_below a ys ≤ begun_below b ys
more_begun [] a b le = omega arith
more_begun (y ∷ ys) a b le =
    let rest = more_begun ys a b le in
    let one = begun_cons a y ys in
    let two = begun_cons b y ys in
    let here : cond {A = ℕ} (nat_lt (y.offset * 2 ^ y.layer) a) 1 0 ≤ cond {A = ℕ} (nat_lt (y.offset * 2 ^ y.layer) b) 1 0 = one_step (y.offset * 2 ^ y.layer) in
    omega (arith, rest, one, two, here)
  where
    one_step : (f : ℕ) → cond {A = ℕ} (nat_lt f a) 1 0 ≤ cond {A = ℕ} (nat_lt f b) 1 0
    one_step f = grind (arith, nat_tests)

counted_at : (f a b : ℕ) → f ≡ a → a < b → (cond {A = ℕ} (nat_lt f a) 1 0 ≡ 0) × (cond {A = ℕ} (nat_lt f b) 1 0 ≡ 1)
counted_at f a b e lt = (grind (arith, nat_tests), grind (arith, nat_tests))

counted_more : (f a b : ℕ) → a ≤ b → cond {A = ℕ} (nat_lt f a) 1 0 ≤ cond {A = ℕ} (nat_lt f b) 1 0
counted_more f a b le = grind (arith, nat_tests)

span_has : (s : Span) (i : ℕ) → within s i ≡ true → (s.first ≤ i) × (i ≤ s.last)
span_has s i h = (grind (arith, nat_tests), grind (arith, nat_tests))

covered_here : (y : Node) (ys : List Node) (i : ℕ) → within (leaves_of y) i ≡ true → is_covered (y ∷ ys) i ≡ true
covered_here y ys i h = ap (λ t. t || is_covered ys i) h

covered_there : (y : Node) (ys : List Node) (i : ℕ) → is_covered ys i ≡ true → is_covered (y ∷ ys) i ≡ true
covered_there y ys i h = ap (λ t. within (leaves_of y) i || t) h
    ∙ elim (within (leaves_of y) i) as (λ b. (b || true) ≡ true) [ true ↦ refl | false ↦ refl ]

-- a node that covers the next leaf begins there
one_more : (ys : List Node) (low end at b : ℕ) → at < b → is_covered ys at ≡ true
    → ((i : ℕ) → is_covered ys i ≡ true → (low ≤ i) × (i < end))
    → ((l j : ℕ) → low ≤ j * 2 ^ l → (j + 1) * 2 ^ l ≤ end → j * 2 ^ l ≤ at → at < (j + 1) * 2 ^ l → at ≤ j * 2 ^ l)
    → begun_below at ys + 1 ≤ begun_below b ys
one_more [] low end at b lt here inside apart = cc
one_more (y ∷ ys) low end at b lt here inside apart =
    let one = begun_cons at y ys in
    let two = begun_cons b y ys in
    let order : at ≤ b = omega arith in
    elim (cases_Bool (within (leaves_of y) at)) [
      | inl has_it ↦
          let some : 0 < 2 ^ y.layer = pow_pos y.layer in
          let span = span_has (leaves_of y) at has_it in
          let wide : y.offset * 2 ^ y.layer ≤ (y.offset + 1) * 2 ^ y.layer - 1 = omega arith in
          let same_first : y.offset * 2 ^ y.layer ≤ y.offset * 2 ^ y.layer = omega arith in
          let same_last : (y.offset + 1) * 2 ^ y.layer - 1 ≤ (y.offset + 1) * 2 ^ y.layer - 1 = omega arith in
          let left = (inside (y.offset * 2 ^ y.layer) (covered_here y ys (y.offset * 2 ^ y.layer)
          (within_from (leaves_of y) (y.offset * 2 ^ y.layer) same_first wide))).0 in
          let right = (inside ((y.offset + 1) * 2 ^ y.layer - 1) (covered_here y ys ((y.offset + 1) * 2 ^ y.layer - 1)
          (within_from (leaves_of y) ((y.offset + 1) * 2 ^ y.layer - 1) wide same_last))).1 in
          let begins = apart y.layer y.offset left (omega (arith, right)) span.0 (omega (arith, span.1)) in
          let first : y.offset * 2 ^ y.layer ≡ at = omega (arith, span.0, begins) in
          let counts = counted_at (y.offset * 2 ^ y.layer) at b first lt in
          let rest = more_begun ys at b order in
          omega (arith, one, two, counts.0, counts.1, rest)
      | inr not_it ↦
          let there = sym (ap (λ t. t || is_covered ys at) not_it) ∙ here in
          let rest = one_more ys low end at b lt there (λ i h. inside i (covered_there y ys i h)) apart in
          let more = counted_more (y.offset * 2 ^ y.layer) at b order in
          omega (arith, one, two, rest, more)
    ]

tiling_more : (from at : ℕ) (nodes : List Node) (x : Node) → IsTiling from at nodes → x.offset * 2 ^ x.layer ≡ at
    → IsTiling from (at + 2 ^ x.layer) (nodes ++ x ∷ [])
tiling_more from at [] x is e = (e ∙ sym is, ap (λ n. n + 2 ^ x.layer) is)
tiling_more from at (y ∷ ys) x is e = (is.0, tiling_more (from + 2 ^ y.layer) at ys x is.1 e)

-- one node more
pub cover_more : (low end at k q : ℕ) (nodes : List Node) → IsCoverTo low end at nodes → at ≡ q * 2 ^ k → at + 2 ^ k ≤ end
    → ((l j : ℕ) → k < l → at ≡ j * 2 ^ l → at + 2 ^ l ≤ end → ⊥)
    → IsCoverTo low end (at + 2 ^ k) (nodes ++ record { layer = k; offset = q } ∷ [])
cover_more low end at k q nodes is here fits highest =
    let some : 0 < 2 ^ k = pow_pos k in
    let next : at + 2 ^ k ≡ (q + 1) * 2 ^ k = omega (arith, here) in
    let from = is.order in
    record {
      order = omega arith;
      tiles = tiling_more low at nodes (record { layer = k; offset = q }) is.tiles (sym here);
      apart = λ l j left right begins ends. elim (cases_lt (j * 2 ^ l) (at + 2 ^ k)) [
        | inr ge ↦ ge
        | inl before ↦ elim (cases_lt k l) [
          | inr le ↦ absurd (no_crossing (q + 1) j l k le (omega (arith, next)) (omega (arith, next)))
          | inl higher ↦
              let le : k ≤ l = omega arith in
              let early = begins_before q j l k le (omega (arith, next)) in
              let start = is.apart l j left right (omega (arith, early, here)) (omega (arith, ends)) in
              let same : at ≡ j * 2 ^ l = omega (arith, early, here, start) in
              absurd (highest l j higher same (omega (arith, right, same)))
        ]
      ];
      least = λ others inside covers.
          let before = is.least others inside covers in
          let lt : at < at + 2 ^ k = omega arith in
          let here' = covers at is.order (omega arith) in
          let more = one_more others low end at (at + 2 ^ k) lt here' inside is.apart in
          let size = length-append nodes (record { layer = k; offset = q } ∷ []) in
          omega (arith, before, more, size);
    }

pub cover_begins : (low end : ℕ) → IsCoverTo low end low []
cover_begins low end = record {
  order = omega arith;
  tiles = refl;
  apart = λ l j left right begins ends. left;
  least = λ others inside covers. omega arith;
}

-- the highest node at an odd multiple, and one that is highest since the next doesn't fit
pub odd_highest : (end at k q : ℕ) → at ≡ q * 2 ^ k → q % 2 ≡ 1 → (l j : ℕ) → k < l → at ≡ j * 2 ^ l → at + 2 ^ l ≤ end → ⊥
odd_highest end at k q here odd = λ l j lt e fits. odd_is_highest q j l k lt odd (sym here ∙ e)

pub last_highest : (end at k : ℕ) → end < at + 2 ^ suc k → (l j : ℕ) → k < l → at ≡ j * 2 ^ l → at + 2 ^ l ≤ end → ⊥
last_highest end at k over = λ l j lt e fits. let up : 2 ^ suc k ≤ 2 ^ l = pow_mono lt in omega arith

-- the cover of the whole range
pub cover_ends : (span : Span) (end : ℕ) (nodes : List Node) → end ≡ span.last + 1 → IsCoverTo span.first end end nodes
    → IsLeastCover span nodes
cover_ends span end nodes e is = record {
  tiles = subst (λ n. IsTiling span.first n nodes) e is.tiles;
  least = λ others same.
      let few = is.least others
      (λ i h. let both = span_has span i (sym (same i) ∙ h) in (both.0, omega (arith, both.1)))
      (λ i low high. same i ∙ within_from span i low (omega arith)) in
      let all = count_by-le-length (λ (y : Node). nat_lt (y.offset * 2 ^ y.layer) end) others in
      omega (arith, few, all);
}

-- one node covers all
pub cover_of_all : (span : Span) (k : ℕ) → span.first ≡ 0 → span.last + 1 ≡ 2 ^ k → IsLeastCover span (record { layer = k; offset = 0 } ∷ [])
cover_of_all span k first last = record {
  tiles = (omega arith, omega arith);
  least = λ others same. some_node others (same 0 ∙ within_from span 0 (omega arith) (omega arith));
}
  where
    some_node : (others : List Node) → is_covered others 0 ≡ true → 1 ≤ length others
    some_node [] h = cc
    some_node (y ∷ ys) h = omega arith

-- the quotient of a multiple, and the multiples of the next power
pub quotient_of : (at k : ℕ) → IsMultiple k at → at ≡ at / 2 ^ k * 2 ^ k
quotient_of at k (m, e) =
    let some : 0 < 2 ^ k = pow_pos k in
    let q : at / 2 ^ k ≡ m = ap (λ n. n / 2 ^ k) e ∙ mul-div_cancel m some in
    e ∙ ap (λ n. n * 2 ^ k) (sym q)

pub even_multiple : (at k q : ℕ) → at ≡ q * 2 ^ k → (q % 2 ≡ 1 → ⊥) → IsMultiple (k + 1) at
even_multiple at k q e even =
    let half : q ≡ q / 2 * 2 = omega arith in
    (q / 2, e ∙ ap (λ n. n * 2 ^ k) half ∙ (let a = times_assoc (q / 2) 2 (2 ^ k) in sym a) ∙ ap (λ n. q / 2 * n) (sym (double k)))

pub odd_multiple : (at k q : ℕ) → at ≡ q * 2 ^ k → q % 2 ≡ 1 → IsMultiple (k + 1) (at + 2 ^ k)
odd_multiple at k q e odd =
    let next : at + 2 ^ k ≡ (q + 1) * 2 ^ k = omega (arith, e) in
    even_multiple (at + 2 ^ k) k (q + 1) next (λ h. absurd (omega arith))

pub lower_multiple : (at k : ℕ) → IsMultiple (suc k) at → IsMultiple k at
lower_multiple at k (m, e) =
    let two : 2 ^ suc k ≡ 2 * 2 ^ k = grind arith in
    (m * 2, e ∙ ap (λ n. m * n) two ∙ times_assoc m 2 (2 ^ k))

pub next_multiple : (at k : ℕ) → IsMultiple k at → IsMultiple k (at + 2 ^ k)
next_multiple at k (m, e) = (m + 1, omega (arith, e))
