-- The height of a tree as the least power of two that holds its leaves.
use Rattle.std.proofs.Common.{◌≡◌, ℕ, zero, suc, ◌+◌, ◌-◌, ◌*◌, ◌^◌, ◌≤◌, ◌<◌, min, Bool, true, false, cond, nat_lt, sym, subst, ap, ◌∙◌, inl, inr, arith}
use Rattle.std.specs.Prelude.{count_by}
use Rattle.std.specs.List.{range_with_len}
use Rattle.std.specs.Int.{leading_zeros, w32}
use Rattle.std.proofs.lemmas.Nat.{leading_length}
use Rattle.std.proofs.Math.Pow.{pow_mono}
use Rattle.std.proofs.lemmas.Bool.{cases_lt}
use Rattle.std.proofs.lemmas.Bool.Decides.{nat_tests}
use Rattle.std.proofs.lemmas.List.Sums.{sum_by-cons}
use Rattle.pp_terms.specs.tree.Tree.{height, IsHeight}

-- of the numbers from s on those below h are counted
counted : (p : ℕ → Bool) (h : ℕ) → ((k : ℕ) → k < h → p k ≡ true) → ((k : ℕ) → h ≤ k → p k ≡ false)
    → (len s : ℕ) → count_by p (range_with_len s len) ≡ min (h - s) len
counted p h below above zero s = omega arith
counted p h below above (suc len) s =
    let rest = counted p h below above len (s + 1) in
    let more : count_by p (range_with_len s (suc len)) ≡ cond {A = ℕ} (p s) 1 0 + count_by p (range_with_len (s + 1) len) =
    sum_by-cons (λ k. cond (p k) 1 0) s (range_with_len (s + 1) len) in
    elim (cases_lt s h) [
      | inl lt ↦ let one : cond {A = ℕ} (p s) 1 0 ≡ 1 = ap (λ (b : Bool). cond {A = ℕ} b 1 0) (below s lt) in omega arith
      | inr ge ↦ let none : cond {A = ℕ} (p s) 1 0 ≡ 0 = ap (λ (b : Bool). cond {A = ℕ} b 1 0) (above s ge) in omega arith
    ]

-- a height as what it is, is the count
pub height_of_least : (n h : ℕ) → IsHeight n h → h ≤ 20 → height n ≡ h
unfolding height
height_of_least n h is low =
    counted (λ k. nat_lt (2 ^ k) n) h
    (λ k lt. grind (arith, nat_tests, is.least k lt))
    (λ k ge. let up : 2 ^ h ≤ 2 ^ k = pow_mono ge in grind (arith, nat_tests, is.covers))
    20 0 ∙ omega arith

-- a power of two, doubled
double : (k : ℕ) → 2 ^ suc k ≡ 2 * 2 ^ k
double k = grind arith

-- the number of binary digits of n - 1
pub least_by_digits : (n m : ℕ) → 0 < n → n - 1 < 2 ^ m → 2 ^ m ≤ 2 * (n - 1) + 1 → IsHeight n m
least_by_digits n m some covers least = record {
  covers = omega arith;
  least = λ k lt. let up : 2 ^ suc k ≤ 2 ^ m = pow_mono lt in omega (arith, double k);
}

least_low : (n m : ℕ) → IsHeight n m → n ≤ 2 ^ 20 → m ≤ 20
least_low n m is low = elim (cases_lt 20 m) [
  | inl gt ↦ let big : 2 ^ 20 < n = is.least 20 gt in absurd (omega arith)
  | inr le ↦ le
]

-- a height by its binary digits, of which z of 32 are zeros in front
height_by_digits : (n z m : ℕ) → z + m ≡ 32 → 0 < n → n ≤ 2 ^ 20 → n - 1 < 2 ^ m → 2 ^ m ≤ 2 * (n - 1) + 1
    → IsHeight n (32 - z) × (32 - z ≤ 20) × (32 - z ≡ height n)
height_by_digits n z m e some low covers least =
    let same : m ≡ 32 - z = omega arith in
    let is = subst (λ (h : ℕ). IsHeight n h) same (least_by_digits n m some covers least) in
    let bound = least_low n (32 - z) is low in
    (is, bound, sym (height_of_least n (32 - z) is bound))

-- the body of `height`: the height, as what it is and as the count
pub height_by_zeros : (n : ℕ) → 0 < n → n ≤ 2 ^ 20
    → IsHeight n (32 - leading_zeros w32 (n - 1)) × (32 - leading_zeros w32 (n - 1) ≤ 20) × (32 - leading_zeros w32 (n - 1) ≡ height n)
height_by_zeros n some low =
    let fits : n - 1 < 2 ^ 32 = omega arith in
    let digits = leading_length 32 (n - 1) fits in
    height_by_digits n (leading_zeros w32 (n - 1)) digits.0 digits.1 some low digits.2 digits.3

-- The count is the height, for up to 2 ^ 20 leaves.
pub height_is : (n : ℕ) → 0 < n → n ≤ 2 ^ 20 → IsHeight n (height n)
height_is n some low =
    let all = height_by_zeros n some low in subst (λ (m : ℕ). IsHeight n m) all.2 all.0
