-- Bins and their numbers.
use Rattle.std.proofs.Common.{◌≡◌, ℕ, zero, suc, ◌+◌, ◌-◌, ◌*◌, ◌/◌, ◌%◌, ◌^◌, ◌≤◌, ◌<◌, ◌⊎◌, refl, sym, ap, ◌∙◌, add-one, arith, inl, inr}
use Rattle.std.specs.Int.{Width, w32, w64, bit_at, trailing_ones}
use mir.Val.{bits}
use Rattle.std.proofs.lemmas.Bool.{cases_lt}
use Rattle.std.proofs.lemmas.Nat.{pow_pos, pow-add}
use Rattle.std.proofs.lemmas.Nat.Bits.{bit_at_lowest, bit_at-suc, bit_at-trailing_ones}
use Rattle.std.proofs.Math.Nat.{div-div-eq-div-mul, mul-le-mul_right}
use Rattle.std.proofs.Math.Pow.{pow_mono}
use Rattle.pp_terms.specs.tree.Tree.{Node}
use Rattle.pp_terms.specs.tree.Bins.{bin_number, IsBin, bin_of, first_leaf, last_leaf, BinsAreNumbers}

doubled : (k : ℕ) → 2 ^ suc k ≡ 2 * 2 ^ k
doubled k = grind arith

pub double : (k : ℕ) → 2 ^ (k + 1) ≡ 2 * 2 ^ k
double k = rw (add-one k) (doubled k)

odd_multiple : (p q o : ℕ) → q ≡ 2 * p → 0 < p → q * o + p - 1 + 1 ≡ (2 * o + 1) * p
odd_multiple p q o e some = rw e (omega arith)

-- a number and one more is an odd multiple of a power of two
pub bin_number-add-one : (n : Node) → bin_number n + 1 ≡ (2 * n.offset + 1) * 2 ^ n.layer
bin_number-add-one n = odd_multiple (2 ^ n.layer) (2 ^ (n.layer + 1)) n.offset (double n.layer) (pow_pos n.layer)

-- ---- one bin for each number

twice_of : (a k : ℕ) → a * 2 ^ suc k ≡ 2 * (a * 2 ^ k)
twice_of a k = rw (doubled k) (omega arith)

halved : (a b : ℕ) → 2 * a ≡ 2 * b → a ≡ b
halved a b e = omega arith

same_multiple : (k l o p : ℕ) → (2 * o + 1) * 2 ^ k ≡ (2 * p + 1) * 2 ^ l → (k ≡ l) × (o ≡ p)
same_multiple zero zero o p e = (refl, omega arith)
same_multiple zero (suc l) o p e = absurd (omega (arith, twice_of (2 * p + 1) l))
same_multiple (suc k) zero o p e = absurd (omega (arith, twice_of (2 * o + 1) k))
same_multiple (suc k) (suc l) o p e =
    let half : (2 * o + 1) * 2 ^ k ≡ (2 * p + 1) * 2 ^ l =
    halved _ _ (sym (twice_of (2 * o + 1) k) ∙ e ∙ twice_of (2 * p + 1) l) in
    let same = same_multiple k l o p half in
    (ap suc same.0, same.1)

pub one_bin : (a b : Node) → bin_number a ≡ bin_number b → a ≡ b
one_bin a b e =
    let same = same_multiple a.layer b.layer a.offset b.offset
    (sym (bin_number-add-one a) ∙ ap (λ (n : ℕ). n + 1) e ∙ bin_number-add-one b) in
    let at : ℕ → ℕ → Node = λ k o. record { layer = k; offset = o } in
    ap (λ (k : ℕ). at k a.offset) same.0 ∙ ap (λ (o : ℕ). at b.layer o) same.1

-- ---- the layer is the count of trailing ones

run_of_ones : (k n : ℕ) → ((i : ℕ) → i < k → bit_at n i ≡ 1) → n + 1 ≡ (n / 2 ^ k + 1) * 2 ^ k
run_of_ones zero n ones = omega arith
run_of_ones (suc k) n ones =
    let low : n % 2 ≡ 1 = sym (bit_at_lowest n) ∙ ones 0 (omega arith) in
    let half = run_of_ones k (n / 2) (λ i lt. sym (bit_at-suc n i) ∙ ones (suc i) (omega arith)) in
    let e : n / 2 ^ suc k ≡ n / 2 / 2 ^ k = ap (λ (p : ℕ). n / p) (doubled k) ∙ sym (div-div-eq-div-mul n 2 (2 ^ k)) in
    rw (e, doubled k) (omega (arith, half, low))

-- the bin of a number by its binary digits
pub by_trailing_ones : (w : Width) (n : ℕ) → n + 1 < 2 ^ bits w
    → (trailing_ones w n < bits w) × (bin_number (record { layer = trailing_ones w n; offset = n / 2 ^ trailing_ones w n / 2 }) ≡ n)
by_trailing_ones w n lt =
    let h = bit_at-trailing_ones w n lt in
    let k : ℕ = trailing_ones w n in
    let o : ℕ = n / 2 ^ k / 2 in
    let even : n / 2 ^ k ≡ 2 * o = omega (arith, h.1) in
    let odd : n + 1 ≡ (2 * o + 1) * 2 ^ k = run_of_ones k n h.2 ∙ ap (λ (m : ℕ). (m + 1) * 2 ^ k) even in
    (h.0, omega (arith, odd, bin_number-add-one (record { layer = k; offset = o })))

pub layer_is_ones : (w : Width) (n : Node) → IsBin (bits w) n → trailing_ones w (bin_number n) ≡ n.layer
layer_is_ones w n is =
    let h = by_trailing_ones w (bin_number n) (omega arith) in ap (λ (m : Node). m.layer) (one_bin _ n h.1)

-- ---- the bin of a number

bin_of-even : (w n : ℕ) → n % 2 ≡ 0 → bin_of (suc w) n ≡ record { layer = 0; offset = n / 2 }
bin_of-even w n e = rw e refl

bin_of-odd : (w n : ℕ) → n % 2 ≡ 1 → bin_of (suc w) n ≡ record (bin_of w (n / 2)) { layer = (bin_of w (n / 2)).layer + 1 }
bin_of-odd w n e = rw e refl

one_higher : (n : Node) → bin_number (record n { layer = n.layer + 1 }) ≡ 2 * bin_number n + 1
one_higher n =
    let up = bin_number-add-one (record n { layer = n.layer + 1 }) in
    let here = bin_number-add-one n in
    let twice : (2 * n.offset + 1) * 2 ^ (n.layer + 1) ≡ 2 * ((2 * n.offset + 1) * 2 ^ n.layer) =
    ap (λ (p : ℕ). (2 * n.offset + 1) * p) (double n.layer) ∙ omega arith in
    omega (arith, up, here, twice)

parity : (n : ℕ) → (n % 2 ≡ 0) ⊎ (n % 2 ≡ 1)
parity n = grind arith

pub number_of_bin : (w n : ℕ) → n < 2 ^ w - 1 → bin_number (bin_of w n) ≡ n
number_of_bin zero n lt = absurd (omega arith)
number_of_bin (suc w) n lt = elim (parity n) [
  | inl e ↦ ap bin_number (bin_of-even w n e) ∙ omega arith
  | inr e ↦
      let half = number_of_bin w (n / 2) (omega (arith, doubled w)) in
      ap bin_number (bin_of-odd w n e) ∙ one_higher (bin_of w (n / 2)) ∙ omega (arith, half)
]

pub bin_of_number : (w : ℕ) (n : Node) → IsBin w n → bin_of w (bin_number n) ≡ n
bin_of_number w n is = one_bin _ n (number_of_bin w (bin_number n) is)

-- ---- which layers and offsets have a number

pub layer_low : (w : ℕ) (n : Node) → IsBin w n → n.layer < w
layer_low w n is = elim (cases_lt n.layer w) [
  | inl lt ↦ lt
  | inr ge ↦
      let up : 2 ^ w ≤ 2 ^ n.layer = pow_mono ge in
      let times : 1 * 2 ^ n.layer ≤ (2 * n.offset + 1) * 2 ^ n.layer = mul-le-mul_right (2 ^ n.layer) (omega arith) in
      absurd (omega (arith, bin_number-add-one n))
]

-- a power of two, by the layer and what is above it
halves : (w k : ℕ) → k < w → 2 ^ w ≡ 2 * (2 ^ (w - 1 - k) * 2 ^ k)
halves w k lt =
    let e : w ≡ suc ((w - 1 - k) + k) = omega arith in
    ap (λ (n : ℕ). 2 ^ n) e ∙ doubled ((w - 1 - k) + k) ∙ ap (λ (n : ℕ). 2 * n) (pow-add 2 (w - 1 - k) k)

pub fits : (w : ℕ) (n : Node) → n.layer < w → n.offset < 2 ^ (w - 1 - n.layer) → IsBin w n
fits w n low lt =
    let p : ℕ = 2 ^ n.layer in
    let q : ℕ = 2 ^ (w - 1 - n.layer) in
    let le : (n.offset + 1) * p ≤ q * p = mul-le-mul_right p (omega arith) in
    let all : 2 ^ w ≡ 2 * (q * p) = halves w n.layer low in
    omega (arith, bin_number-add-one n, pow_pos n.layer)

pub fits_only : (w : ℕ) (n : Node) → IsBin w n → n.offset < 2 ^ (w - 1 - n.layer)
fits_only w n is = elim (cases_lt n.offset (2 ^ (w - 1 - n.layer))) [
  | inl lt ↦ lt
  | inr ge ↦
      let p : ℕ = 2 ^ n.layer in
      let q : ℕ = 2 ^ (w - 1 - n.layer) in
      let le : q * p ≤ n.offset * p = mul-le-mul_right p ge in
      let all : 2 ^ w ≡ 2 * (q * p) = halves w n.layer (layer_low w n is) in
      absurd (omega (arith, bin_number-add-one n, pow_pos n.layer))
]

-- ---- the leaves

-- a bin's number is the sum of its least and its greatest leaf
pub leaves : (n : Node) → first_leaf n + last_leaf n ≡ bin_number n
leaves n = omega (arith, bin_number-add-one n, pow_pos n.layer)

pub first_is_low : (n : Node) → first_leaf n ≤ bin_number n
first_is_low n = omega (arith, leaves n)

pub last_is_low : (n : Node) → last_leaf n ≤ bin_number n
last_is_low n = omega (arith, leaves n)

pub bins_are_numbers : BinsAreNumbers
bins_are_numbers = (number_of_bin, one_bin, layer_is_ones w32, layer_is_ones w64, leaves)
