-- What bins of both widths share.
use Rattle.std.proofs.Common.{◌≡◌, ℕ, ◌+◌, ◌-◌, ◌*◌, ◌/◌, ◌%◌, ◌^◌, ◌≤◌, ◌<◌, ◌≢◌, sym, ap, ◌∙◌, arith}
use Rattle.std.proofs.lemmas.Nat.{pow_pos, pow-add}
use Rattle.std.proofs.Math.Nat.{mul-le-mul_left, mul-le-mul_right, mod-eq_of_lt, div-eq_of_lt, lt-div-mul-add}
use Rattle.pp_terms.specs.tree.Tree.{Node}
use Rattle.pp_terms.specs.tree.Bins.{bin_number, IsBin, first_leaf, last_leaf}
use Rattle.pp_bins.specs.Answers.{IsOfWidth}
use Rattle.pp_terms.proofs.Binning.{bin_number-add-one, layer_low, fits, fits_only, leaves}

-- ---- the number

pub odd_fits : (w : ℕ) (n : Node) → IsBin w n → 2 * n.offset + 1 < 2 ^ w
odd_fits w n is =
    let le : (2 * n.offset + 1) * 1 ≤ (2 * n.offset + 1) * 2 ^ n.layer = mul-le-mul_left (2 * n.offset + 1) (pow_pos n.layer) in
    omega (arith, bin_number-add-one n)

small : (x y : ℕ) → x < y → x % y ≡ x
small x y lt = mod-eq_of_lt lt

pub shifted : (w : ℕ) (n : Node) → IsBin w n → ((2 * n.offset + 1) * 2 ^ n.layer) % 2 ^ w ≡ bin_number n + 1
shifted w n is = small ((2 * n.offset + 1) * 2 ^ n.layer) (2 ^ w) (omega (arith, bin_number-add-one n)) ∙ sym (bin_number-add-one n)

-- ---- the leaves

pub first_shifted : (w : ℕ) (n : Node) → IsBin w n → (n.offset * 2 ^ n.layer) % 2 ^ w ≡ first_leaf n
first_shifted w n is = small (n.offset * 2 ^ n.layer) (2 ^ w) (omega (arith, leaves n))

pub one_shifted : (w : ℕ) (n : Node) → IsBin w n → (1 * 2 ^ n.layer) % 2 ^ w ≡ 2 ^ n.layer
one_shifted w n is = small (1 * 2 ^ n.layer) (2 ^ w) (omega (arith, leaves n, pow_pos n.layer)) ∙ omega arith

pub last_from_first : (n : Node) → first_leaf n + (2 ^ n.layer - 1) ≡ last_leaf n
last_from_first n = omega (arith, pow_pos n.layer)

-- the leaves of a width are half as many as its numbers
last_within : (w : ℕ) (n : Node) → IsBin w n → last_leaf n < 2 ^ (w - 1)
last_within w n is =
    let low = layer_low w n is in
    let some = fits_only w n is in
    let le : (n.offset + 1) * 2 ^ n.layer ≤ 2 ^ (w - 1 - n.layer) * 2 ^ n.layer = mul-le-mul_right (2 ^ n.layer) (omega (arith, some)) in
    let e : 2 ^ (w - 1) ≡ 2 ^ (w - 1 - n.layer) * 2 ^ n.layer =
    let sum : w - 1 ≡ (w - 1 - n.layer) + n.layer = omega (arith, low) in
    ap (λ (k : ℕ). 2 ^ k) sum ∙ pow-add 2 (w - 1 - n.layer) n.layer in
    omega (arith, le, e, pow_pos n.layer)

pub of_width : (w : ℕ) (n : Node) → IsBin w n → IsOfWidth w n
of_width w n is = record { number = is; layer = layer_low w n is; leaves = last_within w n is }

-- ---- a layer and an offset

below_by_quotient : (x y : ℕ) → 0 < y → x / y ≡ 0 → x < y
below_by_quotient x y some e =
    let lt : x < x / y * y + y = lt-div-mul-add some in
    let none : x / y * y ≡ 0 = ap (λ (q : ℕ). q * y) e ∙ omega arith in
    omega arith

quotient_of_low : (x y : ℕ) → x < y → x / y ≡ 0
quotient_of_low x y lt = div-eq_of_lt lt

pub is_bin : (w : ℕ) (n : Node) → n.layer < w → n.offset / 2 ^ (w - 1 - n.layer) ≡ 0 → IsBin w n
is_bin w n low e = fits w n low (below_by_quotient n.offset (2 ^ (w - 1 - n.layer)) (pow_pos (w - 1 - n.layer)) e)

pub is_no_bin : (w : ℕ) (n : Node) → n.offset / 2 ^ (w - 1 - n.layer) ≢ 0 → IsBin w n → ⊥
is_no_bin w n ne is = ne (quotient_of_low n.offset (2 ^ (w - 1 - n.layer)) (fits_only w n is))
