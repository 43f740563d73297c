-- Bits from one number to another, written.
use Rattle.std.proofs.Common.{◌≡◌, ℕ, ◌+◌, ◌-◌, ◌*◌, ◌/◌, ◌^◌, ◌<◌, ◌≤◌, ◌==◌, min, max, nat_le, nat_lt, Bool, true, false, cond, ◌&&◌, ◌||◌, refl, ◌∙◌, ap, arith, w64, bit_or, bit_and}
use Rattle.std.specs.Int.{bit_at, bit_not}
use Rattle.std.proofs.Math.Nat.{pow-le-pow_right}
use Rattle.std.proofs.lemmas.Nat.{pow_pos}
use Rattle.std.proofs.lemmas.Nat.Bits.{bit_at_and, bit_at_not, bit_at-lt}
use Rattle.std.proofs.lemmas.Bool.Decides.{nat_tests}
use Rattle.pp_tree.proofs.Packing.{masked, joined}

-- the word of a mask joined to another, and taken from it
or_is : (a b : Bool) → (a || b) ≡ cond b true a
or_is true true = refl
or_is true false = refl
or_is false true = refl
or_is false false = refl

pub bits_set : (word m first last k : ℕ) → first ≤ last → m ≡ 2 ^ (last + 1) - 2 ^ first
    → (bit_at (bit_or word m) k == 1) ≡ cond (nat_le first k && nat_le k last) true (bit_at word k == 1)
bits_set word m first last k order is =
    joined word m k
    ∙ ap (λ (b : Bool). bit_at word k == 1 || b) (ap (λ (w : ℕ). bit_at w k == 1) is ∙ masked first last k order)
    ∙ or_is (bit_at word k == 1) (nat_le first k && nat_le k last)

left_of : (a b : ℕ) → a < 2 → b < 2 → (min a (1 - b) == 1) ≡ cond (b == 1) false (a == 1)
left_of a b low small = grind (arith, nat_tests)

pub bits_cleared : (word m first last k : ℕ) → first ≤ last → last < 64 → m ≡ 2 ^ (last + 1) - 2 ^ first → k < 64
    → (bit_at (bit_and word (bit_not w64 m)) k == 1) ≡ cond (nat_le first k && nat_le k last) false (bit_at word k == 1)
bits_cleared word m first last k order inside is lt =
    let up : last + 1 ≤ 64 = omega arith in
    let most : 2 ^ (last + 1) ≤ 2 ^ 64 = pow-le-pow_right {n = 2} (omega arith) up in
    ap (λ (b : ℕ). b == 1) (bit_at_and word (bit_not w64 m) k ∙ ap (λ (b : ℕ). min (bit_at word k) b) (bit_at_not w64 m k (omega (arith, is, most, pow_pos first)) lt))
    ∙ left_of (bit_at word k) (bit_at m k) (bit_at-lt word k) (bit_at-lt m k)
    ∙ ap (λ (b : Bool). cond b false (bit_at word k == 1)) (ap (λ (w : ℕ). bit_at w k == 1) is ∙ masked first last k order)

-- one word more
twice : (a b c value before : Bool) → (a || b) ≡ c → cond a value (cond b value before) ≡ cond c value before
twice true true true value before e = refl
twice true false true value before e = refl
twice false true true value before e = refl
twice false false false value before e = refl
twice true b false value before e = absurd cc
twice false true false value before e = absurd cc
twice false false true value before e = absurd cc

pub one_more : (first last w low high i : ℕ) (value next now before : Bool) → first / 64 ≤ w → w ≤ last / 64 → low ≡ max first (64 * w) → high ≡ min last (64 * w + 63)
    → next ≡ cond (nat_le low i && nat_le i high) value now
    → now ≡ cond (nat_le first i && nat_le i last && nat_lt i (64 * w)) value before
    → next ≡ cond (nat_le first i && nat_le i last && nat_lt i (64 * (w + 1))) value before
one_more first last w low high i value next now before from to low_is high_is more is =
    more ∙ ap (λ (b : Bool). cond (nat_le low i && nat_le i high) value b) is
    ∙ twice (nat_le low i && nat_le i high) (nat_le first i && nat_le i last && nat_lt i (64 * w)) (nat_le first i && nat_le i last && nat_lt i (64 * (w + 1))) value before
    joins
  where
    joins : ((nat_le low i && nat_le i high) || (nat_le first i && nat_le i last && nat_lt i (64 * w))) ≡ (nat_le first i && nat_le i last && nat_lt i (64 * (w + 1)))
    joins = grind (arith, nat_tests)
