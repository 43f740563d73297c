-- Numbers in bit planes, digit by digit.
use Rattle.std.proofs.Common.{◌≡◌, ℕ, ◌+◌, ◌*◌, ◌/◌, ◌%◌, ◌^◌, ◌-◌, ◌<◌, ◌==◌, min, Bool, true, false, ◌&&◌, refl, ◌∙◌, ap, arith, bit_and, bit_xor, w64}
use Rattle.std.specs.Int.{bit_at, bit_not}
use Rattle.std.proofs.lemmas.Nat.Bits.{bit_at_and, bit_at_xor, bit_at_not, bit_at-lt}
use Rattle.std.proofs.lemmas.Bool.Decides.{nat_tests}

-- a digit added, and one taken off
pub added : (a b k : ℕ) → bit_at (bit_xor a b) k + 2 * bit_at (bit_and a b) k ≡ bit_at a k + bit_at b k
added a b k = omega (arith, bit_at_xor a b k, bit_at_and a b k, bit_at-lt a k, bit_at-lt b k)

pub taken_off : (a b k : ℕ) → bit_at (bit_xor a b) k + bit_at b k ≡ bit_at a k + 2 * bit_at (bit_and (bit_xor a b) b) k
taken_off a b k = omega (arith, bit_at_xor a b k, bit_at_and (bit_xor a b) b k, bit_at-lt a k, bit_at-lt b k)

-- the places whose digit is 0
pub other_digits : (plane digit k : ℕ) → plane < 2 ^ 64 → k < 64 → digit < 2 → (digit ≡ 1 → ⊥) → (bit_at (bit_not w64 plane) k == 1) ≡ (bit_at plane k == digit)
other_digits plane digit k fits lt low zero = ap (λ (b : ℕ). b == 1) (bit_at_not w64 plane k fits lt) ∙ opposite (bit_at plane k) digit (bit_at-lt plane k) low zero
  where
    opposite : (x d : ℕ) → x < 2 → d < 2 → (d ≡ 1 → ⊥) → (1 - x == 1) ≡ (x == d)
    opposite x d small low zero = grind (arith, nat_tests)

both : (a b k : ℕ) → (bit_at (bit_and a b) k == 1) ≡ (bit_at a k == 1 && bit_at b k == 1)
both a b k = ap (λ (v : ℕ). v == 1) (bit_at_and a b k) ∙ two (bit_at a k) (bit_at b k) (bit_at-lt a k) (bit_at-lt b k)
  where
    two : (x y : ℕ) → x < 2 → y < 2 → (min x y == 1) ≡ (x == 1 && y == 1)
    two x y low small = grind (arith, nat_tests)

regrouped : (a b c d e f g : Bool) → ((((((a && b) && c) && d) && e) && f) && g) ≡ (a && (b && (c && (d && (e && (f && g))))))
regrouped false b c d e f g = refl
regrouped true false c d e f g = refl
regrouped true true false d e f g = refl
regrouped true true true false e f g = refl
regrouped true true true true false f g = refl
regrouped true true true true true false g = refl
regrouped true true true true true true g = refl

one_more : (x r n : ℕ) → x < 2 → (x == n % 2 && r == n / 2) ≡ (x + 2 * r == n)
one_more x r n low = grind (arith, nat_tests)

-- seven binary digits of a number below 128
by_digits : (a b c d e f g n : ℕ) → a < 2 → b < 2 → c < 2 → d < 2 → e < 2 → f < 2 → n < 128
    → (a == bit_at n 0 && (b == bit_at n 1 && (c == bit_at n 2 && (d == bit_at n 3 && (e == bit_at n 4 && (f == bit_at n 5 && g == bit_at n 6))))))
    ≡ (a + 2 * b + 4 * c + 8 * d + 16 * e + 32 * f + 64 * g == n)
by_digits a b c d e f g n la lb lc ld le lf fits =
    let five : (f == bit_at n 5 && g == bit_at n 6) ≡ (f + 2 * g == n / 32) =
    ap (λ (k : ℕ). f == n / 32 % 2 && g == k) (omega arith) ∙ one_more f g (n / 32) lf in
    let four : (e == bit_at n 4 && (f == bit_at n 5 && g == bit_at n 6)) ≡ (e + 2 * (f + 2 * g) == n / 16) =
    ap (λ (v : Bool). e == n / 16 % 2 && v) five ∙ ap (λ (k : ℕ). e == n / 16 % 2 && f + 2 * g == k) (omega arith) ∙ one_more e (f + 2 * g) (n / 16) le in
    let three : (d == bit_at n 3 && (e == bit_at n 4 && (f == bit_at n 5 && g == bit_at n 6))) ≡ (d + 2 * (e + 2 * (f + 2 * g)) == n / 8) =
    ap (λ (v : Bool). d == n / 8 % 2 && v) four ∙ ap (λ (k : ℕ). d == n / 8 % 2 && e + 2 * (f + 2 * g) == k) (omega arith) ∙ one_more d (e + 2 * (f + 2 * g)) (n / 8) ld in
    let two : (c == bit_at n 2 && (d == bit_at n 3 && (e == bit_at n 4 && (f == bit_at n 5 && g == bit_at n 6)))) ≡ (c + 2 * (d + 2 * (e + 2 * (f + 2 * g))) == n / 4) =
    ap (λ (v : Bool). c == n / 4 % 2 && v) three ∙ ap (λ (k : ℕ). c == n / 4 % 2 && d + 2 * (e + 2 * (f + 2 * g)) == k) (omega arith) ∙ one_more c (d + 2 * (e + 2 * (f + 2 * g))) (n / 4) lc in
    let one : (b == bit_at n 1 && (c == bit_at n 2 && (d == bit_at n 3 && (e == bit_at n 4 && (f == bit_at n 5 && g == bit_at n 6))))) ≡ (b + 2 * (c + 2 * (d + 2 * (e + 2 * (f + 2 * g)))) == n / 2) =
    ap (λ (v : Bool). b == n / 2 % 2 && v) two ∙ ap (λ (k : ℕ). b == n / 2 % 2 && c + 2 * (d + 2 * (e + 2 * (f + 2 * g))) == k) (omega arith) ∙ one_more b (c + 2 * (d + 2 * (e + 2 * (f + 2 * g)))) (n / 2) lb in
    ap (λ (k : ℕ). a == k && (b == bit_at n 1 && (c == bit_at n 2 && (d == bit_at n 3 && (e == bit_at n 4 && (f == bit_at n 5 && g == bit_at n 6)))))) (omega arith)
    ∙ ap (λ (v : Bool). a == n % 2 && v) one ∙ one_more a (b + 2 * (c + 2 * (d + 2 * (e + 2 * (f + 2 * g))))) n la
    ∙ ap (λ (k : ℕ). k == n) (omega arith)

-- the places where all seven digits are those of a number
pub all_digits : (a b c d e f g n k t u v w x y z : ℕ) → n < 128
    → (bit_at a k == 1) ≡ (bit_at t k == bit_at n 0) → (bit_at b k == 1) ≡ (bit_at u k == bit_at n 1)
    → (bit_at c k == 1) ≡ (bit_at v k == bit_at n 2) → (bit_at d k == 1) ≡ (bit_at w k == bit_at n 3)
    → (bit_at e k == 1) ≡ (bit_at x k == bit_at n 4) → (bit_at f k == 1) ≡ (bit_at y k == bit_at n 5)
    → (bit_at g k == 1) ≡ (bit_at z k == bit_at n 6)
    → (bit_at (bit_and (bit_and (bit_and (bit_and (bit_and (bit_and a b) c) d) e) f) g) k == 1)
    ≡ (bit_at t k + 2 * bit_at u k + 4 * bit_at v k + 8 * bit_at w k + 16 * bit_at x k + 32 * bit_at y k + 64 * bit_at z k == n)
all_digits a b c d e f g n k t u v w x y z fits ea eb ec ed ee ef eg =
    let same : (bit_at a k == 1 && (bit_at b k == 1 && (bit_at c k == 1 && (bit_at d k == 1 && (bit_at e k == 1 && (bit_at f k == 1 && bit_at g k == 1))))))
    ≡ (bit_at t k == bit_at n 0 && (bit_at u k == bit_at n 1 && (bit_at v k == bit_at n 2 && (bit_at w k == bit_at n 3 && (bit_at x k == bit_at n 4 && (bit_at y k == bit_at n 5 && bit_at z k == bit_at n 6)))))) = cc in
    both (bit_and (bit_and (bit_and (bit_and (bit_and a b) c) d) e) f) g k
    ∙ ap (λ (p : Bool). p && bit_at g k == 1) (both (bit_and (bit_and (bit_and (bit_and a b) c) d) e) f k
    ∙ ap (λ (p : Bool). p && bit_at f k == 1) (both (bit_and (bit_and (bit_and a b) c) d) e k
    ∙ ap (λ (p : Bool). p && bit_at e k == 1) (both (bit_and (bit_and a b) c) d k
    ∙ ap (λ (p : Bool). p && bit_at d k == 1) (both (bit_and a b) c k
    ∙ ap (λ (p : Bool). p && bit_at c k == 1) (both a b k)))))
    ∙ regrouped (bit_at a k == 1) (bit_at b k == 1) (bit_at c k == 1) (bit_at d k == 1) (bit_at e k == 1) (bit_at f k == 1) (bit_at g k == 1)
    ∙ same
    ∙ by_digits (bit_at t k) (bit_at u k) (bit_at v k) (bit_at w k) (bit_at x k) (bit_at y k) (bit_at z k) n
    (bit_at-lt t k) (bit_at-lt u k) (bit_at-lt v k) (bit_at-lt w k) (bit_at-lt x k) (bit_at-lt y k) fits
