-- Numbers in decimal digits, read digit by digit.
use Rattle.std.proofs.Common.{◌≡◌, ℕ, suc, ◌+◌, ◌-◌, ◌*◌, ◌<◌, ◌≤◌, ◌^◌, true, List, [], ◌∷◌, ◌++◌, length, take, slice_index, decimal, sym, ◌∙◌, ap, subst, inl, inr, arith, pow-suc}
use Rattle.std.proofs.lemmas.Bool.{cases_eq}
use Rattle.std.proofs.Math.Seq.{take-suc}
use Rattle.pp_terms.specs.format.DescriptorRead.{is_digit, IsNumber, number_of}
use Rattle.pp_tree.proofs.Numerals.{number_more, digit_range}
use Rattle.pp_tree.proofs.Readings.{decimal_of_number, number_of_decimal, decimal_is_number}
use Rattle.pp_words.specs.Digits.{AreDigits}

-- the first i bytes are digits, and write this value
pub record IsReadSoFar (text : List ℕ) (i value : ℕ) : Type 0 where
  pub digits : (k : ℕ) → k < i → is_digit (slice_index text k) ≡ true
  pub value_is : value ≡ number_of (take i text)
  pub bound : value < 10 ^ i

pub digit_more : (text : List ℕ) (i value digit : ℕ) → IsReadSoFar text i value → i < length text
    → is_digit (slice_index text i) ≡ true → digit ≡ slice_index text i - 48 → IsReadSoFar text (i + 1) (value * 10 + digit)
digit_more text i value digit so_far within is digit_is =
    let range = digit_range (slice_index text i) is in
    let next : i + 1 ≡ suc i = omega arith in
    let front : take (i + 1) text ≡ take i text ++ slice_index text i ∷ [] =
    ap (λ n. take n text) next ∙ take-suc text i 0 within in
    let power : 10 ^ (i + 1) ≡ 10 ^ i * 10 = ap (λ n. 10 ^ n) next ∙ pow-suc 10 i in
    record {
      digits = λ k low. elim (cases_eq k i) [
        | inl e ↦ ap (λ j. is_digit (slice_index text j)) e ∙ is
        | inr ne ↦ so_far.digits k (omega arith)
      ];
      value_is = ap (λ d. value * 10 + d) digit_is ∙ ap (λ n. n * 10 + (slice_index text i - 48)) so_far.value_is
          ∙ sym (number_more 0 (take i text) (slice_index text i)) ∙ ap (λ xs. number_of xs) (sym front);
      bound = (let below : value + 1 ≤ 10 ^ i = omega (arith, so_far.bound) in omega (arith, below, power));
    }

-- The text is as long as a number may be, without a leading zero.
abbrev pub MayBeNumber : List ℕ → Type 0
MayBeNumber text = (0 < length text) × (length text ≤ 20) × (slice_index text 0 ≡ 48 → length text ≡ 1)

number_is : (text : List ℕ) → MayBeNumber text → AreDigits text → IsNumber text
number_is text may digits = record { some = may.0; most = may.1; digits = digits; plain = may.2 }

may_be : (n : ℕ) (text : List ℕ) → n < 2 ^ 64 → text ≡ decimal n → IsNumber text
may_be n text low is = subst (λ t. IsNumber t) (sym is) (decimal_is_number n low)

pub not_plain : (text : List ℕ) (most n : ℕ) → (MayBeNumber text → ⊥) → most < 2 ^ 64 → n ≤ most → text ≡ decimal n → ⊥
not_plain text most n never fits within is =
    let number = may_be n text (omega arith) is in never (number.some, number.most, number.plain)

pub not_digits : (text : List ℕ) (most n : ℕ) → (AreDigits text → ⊥) → most < 2 ^ 64 → n ≤ most → text ≡ decimal n → ⊥
not_digits text most n never fits within is = never (may_be n text (omega arith) is).digits

pub too_large : (text : List ℕ) (most n value : ℕ) → value ≡ number_of text → most < value → most < 2 ^ 64 → n ≤ most → text ≡ decimal n → ⊥
too_large text most n value value_is large fits within is =
    let same : number_of text ≡ n = ap (λ t. number_of t) is ∙ number_of_decimal n (omega arith) in
    omega (arith, same, value_is)

pub written : (text : List ℕ) (value : ℕ) → MayBeNumber text → AreDigits text → value ≡ number_of text → value < 2 ^ 64 → text ≡ decimal value
written text value may digits value_is low =
    sym (ap decimal value_is ∙ decimal_of_number text (number_is text may digits) (omega (arith, value_is)))
