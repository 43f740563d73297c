-- Hexadecimal digits in lower case are the text of bytes, and decode to them.
use Rattle.std.proofs.Common.{◌≡◌, ◌⊎◌, ℕ, zero, suc, ◌+◌, ◌-◌, ◌*◌, ◌/◌, ◌%◌, ◌<◌, ◌≤◌, true, List, [], ◌∷◌, length, get_or, refl, sym, ◌∙◌, ap, inl, inr, arith, Ok}
use Rattle.std.proofs.lemmas.Bool.{cases_lt}
use Rattle.std.proofs.lemmas.Bool.Decides.{nat_tests}
use Rattle.hex.specs.Hex.{encode_with, encode_lower, lower_digits, decode_of, decode_sized, IsBytes}
use Rattle.hex.proofs.HexLemmas.{decode_of-encode_lower, decode_sized-twice}
use Rattle.pp_terms.specs.format.DescriptorRead.{is_lower_hex}

-- the digits below ten
small_digit : (v : ℕ) → v < 10 → get_or lower_digits v 0 ≡ 48 + v
small_digit zero lt = refl
small_digit (suc zero) lt = refl
small_digit (suc (suc zero)) lt = refl
small_digit (suc (suc (suc zero))) lt = refl
small_digit (suc (suc (suc (suc zero)))) lt = refl
small_digit (suc (suc (suc (suc (suc zero))))) lt = refl
small_digit (suc (suc (suc (suc (suc (suc zero)))))) lt = refl
small_digit (suc (suc (suc (suc (suc (suc (suc zero))))))) lt = refl
small_digit (suc (suc (suc (suc (suc (suc (suc (suc zero)))))))) lt = refl
small_digit (suc (suc (suc (suc (suc (suc (suc (suc (suc zero))))))))) lt = refl
small_digit (suc (suc (suc (suc (suc (suc (suc (suc (suc (suc n)))))))))) lt = absurd (omega arith)

-- and the others
great_digit : (v : ℕ) → v < 6 → get_or lower_digits (10 + v) 0 ≡ 97 + v
great_digit zero lt = refl
great_digit (suc zero) lt = refl
great_digit (suc (suc zero)) lt = refl
great_digit (suc (suc (suc zero))) lt = refl
great_digit (suc (suc (suc (suc zero)))) lt = refl
great_digit (suc (suc (suc (suc (suc zero))))) lt = refl
great_digit (suc (suc (suc (suc (suc (suc n)))))) lt = absurd (omega arith)

hex_range : (c : ℕ) → is_lower_hex c ≡ true → ((48 ≤ c) × (c ≤ 57)) ⊎ ((97 ≤ c) × (c ≤ 102))
hex_range c h = grind (arith, nat_tests)

-- the value of a digit
pub nibble : (c : ℕ) → is_lower_hex c ≡ true → (v : ℕ) × (v < 16) × (get_or lower_digits v 0 ≡ c)
nibble c h = elim (hex_range c h) [
  | inl (low, high) ↦ (c - 48, omega arith, small_digit (c - 48) (omega arith) ∙ omega arith)
  | inr (low, high) ↦
      let place : 10 + (c - 97) ≡ c - 87 = omega arith in
      (c - 87, omega arith, ap (λ k. get_or lower_digits k 0) (sym place) ∙ great_digit (c - 97) (omega arith) ∙ omega arith)
]

-- the digits of bytes
pub lower_pairs : (n : ℕ) (s : List ℕ) → length s ≡ 2 * n → ((k : ℕ) → k < length s → is_lower_hex (get_or s k 0) ≡ true)
    → (bytes : List ℕ) × (encode_lower bytes ≡ s) × IsBytes bytes × (length bytes ≡ n)
unfolding encode_with
lower_pairs zero [] long digits = ([], refl, λ i. omega arith, refl)
lower_pairs zero (a ∷ s) long digits = absurd (omega arith)
lower_pairs (suc n) [] long digits = absurd (omega arith)
lower_pairs (suc n) (a ∷ []) long digits = absurd (omega arith)
lower_pairs (suc n) (a ∷ b ∷ s) long digits =
    let (u, u_low, u_is) = nibble a (digits 0 (omega arith)) in
    let (v, v_low, v_is) = nibble b (digits 1 (omega arith)) in
    let (bytes, is, all, size) = lower_pairs n s (omega arith) (λ k lt. digits (suc (suc k)) (omega arith)) in
    let high : (u * 16 + v) / 16 ≡ u = omega arith in
    let low : (u * 16 + v) % 16 ≡ v = omega arith in (
      (u * 16 + v) ∷ bytes,
      ap (λ x. x ∷ get_or lower_digits ((u * 16 + v) % 16) 0 ∷ encode_lower bytes) (ap (λ k. get_or lower_digits k 0) high ∙ u_is)
          ∙ ap (λ x. a ∷ x ∷ encode_lower bytes) (ap (λ k. get_or lower_digits k 0) low ∙ v_is) ∙ ap (λ xs. a ∷ b ∷ xs) is,
      bytes_cons (u * 16 + v) bytes (omega arith) all,
      ap (λ k. suc k) size,
    )
  where
    bytes_cons : (x : ℕ) (xs : List ℕ) → x < 256 → IsBytes xs → IsBytes (x ∷ xs)
    bytes_cons x xs lt all zero = lt
    bytes_cons x xs lt all (suc i) = all i

-- 64 digits decode to the 32 bytes whose text they are
pub digits_decode : (s : List ℕ) → length s ≡ 64 → ((k : ℕ) → k < 64 → is_lower_hex (get_or s k 0) ≡ true)
    → (bytes : List ℕ) × (decode_sized s 32 ≡ Ok bytes) × (encode_lower bytes ≡ s) × IsBytes bytes × (length bytes ≡ 32)
digits_decode s long digits =
    let (bytes, is, all, size) = lower_pairs 32 s long (λ k lt. digits k (omega (arith, long))) in
    (bytes, decode_sized-twice s 32 long ∙ ap (λ xs. decode_of xs) (sym is) ∙ decode_of-encode_lower bytes all, is, all, size)

-- the digits of the table
table_lower : (v : ℕ) → v < 16 → is_lower_hex (get_or lower_digits v 0) ≡ true
table_lower v lt = elim (cases_lt v 10) [
  | inl low ↦ let e = small_digit v low in rw e (grind (arith, nat_tests))
  | inr high ↦
      let place : 10 + (v - 10) ≡ v = omega arith in
      let e : get_or lower_digits v 0 ≡ 97 + (v - 10) = ap (λ k. get_or lower_digits k 0) (sym place) ∙ great_digit (v - 10) (omega arith) in
      rw e (grind (arith, nat_tests))
]

-- the text of bytes is of such digits
pub encoded_lower : (xs : List ℕ) → IsBytes xs → (k : ℕ) → k < 2 * length xs → is_lower_hex (get_or (encode_lower xs) k 0) ≡ true
unfolding encode_with
encoded_lower [] all k lt = absurd (omega arith)
encoded_lower (b ∷ xs) all zero lt = let fits : b < 256 = all 0 in table_lower (b / 16) (omega arith)
encoded_lower (b ∷ xs) all (suc zero) lt = table_lower (b % 16) (omega arith)
encoded_lower (b ∷ xs) all (suc (suc k)) lt = encoded_lower xs (λ i. all (suc i)) k (omega arith)
