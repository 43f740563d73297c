-- Numbers in a text, digit by digit.
use Rattle.std.proofs.Common.{◌≡◌, ℕ, suc, ◌+◌, ◌-◌, ◌*◌, ◌<◌, ◌≤◌, ◌^◌, true, List, [], ◌∷◌, ◌++◌, length, take, drop, get_or, slice_index, refl, sym, ◌∙◌, ap, inl, inr, arith, pow-suc}
use Rattle.std.proofs.lemmas.Bool.{cases_eq}
use Rattle.std.proofs.lemmas.Bool.Decides.{nat_tests}
use Rattle.std.proofs.lemmas.List.{get_or-drop, length-drop}
use Rattle.std.proofs.Math.Seq.{take-suc}
use Rattle.pp_terms.specs.format.DescriptorRead.{is_digit, number_after, number_of}

-- a number's digits so far; the first isn't a zero
pub record IsRunSoFar (bytes : List ℕ) (at end value : ℕ) : Type 0 where
  pub from : at ≤ end
  pub most : end ≤ at + 20
  pub inside : end ≤ length bytes
  pub digits : (k : ℕ) → at ≤ k → k < end → is_digit (slice_index bytes k) ≡ true
  pub nonzero : at < length bytes → slice_index bytes at ≡ 48 → ⊥
  pub value_is : value ≡ number_of (take (end - at) (drop at bytes))
  pub bound : value < 10 ^ (end - at)

-- one digit more at the end
pub number_more : (n : ℕ) (xs : List ℕ) (c : ℕ) → number_after n (xs ++ c ∷ []) ≡ number_after n xs * 10 + (c - 48)
number_more n [] c = refl
number_more n (x ∷ xs) c = number_more (n * 10 + (x - 48)) xs c

pub digit_range : (c : ℕ) → is_digit c ≡ true → (48 ≤ c) × (c ≤ 57)
digit_range c h = (grind (arith, nat_tests), grind (arith, nat_tests))

pub run_grows : (bytes : List ℕ) (at end value digit : ℕ) → IsRunSoFar bytes at end value → end < length bytes → end - at < 20
    → is_digit (slice_index bytes end) ≡ true → digit ≡ slice_index bytes end - 48
    → IsRunSoFar bytes at (end + 1) (value * 10 + digit)
run_grows bytes at end value digit run within short is digit_is =
    let range = digit_range (slice_index bytes end) is in
    let from : at ≤ end = run.from in
    let next : end + 1 - at ≡ suc (end - at) = omega arith in
    let place : at + (end - at) ≡ end = omega arith in
    let room : end - at < length (drop at bytes) = rw length-drop (omega arith) in
    let last : get_or (drop at bytes) (end - at) 0 ≡ slice_index bytes end =
    get_or-drop at bytes (end - at) 0 ∙ ap (λ k. slice_index bytes k) place in
    let text : take (end + 1 - at) (drop at bytes) ≡ take (end - at) (drop at bytes) ++ slice_index bytes end ∷ [] =
    ap (λ n. take n (drop at bytes)) next ∙ take-suc (drop at bytes) (end - at) 0 room
    ∙ ap (λ c. take (end - at) (drop at bytes) ++ c ∷ []) last in
    let power : 10 ^ (end + 1 - at) ≡ 10 ^ (end - at) * 10 = ap (λ n. 10 ^ n) next ∙ pow-suc 10 (end - at) in
    record {
      from = omega arith;
      most = omega arith;
      inside = omega arith;
      digits = λ k low high. elim (cases_eq k end) [
        | inl e ↦ ap (λ j. is_digit (slice_index bytes j)) e ∙ is
        | inr ne ↦ run.digits k low (omega arith)
      ];
      nonzero = run.nonzero;
      value_is = ap (λ d. value * 10 + d) digit_is ∙ ap (λ n. n * 10 + (slice_index bytes end - 48)) run.value_is
          ∙ sym (number_more 0 (take (end - at) (drop at bytes)) (slice_index bytes end)) ∙ ap (λ xs. number_of xs) (sym text);
      bound = (let below : value + 1 ≤ 10 ^ (end - at) = omega (arith, run.bound) in omega (arith, below, power));
    }
