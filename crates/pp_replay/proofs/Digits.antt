-- Digits read one by one.
use Rattle.std.proofs.Common.{◌≡◌, ℕ, suc, ◌+◌, ◌-◌, ◌*◌, ◌<◌, ◌≤◌, ◌^◌, Bool, true, false, ◌&&◌, List, [], ◌∷◌, length, drop, slice_index, refl, sym, ◌∙◌, ap, arith, pow-suc, drop-cons}
use Rattle.std.specs.List.{list_all}
use Rattle.std.proofs.lemmas.List.{drop_all}
use Rattle.pp_terms.specs.format.DescriptorRead.{is_digit, number_after, number_of}
use Rattle.pp_tree.proofs.Numerals.{digit_range}
use Rattle.pp_world.specs.ScheduleRead.{is_number}
use Rattle.pp_replay.specs.Numbers.{may_be_number}

-- The first i bytes are digits and write this value.
pub record IsReadTo (text : List ℕ) (i value : ℕ) : Type 0 where
  pub rest : number_after value (drop i text) ≡ number_of text
  pub all : list_all is_digit (drop i text) ≡ list_all is_digit text
  pub bound : value < 10 ^ i

-- what is left begins with the next byte
next : (text : List ℕ) (i : ℕ) → i < length text → drop i text ≡ slice_index text i ∷ drop (i + 1) text
next text i within = let e : suc i ≡ i + 1 = omega arith in drop-cons text i 0 within ∙ ap (λ (k : ℕ). slice_index text i ∷ drop k text) e

pub digit_more : (text : List ℕ) (i value digit : ℕ) → IsReadTo text i value → i < length text
    → is_digit (slice_index text i) ≡ true → digit ≡ slice_index text i - 48 → IsReadTo text (i + 1) (value * 10 + digit)
digit_more text i value digit so_far within is digit_is =
    let range = digit_range (slice_index text i) is in
    let first = next text i within in
    let power : 10 ^ (i + 1) ≡ 10 ^ i * 10 = (let e : i + 1 ≡ suc i = omega arith in ap (λ n. 10 ^ n) e ∙ pow-suc 10 i) in
    record {
      rest = ap (λ (d : ℕ). number_after (value * 10 + d) (drop (i + 1) text)) digit_is
          ∙ sym (ap (number_after value) first) ∙ so_far.rest;
      all = sym (ap (λ (b : Bool). b && list_all is_digit (drop (i + 1) text)) is)
          ∙ sym (ap (list_all is_digit) first) ∙ so_far.all;
      bound = (let below : value + 1 ≤ 10 ^ i = omega (arith, so_far.bound) in omega (arith, below, power));
    }

pub no_digit : (text : List ℕ) (i value : ℕ) → IsReadTo text i value → i < length text
    → is_digit (slice_index text i) ≡ false → list_all is_digit text ≡ false
no_digit text i value so_far within isnt =
    sym so_far.all ∙ ap (list_all is_digit) (next text i within) ∙ ap (λ (b : Bool). b && list_all is_digit (drop (i + 1) text)) isnt

pub all_digits : (text : List ℕ) (i value : ℕ) → IsReadTo text i value → length text ≤ i
    → (list_all is_digit text ≡ true) × (value ≡ number_of text)
all_digits text i value so_far past =
    let none = drop_all i text past in (
      sym so_far.all ∙ ap (list_all is_digit) none,
      sym (ap (number_after value) none) ∙ so_far.rest,
    )

-- no byte is read yet
pub no_digits_yet : (text : List ℕ) → IsReadTo text 0 0
no_digits_yet text = record { rest = refl; all = refl; bound = omega arith }

-- A number is a word that may be one, of digits alone.
pub number_is : (word : List ℕ) → is_number word ≡ (may_be_number word && list_all is_digit word)
number_is [] = refl
number_is (c ∷ []) = one (is_digit c)
  where
    one : (b : Bool) → b ≡ (b && true)
    one true = refl
    one false = refl
number_is (c ∷ d ∷ ds) = refl
