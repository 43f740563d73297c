-- Words of which a part was written.
use Rattle.std.proofs.Common.{◌≡◌, ◌≢◌, ⊎_elim, ℕ, ◌+◌, ◌-◌, ◌*◌, ◌/◌, ◌%◌, ◌^◌, ◌<◌, ◌≤◌, ◌==◌, min, not, List, ◌++◌, length, take, drop, sym, ◌∙◌, ap, arith, length-append, length-take, length-drop}
use Rattle.std.specs.Prelude.{slice_index, slice_set}
use Rattle.std.proofs.Math.ListN.{get_or-append}
use Rattle.std.proofs.lemmas.List.{get_or-append_right, get_or-take, get_or-drop, get_or_past, get_or-set_same, get_or-set_other, length-set}
use Rattle.std.specs.Int.{bit_at}
use Rattle.std.proofs.lemmas.Nat.Bits.{bit_at_ones}
use Rattle.std.proofs.lemmas.Bool.{cases_eq, cases_lt}
use Rattle.pp_plan.specs.Tiers.{IsLacking}

-- the list with another part from a on
abbrev part : ℕ → ℕ → List ℕ → List ℕ → List ℕ
part a k xs ys = take a xs ++ (ys ++ drop k (drop a xs))

outside_part : (a k : ℕ) (xs ys : List ℕ) (i : ℕ) → a + k ≤ length xs → length ys ≡ k → (a ≤ i → i < a + k → ⊥) → slice_index (part a k xs ys) i ≡ slice_index xs i
outside_part a k xs ys i le size out =
    let front : length (take a xs) ≡ a = omega (arith, length-take a xs, le) in
    ⊎_elim
    (λ below. get_or-append (take a xs) (ys ++ drop k (drop a xs)) 0 i (omega (arith, front, below)) ∙ get_or-take a xs i 0 below)
    (λ from. ⊎_elim
    (λ inside. absurd (out from inside))
    (λ past.
    let place : k + (i - a - k) ≡ i - a = omega (arith, past) in
    let back : a + (i - a) ≡ i = omega (arith, from) in
    get_or-append_right (take a xs) (ys ++ drop k (drop a xs)) a i 0 front from
    ∙ get_or-append_right ys (drop k (drop a xs)) k (i - a) 0 size (omega (arith, past))
    ∙ get_or-drop k (drop a xs) (i - a - k) 0
    ∙ ap (λ (j : ℕ). slice_index (drop a xs) j) place
    ∙ get_or-drop a xs (i - a) 0
    ∙ ap (λ (j : ℕ). slice_index xs j) back)
    (cases_lt i (a + k)))
    (cases_lt i a)

inside_part : (a k : ℕ) (xs ys : List ℕ) (i : ℕ) → a + k ≤ length xs → length ys ≡ k → a ≤ i → i < a + k → slice_index (part a k xs ys) i ≡ slice_index ys (i - a)
inside_part a k xs ys i le size from inside =
    let front : length (take a xs) ≡ a = omega (arith, length-take a xs, le) in
    get_or-append_right (take a xs) (ys ++ drop k (drop a xs)) a i 0 front from
    ∙ get_or-append ys (drop k (drop a xs)) 0 (i - a) (omega (arith, size, from, inside))

-- the 64 words from a multiple of 64 on, or as many of them as there are
pub part_size : (k end : ℕ) (words ys : List ℕ) → 64 * k < length words → end ≡ min (length words) (64 * k + 64) → length ys ≡ length (take (end - 64 * k) (drop (64 * k) words))
    → length ys ≡ end - 64 * k
part_size k end words ys inside is size = omega (arith, size, length-take (end - 64 * k) (drop (64 * k) words), length-drop (64 * k) words, is, inside)

pub part_long : (k end : ℕ) (words ys : List ℕ) → 64 * k < length words → end ≡ min (length words) (64 * k + 64) → length ys ≡ end - 64 * k
    → length (part (64 * k) (end - 64 * k) words ys) ≡ length words
part_long k end words ys inside is size = omega (
  arith,
  length-append (take (64 * k) words) (ys ++ drop (end - 64 * k) (drop (64 * k) words)),
  length-append ys (drop (end - 64 * k) (drop (64 * k) words)),
  length-take (64 * k) words,
  length-drop (end - 64 * k) (drop (64 * k) words),
  length-drop (64 * k) words,
  is,
  size,
  inside,
)

pub part_others : (k end : ℕ) (words ys : List ℕ) → 64 * k < length words → end ≡ min (length words) (64 * k + 64) → length ys ≡ end - 64 * k
    → (w : ℕ) → w / 64 ≢ k → slice_index (part (64 * k) (end - 64 * k) words ys) w ≡ slice_index words w
part_others k end words ys inside is size w other =
    outside_part (64 * k) (end - 64 * k) words ys w (omega (arith, inside, is)) size (λ low high. other (omega (arith, low, high, is)))

pub part_cleared : (k end : ℕ) (words ys : List ℕ) → 64 * k < length words → end ≡ min (length words) (64 * k + 64) → length ys ≡ end - 64 * k
    → ((j : ℕ) → j < length ys → slice_index ys j ≡ 0)
    → (w : ℕ) → w / 64 ≡ k → slice_index (part (64 * k) (end - 64 * k) words ys) w ≡ 0
part_cleared k end words ys inside is size none w here = ⊎_elim
    (λ within.
    inside_part (64 * k) (end - 64 * k) words ys w (omega (arith, inside, is)) size (omega (arith, here)) (omega (arith, within, is, here))
    ∙ none (w - 64 * k) (omega (arith, size, within, is, here)))
    (λ past.
    outside_part (64 * k) (end - 64 * k) words ys w (omega (arith, inside, is)) size (λ low high. omega (arith, low, high, is, past))
    ∙ get_or_past words w 0 past)
    (cases_lt w (length words))

-- no word of the part is full
pub part_lacking : (k : ℕ) (words lacks new : List ℕ) → IsLacking words lacks → 64 * k < length words → length new ≡ length words
    → ((w : ℕ) → w / 64 ≢ k → slice_index new w ≡ slice_index words w)
    → ((w : ℕ) → w / 64 ≡ k → slice_index new w ≡ 0)
    → IsLacking new (slice_set lacks k 18446744073709551615)
part_lacking k words lacks new is inside size others here = record {
  small = omega (arith, size, is.small);
  size = omega (arith, size, is.size, length-set lacks k 18446744073709551615);
  least = omega (arith, is.least, length-set lacks k 18446744073709551615);
  marks = λ w within. ⊎_elim
      (λ at.
      let none : slice_index new w ≡ 0 = here w at in
      let full : slice_index (slice_set lacks k 18446744073709551615) (w / 64) ≡ 2 ^ 64 - 1 =
      ap (λ (j : ℕ). slice_index (slice_set lacks k 18446744073709551615) j) at ∙ get_or-set_same lacks k 18446744073709551615 0 (omega (arith, is.size, inside)) in
      ap (λ (v : ℕ). bit_at v (w % 64) == 1) full ∙ ap (λ (b : ℕ). b == 1) (bit_at_ones 64 (w % 64) (omega arith))
      ∙ sym (ap (λ (v : ℕ). not (v == 2 ^ 64 - 1)) none))
      (λ other.
      ap (λ (v : ℕ). bit_at v (w % 64) == 1) (get_or-set_other lacks k (w / 64) 18446744073709551615 0 other)
      ∙ is.marks w (omega (arith, size, within))
      ∙ ap (λ (v : ℕ). not (v == 2 ^ 64 - 1)) (sym (others w other)))
      (cases_eq (w / 64) k);
}

-- the parts up to the next one
pub next_part : (first now next : List ℕ) (k : ℕ) → ((w : ℕ) → w < 64 * k → slice_index now w ≡ 0) → ((w : ℕ) → 64 * k ≤ w → slice_index now w ≡ slice_index first w)
    → ((w : ℕ) → w / 64 ≢ k → slice_index next w ≡ slice_index now w)
    → ((w : ℕ) → w / 64 ≡ k → slice_index next w ≡ 0)
    → ((w : ℕ) → w < 64 * (k + 1) → slice_index next w ≡ 0) × ((w : ℕ) → 64 * (k + 1) ≤ w → slice_index next w ≡ slice_index first w)
next_part first now next k none rest others here = (
  λ w lt. ⊎_elim (λ at. here w at) (λ other. others w other ∙ none w (omega (arith, lt, other))) (cases_eq (w / 64) k),
  λ w le. others w (omega (arith, le)) ∙ rest w (omega (arith, le)),
)
