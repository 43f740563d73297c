-- Marked words, and the search for a bit in them.
use Rattle.std.proofs.Common.{◌≡◌, ⊎_elim, ℕ, ◌+◌, ◌-◌, ◌*◌, ◌/◌, ◌%◌, ◌^◌, ◌<◌, ◌≤◌, ◌==◌, min, not, Bool, true, false, ◌&&◌, nat_lt, List, length, replicate, refl, sym, ◌∙◌, ap, arith, bit_and, bit_xor}
use Rattle.std.specs.Prelude.{slice_index, slice_set, slice_index_or}
use Rattle.std.specs.Int.{bit_at}
use Rattle.std.proofs.lemmas.Nat.{pow_below, and_le_l, and_le_r}
use Rattle.std.proofs.lemmas.Nat.Bits.{bit_at_and, bit_at_xor, bit_at-lt, bit_at-zero, bit_at_ones, bit_at_ones_above, bit_at_above, same_from_bits}
use Rattle.std.proofs.lemmas.List.{get_or-set_same, get_or-set_other, get_or_past, length-set, length-replicate, same_lists, get_or_default}
use Rattle.std.proofs.lemmas.Bool.{cases_eq, cases_lt, eqb-true, eqb-false, eq-eqb, ne_eqb, not-true, not-false, lt-ltb, le-ltb, ltb-true, ltb-false, and_cases, and_parts, both_ways}
use Rattle.std.proofs.lemmas.Bool.Decides.{nat_tests}
use Rattle.pp_tree.specs.Bits.{bit_of, bits_of}
use Rattle.pp_tree.specs.Sets.{is_in_all, IsWordOf, AreMarksOf}
use Rattle.pp_tree.specs.Marks.{IsMarked, words_for, full_word}
use Rattle.pp_tree.proofs.Packing.{shifted, zero_at, no_bit, bit_in, bit_past, count_is}

-- the bits of a word from a place on
pub none_from : (v from k : ℕ) → v / 2 ^ from ≡ 0 → from ≤ k → bit_at v k ≡ 0
none_from v from k zero le =
    let e : k ≡ from + (k - from) = omega arith in
    ap (λ (p : ℕ). bit_at v p) e ∙ sym (shifted v from (k - from)) ∙ ap (λ (q : ℕ). bit_at q (k - from)) zero ∙ bit_at-zero (k - from)

pub none_between : (v from i k : ℕ) → ((j : ℕ) → j < i → bit_at (v / 2 ^ from) j ≡ 0) → from ≤ k → k < from + i → bit_at v k ≡ 0
none_between v from i k none le lt =
    let e : k ≡ from + (k - from) = omega arith in
    ap (λ (p : ℕ). bit_at v p) e ∙ sym (shifted v from (k - from)) ∙ none (k - from) (omega arith)

pub place_in : (v i : ℕ) → v < 2 ^ 64 → bit_at v i ≡ 1 → i < 64
place_in v i fits one = ⊎_elim (λ lt. lt) (λ ge. absurd (omega (arith, one, bit_at_above v 64 i fits ge))) (cases_lt i 64)

-- the search goes on over the places of one word
pub passed : (f : ℕ → ℕ) (from w place i v : ℕ) → v ≡ f w → i ≤ 64
    → ((k : ℕ) → from ≤ k → k < 64 * w + place → (bit_at (f (k / 64)) (k % 64) == 1) ≡ false)
    → ((k : ℕ) → place ≤ k → k < i → (bit_at v k == 1) ≡ false)
    → (k : ℕ) → from ≤ k → k < 64 * w + i → (bit_at (f (k / 64)) (k % 64) == 1) ≡ false
passed f from w place i v at most before here k low high = ⊎_elim
    (λ lt. before k low lt)
    (λ ge. let word : k / 64 ≡ w = omega arith in
    ap (λ (u : ℕ). bit_at (f u) (k % 64) == 1) word ∙ ap (λ (u : ℕ). bit_at u (k % 64) == 1) (sym at) ∙ here (k % 64) (omega arith) (omega arith))
    (cases_lt k (64 * w + place))

-- and over words that are zero
pub skipped : (f : ℕ → ℕ) (from u w : ℕ)
    → ((k : ℕ) → from ≤ k → k < 64 * u → (bit_at (f (k / 64)) (k % 64) == 1) ≡ false)
    → ((v : ℕ) → u ≤ v → v < w → f v ≡ 0)
    → (k : ℕ) → from ≤ k → k < 64 * w → (bit_at (f (k / 64)) (k % 64) == 1) ≡ false
skipped f from u w before none k low high = ⊎_elim
    (λ lt. before k low lt)
    (λ ge. ap (λ (v : ℕ). bit_at v (k % 64) == 1) (none (k / 64) (omega arith) (omega arith)) ∙ ap (λ (b : ℕ). b == 1) (bit_at-zero (k % 64)))
    (cases_lt k (64 * u))

-- over the rest of a word, the words after it that are zero and the places of another word
pub searched : (f : ℕ → ℕ) (from w i begun v : ℕ) → begun ≡ f (from / 64) → v ≡ f w → i ≤ 64
    → ((k : ℕ) → from % 64 ≤ k → (bit_at begun k == 1) ≡ false)
    → ((u : ℕ) → from / 64 + 1 ≤ u → u < w → f u ≡ 0)
    → ((k : ℕ) → k < i → (bit_at v k == 1) ≡ false)
    → (k : ℕ) → from ≤ k → k < 64 * w + i → (bit_at (f (k / 64)) (k % 64) == 1) ≡ false
searched f from w i begun v first last most rest none low k =
    passed f from w 0 i v last most
    (λ j least less. skipped f from (from / 64 + 1) w
    (λ n start end. passed f from (from / 64) (from % 64) 64 begun first (omega arith)
    (λ m some under. absurd (omega (arith, some, under)))
    (λ m some _. rest m some) n start (omega (arith, end)))
    none j least (omega (arith, less)))
    (λ j _ less. low j less) k

pub found : (f : ℕ → ℕ) (w i v : ℕ) → v ≡ f w → i < 64 → (bit_at v i == 1) ≡ true → (bit_at (f ((64 * w + i) / 64)) ((64 * w + i) % 64) == 1) ≡ true
found f w i v at lt one =
    let word : (64 * w + i) / 64 ≡ w = omega arith in
    let place : (64 * w + i) % 64 ≡ i = omega arith in
    ap (λ (u : ℕ). bit_at (f u) ((64 * w + i) % 64) == 1) word ∙ ap (λ (u : ℕ). bit_at u ((64 * w + i) % 64) == 1) (sym at)
    ∙ ap (λ (p : ℕ). bit_at v p == 1) place ∙ one

-- no bit past the words
pub past_words : (words : List ℕ) (k : ℕ) → length words ≤ k / 64 → bit_of words k ≡ false
past_words words k past = ap (λ (v : ℕ). bit_at v (k % 64) == 1) (get_or_past words (k / 64) 0 past) ∙ ap (λ (b : ℕ). b == 1) (bit_at-zero (k % 64))

-- what a mark says
pub unmarked : (v n : ℕ) (mark : Bool) → mark ≡ not (v == n) → mark ≡ false → v ≡ n
unmarked v n mark says unset = eqb-true v n (not-false (v == n) (sym says ∙ unset))

pub marked : (v n : ℕ) (mark : Bool) → mark ≡ not (v == n) → mark ≡ true → v ≡ n → ⊥
marked v n mark says is_set = eqb-false v n (not-true (v == n) (sym says ∙ is_set))

-- a bit of a full word
pub full_bit : (count i : ℕ) → (bit_at (full_word count (i / 64)) (i % 64) == 1) ≡ nat_lt i count
full_bit count i = ⊎_elim
    (λ lt. ap (λ (b : ℕ). b == 1) (bit_at_ones (min 64 (count - 64 * (i / 64))) (i % 64) (omega arith)) ∙ sym (lt-ltb i count lt))
    (λ ge. ap (λ (b : ℕ). b == 1) (bit_at_ones_above (min 64 (count - 64 * (i / 64))) (i % 64) (omega arith)) ∙ sym (le-ltb i count ge))
    (cases_lt i count)

pub ones_set : (words : List ℕ) (count i : ℕ) → length words ≡ words_for count
    → ((w : ℕ) → w < length words → slice_index words w ≡ full_word count w)
    → bit_of words i ≡ nat_lt i count
ones_set words count i size each = ⊎_elim
    (λ lt. ap (λ (v : ℕ). bit_at v (i % 64) == 1) (each (i / 64) lt) ∙ full_bit count i)
    (λ ge. past_words words i ge ∙ sym (le-ltb i count (omega arith)))
    (cases_lt (i / 64) (length words))

-- the bits that differ are none where two words are one
pub same_words : (a b : ℕ) → bit_xor a b ≡ 0 → a ≡ b
same_words a b zero = same_from_bits a b (λ k.
    let bits : (bit_at a k + bit_at b k) % 2 ≡ 0 = sym (bit_at_xor a b k) ∙ ap (λ (v : ℕ). bit_at v k) zero ∙ bit_at-zero k in
    omega (arith, bits, bit_at-lt a k, bit_at-lt b k))

pub no_gap : (a b : ℕ) → a ≡ b → bit_xor a b ≡ 0
no_gap a b same = same_from_bits (bit_xor a b) 0 (λ k.
    let bits : bit_at a k ≡ bit_at b k = ap (λ (v : ℕ). bit_at v k) same in
    omega (arith, bits, bit_at_xor a b k, bit_at-zero k, bit_at-lt a k, bit_at-lt b k))

-- which bits are gaps
pub gap_bit : (words : List ℕ) (count i : ℕ) → ((k : ℕ) → count ≤ k → bit_of words k ≡ false)
    → (bit_at (bit_xor (slice_index words (i / 64)) (full_word count (i / 64))) (i % 64) == 1) ≡ (nat_lt i count && not (bit_of words i))
gap_bit words count i none =
    ap (λ (b : ℕ). b == 1) (bit_at_xor (slice_index words (i / 64)) (full_word count (i / 64)) (i % 64))
    ∙ gap (bit_at (slice_index words (i / 64)) (i % 64)) (bit_at (full_word count (i / 64)) (i % 64)) (nat_lt i count)
    (bit_at-lt (slice_index words (i / 64)) (i % 64)) (bit_at-lt (full_word count (i / 64)) (i % 64)) (full_bit count i)
    (λ past. none i (ltb-false i count past))
  where
    gap : (x y : ℕ) (p : Bool) → x < 2 → y < 2 → (y == 1) ≡ p → (p ≡ false → (x == 1) ≡ false) → ((x + y) % 2 == 1) ≡ (p && not (x == 1))
    gap x y true low small is free = let one : y ≡ 1 = eqb-true y 1 is in grind (arith, nat_tests)
    gap x y false low small is free = let other : y ≡ 1 → ⊥ = eqb-false y 1 is in let none : x ≡ 1 → ⊥ = eqb-false x 1 (free refl) in grind (arith, nat_tests)

-- a bit of three words at once
pub common_bit : (a b c k : ℕ) → (bit_at (bit_and (bit_and a b) c) k == 1) ≡ ((bit_at a k == 1) && ((bit_at b k == 1) && (bit_at c k == 1)))
common_bit a b c k =
    ap (λ (v : ℕ). v == 1) (bit_at_and (bit_and a b) c k ∙ ap (λ (v : ℕ). min v (bit_at c k)) (bit_at_and a b k))
    ∙ three (bit_at a k) (bit_at b k) (bit_at c k) (bit_at-lt a k) (bit_at-lt b k) (bit_at-lt c k)
  where
    three : (x y z : ℕ) → x < 2 → y < 2 → z < 2 → (min (min x y) z == 1) ≡ ((x == 1) && ((y == 1) && (z == 1)))
    three x y z small low little = grind (arith, nat_tests)

-- the words that three lists have in common
abbrev pub common_of : List ℕ → List ℕ → List ℕ → ℕ → ℕ
common_of a b c w = bit_and (bit_and (slice_index a w) (slice_index b w)) (slice_index c w)

pub common_at : (a b c : List ℕ) (i : ℕ) → (bit_at (common_of a b c (i / 64)) (i % 64) == 1) ≡ (bit_of a i && (bit_of b i && bit_of c i))
common_at a b c i = common_bit (slice_index a (i / 64)) (slice_index b (i / 64)) (slice_index c (i / 64)) (i % 64)

pub common_zero : (a b c : ℕ) (p q r : Bool) → p ≡ not (a == 0) → q ≡ not (b == 0) → r ≡ not (c == 0)
    → (p && (q && r)) ≡ false → bit_and (bit_and a b) c ≡ 0
common_zero a b c p q r is his its none = ⊎_elim
    (λ first. let zero : a ≡ 0 = unmarked a 0 p is first in omega (arith, and_le_l a b, and_le_l (bit_and a b) c))
    (λ rest. ⊎_elim
    (λ second. let zero : b ≡ 0 = unmarked b 0 q his second in omega (arith, and_le_r a b, and_le_l (bit_and a b) c))
    (λ third. let zero : c ≡ 0 = unmarked c 0 r its third in omega (arith, and_le_r (bit_and a b) c))
    (and_cases q r rest))
    (and_cases p (q && r) none)

-- a bit of the list, whatever its number
pub value_bit : (count : ℕ) (words : List ℕ) (xs : List Bool) (i : ℕ) → bits_of count words ≡ xs
    → ((k : ℕ) → count ≤ k → bit_of words k ≡ false) → slice_index_or xs i false ≡ bit_of words i
value_bit count words xs i view none = ap (λ (ys : List Bool). slice_index_or ys i false) (sym view) ∙ ⊎_elim
    (λ lt. bit_in count words i lt)
    (λ ge. bit_past count words i ge ∙ sym (none i ge))
    (cases_lt i count)

pub value_size : (count : ℕ) (words : List ℕ) (xs : List Bool) → bits_of count words ≡ xs → length xs ≡ count
value_size count words xs view = ap (λ (ys : List Bool). length ys) (sym view) ∙ count_is count words

-- the least member from a number on
pub member_found : (count : ℕ) (words : List ℕ) (xs : List Bool) (from i : ℕ) → bits_of count words ≡ xs
    → ((k : ℕ) → count ≤ k → bit_of words k ≡ false) → from ≤ i → bit_of words i ≡ true
    → ((k : ℕ) → from ≤ k → k < i → bit_of words k ≡ false)
    → (from ≤ i) × (i < length xs) × (slice_index_or xs i false ≡ true) × ((k : ℕ) → from ≤ k → k < i → slice_index_or xs k false ≡ false)
member_found count words xs from i view none least is_set low = (
  least,
  ⊎_elim (λ lt. omega (arith, lt, value_size count words xs view)) (λ ge. absurd (both_ways (bit_of words i) (none i ge) is_set)) (cases_lt i count),
  value_bit count words xs i view none ∙ is_set,
  (λ k start end. value_bit count words xs k view none ∙ low k start end),
)

-- what three lists have in common is what their words have
pub all_bit : (n m l : ℕ) (a b c : List ℕ) (xs ys zs : List Bool) (i : ℕ) → bits_of n a ≡ xs → bits_of m b ≡ ys → bits_of l c ≡ zs
    → ((k : ℕ) → n ≤ k → bit_of a k ≡ false) → ((k : ℕ) → m ≤ k → bit_of b k ≡ false) → ((k : ℕ) → l ≤ k → bit_of c k ≡ false)
    → is_in_all xs ys zs i ≡ (bit_at (common_of a b c (i / 64)) (i % 64) == 1)
all_bit n m l a b c xs ys zs i first second third none_first none_second none_third =
    ap (λ (p : Bool). p && (slice_index_or ys i false && slice_index_or zs i false)) (value_bit n a xs i first none_first)
    ∙ ap (λ (p : Bool). bit_of a i && (p && slice_index_or zs i false)) (value_bit m b ys i second none_second)
    ∙ ap (λ (p : Bool). bit_of a i && (bit_of b i && p)) (value_bit l c zs i third none_third)
    ∙ sym (common_at a b c i)

pub common_read : (a b c : List ℕ) (w x y z : ℕ) → x ≡ slice_index a w → y ≡ slice_index b w → z ≡ slice_index c w
    → bit_and (bit_and x y) z ≡ common_of a b c w
common_read a b c w x y z first second third =
    ap (λ (v : ℕ). bit_and (bit_and v y) z) first ∙ ap (λ (v : ℕ). bit_and (bit_and (slice_index a w) v) z) second
    ∙ ap (λ (v : ℕ). bit_and (bit_and (slice_index a w) (slice_index b w)) v) third

-- the gaps of a word
abbrev pub gaps_of : List ℕ → ℕ → ℕ → ℕ
gaps_of words count w = bit_xor (slice_index words w) (full_word count w)

pub gap_filled : (count : ℕ) (words : List ℕ) (xs : List Bool) (k : ℕ) → bits_of count words ≡ xs
    → ((j : ℕ) → count ≤ j → bit_of words j ≡ false) → k < count
    → (bit_at (gaps_of words count (k / 64)) (k % 64) == 1) ≡ false → slice_index_or xs k false ≡ true
gap_filled count words xs k view none lt filled =
    value_bit count words xs k view none
    ∙ not-false (bit_of words k) (sym (ap (λ (b : Bool). b && not (bit_of words k)) (lt-ltb k count lt)) ∙ sym (gap_bit words count k none) ∙ filled)

-- the least number from one on that is no member
pub gap_found : (count : ℕ) (words : List ℕ) (xs : List Bool) (from i : ℕ) → bits_of count words ≡ xs
    → ((k : ℕ) → count ≤ k → bit_of words k ≡ false) → from ≤ i
    → (bit_at (gaps_of words count (i / 64)) (i % 64) == 1) ≡ true
    → ((k : ℕ) → from ≤ k → k < i → (bit_at (gaps_of words count (k / 64)) (k % 64) == 1) ≡ false)
    → (from ≤ i) × (i < length xs) × (slice_index_or xs i true ≡ false) × ((k : ℕ) → from ≤ k → k < i → slice_index_or xs k false ≡ true)
gap_found count words xs from i view none least is_set low =
    let parts = and_parts (nat_lt i count) (not (bit_of words i)) (sym (gap_bit words count i none) ∙ is_set) in
    let lt : i < count = ltb-true i count parts.0 in
    let size : length xs ≡ count = value_size count words xs view in (
      least,
      omega (arith, lt, size),
      get_or_default xs i true false (omega (arith, lt, size)) ∙ value_bit count words xs i view none ∙ not-true (bit_of words i) parts.1,
      (λ k start end. gap_filled count words xs k view none (omega (arith, end, lt)) (low k start end)),
    )

-- a marked word is one of the words
pub word_within : (words : List ℕ) (w : ℕ) → (slice_index words w ≡ 0 → ⊥) → w < length words
word_within words w some = ⊎_elim (λ lt. lt) (λ ge. absurd (some (get_or_past words w 0 ge))) (cases_lt w (length words))

pub gap_within : (count : ℕ) (words : List ℕ) (w : ℕ) → length words ≡ words_for count → (slice_index words w ≡ full_word count w → ⊥) → w < length words
gap_within count words w size some = ⊎_elim (λ lt. lt)
    (λ ge. absurd (some (get_or_past words w 0 ge ∙ sym (
    let rest : min 64 (count - 64 * w) ≡ 0 = omega (arith, ge, size) in ap (λ (k : ℕ). 2 ^ k - 1) rest))))
    (cases_lt w (length words))

-- one bit written
pub value_written : (count : ℕ) (words new : List ℕ) (i : ℕ) (value : Bool) → i < count
    → ((k : ℕ) → (k ≡ i → ⊥) → bit_of new k ≡ bit_of words k) → bit_of new i ≡ value
    → bits_of count new ≡ slice_set (bits_of count words) i value
value_written count words new i value inside others here = same_lists (bits_of count new) (slice_set (bits_of count words) i value)
    (count_is count new ∙ sym (length-set (bits_of count words) i value ∙ count_is count words))
    (λ k d lt. let low : k < count = omega (arith, lt, count_is count new) in
    get_or_default (bits_of count new) k d false lt ∙ bit_in count new k low ∙ ⊎_elim
    (λ same. ap (λ (j : ℕ). bit_of new j) same ∙ here
    ∙ sym (ap (λ (j : ℕ). slice_index_or (slice_set (bits_of count words) i value) j d) same ∙ get_or-set_same (bits_of count words) i value d (omega (arith, inside, count_is count words))))
    (λ other. others k other ∙ sym (bit_in count words k low)
    ∙ get_or_default (bits_of count words) k false d (omega (arith, low, count_is count words))
    ∙ sym (get_or-set_other (bits_of count words) i k value d other))
    (cases_eq k i))

-- The marks over words of which one was written.
pub marks_written : (words new marks changed : List ℕ) (w : ℕ) (n : ℕ → ℕ)
    → ((v : ℕ) → bit_of marks v ≡ not (slice_index words v == n v))
    → ((v : ℕ) → (v ≡ w → ⊥) → slice_index new v ≡ slice_index words v)
    → ((v : ℕ) → (v ≡ w → ⊥) → bit_of changed v ≡ bit_of marks v)
    → bit_of changed w ≡ not (slice_index new w == n w)
    → (v : ℕ) → bit_of changed v ≡ not (slice_index new v == n v)
marks_written words new marks changed w n say others kept here v = ⊎_elim
    (λ same. ap (λ (u : ℕ). bit_of changed u) same ∙ here ∙ sym (ap (λ (u : ℕ). not (slice_index new u == n u)) same))
    (λ other. kept v other ∙ say v ∙ ap (λ (x : ℕ). not (x == n v)) (sym (others v other)))
    (cases_eq v w)

pub written : (count : ℕ) (words any lacks new some short : List ℕ) (i : ℕ) → IsMarked count words any lacks → i < count
    → length new ≡ length words → length some ≡ length any → length short ≡ length lacks
    → ((w : ℕ) → (w ≡ i / 64 → ⊥) → slice_index new w ≡ slice_index words w)
    → ((k : ℕ) → (k ≡ i → ⊥) → bit_of new k ≡ bit_of words k)
    → ((w : ℕ) → (w ≡ i / 64 → ⊥) → bit_of some w ≡ bit_of any w)
    → ((w : ℕ) → (w ≡ i / 64 → ⊥) → bit_of short w ≡ bit_of lacks w)
    → bit_of some (i / 64) ≡ not (slice_index new (i / 64) == 0)
    → bit_of short (i / 64) ≡ not (slice_index new (i / 64) == full_word count (i / 64))
    → IsMarked count new some short
written count words any lacks new some short i is lt size some_size short_size others bits kept left has misses = record {
  small = is.small;
  size = size ∙ is.size;
  any_size = omega (arith, is.any_size, size, some_size);
  lacks_size = omega (arith, is.lacks_size, size, short_size);
  inside = λ k past. bits k (λ e. omega (arith, e, past, lt)) ∙ is.inside k past;
  any_marks = marks_written words new any some (i / 64) (λ _. 0) is.any_marks others kept has;
  lacks_marks = marks_written words new lacks short (i / 64) (full_word count) is.lacks_marks others left misses;
}

-- marks of no member
pub none_marked : (count : ℕ) (words any lacks : List ℕ) (n m : ℕ) → count < 2 ^ 32
    → n ≡ words_for count → m ≡ words_for n → words ≡ replicate n 0 → any ≡ replicate m 0
    → length lacks ≡ words_for n → ((w : ℕ) → bit_of lacks w ≡ nat_lt w n)
    → IsMarked count words any lacks
none_marked count words any lacks n m small size any_size zero none lacks_size all =
    let words_size : length words ≡ n = ap (λ (xs : List ℕ). length xs) zero ∙ length-replicate n 0 in
    let marks_size : length any ≡ m = ap (λ (xs : List ℕ). length xs) none ∙ length-replicate m 0 in
    let empty : (w : ℕ) → slice_index words w ≡ 0 = λ w. ap (λ (xs : List ℕ). slice_index xs w) zero ∙ zero_at n w in
    record {
      small = small;
      size = words_size ∙ size;
      any_size = marks_size ∙ any_size ∙ ap (λ (k : ℕ). words_for k) (sym words_size);
      lacks_size = lacks_size ∙ ap (λ (k : ℕ). words_for k) (sym words_size);
      inside = λ i _. ap (λ (xs : List ℕ). bit_of xs i) zero ∙ no_bit n i;
      any_marks = λ w. ap (λ (xs : List ℕ). bit_of xs w) none ∙ no_bit m w ∙ sym (ap (λ (v : ℕ). not (v == 0)) (empty w));
      lacks_marks = λ w. all w ∙ lacking w ∙ sym (ap (λ (v : ℕ). not (v == full_word count w)) (empty w));
    }
  where
    lacking : (w : ℕ) → nat_lt w n ≡ not (0 == full_word count w)
    lacking w = ⊎_elim
        (λ lt. lt-ltb w n lt ∙ sym (ap not (ne_eqb 0 (full_word count w) (λ e.
        let some : 2 ^ 0 < 2 ^ min 64 (count - 64 * w) = pow_below 0 (min 64 (count - 64 * w)) (omega arith) in omega (arith, some, e)))))
        (λ ge. le-ltb w n ge ∙ sym (ap not (eq-eqb 0 (full_word count w) (
        let none_left : min 64 (count - 64 * w) ≡ 0 = omega arith in sym (ap (λ (k : ℕ). 2 ^ k - 1) none_left)))))
        (cases_lt w n)

-- one word of a list
pub word_of : (count : ℕ) (words : List ℕ) (xs : List Bool) (w : ℕ) → bits_of count words ≡ xs
    → ((k : ℕ) → count ≤ k → bit_of words k ≡ false) → IsWordOf xs w (slice_index words w)
word_of count words xs w view none k lt =
    let word : (64 * w + k) / 64 ≡ w = omega arith in
    let place : (64 * w + k) % 64 ≡ k = omega arith in
    ap (λ (p : ℕ). bit_at (slice_index words w) p == 1) (sym place)
    ∙ ap (λ (u : ℕ). bit_at (slice_index words u) ((64 * w + k) % 64) == 1) (sym word)
    ∙ sym (value_bit count words xs (64 * w + k) view none)

-- the marks of a list's words
pub marks_of : (count : ℕ) (words any : List ℕ) (xs : List Bool) → bits_of count words ≡ xs
    → ((k : ℕ) → count ≤ k → bit_of words k ≡ false)
    → length words ≡ words_for count → length any ≡ words_for (length words)
    → ((w : ℕ) → bit_of any w ≡ not (slice_index words w == 0))
    → AreMarksOf xs any
marks_of count words any xs view none size any_size marks = record {
  size = any_size ∙ ap (λ (n : ℕ). words_for n) (size ∙ ap (λ (n : ℕ). words_for n) (sym (value_size count words xs view)));
  some = λ i is_set. marks (i / 64) ∙ ap not (ne_eqb (slice_index words (i / 64)) 0 (λ zero.
      both_ways (bit_of words i)
      (ap (λ (v : ℕ). bit_at v (i % 64) == 1) zero ∙ ap (λ (b : ℕ). b == 1) (bit_at-zero (i % 64)))
      (sym (value_bit count words xs i view none) ∙ is_set)));
  inside = λ w is_set. omega (arith, word_within words w (marked (slice_index words w) 0 (bit_of any w) (marks w) is_set), size, value_size count words xs view);
}
