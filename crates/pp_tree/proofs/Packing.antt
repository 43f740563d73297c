-- Bits in words.
use Rattle.std.proofs.Common.{◌≡◌, ⊎_elim, ℕ, ◌+◌, ◌-◌, ◌*◌, ◌/◌, ◌%◌, ◌^◌, ◌<◌, ◌≤◌, ◌==◌, max, nat_le, Bool, true, false, ◌&&◌, ◌||◌, List, length, replicate, refl, sym, ◌∙◌, ap, arith, w64, bit_or}
use Rattle.std.specs.Prelude.{slice_index, slice_set, slice_index_or}
use Rattle.std.specs.Int.{bit_at, bit_not, trailing_ones}
use Rattle.std.proofs.Math.Nat.{div-div-eq-div-mul}
use Rattle.std.proofs.lemmas.Nat.{pow-add, pow_pos, one_shl, trailing_le}
use Rattle.std.proofs.Math.Pow.{pow-lt}
use Rattle.std.proofs.lemmas.Nat.Bits.{ones_shr, bit_at_or, bit_at-lt, bit_at-zero, bit_at_mask_inside, bit_at_mask_below, bit_at_mask_above, bit_at_ones, bit_at_ones_above, bit_at_above, bit_at-trailing_ones, same_from_bits}
use Rattle.std.proofs.lemmas.List.{get_or-set_same, get_or-set_other, get_or_past, get_or-replicate, length-replicate, length-set, same_lists, get_or_default}
use Rattle.std.proofs.lemmas.List.FromFn.{length-map-range_with_len, get_or-map-range_with_len}
use Rattle.std.proofs.lemmas.Bool.{cases_eq, cases_lt, eqb-true, eq-eqb, ne_eqb}
use Rattle.std.proofs.lemmas.Bool.Decides.{nat_tests}
use Rattle.std.proofs.Math.Bool.{or-true, or-false}
use Rattle.pp_tree.specs.Bits.{bit_of, bits_of, IsSummary, IsPacked}

-- the word of ones from one place to another, as it is computed
pub ones_from : (first last : ℕ) → first ≤ last → last < 64
    → (1 * 2 ^ first % 2 ^ 64 ≡ 2 ^ first) × ((2 ^ 64 - 1) / 2 ^ (63 - last) ≡ 2 ^ (last + 1) - 1) × (2 ^ first < 2 ^ (last + 1)) × (0 < 2 ^ first)
ones_from first last order inside =
    let up : 2 ^ first < 2 ^ (last + 1) = pow-lt (omega arith) in (
      one_shl first 64 (omega arith),
      ones_shr 64 (63 - last) (omega arith) ∙ ap (λ (k : ℕ). 2 ^ k - 1) (omega arith),
      up,
      pow_pos first,
    )

-- which bits it has
pub masked : (first last k : ℕ) → first ≤ last → (bit_at (2 ^ (last + 1) - 2 ^ first) k == 1) ≡ (nat_le first k && nat_le k last)
masked first last k order = ⊎_elim
    (λ below. ap (λ (b : ℕ). b == 1) (bit_at_mask_below first (last + 1) k below) ∙ grind (arith, nat_tests))
    (λ from. ⊎_elim
    (λ inside. ap (λ (b : ℕ). b == 1) (bit_at_mask_inside first (last + 1) k from inside) ∙ grind (arith, nat_tests))
    (λ above. ap (λ (b : ℕ). b == 1) (bit_at_mask_above first (last + 1) k above) ∙ grind (arith, nat_tests))
    (cases_lt k (last + 1)))
    (cases_lt k first)

either_bit : (a b : ℕ) → a < 2 → b < 2 → (max a b == 1) ≡ (a == 1 || b == 1)
either_bit a b low small = grind (arith, nat_tests)

pub joined : (a m k : ℕ) → (bit_at (bit_or a m) k == 1) ≡ (bit_at a k == 1 || bit_at m k == 1)
joined a m k = ap (λ (b : ℕ). b == 1) (bit_at_or a m k) ∙ either_bit (bit_at a k) (bit_at m k) (bit_at-lt a k) (bit_at-lt m k)

in_word : (first last i : ℕ) → first / 64 ≡ last / 64 → i / 64 ≡ first / 64
    → (nat_le (first % 64) (i % 64) && nat_le (i % 64) (last % 64)) ≡ (nat_le first i && nat_le i last)
in_word first last i one here = grind (arith, nat_tests)

out_of_word : (first last i : ℕ) → first / 64 ≡ last / 64 → (i / 64 ≡ first / 64 → ⊥) → (nat_le first i && nat_le i last) ≡ false
out_of_word first last i one other = grind (arith, nat_tests)

-- bits of one word set
pub word_filled : (words : List ℕ) (first last m : ℕ) → first ≤ last → first / 64 ≡ last / 64 → last / 64 < length words → m ≡ 2 ^ (last % 64 + 1) - 2 ^ (first % 64)
    → (i : ℕ) → bit_of (slice_set words (first / 64) (bit_or (slice_index words (first / 64)) m)) i ≡ (bit_of words i || (nat_le first i && nat_le i last))
word_filled words first last m order one inside is i = ⊎_elim
    (λ here.
    ap (λ (w : ℕ). bit_at (slice_index (slice_set words (first / 64) (bit_or (slice_index words (first / 64)) m)) w) (i % 64) == 1) here
    ∙ ap (λ (w : ℕ). bit_at w (i % 64) == 1) (get_or-set_same words (first / 64) (bit_or (slice_index words (first / 64)) m) 0 (omega arith))
    ∙ joined (slice_index words (first / 64)) m (i % 64)
    ∙ ap (λ (w : ℕ). bit_at (slice_index words w) (i % 64) == 1 || bit_at m (i % 64) == 1) (sym here)
    ∙ ap (λ (b : Bool). bit_of words i || b) (ap (λ (w : ℕ). bit_at w (i % 64) == 1) is ∙ masked (first % 64) (last % 64) (i % 64) (omega arith) ∙ in_word first last i one here))
    (λ other.
    ap (λ (w : ℕ). bit_at w (i % 64) == 1) (get_or-set_other words (first / 64) (i / 64) (bit_or (slice_index words (first / 64)) m) 0 other)
    ∙ sym (or-false (bit_of words i))
    ∙ ap (λ (b : Bool). bit_of words i || b) (sym (out_of_word first last i one other)))
    (cases_eq (i / 64) (first / 64))

-- a word of ones stays one
pub ones_stay : (m : ℕ) → m < 2 ^ 64 → bit_or (2 ^ 64 - 1) m ≡ 2 ^ 64 - 1
ones_stay m fits = same_from_bits (bit_or (2 ^ 64 - 1) m) (2 ^ 64 - 1) (λ k. bit_at_or (2 ^ 64 - 1) m k ∙ ⊎_elim
    (λ low. let all : bit_at (2 ^ 64 - 1) k ≡ 1 = bit_at_ones 64 k low in omega (arith, all, bit_at-lt m k))
    (λ high. let none : bit_at (2 ^ 64 - 1) k ≡ 0 = bit_at_ones_above 64 k high in omega (arith, none, bit_at_above m 64 k fits high))
    (cases_lt k 64))

-- a bit of the list
pub bit_in : (count : ℕ) (words : List ℕ) (i : ℕ) → i < count → slice_index_or (bits_of count words) i false ≡ bit_of words i
bit_in count words i inside = get_or-map-range_with_len (bit_of words) 0 count i i false inside (omega arith)

pub bit_past : (count : ℕ) (words : List ℕ) (i : ℕ) → count ≤ i → slice_index_or (bits_of count words) i false ≡ false
bit_past count words i past = get_or_past (bits_of count words) i false (let size : length (bits_of count words) ≡ count = length-map-range_with_len (bit_of words) 0 count in omega (arith, size))

pub count_is : (count : ℕ) (words : List ℕ) → length (bits_of count words) ≡ count
count_is count words = length-map-range_with_len (bit_of words) 0 count

-- what is set in the words is set in the list
pub bits_more : (count : ℕ) (old new : List ℕ) (first last : ℕ) → last < count
    → ((i : ℕ) → bit_of new i ≡ (bit_of old i || (nat_le first i && nat_le i last)))
    → (i : ℕ) → slice_index_or (bits_of count new) i false ≡ (slice_index_or (bits_of count old) i false || (nat_le first i && nat_le i last))
bits_more count old new first last inside more i = ⊎_elim
    (λ lt. bit_in count new i lt ∙ more i ∙ ap (λ (b : Bool). b || (nat_le first i && nat_le i last)) (sym (bit_in count old i lt)))
    (λ ge.
    let out : (nat_le first i && nat_le i last) ≡ false = grind (arith, nat_tests) in
    bit_past count new i ge ∙ sym (ap (λ (b : Bool). slice_index_or (bits_of count old) i false || b) out ∙ or-false (slice_index_or (bits_of count old) i false) ∙ bit_past count old i ge))
    (cases_lt i count)

pub zero_at : (n k : ℕ) → slice_index (replicate n 0) k ≡ 0
zero_at n k = ⊎_elim
    (λ lt. get_or-replicate n k 0 0 lt)
    (λ ge. get_or_past (replicate n 0) k 0 (let size : length {A = ℕ} (replicate n 0) ≡ n = length-replicate n 0 in omega (arith, size)))
    (cases_lt k n)

pub no_bit : (n i : ℕ) → bit_of (replicate n 0) i ≡ false
no_bit n i = ap (λ (w : ℕ). bit_at w (i % 64) == 1) (zero_at n (i / 64)) ∙ ap (λ (b : ℕ). b == 1) (bit_at-zero (i % 64))

-- words of zeros have no bit
pub none_set : (count n : ℕ) (words : List ℕ) → words ≡ replicate n 0 → bits_of count words ≡ replicate count false
none_set count n words is = same_lists (bits_of count words) (replicate count false) (count_is count words ∙ sym (length-replicate count false))
    (λ k d lt. let low : k < count = omega (arith, lt, count_is count words) in
    get_or-map-range_with_len (bit_of words) 0 count k k d low (omega arith)
    ∙ ap (λ (xs : List ℕ). bit_of xs k) is ∙ no_bit n k ∙ sym (get_or-replicate count k false d low))

-- one bit set
pub one_set : (old new : List Bool) (i : ℕ) → length new ≡ length old → i < length old
    → ((k : ℕ) → slice_index_or new k false ≡ (slice_index_or old k false || (nat_le i k && nat_le k i)))
    → new ≡ slice_set old i true
one_set old new i size inside more = same_lists new (slice_set old i true) (size ∙ sym (length-set old i true))
    (λ k d lt. get_or_default new k d false lt ∙ more k ∙ ⊎_elim
    (λ here. let both : (nat_le i k && nat_le k i) ≡ true = grind (arith, nat_tests) in
    ap (λ (b : Bool). slice_index_or old k false || b) both ∙ or-true (slice_index_or old k false)
    ∙ sym (ap (λ (j : ℕ). slice_index_or (slice_set old i true) j d) here ∙ get_or-set_same old i true d inside))
    (λ other. let neither : (nat_le i k && nat_le k i) ≡ false = grind (arith, nat_tests) in
    ap (λ (b : Bool). slice_index_or old k false || b) neither ∙ or-false (slice_index_or old k false)
    ∙ get_or_default old k false d (omega (arith, lt, size))
    ∙ sym (get_or-set_other old i k true d other))
    (cases_eq k i))

-- The summary over words of which one was written: full now, or not full.
pub summary_more : (words new summary changed : List ℕ) (w : ℕ) → IsSummary summary words
    → ((k : ℕ) → (k ≡ w → ⊥) → slice_index new k ≡ slice_index words k)
    → slice_index new w ≡ 2 ^ 64 - 1
    → ((k : ℕ) → bit_of changed k ≡ (bit_of summary k || (nat_le w k && nat_le k w)))
    → IsSummary changed new
summary_more words new summary changed w is others full more k = ⊎_elim
    (λ here. let both : (nat_le w k && nat_le k w) ≡ true = grind (arith, nat_tests) in
    more k ∙ ap (λ (b : Bool). bit_of summary k || b) both ∙ or-true (bit_of summary k)
    ∙ sym (eq-eqb (slice_index new k) (2 ^ 64 - 1) (ap (λ (j : ℕ). slice_index new j) here ∙ full)))
    (λ other. let neither : (nat_le w k && nat_le k w) ≡ false = grind (arith, nat_tests) in
    more k ∙ ap (λ (b : Bool). bit_of summary k || b) neither ∙ or-false (bit_of summary k) ∙ is k
    ∙ ap (λ (v : ℕ). v == 2 ^ 64 - 1) (sym (others k other)))
    (cases_eq k w)

pub summary_same : (words new summary : List ℕ) (w : ℕ) → IsSummary summary words
    → ((k : ℕ) → (k ≡ w → ⊥) → slice_index new k ≡ slice_index words k)
    → (slice_index words w ≡ 2 ^ 64 - 1 → slice_index new w ≡ 2 ^ 64 - 1)
    → (slice_index new w ≡ 2 ^ 64 - 1 → ⊥)
    → IsSummary summary new
summary_same words new summary w is others kept free k = ⊎_elim
    (λ here. is k
    ∙ ne_eqb (slice_index words k) (2 ^ 64 - 1) (λ e. free (kept (ap (λ (j : ℕ). slice_index words j) (sym here) ∙ e)))
    ∙ sym (ne_eqb (slice_index new k) (2 ^ 64 - 1) (λ e. free (ap (λ (j : ℕ). slice_index new j) (sym here) ∙ e))))
    (λ other. is k ∙ ap (λ (v : ℕ). v == 2 ^ 64 - 1) (sym (others k other)))
    (cases_eq k w)

pub packed_more : (count : ℕ) (words new summary changed : List ℕ) (w : ℕ) → IsPacked count words summary
    → length new ≡ length words → length changed ≡ length summary
    → ((k : ℕ) → (k ≡ w → ⊥) → slice_index new k ≡ slice_index words k)
    → slice_index new w ≡ 2 ^ 64 - 1
    → ((k : ℕ) → bit_of changed k ≡ (bit_of summary k || (nat_le w k && nat_le k w)))
    → IsPacked count new changed
packed_more count words new summary changed w is same kept others full more = (omega (arith, is.0, same), omega (arith, is.1, same, kept), summary_more words new summary changed w is.2 others full more, is.3)

pub packed_same : (count : ℕ) (words new summary : List ℕ) (w : ℕ) → IsPacked count words summary
    → length new ≡ length words
    → ((k : ℕ) → (k ≡ w → ⊥) → slice_index new k ≡ slice_index words k)
    → (slice_index words w ≡ 2 ^ 64 - 1 → slice_index new w ≡ 2 ^ 64 - 1)
    → (slice_index new w ≡ 2 ^ 64 - 1 → ⊥)
    → IsPacked count new summary
packed_same count words new summary w is same others kept free = (omega (arith, is.0, same), omega (arith, is.1, same), summary_same words new summary w is.2 others kept free, is.3)

-- no word of zeros is full
pub none_full : (n m : ℕ) (words summary : List ℕ) → words ≡ replicate n 0 → summary ≡ replicate m 0 → IsSummary summary words
none_full n m words summary is empty k =
    ap (λ (xs : List ℕ). bit_of xs k) empty ∙ no_bit m k
    ∙ sym (ap (λ (xs : List ℕ). slice_index xs k == 2 ^ 64 - 1) is ∙ ap (λ (v : ℕ). v == 2 ^ 64 - 1) (zero_at n k))

-- all bits of a word that the summary calls full
pub full_bits : (words summary : List ℕ) (w i : ℕ) → IsSummary summary words → bit_of summary w ≡ true → i / 64 ≡ w → bit_of words i ≡ true
full_bits words summary w i is full here =
    eq-eqb (bit_at (slice_index words (i / 64)) (i % 64)) 1
    (ap (λ (v : ℕ). bit_at v (i % 64)) (ap (λ (k : ℕ). slice_index words k) here ∙ eqb-true (slice_index words w) (2 ^ 64 - 1) (sym (is w) ∙ full))
    ∙ bit_at_ones 64 (i % 64) (omega arith))

-- a bit of the rest of a word of the summary
pub shifted : (v from j : ℕ) → bit_at (v / 2 ^ from) j ≡ bit_at v (from + j)
shifted v from j = ap (λ (q : ℕ). q % 2) (div-div-eq-div-mul v (2 ^ from) (2 ^ j) ∙ ap (λ (d : ℕ). v / d) (sym (pow-add 2 from j)))

pub all_ones : (v from j : ℕ) → v ≡ 2 ^ 64 - 1 → j < 64 - from → bit_at (v / 2 ^ from) j ≡ 1
all_ones v from j all lt = shifted v from j ∙ ap (λ (n : ℕ). bit_at n (from + j)) all ∙ bit_at_ones 64 (from + j) (omega (arith, lt))

-- words in a row that are full
pub run_full : (words summary : List ℕ) (v w run i : ℕ) → IsSummary summary words → v ≡ slice_index summary (w / 64) → v < 2 ^ 64
    → ((j : ℕ) → j < run → bit_at (v / 2 ^ (w % 64)) j ≡ 1)
    → 64 * w ≤ i → i < 64 * (w + run) → bit_of words i ≡ true
run_full words summary v w run i is at fits ones low high =
    full_bits words summary (i / 64) i is (⊎_elim (λ lt. here lt) (λ ge. absurd (past ge)) (cases_lt (w % 64 + j) 64)) refl
  where
    j : ℕ
    j = i / 64 - w

    set : bit_at v (w % 64 + j) ≡ 1
    set = sym (shifted v (w % 64) j) ∙ ones j (omega arith)

    here : w % 64 + j < 64 → bit_of summary (i / 64) ≡ true
    here lt =
        let word : i / 64 / 64 ≡ w / 64 = omega arith in
        let place : i / 64 % 64 ≡ w % 64 + j = omega arith in
        eq-eqb (bit_at (slice_index summary (i / 64 / 64)) (i / 64 % 64)) 1
        (ap (λ (k : ℕ). bit_at (slice_index summary k) (i / 64 % 64)) word ∙ ap (λ (s : ℕ). bit_at s (i / 64 % 64)) (sym at) ∙ ap (λ (p : ℕ). bit_at v p) place ∙ set)

    past : 64 ≤ w % 64 + j → ⊥
    past ge = omega (arith, set, bit_at_above v 64 (w % 64 + j) fits ge)

-- the ones at the low end of a number
pub ones_range : (n : ℕ) → trailing_ones w64 n ≤ 64
ones_range n = trailing_le 64 (bit_not w64 n)

pub low_ones : (n : ℕ) → n < 2 ^ 64 → (j : ℕ) → j < trailing_ones w64 n → bit_at n j ≡ 1
low_ones n fits j lt = ⊎_elim
    (λ less. (bit_at-trailing_ones w64 n less).2 j lt)
    (λ most. let all : n ≡ 2 ^ 64 - 1 = omega arith in ap (λ (v : ℕ). bit_at v j) all ∙ bit_at_ones 64 j (omega (arith, lt, ones_range n)))
    (cases_lt (n + 1) (2 ^ 64))
