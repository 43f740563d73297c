-- Rows of bits.
use Rattle.std.proofs.Common.{◌≡◌, ⊎_elim, ℕ, ◌/◌, ◌%◌, ◌<◌, ◌≤◌, ◌==◌, not, Bool, true, false, ◌&&◌, ◌||◌, List, length, Option, None, Some, refl, sym, ◌∙◌, ap, arith, bit_or}
use Rattle.std.specs.Prelude.{slice_index, slice_set, slice_index_or}
use Rattle.std.specs.Int.{bit_at}
use Rattle.std.specs.Bool.{IsTrue}
use Rattle.std.specs.Option.{is_some}
use Rattle.std.proofs.lemmas.Nat.Bits.{bit_at-zero}
use Rattle.std.proofs.lemmas.List.{get_or-set_same, get_or-set_other, length-set}
use Rattle.std.proofs.lemmas.Bool.{cases_eq, eq-eqb, ne_eqb, false_from_ne_true, and_right}
use Rattle.pp_tree.specs.Bits.{bit_of, bits_of}
use Rattle.pp_tree.specs.Marks.{IsMarked, words_for, full_word, IsFirstFrom}
use Rattle.pp_tree.specs.Sets.{IsWordOf}
use Rattle.pp_tree.proofs.Packing.{joined}
use Rattle.pp_tree.proofs.Marking.{value_bit, value_size, marks_written, unmarked, gap_filled, no_gap}
use Rattle.pp_terms.proofs.Facts.{member_below}
use Rattle.pp_avail.specs.Rows.{is_among, AreWordsOf}
use Rattle.pp_avail.proofs.Counting.{word_here}

pub word_kept : (words : List ℕ) (w v word : ℕ) → (v ≡ w → ⊥) → slice_index (slice_set words w word) v ≡ slice_index words v
word_kept words w v word other = get_or-set_other words w v word 0 other

pub word_set : (words : List ℕ) (w word : ℕ) → w < length words → slice_index (slice_set words w word) w ≡ word
word_set words w word inside = get_or-set_same words w word 0 inside

-- one word written, and its marks
pub row_written : (count : ℕ) (words any lacks some short : List ℕ) (w word : ℕ) → IsMarked count words any lacks
    → length some ≡ length any → length short ≡ length lacks
    → ((i : ℕ) → count ≤ i → bit_of (slice_set words w word) i ≡ false)
    → ((v : ℕ) → (v ≡ w → ⊥) → bit_of some v ≡ bit_of any v)
    → ((v : ℕ) → (v ≡ w → ⊥) → bit_of short v ≡ bit_of lacks v)
    → bit_of some w ≡ not (slice_index (slice_set words w word) w == 0)
    → bit_of short w ≡ not (slice_index (slice_set words w word) w == full_word count w)
    → IsMarked count (slice_set words w word) some short
row_written count words any lacks some short w word is some_size short_size none kept left has misses =
    let size : length (slice_set words w word) ≡ length words = length-set words w word in record {
      small = is.small;
      size = size ∙ is.size;
      any_size = some_size ∙ is.any_size ∙ ap (λ (n : ℕ). words_for n) (sym size);
      lacks_size = short_size ∙ is.lacks_size ∙ ap (λ (n : ℕ). words_for n) (sym size);
      inside = none;
      any_marks = marks_written words (slice_set words w word) any some w (λ _. 0) is.any_marks (λ v other. word_kept words w v word other) kept has;
      lacks_marks = marks_written words (slice_set words w word) lacks short w (full_word count) is.lacks_marks (λ v other. word_kept words w v word other) left misses;
    }

-- the bits of a list of words, one of which was written
pub bits_written : (words : List ℕ) (w word i : ℕ) → w < length words
    → bit_of (slice_set words w word) i ≡ ((i / 64 == w && bit_at word (i % 64) == 1) || (not (i / 64 == w) && bit_of words i))
bits_written words w word i inside = ⊎_elim
    (λ here.
    ap (λ (v : ℕ). bit_at (slice_index (slice_set words w word) v) (i % 64) == 1) here
    ∙ ap (λ (v : ℕ). bit_at v (i % 64) == 1) (word_set words w word inside)
    ∙ sym (first (i / 64 == w) (bit_at word (i % 64) == 1) (bit_of words i) (eq-eqb (i / 64) w here)))
    (λ other.
    ap (λ (v : ℕ). bit_at v (i % 64) == 1) (word_kept words w (i / 64) word other)
    ∙ sym (second (i / 64 == w) (bit_at word (i % 64) == 1) (bit_of words i) (ne_eqb (i / 64) w other)))
    (cases_eq (i / 64) w)
  where
    first : (t a b : Bool) → t ≡ true → ((t && a) || (not t && b)) ≡ a
    first true true b is = refl
    first true false b is = refl
    first false a b is = absurd (cc)

    second : (t a b : Bool) → t ≡ false → ((t && a) || (not t && b)) ≡ b
    second false a b is = refl
    second true a b is = absurd (cc)

-- what the row says once its words are written
pub row_bits : (count : ℕ) (words : List ℕ) (i : ℕ) → ((k : ℕ) → count ≤ k → bit_of words k ≡ false) → slice_index_or (bits_of count words) i false ≡ bit_of words i
row_bits count words i none = value_bit count words (bits_of count words) i refl none

-- no bit set lies past the row
pub among_inside : (count w bits i : ℕ) → ((k : ℕ) → is_among w bits k ≡ true → k < count) → count ≤ i → is_among w bits i ≡ false
among_inside count w bits i inside past = false_from_ne_true (is_among w bits i) (λ among. omega (arith, inside i among, past))

-- the words of a row
pub words_of : (count : ℕ) (words any lacks : List ℕ) (xs : List Bool) → bits_of count words ≡ xs → IsMarked count words any lacks → AreWordsOf xs words
words_of count words any lacks xs view is = record {
  size = is.size ∙ ap (λ (n : ℕ). words_for n) (sym (value_size count words xs view));
  bits = λ i. sym (value_bit count words xs i view is.inside);
}

-- no bit stands past a row once a word was written
pub written_inside : (count : ℕ) (words any lacks : List ℕ) (w word i : ℕ) → IsMarked count words any lacks → w < length words
    → ((k : ℕ) → is_among w word k ≡ true → k < count) → count ≤ i → bit_of (slice_set words w word) i ≡ false
written_inside count words any lacks w word i is inside low past =
    bits_written words w word i inside
    ∙ ap (λ (b : Bool). b || (not (i / 64 == w) && bit_of words i)) (among_inside count w word i low past)
    ∙ ap (λ (b : Bool). not (i / 64 == w) && b) (is.inside i past) ∙ and_right (not (i / 64 == w)) false refl

-- a bit of a word to which bits are added
pub among_both : (row : List Bool) (w word bits i : ℕ) → IsWordOf row w word
    → is_among w (bit_or word bits) i ≡ (i / 64 == w && (slice_index_or row i false || bit_at bits (i % 64) == 1))
among_both row w word bits i is = ⊎_elim
    (λ here. ap (λ (b : Bool). i / 64 == w && b) (joined word bits (i % 64) ∙ ap (λ (b : Bool). b || bit_at bits (i % 64) == 1) (word_here row w word i is here)))
    (λ other. first (i / 64 == w) (bit_at (bit_or word bits) (i % 64) == 1) (slice_index_or row i false || bit_at bits (i % 64) == 1) (ne_eqb (i / 64) w other))
    (cases_eq (i / 64) w)
  where
    first : (t a b : Bool) → t ≡ false → (t && a) ≡ (t && b)
    first false a b is = refl
    first true a b is = absurd (cc)

-- which are in the row or among the bits
pub both_inside : (row : List Bool) (w word bits i : ℕ) → IsWordOf row w word → ((k : ℕ) → is_among w bits k ≡ true → k < length row)
    → is_among w (bit_or word bits) i ≡ true → i < length row
both_inside row w word bits i is inside among = apart (i / 64 == w) (slice_index_or row i false) (bit_at bits (i % 64) == 1)
    (sym (among_both row w word bits i is) ∙ among) (λ has. member_below row i has) (λ bit. inside i bit)
  where
    apart : (t a b : Bool) → (t && (a || b)) ≡ true → (a ≡ true → i < length row) → ((t && b) ≡ true → i < length row) → i < length row
    apart true true b all one two = one refl
    apart true false true all one two = two refl
    apart true false false all one two = absurd (cc)
    apart false a b all one two = absurd (cc)

-- a word with bits added in the place of what it was
pub joined_row : (row : List Bool) (w word bits i : ℕ) → IsWordOf row w word
    → (is_among w (bit_or word bits) i || (not (i / 64 == w) && slice_index_or row i false)) ≡ (slice_index_or row i false || is_among w bits i)
joined_row row w word bits i is = ap (λ (b : Bool). b || (not (i / 64 == w) && slice_index_or row i false)) (among_both row w word bits i is)
    ∙ swap (i / 64 == w) (slice_index_or row i false) (bit_at bits (i % 64) == 1)
  where
    swap : (t a b : Bool) → ((t && (a || b)) || (not t && a)) ≡ (a || (t && b))
    swap true true b = refl
    swap true false true = refl
    swap true false false = refl
    swap false true b = refl
    swap false false b = refl

-- no bit is among those of an empty word
pub none_among : (w i : ℕ) → is_among w 0 i ≡ false
none_among w i = ap (λ (b : ℕ). i / 64 == w && b == 1) (bit_at-zero (i % 64)) ∙ and_right (i / 64 == w) false refl

-- a row without a marked word has no bit set
pub none_marked_bits : (count : ℕ) (words any lacks : List ℕ) (xs : List Bool) (i : ℕ) (found : Option ℕ) (none : Bool) → bits_of count words ≡ xs → IsMarked count words any lacks
    → IsFirstFrom (λ k. bit_of any k) 0 found → is_some found ≡ not none → IsTrue none → slice_index_or xs i false ≡ false
none_marked_bits count words any lacks xs i None none view is unset some empty =
    value_bit count words xs i view is.inside
    ∙ ap (λ (v : ℕ). bit_at v (i % 64) == 1) (unmarked (slice_index words (i / 64)) 0 (bit_of any (i / 64)) (is.any_marks (i / 64)) (unset (i / 64) (omega arith)))
    ∙ ap (λ (b : ℕ). b == 1) (bit_at-zero (i % 64))
none_marked_bits count words any lacks xs i (Some k) true view is first some empty = absurd (cc)
none_marked_bits count words any lacks xs i (Some k) false view is first some empty = absurd (cc)

-- a bit of a word that lacks none is set
pub full_before : (count : ℕ) (words any lacks : List ℕ) (xs : List Bool) (i : ℕ) → bits_of count words ≡ xs → IsMarked count words any lacks
    → bit_of lacks (i / 64) ≡ false → i < length xs → slice_index_or xs i false ≡ true
full_before count words any lacks xs i view is unset lt =
    let size : length xs ≡ count = value_size count words xs view in
    gap_filled count words xs i view is.inside (omega (arith, lt, size))
    (ap (λ (v : ℕ). bit_at v (i % 64) == 1) (no_gap (slice_index words (i / 64)) (full_word count (i / 64))
    (unmarked (slice_index words (i / 64)) (full_word count (i / 64)) (bit_of lacks (i / 64)) (is.lacks_marks (i / 64)) unset))
    ∙ ap (λ (b : ℕ). b == 1) (bit_at-zero (i % 64)))
