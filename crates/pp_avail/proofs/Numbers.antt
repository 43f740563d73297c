-- The numbers of several planes.
use Rattle.std.proofs.Common.{◌≡◌, ◌≢◌, ⊎_elim, ℕ, zero, suc, ◌+◌, ◌*◌, ◌-◌, ◌/◌, ◌%◌, ◌^◌, ◌<◌, ◌≤◌, ◌==◌, Bool, true, false, cond, ◌&&◌, List, [], length, replicate, Option, None, Some, refl, sym, ◌∙◌, ap, subst, arith, bit_and}
use Rattle.std.specs.Prelude.{slice_index, slice_set, slice_index_or, MatchOption}
use Rattle.std.specs.Int.{bit_at}
use Rattle.std.proofs.lemmas.Nat.Bits.{bit_at-lt, bit_at-zero}
use Rattle.std.proofs.lemmas.List.{get_or-set_same, get_or-set_other, get_or_past, get_or_default, get_or-replicate, length-set, length-replicate, same_lists}
use Rattle.std.proofs.lemmas.List.FromFn.{length-map-range_with_len, get_or-map-range_with_len}
use Rattle.std.proofs.lemmas.Bool.Decides.{nat_tests}
use Rattle.std.proofs.lemmas.Bool.{cases_eq, cases_lt, eq-eqb, ne_eqb, eqb-true, and_parts, false_from_ne_true, both_ways}
use Rattle.pp_terms.proofs.Facts.{member_below}
use Rattle.pp_tree.specs.Bits.{bit_of}
use Rattle.pp_tree.specs.Marks.{IsFirstFrom}
use Rattle.pp_tree.specs.Sets.{AreMarksOf}
use Rattle.pp_tree.proofs.Marking.{place_in, common_bit}
use Rattle.pp_avail.specs.declared.planes.Planes.{Planes}
use Rattle.pp_avail.specs.Planes.{number_at, no_planes, number_of, numbers_of}
use Rattle.pp_avail.specs.Rows.{is_among, AreWordsOf}
use Rattle.pp_avail.specs.Levels.{is_in, IsLevelAt, IsLevelled, is_found}

pub no_number : (k : ℕ) → number_at no_planes k ≡ 0
no_number k = omega (arith, bit_at-zero k)

pub numbers_size : (planes : List Planes) (xs : List ℕ) → numbers_of planes ≡ xs → length xs ≡ 64 * length planes
numbers_size planes xs view = ap (λ (ys : List ℕ). length ys) (sym view) ∙ length-map-range_with_len (number_of planes) 0 (64 * length planes)

past_planes : (planes : List Planes) (i : ℕ) → length planes ≤ i / 64 → number_of planes i ≡ 0
past_planes planes i past = ap (λ (p : Planes). number_at p (i % 64)) (get_or_past planes (i / 64) no_planes past) ∙ no_number (i % 64)

pub number_read : (planes : List Planes) (xs : List ℕ) (i : ℕ) → numbers_of planes ≡ xs → slice_index xs i ≡ number_of planes i
number_read planes xs i view = ap (λ (ys : List ℕ). slice_index ys i) (sym view) ∙ ⊎_elim
    (λ lt. get_or-map-range_with_len (number_of planes) 0 (64 * length planes) i i 0 lt (omega arith))
    (λ ge. get_or_past (numbers_of planes) i 0 (let size = length-map-range_with_len (number_of planes) 0 (64 * length planes) in omega (arith, size, ge))
    ∙ sym (past_planes planes i (omega (arith, ge))))
    (cases_lt i (64 * length planes))

-- the number at a place of one word
pub number_here : (planes : List Planes) (w k : ℕ) → k < 64 → number_of planes (64 * w + k) ≡ number_at (slice_index_or planes w no_planes) k
number_here planes w k lt =
    let word : (64 * w + k) / 64 ≡ w = omega arith in
    let place : (64 * w + k) % 64 ≡ k = omega arith in
    ap (λ (v : ℕ). number_at (slice_index_or planes v no_planes) ((64 * w + k) % 64)) word
    ∙ ap (λ (j : ℕ). number_at (slice_index_or planes w no_planes) j) place

pub place_read : (planes : List Planes) (xs : List ℕ) (word : Planes) (w k : ℕ) → numbers_of planes ≡ xs → w < length planes
    → word ≡ slice_index_or planes w word → k < 64 → slice_index xs (64 * w + k) ≡ number_at word k
place_read planes xs word w k view inside at lt =
    number_read planes xs (64 * w + k) view ∙ number_here planes w k lt
    ∙ ap (λ (p : Planes). number_at p k) (sym (at ∙ get_or_default planes w word no_planes inside))

pub number_by_word : (planes : List Planes) (xs : List ℕ) (word : Planes) (w i : ℕ) → numbers_of planes ≡ xs → w < length planes
    → word ≡ slice_index_or planes w word → i / 64 ≡ w → number_at word (i % 64) ≡ slice_index xs i
number_by_word planes xs word w i view inside at here =
    ap (λ (p : Planes). number_at p (i % 64)) (at ∙ get_or_default planes w word no_planes inside)
    ∙ ap (λ (v : ℕ). number_at (slice_index_or planes v no_planes) (i % 64)) (sym here)
    ∙ sym (number_read planes xs i view)

-- the numbers once those of one word are written
pub numbers_written : (planes : List Planes) (xs : List ℕ) (w i : ℕ) (word : Planes) → numbers_of planes ≡ xs → w < length planes
    → slice_index (numbers_of (slice_set planes w word)) i ≡ cond (i / 64 == w) (number_at word (i % 64)) (slice_index xs i)
numbers_written planes xs w i word view inside = number_read (slice_set planes w word) (numbers_of (slice_set planes w word)) i refl ∙ ⊎_elim
    (λ here.
    ap (λ (v : ℕ). number_at (slice_index_or (slice_set planes w word) v no_planes) (i % 64)) here
    ∙ ap (λ (p : Planes). number_at p (i % 64)) (get_or-set_same planes w word no_planes inside)
    ∙ sym (ap (λ (b : Bool). cond b (number_at word (i % 64)) (slice_index xs i)) (eq-eqb (i / 64) w here)))
    (λ other.
    ap (λ (p : Planes). number_at p (i % 64)) (get_or-set_other planes w (i / 64) word no_planes other)
    ∙ sym (number_read planes xs i view)
    ∙ sym (ap (λ (b : Bool). cond b (number_at word (i % 64)) (slice_index xs i)) (ne_eqb (i / 64) w other)))
    (cases_eq (i / 64) w)

level_other : (levels changed : List (List Bool)) (v : ℕ) (old new : Planes) (fewer : ℕ) → IsLevelAt levels v old fewer
    → new ≡ old → is_in changed fewer v ≡ is_in levels fewer v → IsLevelAt changed v new fewer
level_other levels changed v old new fewer is same kept = subst (λ (p : Planes). IsLevelAt changed v p fewer) (sym same) (record {
  some = λ k lt number. kept ∙ is.some k lt number;
  none = λ others. kept ∙ is.none others;
})

-- the levels once the numbers of one word are written
pub levelled_anew : (planes : List Planes) (levels changed : List (List Bool)) (w : ℕ) (word : Planes) → IsLevelled planes levels → w < length planes
    → ((k : ℕ) → k < 64 → number_at word k ≤ 64) → length changed ≡ 64
    → ((k : ℕ) → length (slice_index_or changed k []) ≡ length (slice_index_or levels k []))
    → ((k v : ℕ) → v ≢ w → is_in changed k v ≡ is_in levels k v)
    → ((fewer : ℕ) → fewer < 64 → IsLevelAt changed w word fewer)
    → IsLevelled (slice_set planes w word) changed
levelled_anew planes levels changed w word is inside most width sizes others here = record {
  small = omega (arith, is.small, length-set planes w word);
  width = width;
  sizes = λ k lt. sizes k ∙ is.sizes k lt ∙ sym (length-set planes w word);
  most = λ i. ⊎_elim
      (λ same. let number : number_of (slice_set planes w word) i ≡ number_at word (i % 64) =
      ap (λ (v : ℕ). number_at (slice_index_or (slice_set planes w word) v no_planes) (i % 64)) same
      ∙ ap (λ (p : Planes). number_at p (i % 64)) (get_or-set_same planes w word no_planes inside) in
      omega (arith, number, most (i % 64) (omega arith)))
      (λ other. let number : number_of (slice_set planes w word) i ≡ number_of planes i =
      ap (λ (p : Planes). number_at p (i % 64)) (get_or-set_other planes w (i / 64) word no_planes other) in
      omega (arith, number, is.most i))
      (cases_eq (i / 64) w);
  level = λ v fewer lt within. ⊎_elim
      (λ same. subst (λ (u : ℕ). IsLevelAt changed u (slice_index_or (slice_set planes w word) u no_planes) fewer) (sym same)
      (subst (λ (p : Planes). IsLevelAt changed w p fewer) (sym (get_or-set_same planes w word no_planes inside)) (here fewer lt)))
      (λ other. level_other levels changed v (slice_index_or planes v no_planes) (slice_index_or (slice_set planes w word) v no_planes) fewer
      (is.level v fewer lt (omega (arith, within, length-set planes w word)))
      (get_or-set_other planes w v word no_planes other) (others fewer v other))
      (cases_eq v w);
}

-- no numbers, and no levels
no_planes_read : (n i : ℕ) → slice_index_or (replicate n no_planes) i no_planes ≡ no_planes
no_planes_read n i = ⊎_elim (λ lt. get_or-replicate n i no_planes no_planes lt)
    (λ ge. get_or_past (replicate n no_planes) i no_planes (let size : length (replicate n no_planes) ≡ n = length-replicate n no_planes in omega (arith, ge, size)))
    (cases_lt i n)

none_in : (m n k i : ℕ) → is_in (replicate m (replicate n false)) k i ≡ false
none_in m n k i = ⊎_elim
    (λ lt. ap (λ (xs : List Bool). slice_index_or xs i false) (get_or-replicate m k (replicate n false) [] lt) ∙ empty)
    (λ ge. ap (λ (xs : List Bool). slice_index_or xs i false)
    (get_or_past (replicate m (replicate n false)) k [] (let size : length (replicate m (replicate n false)) ≡ m = length-replicate m (replicate n false) in omega (arith, ge, size))))
    (cases_lt k m)
  where
    empty : slice_index_or (replicate n false) i false ≡ false
    empty = ⊎_elim (λ lt. get_or-replicate n i false false lt)
        (λ ge. get_or_past (replicate n false) i false (let size : length {A = Bool} (replicate n false) ≡ n = length-replicate n false in omega (arith, ge, size)))
        (cases_lt i n)

pub none_levelled : (n : ℕ) (planes : List Planes) (levels : List (List Bool)) → n < 2 ^ 26 → planes ≡ replicate n no_planes → levels ≡ replicate 64 (replicate n false)
    → IsLevelled planes levels
none_levelled n planes levels small none empty =
    let size : length planes ≡ n = ap (λ (xs : List Planes). length xs) none ∙ length-replicate n no_planes in
    let number : (v k : ℕ) → number_at (slice_index_or planes v no_planes) k ≡ 0 = λ v k.
    ap (λ (xs : List Planes). number_at (slice_index_or xs v no_planes) k) none ∙ ap (λ (p : Planes). number_at p k) (no_planes_read n v) ∙ no_number k in
    record {
      small = omega (arith, size, small);
      width = ap (λ (xs : List (List Bool)). length xs) empty ∙ length-replicate 64 (replicate n false);
      sizes = λ k lt. ap (λ (xs : List (List Bool)). length (slice_index_or xs k [])) empty
          ∙ ap (λ (xs : List Bool). length xs) (get_or-replicate 64 k (replicate n false) [] lt) ∙ length-replicate n false ∙ sym size;
      most = λ i. omega (arith, number (i / 64) (i % 64));
      level = λ w fewer lt inside. record {
        some = λ k low is. absurd (omega (arith, is, number w k));
        none = λ others. ap (λ (xs : List (List Bool)). is_in xs fewer w) empty ∙ none_in 64 n fewer w;
      };
    }

pub none_numbers : (n : ℕ) (planes : List Planes) → planes ≡ replicate n no_planes → numbers_of planes ≡ replicate (64 * n) 0
none_numbers n planes none =
    let size : length planes ≡ n = ap (λ (xs : List Planes). length xs) none ∙ length-replicate n no_planes in
    let long : length (numbers_of planes) ≡ 64 * n = numbers_size planes (numbers_of planes) refl ∙ ap (λ (k : ℕ). 64 * k) size in
    same_lists (numbers_of planes) (replicate (64 * n) 0) (long ∙ sym (length-replicate (64 * n) 0))
    (λ i d lt. get_or_default (numbers_of planes) i d 0 lt
    ∙ number_read planes (numbers_of planes) i refl
    ∙ ap (λ (xs : List Planes). number_at (slice_index_or xs (i / 64) no_planes) (i % 64)) none
    ∙ ap (λ (p : Planes). number_at p (i % 64)) (no_planes_read n (i / 64)) ∙ no_number (i % 64)
    ∙ sym (get_or-replicate (64 * n) i 0 d (omega (arith, lt, long))))

-- a number that is among the bits of a word
pub among_bit : (w word i : ℕ) → i / 64 ≡ w → bit_at word (i % 64) ≡ cond (is_among w word i) 1 0
among_bit w word i here = digit (i / 64 == w) (bit_at word (i % 64)) (bit_at-lt word (i % 64)) (eq-eqb (i / 64) w here)
  where
    digit : (t : Bool) (b : ℕ) → b < 2 → t ≡ true → b ≡ cond (t && b == 1) 1 0
    digit false b low is = absurd (cc)
    digit true zero low is = refl
    digit true (suc zero) low is = refl
    digit true (suc (suc b)) low is = absurd (omega (arith, low))

pub among_other : (w word i : ℕ) → i / 64 ≢ w → cond {A = ℕ} (is_among w word i) 1 0 ≡ 0
among_other w word i other = ap (λ (t : Bool). cond {A = ℕ} (t && bit_at word (i % 64) == 1) 1 0) (ne_eqb (i / 64) w other)

pub among_place : (w word k : ℕ) → k < 64 → bit_at word k ≡ 1 → is_among w word (64 * w + k) ≡ true
among_place w word k lt one =
    let word_is : (64 * w + k) / 64 ≡ w = omega arith in
    let place : (64 * w + k) % 64 ≡ k = omega arith in
    ap (λ (t : Bool). t && bit_at word ((64 * w + k) % 64) == 1) (eq-eqb ((64 * w + k) / 64) w word_is)
    ∙ ap (λ (j : ℕ). bit_at word j == 1) place ∙ eq-eqb (bit_at word k) 1 one

number_most : (p : Planes) (k : ℕ) → number_at p k < 128
number_most p k = omega (arith, bit_at-lt p.ones k, bit_at-lt p.twos k, bit_at-lt p.fours k, bit_at-lt p.eights k, bit_at-lt p.sixteens k, bit_at-lt p.thirty_twos k, bit_at-lt p.sixty_fours k)

-- there is room for one more, or one to take
pub room_for_more : (p : Planes) (chunks k : ℕ) → chunks < 2 ^ 64 → (k < 64 → bit_at chunks k ≡ 1 → number_at p k < 64) → number_at p k + bit_at chunks k < 128
room_for_more p chunks k fits room = ⊎_elim
    (λ (none : bit_at chunks k < 1). omega (arith, none, number_most p k))
    (λ (some : 1 ≤ bit_at chunks k). let one : bit_at chunks k ≡ 1 = omega (arith, some, bit_at-lt chunks k) in
    omega (arith, one, room (place_in chunks k fits one) one))
    (cases_lt (bit_at chunks k) 1)

pub one_to_take : (p : Planes) (chunks k : ℕ) → chunks < 2 ^ 64 → (k < 64 → bit_at chunks k ≡ 1 → 0 < number_at p k) → bit_at chunks k ≤ number_at p k
one_to_take p chunks k fits some = ⊎_elim
    (λ (none : bit_at chunks k < 1). omega (arith, none))
    (λ (set : 1 ≤ bit_at chunks k). let one : bit_at chunks k ≡ 1 = omega (arith, set, bit_at-lt chunks k) in
    omega (arith, one, some (place_in chunks k fits one) one))
    (cases_lt (bit_at chunks k) 1)

pub still_most : (p : Planes) (chunks k : ℕ) → number_at p k ≤ 64 → (bit_at chunks k ≡ 1 → number_at p k < 64) → number_at p k + bit_at chunks k ≤ 64
still_most p chunks k most room = ⊎_elim
    (λ (none : bit_at chunks k < 1). omega (arith, none, most))
    (λ (set : 1 ≤ bit_at chunks k). let one : bit_at chunks k ≡ 1 = omega (arith, set, bit_at-lt chunks k) in omega (arith, one, room one))
    (cases_lt (bit_at chunks k) 1)

-- one number before a step, of which a digit tells whether it was taken
pub raised_step : (old new digit : ℕ) → digit < 2 → new ≡ old + digit → old ≡ cond (digit == 1) (new - 1) new
raised_step old new digit low is = grind (arith, nat_tests)

pub lowered_step : (old new digit : ℕ) → digit < 2 → new + digit ≡ old → old ≡ cond (digit == 1) (new + 1) new
lowered_step old new digit low is = grind (arith, nat_tests)

-- the counts once those of one word have changed
pub counts_raised : (count n m w word i : ℕ) → (i / 64 ≡ w → n ≡ count) → m ≡ n + bit_at word (i % 64)
    → cond (i / 64 == w) m count ≡ count + cond (is_among w word i) 1 0
counts_raised count n m w word i here more = ⊎_elim
    (λ same. ap (λ (t : Bool). cond t m count) (eq-eqb (i / 64) w same) ∙ omega (arith, more, here same, among_bit w word i same))
    (λ other. ap (λ (t : Bool). cond t m count) (ne_eqb (i / 64) w other) ∙ omega (arith, among_other w word i other))
    (cases_eq (i / 64) w)

pub counts_lowered : (count n m w word i : ℕ) → (i / 64 ≡ w → n ≡ count) → m + bit_at word (i % 64) ≡ n
    → cond (i / 64 == w) m count + cond (is_among w word i) 1 0 ≡ count
counts_lowered count n m w word i here fewer = ⊎_elim
    (λ same. ap (λ (t : Bool). cond t m count + cond (is_among w word i) 1 0) (eq-eqb (i / 64) w same) ∙ omega (arith, fewer, here same, among_bit w word i same))
    (λ other. ap (λ (t : Bool). cond t m count + cond (is_among w word i) 1 0) (ne_eqb (i / 64) w other) ∙ omega (arith, among_other w word i other))
    (cases_eq (i / 64) w)

-- a chunk of so many copies lies in a word of the level
pub level_has : (planes : List Planes) (levels : List (List Bool)) (level : List Bool) (xs : List ℕ) (copies i : ℕ) → IsLevelled planes levels → numbers_of planes ≡ xs
    → 0 < copies → copies ≤ 64 → level ≡ slice_index_or levels (copies - 1) [] → slice_index xs i ≡ copies → slice_index_or level (i / 64) false ≡ true
level_has planes levels level xs copies i is view some most at equal =
    let number : number_of planes i ≡ copies = sym (number_read planes xs i view) ∙ equal in
    ap (λ (ys : List Bool). slice_index_or ys (i / 64) false) at
    ∙ ⊎_elim
    (λ lt. (is.level (i / 64) (copies - 1) (omega (arith, some, most)) lt).some (i % 64) (omega arith) (omega (arith, number, some)))
    (λ ge. absurd (omega (arith, number, past_planes planes i ge, some)))
    (cases_lt (i / 64) (length planes))

pub level_size : (planes : List Planes) (levels : List (List Bool)) (level : List Bool) (copies : ℕ) → IsLevelled planes levels
    → 0 < copies → copies ≤ 64 → level ≡ slice_index_or levels (copies - 1) [] → length level ≡ length planes
level_size planes levels level copies is some most at = ap (λ (ys : List Bool). length ys) at ∙ is.sizes (copies - 1) (omega (arith, some, most))

-- a chunk that is found
pub found_parts : (wanted row : List Bool) (counts : List ℕ) (copies i : ℕ) → is_found wanted row counts copies i ≡ true
    → (slice_index_or wanted i false ≡ true) × (slice_index_or row i false ≡ true) × (slice_index counts i ≡ copies)
found_parts wanted row counts copies i found =
    let parts = and_parts (slice_index_or wanted i false) (slice_index_or row i false && slice_index counts i == copies) found in
    let rest = and_parts (slice_index_or row i false) (slice_index counts i == copies) parts.1 in
    (parts.0, rest.0, eqb-true (slice_index counts i) copies rest.1)

-- of no such number of copies
pub none_of_level : (wanted row level : List Bool) (counts : List ℕ) (copies i : ℕ)
    → (slice_index counts i ≡ copies → slice_index_or level (i / 64) false ≡ true) → slice_index_or level (i / 64) false ≡ false
    → is_found wanted row counts copies i ≡ false
none_of_level wanted row level counts copies i has unset = false_from_ne_true (is_found wanted row counts copies i) (λ found.
    both_ways (slice_index_or level (i / 64) false) unset (has (found_parts wanted row counts copies i found).2))

-- the next word in which a chunk may be found
unmarked_word : (wanted row level : List Bool) (counts wanted_marks row_marks level_words : List ℕ) (copies i : ℕ)
    → AreMarksOf wanted wanted_marks → AreMarksOf row row_marks → AreWordsOf level level_words
    → (slice_index counts i ≡ copies → slice_index_or level (i / 64) false ≡ true)
    → (bit_of wanted_marks (i / 64) && (bit_of row_marks (i / 64) && bit_of level_words (i / 64))) ≡ false
    → is_found wanted row counts copies i ≡ false
unmarked_word wanted row level counts wanted_marks row_marks level_words copies i first second third has unset =
    false_from_ne_true (is_found wanted row counts copies i) (λ found.
    let parts = found_parts wanted row counts copies i found in
    both_ways (bit_of wanted_marks (i / 64) && (bit_of row_marks (i / 64) && bit_of level_words (i / 64))) unset
    (all_three (first.some i parts.0) (second.some i parts.1) (third.bits (i / 64) ∙ has parts.2)))
  where
    all_three : {a b c : Bool} → a ≡ true → b ≡ true → c ≡ true → (a && (b && c)) ≡ true
    all_three one two three = cc

pub next_found : (wanted row level : List Bool) (counts wanted_marks row_marks level_words : List ℕ) (copies from end : ℕ) (result : Option ℕ)
    → AreMarksOf wanted wanted_marks → AreMarksOf row row_marks → AreWordsOf level level_words
    → ((i : ℕ) → slice_index counts i ≡ copies → slice_index_or level (i / 64) false ≡ true)
    → end ≡ 64 * length level
    → IsFirstFrom (λ v. bit_of wanted_marks v && (bit_of row_marks v && bit_of level_words v)) from result
    → MatchOption result ((i : ℕ) → from ≤ i / 64 → is_found wanted row counts copies i ≡ false)
    (λ w. (from ≤ w) × (64 * w < end) × ((i : ℕ) → from ≤ i / 64 → i / 64 < w → is_found wanted row counts copies i ≡ false))
next_found wanted row level counts wanted_marks row_marks level_words copies from end None first second third has size none = λ i low.
    unmarked_word wanted row level counts wanted_marks row_marks level_words copies i first second third (has i) (none (i / 64) low)
next_found wanted row level counts wanted_marks row_marks level_words copies from end (Some w) first second third has size found = (
  found.0,
  (let parts = and_parts (bit_of wanted_marks w) (bit_of row_marks w && bit_of level_words w) found.1 in
      let last = and_parts (bit_of row_marks w) (bit_of level_words w) parts.1 in
      let inside : w < length level = member_below level w (sym (third.bits w) ∙ last.1) in
      omega (arith, inside, size)),
  (λ i low high. unmarked_word wanted row level counts wanted_marks row_marks level_words copies i first second third (has i) (found.2 (i / 64) low high)),
)

-- a chunk of one word that is found
pub found_in_word : (a b c n k : ℕ) (wanted row : List Bool) (counts : List ℕ) (copies i : ℕ)
    → (bit_at a k == 1) ≡ slice_index_or wanted i false → (bit_at b k == 1) ≡ slice_index_or row i false → (bit_at c k == 1) ≡ (n == copies)
    → slice_index counts i ≡ n
    → (bit_at (bit_and (bit_and a b) c) k == 1) ≡ is_found wanted row counts copies i
found_in_word a b c n k wanted row counts copies i first second third number =
    common_bit a b c k
    ∙ ap (λ (p : Bool). p && (bit_at b k == 1 && bit_at c k == 1)) first
    ∙ ap (λ (p : Bool). slice_index_or wanted i false && (p && bit_at c k == 1)) second
    ∙ ap (λ (p : Bool). slice_index_or wanted i false && (slice_index_or row i false && p)) (third ∙ ap (λ (m : ℕ). m == copies) (sym number))

-- the least chunk of one word, where none of the words before it has any
pub first_found : (wanted row : List Bool) (counts : List ℕ) (copies from w j common : ℕ)
    → j < 64 → bit_at common j ≡ 1 → ((k : ℕ) → k < j → bit_at common k ≡ 0)
    → ((k : ℕ) → k < 64 → (bit_at common k == 1) ≡ is_found wanted row counts copies (64 * w + k))
    → ((i : ℕ) → i / 64 < from → is_found wanted row counts copies i ≡ false)
    → ((i : ℕ) → from ≤ i / 64 → i / 64 < w → is_found wanted row counts copies i ≡ false)
    → (64 * w + j < length wanted) × (is_found wanted row counts copies (64 * w + j) ≡ true)
    × ((k : ℕ) → k < 64 * w + j → is_found wanted row counts copies k ≡ false)
first_found wanted row counts copies from w j common low one below here before between =
    let found : is_found wanted row counts copies (64 * w + j) ≡ true = sym (here j low) ∙ eq-eqb (bit_at common j) 1 one in (
      member_below wanted (64 * w + j) (found_parts wanted row counts copies (64 * w + j) found).0,
      found,
      (λ k less. ⊎_elim
          (λ lt. ⊎_elim (λ early. before k early) (λ late. between k late lt) (cases_lt (k / 64) from))
          (λ ge.
          let place : 64 * w + k % 64 ≡ k = omega arith in
          ap (λ (i : ℕ). is_found wanted row counts copies i) (sym place) ∙ sym (here (k % 64) (omega arith))
          ∙ ap (λ (b : ℕ). b == 1) (below (k % 64) (omega arith)))
          (cases_lt (k / 64) w)),
    )
