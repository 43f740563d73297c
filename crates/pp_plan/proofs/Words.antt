-- Words of bits that lack some, or that have none.
use Rattle.std.proofs.Common.{◌≡◌, ⊎_elim, ℕ, zero, suc, ◌+◌, ◌-◌, ◌*◌, ◌/◌, ◌%◌, ◌^◌, ◌<◌, ◌≤◌, ◌==◌, nat_le, nat_lt, not, Bool, true, false, ◌&&◌, ◌||◌, List, length, refl, sym, ◌∙◌, ap, arith}
use Rattle.std.proofs.Math.Bool.{or_assoc}
use Rattle.std.specs.Prelude.{slice_index}
use Rattle.std.specs.Int.{bit_at}
use Rattle.std.proofs.lemmas.Nat.Bits.{bit_at_ones, bit_at-zero, bit_at-lt, bit_at_above, same_from_bits}
use Rattle.std.proofs.lemmas.Bool.{cases_Bool, cases_eq, cases_lt, eq-eqb, ne_eqb}
use Rattle.std.proofs.lemmas.Bool.Decides.{nat_tests}
use Rattle.pp_tree.specs.Bits.{bit_of}
use Rattle.pp_tree.proofs.Marking.{unmarked, past_words}
use Rattle.pp_plan.specs.Told.{some_among}
use Rattle.pp_plan.specs.Tiers.{IsLacking}
use Rattle.pp_plan.proofs.Among.{among_none, among_some, not_among}

-- a word that lacks no bit
pub full_bit : (words lacks : List ℕ) (from to i : ℕ) → IsLacking words lacks → to ≤ length words
    → ((k : ℕ) → from ≤ k → k < to → bit_of lacks k ≡ false) → 64 * from ≤ i → i < 64 * to → bit_of words i ≡ true
full_bit words lacks from to i is inside none low high =
    let all : slice_index words (i / 64) ≡ 2 ^ 64 - 1 =
    unmarked (slice_index words (i / 64)) (2 ^ 64 - 1) (bit_of lacks (i / 64)) (is.marks (i / 64) (omega (arith, inside, high))) (none (i / 64) (omega (arith, low)) (omega (arith, high))) in
    eq-eqb (bit_at (slice_index words (i / 64)) (i % 64)) 1 (ap (λ (v : ℕ). bit_at v (i % 64)) all ∙ bit_at_ones 64 (i % 64) (omega arith))

-- past words that are full already
pub passed_on : (now before : Bool) (low w end i : ℕ) → low ≤ w → w ≤ end
    → now ≡ (before || (nat_le (64 * low) i && nat_lt i (64 * w)))
    → (64 * w ≤ i → i < 64 * end → now ≡ true)
    → now ≡ (before || (nat_le (64 * low) i && nat_lt i (64 * end)))
passed_on now before low w end i order more is full = ⊎_elim
    (λ below. is ∙ ap (λ (b : Bool). before || b) (let same : (nat_le (64 * low) i && nat_lt i (64 * w)) ≡ (nat_le (64 * low) i && nat_lt i (64 * end)) = grind (arith, nat_tests) in same))
    (λ from. ⊎_elim
    (λ inside. full from inside ∙ sym (or_last before (nat_le (64 * low) i && nat_lt i (64 * end)) (grind (arith, nat_tests))))
    (λ past. is ∙ ap (λ (b : Bool). before || b) (let same : (nat_le (64 * low) i && nat_lt i (64 * w)) ≡ (nat_le (64 * low) i && nat_lt i (64 * end)) = grind (arith, nat_tests) in same))
    (cases_lt i (64 * end)))
    (cases_lt i (64 * w))
  where
    or_last : (a b : Bool) → b ≡ true → (a || b) ≡ true
    or_last true b e = refl
    or_last false b e = e

-- one word more is full
pub one_more : (next now before : Bool) (low w i : ℕ) → low ≤ w
    → next ≡ (now || (nat_le (64 * w) i && nat_le i (64 * w + 63)))
    → now ≡ (before || (nat_le (64 * low) i && nat_lt i (64 * w)))
    → next ≡ (before || (nat_le (64 * low) i && nat_lt i (64 * (w + 1))))
one_more next now before low w i order more is =
    more ∙ ap (λ (b : Bool). b || (nat_le (64 * w) i && nat_le i (64 * w + 63))) is
    ∙ or_assoc before (nat_le (64 * low) i && nat_lt i (64 * w)) (nat_le (64 * w) i && nat_le i (64 * w + 63))
    ∙ ap (λ (b : Bool). before || b)
    (let same : ((nat_le (64 * low) i && nat_lt i (64 * w)) || (nat_le (64 * w) i && nat_le i (64 * w + 63))) ≡ (nat_le (64 * low) i && nat_lt i (64 * (w + 1))) = grind (arith, nat_tests) in same)

not_one : (b : ℕ) → b < 2 → (b == 1) ≡ false → b ≡ 0
not_one b small e = grind (arith, nat_tests)

-- a word of which no bit is set
pub no_bits : (words : List ℕ) (w : ℕ) → slice_index words w < 2 ^ 64 → some_among (bit_of words) (64 * w) 64 ≡ false → slice_index words w ≡ 0
no_bits words w fits none = same_from_bits (slice_index words w) 0 (λ k. ⊎_elim
    (λ low.
    let word : (64 * w + k) / 64 ≡ w = omega arith in
    let place : (64 * w + k) % 64 ≡ k = omega arith in
    let unset : bit_of words (64 * w + k) ≡ false = not_among (bit_of words) (64 * w) 64 (64 * w + k) none (omega arith) (omega arith) in
    not_one (bit_at (slice_index words w) k) (bit_at-lt (slice_index words w) k)
    (sym (ap (λ (v : ℕ). bit_at (slice_index words v) ((64 * w + k) % 64) == 1) word ∙ ap (λ (p : ℕ). bit_at (slice_index words w) p == 1) place) ∙ unset)
    ∙ sym (bit_at-zero k))
    (λ high. bit_at_above (slice_index words w) 64 k fits high ∙ sym (bit_at-zero k))
    (cases_lt k 64))

pub zero_bit : (words : List ℕ) (i : ℕ) → slice_index words (i / 64) ≡ 0 → bit_of words i ≡ false
zero_bit words i none = ap (λ (v : ℕ). bit_at v (i % 64) == 1) none ∙ ap (λ (b : ℕ). b == 1) (bit_at-zero (i % 64))

-- whether a word is not 0
pub tells_some : (words : List ℕ) (w : ℕ) → slice_index words w < 2 ^ 64 → not (slice_index words w == 0) ≡ some_among (bit_of words) (64 * w) 64
tells_some words w fits = ⊎_elim
    (λ none.
    let zero_is : (slice_index words w == 0) ≡ true = eq-eqb (slice_index words w) 0 none in
    ap not zero_is ∙ sym (among_none (bit_of words) (64 * w) 64 (λ i low high. zero_bit words i
    (let word : i / 64 ≡ w = omega (arith, low, high) in ap (λ (k : ℕ). slice_index words k) word ∙ none))))
    (λ some.
    let other : (slice_index words w == 0) ≡ false = ne_eqb (slice_index words w) 0 some in
    ap not other ∙ ⊎_elim
    (λ set. sym set)
    (λ none. absurd (some (no_bits words w fits none)))
    (cases_Bool (some_among (bit_of words) (64 * w) 64)))
    (cases_eq (slice_index words w) 0)

-- a run of one word past all words, or in a word with no bit from there on, or with a first one
pub run_past : (words : List ℕ) (from n : ℕ) → length words ≤ from / 64 → false ≡ some_among (bit_of words) from n
run_past words from n past = sym (among_none (bit_of words) from n (λ i low high. past_words words i (omega (arith, past, low))))

read_bit : (words : List ℕ) (v from i : ℕ) → v ≡ slice_index words (from / 64) → i / 64 ≡ from / 64 → bit_of words i ≡ (bit_at v (i % 64) == 1)
read_bit words v from i is one = ap (λ (w : ℕ). bit_at (slice_index words w) (i % 64) == 1) one ∙ ap (λ (w : ℕ). bit_at w (i % 64) == 1) (sym is)

pub run_none : (words : List ℕ) (v from n : ℕ) → v ≡ slice_index words (from / 64) → from % 64 + n ≤ 64
    → ((k : ℕ) → from % 64 ≤ k → (bit_at v k == 1) ≡ false)
    → false ≡ some_among (bit_of words) from n
run_none words v from n is one none = sym (among_none (bit_of words) from n (λ i low high.
    read_bit words v from i is (omega (arith, one, low, high)) ∙ none (i % 64) (omega (arith, one, low, high))))

pub run_some : (words : List ℕ) (v from n place : ℕ) → v ≡ slice_index words (from / 64) → from % 64 + n ≤ 64
    → from % 64 ≤ place → place < 64 → (bit_at v place == 1) ≡ true
    → ((k : ℕ) → from % 64 ≤ k → k < place → (bit_at v k == 1) ≡ false)
    → nat_lt place (from % 64 + n) ≡ some_among (bit_of words) from n
run_some words v from n place is one least most here none = ⊎_elim
    (λ inside.
    let before : nat_lt place (from % 64 + n) ≡ true = grind (arith, nat_tests) in
    let word : (64 * (from / 64) + place) / 64 ≡ from / 64 = omega arith in
    let rest : (64 * (from / 64) + place) % 64 ≡ place = omega arith in
    before ∙ sym (among_some (bit_of words) from n (64 * (from / 64) + place) (omega arith) (omega (arith, inside))
    (read_bit words v from (64 * (from / 64) + place) is word ∙ ap (λ (k : ℕ). bit_at v k == 1) rest ∙ here)))
    (λ past.
    let after : nat_lt place (from % 64 + n) ≡ false = grind (arith, nat_tests) in
    after ∙ sym (among_none (bit_of words) from n (λ i low high.
    read_bit words v from i is (omega (arith, one, low, high)) ∙ none (i % 64) (omega (arith, one, low, high)) (omega (arith, one, low, high, past)))))
    (cases_lt place (from % 64 + n))

-- a run whose length divides that of a word lies in one
pub in_one_word : (wide offset : ℕ) → wide < 6 → (offset * 2 ^ wide) % 64 + 2 ^ wide ≤ 64
in_one_word zero offset low = omega arith
in_one_word (suc zero) offset low = omega arith
in_one_word (suc (suc zero)) offset low = omega arith
in_one_word (suc (suc (suc zero))) offset low = omega arith
in_one_word (suc (suc (suc (suc zero)))) offset low = omega arith
in_one_word (suc (suc (suc (suc (suc zero))))) offset low = omega arith
in_one_word (suc (suc (suc (suc (suc (suc wide)))))) offset low = absurd (omega (arith, low))

-- the part of a range in its first word, the words between, and the part in its last word
pub three_parts : (third second first_part before : Bool) (first last i : ℕ) → first ≤ last → (first / 64 ≡ last / 64 → ⊥)
    → third ≡ (second || (nat_le (64 * (last / 64)) i && nat_le i last))
    → second ≡ (first_part || (nat_le (64 * (first / 64 + 1)) i && nat_lt i (64 * (last / 64))))
    → first_part ≡ (before || (nat_le first i && nat_le i (64 * (first / 64) + 63)))
    → third ≡ (before || (nat_le first i && nat_le i last))
three_parts third second first_part before first last i order apart is more begun =
    is ∙ ap (λ (b : Bool). b || (nat_le (64 * (last / 64)) i && nat_le i last))
    (more ∙ ap (λ (b : Bool). b || (nat_le (64 * (first / 64 + 1)) i && nat_lt i (64 * (last / 64)))) begun)
    ∙ together before (nat_le first i && nat_le i (64 * (first / 64) + 63)) (nat_le (64 * (first / 64 + 1)) i && nat_lt i (64 * (last / 64))) (nat_le (64 * (last / 64)) i && nat_le i last)
    ∙ ap (λ (b : Bool). before || b) all
  where
    together : (a b c d : Bool) → (((a || b) || c) || d) ≡ (a || (b || (c || d)))
    together true b c d = refl
    together false true c d = refl
    together false false c d = refl

    all : ((nat_le first i && nat_le i (64 * (first / 64) + 63)) || ((nat_le (64 * (first / 64 + 1)) i && nat_lt i (64 * (last / 64))) || (nat_le (64 * (last / 64)) i && nat_le i last)))
        ≡ (nat_le first i && nat_le i last)
    all = grind (arith, nat_tests)
