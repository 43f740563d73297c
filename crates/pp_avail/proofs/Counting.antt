-- How many seats have a chunk.
use Rattle.std.proofs.Common.{◌≡◌, ℕ, zero, suc, ◌+◌, ◌*◌, ◌/◌, ◌%◌, ◌-◌, ◌^◌, ◌<◌, ◌≤◌, ◌==◌, min, Bool, true, false, not, cond, ◌&&◌, ◌||◌, nat_le, nat_lt, List, [], ◌∷◌, length, replicate, Option, None, Some, slice_index_or, refl, sym, ◌∙◌, ap, arith, ⊎_elim, bit_and, w64}
use Rattle.std.specs.Prelude.{count_by, slice_set, slice_index, MatchOption}
use Rattle.std.specs.List.{range_with_len}
use Rattle.std.specs.Int.{bit_at, bit_not}
use Rattle.std.proofs.lemmas.Nat.Bits.{bit_at_and, bit_at_not, bit_at-lt}
use Rattle.std.proofs.lemmas.List.{length-set, length-replicate, get_or-set_same, get_or-set_other, get_or-replicate, get_or_past, get_or_default}
use Rattle.std.proofs.lemmas.List.Sums.{sum_by-set, sum_by-cons, count_by-le-length}
use Rattle.std.proofs.lemmas.Bool.{cases_eq, cases_lt, eq-eqb, ne_eqb, eqb-true, eqb-false, and_parts, not-true, false_from_ne_true, both_ways}
use Rattle.std.proofs.lemmas.Bool.Decides.{nat_tests}
use Rattle.std.proofs.Math.Bool.{or-false}
use Rattle.pp_tree.specs.Bits.{bit_of}
use Rattle.pp_tree.specs.Marks.{IsFirstFrom, words_for}
use Rattle.pp_tree.specs.Sets.{IsWordOf, AreMarksOf}
use Rattle.pp_avail.specs.Offers.{Offers, has, copies_in, offered, offers_of, Tells, Deed}
use Rattle.pp_avail.specs.Rows.{is_among}
use Rattle.pp_avail.specs.Counts.{IsCounted}

pub no_bit : (m i : ℕ) → slice_index_or (replicate m false) i false ≡ false
no_bit zero i = refl
no_bit (suc m) zero = refl
no_bit (suc m) (suc i) = no_bit m i

pub no_copies : (n m i : ℕ) → copies_in (replicate n (replicate m false)) i ≡ 0
no_copies zero m i = refl
no_copies (suc n) m i =
    sum_by-cons (λ (seat : List Bool). cond (slice_index_or seat i false) 1 0) (replicate m false) (replicate n (replicate m false))
    ∙ ap (λ (b : Bool). cond b 1 0 + copies_in (replicate n (replicate m false)) i) (no_bit m i)
    ∙ omega (arith, no_copies n m i)

-- one seat's list written anew
written : (seats : List (List Bool)) (s i : ℕ) (seat : List Bool) → s < length seats
    → copies_in (slice_set seats s seat) i + cond (slice_index_or (slice_index_or seats s []) i false) 1 0
    ≡ copies_in seats i + cond (slice_index_or seat i false) 1 0
written seats s i seat inside = sum_by-set (λ (t : List Bool). cond (slice_index_or t i false) 1 0) seats s seat [] inside

pub copies_at_most : (seats : List (List Bool)) (i : ℕ) → copies_in seats i ≤ length seats
copies_at_most seats i = count_by-le-length (λ (seat : List Bool). slice_index_or seat i false) seats

-- the copies as a sum over the seats' numbers
over_seats : (p : ℕ → Bool) (seats : List (List Bool)) (a i : ℕ)
    → ((k : ℕ) → k < length seats → slice_index_or (slice_index_or seats k []) i false ≡ p (a + k))
    → copies_in seats i ≡ count_by p (range_with_len a (length seats))
over_seats p [] a i same = refl
over_seats p (seat ∷ seats) a i same =
    let first : slice_index_or seat i false ≡ p a = same 0 (omega arith) ∙ ap p (omega arith) in
    let rest = over_seats p seats (a + 1) i (λ k lt. same (suc k) (omega (arith, lt)) ∙ ap p (omega arith)) in
    sum_by-cons (λ (t : List Bool). cond (slice_index_or t i false) 1 0) seat seats
    ∙ ap (λ (b : Bool). cond b 1 0 + copies_in seats i) first
    ∙ ap (λ (n : ℕ). cond (p a) 1 0 + n) rest
    ∙ sym (sum_by-cons (λ (k : ℕ). cond (p k) 1 0) a (range_with_len (a + 1) (length seats)))

pub told_copies : (deeds : List Deed) (o : Offers) (i : ℕ) → length o.seats ≡ 64 → Tells deeds o → copies_in o.seats i ≡ offers_of deeds i
unfolding offers_of
told_copies deeds o i width tells =
    over_seats (λ (seat : ℕ). offered deeds seat i) o.seats 0 i (λ k lt. tells k i ∙ ap (λ (s : ℕ). offered deeds s i) (omega arith))
    ∙ ap (λ (n : ℕ). count_by (λ (seat : ℕ). offered deeds seat i) (range_with_len 0 n)) width

-- no seat offers anything
pub none_told : (chunks : ℕ) (o : Offers) → o.seats ≡ replicate 64 (replicate chunks false) → Tells [] o
none_told chunks o empty seat i = ap (λ (xs : List (List Bool)). slice_index_or (slice_index_or xs seat []) i false) empty ∙ ⊎_elim
    (λ lt. ap (λ (xs : List Bool). slice_index_or xs i false) (get_or-replicate 64 seat (replicate chunks false) [] lt) ∙ no_bit chunks i)
    (λ ge. ap (λ (xs : List Bool). slice_index_or xs i false)
    (get_or_past (replicate 64 (replicate chunks false)) seat [] (omega (arith, ge, length-replicate 64 (replicate chunks false)))))
    (cases_lt seat 64)

-- what is read of the lists
pub seat_read : (seats : List (List Bool)) (s : ℕ) (seat : List Bool) → s < length seats → seat ≡ slice_index_or seats s seat → seat ≡ slice_index_or seats s []
seat_read seats s seat lt at = at ∙ get_or_default seats s seat [] lt

-- no seat has a chunk past the content
pub past_chunks : (chunks : ℕ) (seats : List (List Bool)) (counts : List ℕ) (s i : ℕ) → IsCounted chunks seats counts → chunks ≤ i
    → slice_index_or (slice_index_or seats s []) i false ≡ false
past_chunks chunks seats counts s i is past = ⊎_elim
    (λ lt. get_or_past (slice_index_or seats s []) i false (omega (arith, is.sizes s lt, past)))
    (λ ge. ap (λ (xs : List Bool). slice_index_or xs i false) (get_or_past seats s [] (omega (arith, is.width, ge))))
    (cases_lt s 64)

-- one seat's list written anew, and the counts with it
pub counted_anew : (chunks : ℕ) (seats : List (List Bool)) (counts changed : List ℕ) (s : ℕ) (row : List Bool) → IsCounted chunks seats counts → s < 64
    → length row ≡ chunks → length changed ≡ length counts
    → ((i : ℕ) → slice_index changed i + cond (slice_index_or (slice_index_or seats s []) i false) 1 0 ≡ slice_index counts i + cond (slice_index_or row i false) 1 0)
    → IsCounted chunks (slice_set seats s row) changed
counted_anew chunks seats counts changed s row is inside size same each = record {
  most = is.most;
  width = length-set seats s row ∙ is.width;
  sizes = λ k lt. ⊎_elim
      (λ here. ap (λ (j : ℕ). length (slice_index_or (slice_set seats s row) j [])) here
      ∙ ap (λ (xs : List Bool). length xs) (get_or-set_same seats s row [] (omega (arith, is.width, inside))) ∙ size)
      (λ other. ap (λ (xs : List Bool). length xs) (get_or-set_other seats s k row [] other) ∙ is.sizes k lt)
      (cases_eq k s);
  count = same ∙ is.count;
  copies = λ i. omega (arith, each i, is.copies i, written seats s i row (omega (arith, is.width, inside)));
}

-- a seat that lacks a chunk leaves room for one more
pub room : (chunks : ℕ) (seats : List (List Bool)) (counts : List ℕ) (s i : ℕ) → IsCounted chunks seats counts → s < 64
    → slice_index_or (slice_index_or seats s []) i false ≡ false → slice_index counts i < 64
room chunks seats counts s i is inside absent =
    let row : List Bool = replicate (i + 1) true in
    let one = written seats s i row (omega (arith, is.width, inside)) in
    let old : cond {A = ℕ} (slice_index_or (slice_index_or seats s []) i false) 1 0 ≡ 0 = ap (λ (v : Bool). cond {A = ℕ} v 1 0) absent in
    let new : cond {A = ℕ} (slice_index_or row i false) 1 0 ≡ 1 = ap (λ (v : Bool). cond {A = ℕ} v 1 0) (get_or-replicate (i + 1) i true false (omega arith)) in
    let most = copies_at_most (slice_set seats s row) i in
    let size : length (slice_set seats s row) ≡ length seats = length-set seats s row in
    omega (arith, one, old, new, most, size, is.width, is.copies i)

-- a seat that has a chunk is counted
pub some_copies : (chunks : ℕ) (seats : List (List Bool)) (counts : List ℕ) (s i : ℕ) → IsCounted chunks seats counts
    → slice_index_or (slice_index_or seats s []) i false ≡ true → (0 < copies_in seats i) × (copies_in seats i ≤ 64)
some_copies chunks seats counts s i is held = (
  ⊎_elim
      (λ lt.
      let row : List Bool = [] in
      let one = written seats s i row (omega (arith, is.width, lt)) in
      let old : cond {A = ℕ} (slice_index_or (slice_index_or seats s []) i false) 1 0 ≡ 1 = ap (λ (v : Bool). cond {A = ℕ} v 1 0) held in
      let new : cond {A = ℕ} (slice_index_or row i false) 1 0 ≡ 0 = ap (λ (v : Bool). cond {A = ℕ} v 1 0) (get_or_past row i false (omega arith)) in
      omega (arith, one, old, new))
      (λ ge. let none : slice_index_or (slice_index_or seats s []) i false ≡ false = ap (λ (xs : List Bool). slice_index_or xs i false) (get_or_past seats s [] (omega (arith, is.width, ge))) in
      absurd (cc (held, none)))
      (cases_lt s 64),
  omega (arith, copies_at_most seats i, is.width),
)

-- what is offered once one seat's list is written anew
pub has_anew : (seats : List (List Bool)) (seat s i : ℕ) (row : List Bool) → seat < length seats
    → slice_index_or (slice_index_or (slice_set seats seat row) s []) i false
    ≡ cond (s == seat) (slice_index_or row i false) (slice_index_or (slice_index_or seats s []) i false)
has_anew seats seat s i row inside = ⊎_elim
    (λ here. ap (λ (k : ℕ). slice_index_or (slice_index_or (slice_set seats seat row) k []) i false) here
    ∙ ap (λ (xs : List Bool). slice_index_or xs i false) (get_or-set_same seats seat row [] inside)
    ∙ sym (ap (λ (t : Bool). cond t (slice_index_or row i false) (slice_index_or (slice_index_or seats s []) i false)) (eq-eqb s seat here)))
    (λ other. ap (λ (xs : List Bool). slice_index_or xs i false) (get_or-set_other seats seat s row [] other)
    ∙ sym (ap (λ (t : Bool). cond t (slice_index_or row i false) (slice_index_or (slice_index_or seats s []) i false)) (ne_eqb s seat other)))
    (cases_eq s seat)

-- some chunks of one seat more, and some fewer
pub has_added : (seats : List (List Bool)) (seat s i : ℕ) (row : List Bool) (among : Bool) → seat < length seats
    → slice_index_or row i false ≡ (slice_index_or (slice_index_or seats seat []) i false || among)
    → slice_index_or (slice_index_or (slice_set seats seat row) s []) i false ≡ (slice_index_or (slice_index_or seats s []) i false || (s == seat && among))
has_added seats seat s i row among inside is = has_anew seats seat s i row inside ∙ ⊎_elim
    (λ here. ap (λ (t : Bool). cond t (slice_index_or row i false) (slice_index_or (slice_index_or seats s []) i false)) (eq-eqb s seat here)
    ∙ is ∙ ap (λ (k : ℕ). slice_index_or (slice_index_or seats k []) i false || among) (sym here)
    ∙ sym (ap (λ (t : Bool). slice_index_or (slice_index_or seats s []) i false || (t && among)) (eq-eqb s seat here)))
    (λ other. ap (λ (t : Bool). cond t (slice_index_or row i false) (slice_index_or (slice_index_or seats s []) i false)) (ne_eqb s seat other)
    ∙ sym (ap (λ (t : Bool). slice_index_or (slice_index_or seats s []) i false || (t && among)) (ne_eqb s seat other) ∙ or-false (slice_index_or (slice_index_or seats s []) i false)))
    (cases_eq s seat)

pub has_fewer : (seats : List (List Bool)) (seat s i : ℕ) (row : List Bool) (here : Bool) → seat < length seats
    → slice_index_or row i false ≡ (not here && slice_index_or (slice_index_or seats seat []) i false)
    → slice_index_or (slice_index_or (slice_set seats seat row) s []) i false ≡ (not (s == seat && here) && slice_index_or (slice_index_or seats s []) i false)
has_fewer seats seat s i row there inside is = has_anew seats seat s i row inside ∙ ⊎_elim
    (λ here. ap (λ (t : Bool). cond t (slice_index_or row i false) (slice_index_or (slice_index_or seats s []) i false)) (eq-eqb s seat here)
    ∙ is ∙ ap (λ (k : ℕ). not there && slice_index_or (slice_index_or seats k []) i false) (sym here)
    ∙ sym (ap (λ (t : Bool). not (t && there) && slice_index_or (slice_index_or seats s []) i false) (eq-eqb s seat here)))
    (λ other. ap (λ (t : Bool). cond t (slice_index_or row i false) (slice_index_or (slice_index_or seats s []) i false)) (ne_eqb s seat other)
    ∙ sym (ap (λ (t : Bool). not (t && there) && slice_index_or (slice_index_or seats s []) i false) (ne_eqb s seat other)))
    (cases_eq s seat)

-- which of a word's chunks are new
pub fresh_bit : (w chunks word i : ℕ) (has : Bool) → word < 2 ^ 64 → (i / 64 ≡ w → (bit_at word (i % 64) == 1) ≡ has)
    → is_among w (bit_and chunks (bit_not w64 word)) i ≡ (is_among w chunks i && not has)
fresh_bit w chunks word i has fits here = ⊎_elim
    (λ same.
    ap (λ (t : Bool). t && bit_at (bit_and chunks (bit_not w64 word)) (i % 64) == 1) (eq-eqb (i / 64) w same)
    ∙ ap (λ (b : ℕ). b == 1) (bit_at_and chunks (bit_not w64 word) (i % 64) ∙ ap (λ (b : ℕ). min (bit_at chunks (i % 64)) b) (bit_at_not w64 word (i % 64) fits (omega arith)))
    ∙ new (bit_at chunks (i % 64)) (bit_at word (i % 64)) has (bit_at-lt chunks (i % 64)) (bit_at-lt word (i % 64)) (here same)
    ∙ sym (ap (λ (t : Bool). (t && bit_at chunks (i % 64) == 1) && not has) (eq-eqb (i / 64) w same)))
    (λ other.
    ap (λ (t : Bool). t && bit_at (bit_and chunks (bit_not w64 word)) (i % 64) == 1) (ne_eqb (i / 64) w other)
    ∙ sym (ap (λ (t : Bool). (t && bit_at chunks (i % 64) == 1) && not has) (ne_eqb (i / 64) w other)))
    (cases_eq (i / 64) w)
  where
    new : (x y : ℕ) (p : Bool) → x < 2 → y < 2 → (y == 1) ≡ p → (min x (1 - y) == 1) ≡ ((x == 1) && not p)
    new x y true low small is = let one : y ≡ 1 = eqb-true y 1 is in grind (arith, nat_tests)
    new x y false low small is = let other : y ≡ 1 → ⊥ = eqb-false y 1 is in grind (arith, nat_tests)

-- a chunk that is had already, or is new
pub with_fresh : (old among : Bool) → (old || (among && not old)) ≡ (old || among)
with_fresh true among = refl
with_fresh false true = refl
with_fresh false false = refl

pub counted_fresh : (old among : Bool) (count changed : ℕ) → changed ≡ count + cond (among && not old) 1 0 → changed + cond old 1 0 ≡ count + cond (old || (among && not old)) 1 0
counted_fresh true true count changed more = omega (arith, more)
counted_fresh true false count changed more = omega (arith, more)
counted_fresh false true count changed more = omega (arith, more)
counted_fresh false false count changed more = omega (arith, more)

pub counted_gone : (old here : Bool) (count changed : ℕ) → changed + cond (here && old) 1 0 ≡ count → changed + cond old 1 0 ≡ count + cond (not here && old) 1 0
counted_gone true true count changed fewer = omega (arith, fewer)
counted_gone true false count changed fewer = omega (arith, fewer)
counted_gone false true count changed fewer = omega (arith, fewer)
counted_gone false false count changed fewer = omega (arith, fewer)

-- the chunks of one word as a seat has them
pub word_bit : (row : List Bool) (w word i : ℕ) → IsWordOf row w word → is_among w word i ≡ (i / 64 == w && slice_index_or row i false)
word_bit row w word i is = ⊎_elim
    (λ here.
    let place : 64 * w + i % 64 ≡ i = omega arith in
    ap (λ (b : Bool). i / 64 == w && b) (is (i % 64) (omega arith) ∙ ap (λ (k : ℕ). slice_index_or row k false) place))
    (λ other. ap (λ (t : Bool). t && bit_at word (i % 64) == 1) (ne_eqb (i / 64) w other)
    ∙ sym (ap (λ (t : Bool). t && slice_index_or row i false) (ne_eqb (i / 64) w other)))
    (cases_eq (i / 64) w)

pub word_here : (row : List Bool) (w word i : ℕ) → IsWordOf row w word → i / 64 ≡ w → (bit_at word (i % 64) == 1) ≡ slice_index_or row i false
word_here row w word i is here =
    let place : 64 * w + i % 64 ≡ i = omega arith in
    is (i % 64) (omega arith) ∙ ap (λ (k : ℕ). slice_index_or row k false) place

-- how far a seat's list is emptied, word by word
pub emptied_more : (old cur new : Bool) (s seat i at next : ℕ) → next ≤ at
    → cur ≡ (not (s == seat && nat_lt i next) && old)
    → new ≡ (not (s == seat && i == at) && cur)
    → (s ≡ seat → next ≤ i → i < at → cur ≡ false)
    → new ≡ (not (s == seat && nat_lt i (at + 1)) && old)
emptied_more old cur new s seat i at next up now then between = grind (arith, nat_tests)

-- how far a range is filled, word by word
pub filled_none : (old t : Bool) (i first last : ℕ) → old ≡ (old || (t && ((nat_le first i && nat_le i last) && nat_lt (i / 64) (first / 64))))
filled_none true t i first last = refl
filled_none false false i first last = refl
filled_none false true i first last = grind (arith, nat_tests)

pub filled_more : (old cur new : Bool) (s seat i first last next w : ℕ) → next ≤ w
    → cur ≡ (old || (s == seat && ((nat_le first i && nat_le i last) && nat_lt (i / 64) next)))
    → new ≡ (cur || (s == seat && (i / 64 == w && (nat_le first i && nat_le i last))))
    → (s ≡ seat → next ≤ i / 64 → i / 64 < w → i ≤ last → cur ≡ true)
    → new ≡ (old || (s == seat && ((nat_le first i && nat_le i last) && nat_lt (i / 64) (w + 1))))
filled_more old cur new s seat i first last next w up now then between = grind (arith, nat_tests)

pub filled_all : (old cur : Bool) (s seat i first last next : ℕ)
    → cur ≡ (old || (s == seat && ((nat_le first i && nat_le i last) && nat_lt (i / 64) next)))
    → (s ≡ seat → next ≤ i / 64 → i / 64 ≤ last / 64 → i ≤ last → cur ≡ true)
    → cur ≡ (old || (s == seat && (nat_le first i && nat_le i last)))
filled_all old cur s seat i first last next now rest = grind (arith, nat_tests)

-- which numbers of a word lie in the part of a range
pub part_bit : (w first last low high i : ℕ) → first / 64 ≤ w → w ≤ last / 64 → first ≤ last
    → (first / 64 ≡ w → low ≡ first % 64) → ((first / 64 ≡ w → ⊥) → low ≡ 0)
    → (last / 64 ≡ w → high ≡ last % 64) → ((last / 64 ≡ w → ⊥) → high ≡ 63)
    → (i / 64 == w && (nat_le low (i % 64) && nat_le (i % 64) high)) ≡ (i / 64 == w && (nat_le first i && nat_le i last))
part_bit w first last low high i begun most order first_here first_before last_here last_past = ⊎_elim
    (λ here. ⊎_elim
    (λ one. ⊎_elim (λ end. in_word here (first_here one) one (last_here end) end) (λ on. grind (arith, nat_tests, here, one, first_here one, on, last_past on)) (cases_eq (last / 64) w))
    (λ before. ⊎_elim (λ end. grind (arith, nat_tests, here, before, first_before before, end, last_here end)) (λ on. grind (arith, nat_tests, here, before, first_before before, on, last_past on)) (cases_eq (last / 64) w))
    (cases_eq (first / 64) w))
    (λ other. ap (λ (t : Bool). t && (nat_le low (i % 64) && nat_le (i % 64) high)) (ne_eqb (i / 64) w other)
    ∙ sym (ap (λ (t : Bool). t && (nat_le first i && nat_le i last)) (ne_eqb (i / 64) w other)))
    (cases_eq (i / 64) w)
  where
    in_word : i / 64 ≡ w → low ≡ first % 64 → first / 64 ≡ w → high ≡ last % 64 → last / 64 ≡ w
        → (i / 64 == w && (nat_le low (i % 64) && nat_le (i % 64) high)) ≡ (i / 64 == w && (nat_le first i && nat_le i last))
    in_word here low_is one high_is end = grind (arith, nat_tests)

-- of no chunks, no seat has any
pub no_chunks : (seats : List (List Bool)) (counts : List ℕ) (chunks i : ℕ) → IsCounted chunks seats counts → chunks ≡ 0 → copies_in seats i ≡ 0
no_chunks seats counts chunks i is none = sym (is.copies i) ∙ get_or_past counts i 0 (omega (arith, is.count, none))

-- the counts once some chunks of one word are a seat's
pub counts_with : (seat row new : List Bool) (w chunks word i count changed : ℕ) → row ≡ seat → word < 2 ^ 64 → IsWordOf row w word
    → slice_index_or new i false ≡ (slice_index_or row i false || is_among w (bit_and chunks (bit_not w64 word)) i)
    → changed ≡ count + cond (is_among w (bit_and chunks (bit_not w64 word)) i) 1 0
    → changed + cond (slice_index_or seat i false) 1 0 ≡ count + cond (slice_index_or new i false) 1 0
counts_with seat row new w chunks word i count changed same fits is bits more =
    let fresh = fresh_bit w chunks word i (slice_index_or row i false) fits (word_here row w word i is) in
    ap (λ (xs : List Bool). changed + cond (slice_index_or xs i false) 1 0) (sym same)
    ∙ counted_fresh (slice_index_or row i false) (is_among w chunks i) count changed (more ∙ ap (λ (b : Bool). count + cond b 1 0) fresh)
    ∙ ap (λ (b : Bool). count + cond (slice_index_or row i false || b) 1 0) (sym fresh)
    ∙ ap (λ (b : Bool). count + cond b 1 0) (sym bits)

pub row_with : (seat row new : List Bool) (w chunks word i : ℕ) → row ≡ seat → word < 2 ^ 64 → IsWordOf row w word
    → slice_index_or new i false ≡ (slice_index_or row i false || is_among w (bit_and chunks (bit_not w64 word)) i)
    → slice_index_or new i false ≡ (slice_index_or seat i false || is_among w chunks i)
row_with seat row new w chunks word i same fits is bits =
    bits ∙ ap (λ (b : Bool). slice_index_or row i false || b) (fresh_bit w chunks word i (slice_index_or row i false) fits (word_here row w word i is))
    ∙ with_fresh (slice_index_or row i false) (is_among w chunks i)
    ∙ ap (λ (xs : List Bool). slice_index_or xs i false || is_among w chunks i) same

-- a new chunk is one of those that are offered, and the seat lacks it
pub fresh_parts : (row : List Bool) (w chunks word i : ℕ) → word < 2 ^ 64 → IsWordOf row w word
    → is_among w (bit_and chunks (bit_not w64 word)) i ≡ true → (is_among w chunks i ≡ true) × (slice_index_or row i false ≡ false)
fresh_parts row w chunks word i fits is among =
    let parts = and_parts (is_among w chunks i) (not (slice_index_or row i false)) (sym (fresh_bit w chunks word i (slice_index_or row i false) fits (word_here row w word i is)) ∙ among) in
    (parts.0, not-true (slice_index_or row i false) parts.1)

-- the counts once the chunks of one word are a seat's no more
pub counts_without : (seat row new : List Bool) (w chunks i count changed : ℕ) → row ≡ seat → IsWordOf row w chunks
    → slice_index_or new i false ≡ (not (i / 64 == w) && slice_index_or row i false)
    → changed + cond (is_among w chunks i) 1 0 ≡ count
    → changed + cond (slice_index_or seat i false) 1 0 ≡ count + cond (slice_index_or new i false) 1 0
counts_without seat row new w chunks i count changed same is bits fewer =
    ap (λ (xs : List Bool). changed + cond (slice_index_or xs i false) 1 0) (sym same)
    ∙ counted_gone (slice_index_or row i false) (i / 64 == w) count changed (ap (λ (b : Bool). changed + cond b 1 0) (sym (word_bit row w chunks i is)) ∙ fewer)
    ∙ ap (λ (b : Bool). count + cond b 1 0) (sym bits)

unmarked_chunk : (o : Offers) (seat i : ℕ) (row : List Bool) (marks : List ℕ) → row ≡ slice_index_or o.seats seat [] → AreMarksOf row marks
    → bit_of marks (i / 64) ≡ false → has o seat i ≡ false
unmarked_chunk o seat i row marks is are unset = false_from_ne_true (has o seat i) (λ held.
    both_ways (bit_of marks (i / 64)) unset (are.some i (ap (λ (xs : List Bool). slice_index_or xs i false) is ∙ held)))

-- a seat's next word with a chunk
pub next_of_seat : (o : Offers) (seat from : ℕ) (row : List Bool) (marks : List ℕ) (result : Option ℕ) → row ≡ slice_index_or o.seats seat [] → length row ≡ o.chunks
    → AreMarksOf row marks → IsFirstFrom (λ w. bit_of marks w) from result
    → MatchOption result ((i : ℕ) → from ≤ i / 64 → has o seat i ≡ false)
    (λ w. (from ≤ w) × (w < words_for o.chunks) × ((i : ℕ) → from ≤ i / 64 → i / 64 < w → has o seat i ≡ false))
next_of_seat o seat from row marks None is size are none = λ i low. unmarked_chunk o seat i row marks is are (none (i / 64) low)
next_of_seat o seat from row marks (Some w) is size are first = (
  first.0,
  omega (arith, are.inside w first.1, ap (λ (n : ℕ). words_for n) size),
  (λ i low high. unmarked_chunk o seat i row marks is are (first.2 (i / 64) low high)),
)

-- a seat's next word that lacks a chunk
pub lacking_of_seat : (o : Offers) (seat from to : ℕ) (row : List Bool) (result : Option ℕ) → row ≡ slice_index_or o.seats seat [] → length row ≡ o.chunks
    → MatchOption result ((i : ℕ) → from ≤ i / 64 → i / 64 ≤ to → i < length row → slice_index_or row i false ≡ true)
    (λ w. (from ≤ w) × (w ≤ to) × ((i : ℕ) → from ≤ i / 64 → i / 64 < w → i < length row → slice_index_or row i false ≡ true))
    → MatchOption result ((i : ℕ) → from ≤ i / 64 → i / 64 ≤ to → i < o.chunks → has o seat i ≡ true)
    (λ w. (from ≤ w) × (w ≤ to) × ((i : ℕ) → from ≤ i / 64 → i / 64 < w → i < o.chunks → has o seat i ≡ true))
lacking_of_seat o seat from to row None is size full = λ i low high inside.
    ap (λ (xs : List Bool). slice_index_or xs i false) (sym is) ∙ full i low high (omega (arith, inside, size))
lacking_of_seat o seat from to row (Some w) is size first = (
  first.0,
  first.1,
  (λ i low high inside. ap (λ (xs : List Bool). slice_index_or xs i false) (sym is) ∙ first.2 i low high (omega (arith, inside, size))),
)

-- no seat offers anything, and nothing is counted
pub none_counted : (chunks n : ℕ) (seats : List (List Bool)) (counts : List ℕ) → chunks ≤ 2 ^ 20 → seats ≡ replicate 64 (replicate chunks false)
    → n ≡ words_for chunks → counts ≡ replicate (64 * n) 0 → IsCounted chunks seats counts
none_counted chunks n seats counts most empty size zeros = record {
  most = most;
  width = ap (λ (xs : List (List Bool)). length xs) empty ∙ length-replicate 64 (replicate chunks false);
  sizes = λ k lt. ap (λ (xs : List (List Bool)). length (slice_index_or xs k [])) empty
      ∙ ap (λ (xs : List Bool). length xs) (get_or-replicate 64 k (replicate chunks false) [] lt) ∙ length-replicate chunks false;
  count = ap (λ (xs : List ℕ). length xs) zeros ∙ length-replicate (64 * n) 0 ∙ ap (λ (k : ℕ). 64 * k) size;
  copies = λ i. ap (λ (xs : List ℕ). slice_index xs i) zeros ∙ none_at i
      ∙ sym (ap (λ (xs : List (List Bool)). copies_in xs i) empty ∙ no_copies 64 chunks i);
}
  where
    none_at : (i : ℕ) → slice_index (replicate (64 * n) 0) i ≡ 0
    none_at i = ⊎_elim (λ lt. get_or-replicate (64 * n) i 0 0 lt)
        (λ ge. get_or_past (replicate (64 * n) 0) i 0 (let long : length {A = ℕ} (replicate (64 * n) 0) ≡ 64 * n = length-replicate (64 * n) 0 in omega (arith, ge, long)))
        (cases_lt i (64 * n))

pub part_order : (w first last low high : ℕ) → first ≤ last → (first / 64 ≡ w → low ≡ first % 64) → ((first / 64 ≡ w → ⊥) → low ≡ 0)
    → (last / 64 ≡ w → high ≡ last % 64) → ((last / 64 ≡ w → ⊥) → high ≡ 63) → low ≤ high
part_order w first last low high order first_here first_before last_here last_past = ⊎_elim
    (λ one. ⊎_elim (λ end. omega (arith, one, end, first_here one, last_here end, order)) (λ on. omega (arith, first_here one, last_past on)) (cases_eq (last / 64) w))
    (λ before. omega (arith, first_before before))
    (cases_eq (first / 64) w)
