-- A rooted book stays rooted where the pairs come to it on a climb to the root that it follows.
use Rattle.std.proofs.Common.{◌≡◌, inl, inr, ℕ, zero, suc, ◌+◌, ◌-◌, ◌*◌, ◌/◌, ◌%◌, ◌==◌, true, false, cond, Some, None, List, ◌++◌, length, refl, sym, ◌∙◌, ap, subst, arith}
use Rattle.std.specs.Prelude.{IfSome}
use Rattle.std.specs.Option.{option_or}
use Rattle.std.proofs.lemmas.Bool.{cases_eq}
use Rattle.std.proofs.lemmas.Bool.Decides.{nat_tests}
use Rattle.sha2.specs.Sha256.{sha256}
use Rattle.sha2.proofs.Facts256.{length-sha256}
use Rattle.pp_terms.specs.tree.Book.{LookUp, AreDigests, IsRooted}
use Rattle.pp_terms.specs.tree.Bins.{sibling}
use Rattle.pp_terms.specs.tree.Proves.{joined, climbed}
use Rattle.pp_terms.specs.tree.Tree.{above}
use Rattle.pp_terms.specs.format.Descriptor.{Descriptor, height_of}
use Rattle.pp_tree.proofs.Rootedness.{rooted_on}
use Rattle.pp_paths.specs.Climb.{or_else, path}
use Rattle.pp_tree.proofs.Halving.{above_half}
use Rattle.pp_paths.proofs.Followed.{Follows}
use Rattle.pp_paths.proofs.Growth.{option_cases, even_sibling, odd_sibling, sibling_absent, or_none, path_first, path_here, path_rest, path_below, path_adds_nothing}
use Rattle.pp_paths.proofs.ProvenChunks.{climbed_on}

-- ---- books that are one

-- a book with the same entries is rooted too
pub rooted_same : (d : Descriptor) (book other : LookUp) → ((k j : ℕ) → other k j ≡ book k j) → IsRooted d book → IsRooted d other
rooted_same d book other same rooted = record {
  root_is = same (height_of d) 0 ∙ rooted.root_is;
  digests = λ k j x at. rooted.digests k j x (sym (same k j) ∙ at);
  hangs = λ k j x at. elim (rooted.hangs k j x (sym (same k j) ∙ at)) [
    | inl root ↦ inl root
    | inr (left, right, both) ↦ inr (
      left,
      right,
      record {
        left_is = same k (2 * (j / 2)) ∙ both.left_is;
        right_is = same k (2 * (j / 2) + 1) ∙ both.right_is;
        joined = same (suc k) (j / 2) ∙ both.joined;
      },
    )
  ];
}

-- ---- one pair more

-- the left one of a node and its sibling, and the right one
left_of : ℕ → List ℕ → List ℕ → List ℕ
left_of j digest other = cond (j % 2 == 0) digest other

right_of : ℕ → List ℕ → List ℕ → List ℕ
right_of j digest other = cond (j % 2 == 0) other digest

pair_is : (j : ℕ) (digest other : List ℕ) → left_of j digest other ++ right_of j digest other ≡ joined j digest other
unfolding left_of right_of
pair_is j digest other = elim (cases_eq (j % 2) 0) [
  | inl even ↦ (let test : (j % 2 == 0) ≡ true = grind (arith, nat_tests) in rw test refl)
  | inr odd ↦ (let test : (j % 2 == 0) ≡ false = grind (arith, nat_tests) in rw test refl)
]

one_long : (j : ℕ) (digest other : List ℕ) → length digest ≡ 32 → length other ≡ 32
    → (length (left_of j digest other) ≡ 32) × (length (right_of j digest other) ≡ 32)
unfolding left_of right_of
one_long j digest other long also = elim (cases_eq (j % 2) 0) [
  | inl even ↦ (let test : (j % 2 == 0) ≡ true = grind (arith, nat_tests) in rw test (long, also))
  | inr odd ↦ (let test : (j % 2 == 0) ≡ false = grind (arith, nat_tests) in rw test (also, long))
]

module _ (d : Descriptor) (book others : LookUp) (m k j : ℕ) (digest other : List ℕ)
    (beside : others k (sibling j) ≡ Some other) (here : book k j ≡ None) (next_to : book k (sibling j) ≡ None) where
  -- without the pair, and with it
  mid : LookUp
  mid = or_else book (path others m (suc k) (j / 2) (sha256 (joined j digest other)))

  with_pair : LookUp
  with_pair = or_else book (path others (suc m) k j digest)

  first_there : with_pair k j ≡ Some digest
  unfolding with_pair
  first_there =
      let test : (j == j) ≡ true = grind (arith, nat_tests) in
      ap (λ o. option_or o (path others (suc m) k j digest k j)) here ∙ path_first others m k j digest j refl
      ∙ ap (λ b. cond b (Some digest) (others k (sibling j))) test

  other_there : sibling j / 2 ≡ j / 2 → (sibling j ≡ j → ⊥) → with_pair k (sibling j) ≡ Some other
  unfolding with_pair
  other_there half apart =
      let test : (sibling j == j) ≡ false = off (sibling j) apart in
      ap (λ o. option_or o (path others (suc m) k j digest k (sibling j))) next_to ∙ path_first others m k j digest (sibling j) half
      ∙ ap (λ b. cond b (Some digest) (others k (sibling j))) test ∙ beside
    where
      off : (n : ℕ) → (n ≡ j → ⊥) → (n == j) ≡ false
      off n ne = grind (arith, nat_tests)

  rest_same : (l n : ℕ) → ((l ≡ k) × (n / 2 ≡ j / 2) → ⊥) → with_pair l n ≡ mid l n
  unfolding with_pair mid
  rest_same l n apart = ap (λ o. option_or (book l n) o) (path_rest others m k j digest other l n apart beside)

  mid_below : (n : ℕ) → book k n ≡ None → mid k n ≡ None
  unfolding mid
  mid_below n none =
      ap (λ o. option_or o (path others m (suc k) (j / 2) (sha256 (joined j digest other)) k n)) none
      ∙ path_below others m (suc k) (j / 2) (sha256 (joined j digest other)) k n (omega arith)

  pair_rooted : length digest ≡ 32 → length other ≡ 32 → mid (suc k) (j / 2) ≡ Some (sha256 (joined j digest other)) → IsRooted d mid
      → IsRooted d with_pair
  pair_rooted long also parent rooted = elim (cases_eq (j % 2) 0) [
    | inl even ↦
        let e : j ≡ 2 * (j / 2) = omega arith in
        let beside_is : sibling j ≡ j + 1 = even_sibling j even in
        let e' : sibling j ≡ 2 * (j / 2) + 1 = omega arith in
        let test : (j % 2 == 0) ≡ true = grind (arith, nat_tests) in
        let half : sibling j / 2 ≡ j / 2 = ap (λ i. i / 2) beside_is ∙ omega arith in
        rooted_on d k (j / 2) digest other mid with_pair (record {
          left_is = ap (λ i. with_pair k i) (sym e) ∙ first_there;
          right_is = ap (λ i. with_pair k i) (sym e') ∙ other_there half (λ same. omega (arith, same, beside_is));
          others = rest_same;
        }) long also (parent ∙ ap (λ x. Some (sha256 x)) (ap (λ b. cond b (digest ++ other) (other ++ digest)) test))
        (ap (λ i. mid k i) (sym e) ∙ mid_below j here) (ap (λ i. mid k i) (sym e') ∙ mid_below (sibling j) next_to) rooted
    | inr odd ↦
        let e : j ≡ 2 * (j / 2) + 1 = omega arith in
        let beside_is : sibling j ≡ j - 1 = odd_sibling j odd in
        let e' : sibling j ≡ 2 * (j / 2) = omega arith in
        let test : (j % 2 == 0) ≡ false = grind (arith, nat_tests) in
        let half : sibling j / 2 ≡ j / 2 = ap (λ i. i / 2) e' ∙ omega arith in
        rooted_on d k (j / 2) other digest mid with_pair (record {
          left_is = ap (λ i. with_pair k i) (sym e') ∙ other_there half (λ same. omega (arith, same, beside_is, odd));
          right_is = ap (λ i. with_pair k i) (sym e) ∙ first_there;
          others = rest_same;
        }) also long (parent ∙ ap (λ x. Some (sha256 x)) (ap (λ b. cond b (digest ++ other) (other ++ digest)) test))
        (ap (λ i. mid k i) (sym e') ∙ mid_below (sibling j) next_to) (ap (λ i. mid k i) (sym e) ∙ mid_below j here) rooted
  ]

-- ---- all pairs of a climb

-- where the book has no other digest than the climb, the first node has the climb's once the pairs are there
there_with_path : (d : Descriptor) (book others : LookUp) (n k j : ℕ) (digest : List ℕ) → IsRooted d book → k + n ≡ height_of d → above n j ≡ 0
    → climbed others n k j digest ≡ Some d.root → Follows book others n k j digest → or_else book (path others n k j digest) k j ≡ Some digest
there_with_path d book others zero k j digest rooted top first is follows =
    let high : k ≡ height_of d = omega arith in
    let here : book k j ≡ Some d.root = ap (λ i. book k i) first ∙ ap (λ l. book l 0) high ∙ rooted.root_is in
    ap (λ o. option_or o None) here ∙ sym is
there_with_path d book others (suc n) k j digest rooted top first is follows = elim (option_cases (book k j)) [
  | inl none ↦ ap (λ o. option_or o (path others (suc n) k j digest k j)) none ∙ path_here others n k j digest
  | inr (kept, at) ↦
      let same : kept ≡ digest = subst (λ o. IfSome o (λ x. x ≡ digest)) at follows.0 in
      ap (λ o. option_or o (path others (suc n) k j digest k j)) at ∙ ap (λ x. Some x) same
]

pub path_rooted : (d : Descriptor) (book others : LookUp) (n k j : ℕ) (digest : List ℕ) → IsRooted d book → AreDigests others → length digest ≡ 32
    → k + n ≡ height_of d → above n j ≡ 0 → climbed others n k j digest ≡ Some d.root → Follows book others n k j digest
    → IsRooted d (or_else book (path others n k j digest))
unfolding mid with_pair
path_rooted d book others zero k j digest rooted long whole top first is follows =
    rooted_same d book (or_else book (path others 0 k j digest)) (λ l m. or_none (book l m)) rooted
path_rooted d book others (suc n) k j digest rooted long whole top first is follows = elim (option_cases (book k j)) [
  | inr (kept, at) ↦ rooted_same d book (or_else book (path others (suc n) k j digest))
      (λ l m. path_adds_nothing d book others (suc n) k j digest kept l m rooted top at) rooted
  | inl none ↦
      let (other, beside, rest) = climbed_on others n k j digest d.root is in
      let next = sha256 (joined j digest other) in
      let up : suc k + n ≡ height_of d = omega arith in
      let halved : above n (j / 2) ≡ 0 = above_half n j ∙ first in
      pair_rooted d book others n k j digest other beside none (sibling_absent d book k n j rooted top none) whole (long k (sibling j) other beside)
      (there_with_path d book others n (suc k) (j / 2) next rooted up halved rest (follows.1 other beside))
      (path_rooted d book others n (suc k) (j / 2) next rooted long (length-sha256 (joined j digest other)) up halved rest (follows.1 other beside))
]
