-- What the pairs on a climb add to a rooted book.
use Rattle.std.proofs.Common.{◌≡◌, ◌⊎◌, ℕ, zero, suc, ◌+◌, ◌-◌, ◌/◌, ◌%◌, ◌<◌, ◌==◌, ◌&&◌, true, false, cond, Option, Some, None, List, ◌++◌, refl, sym, ◌∙◌, ap, subst, inl, inr, arith}
use Rattle.std.specs.Option.{option_or}
use Rattle.std.proofs.lemmas.Bool.{cases_eq}
use Rattle.std.proofs.lemmas.Bool.Decides.{nat_tests}
use Rattle.sha2.specs.Sha256.{sha256}
use Rattle.pp_terms.specs.tree.Book.{LookUp, IsJoined, IsRooted}
use Rattle.pp_terms.specs.format.Descriptor.{Descriptor, height_of}
use Rattle.pp_terms.specs.tree.Proves.{joined}
use Rattle.pp_terms.specs.tree.Bins.{sibling}
use Rattle.pp_tree.proofs.Rootedness.{same_node}
use Rattle.pp_terms.proofs.Nodes.{hung}
use Rattle.pp_terms.proofs.Facts.{which_half}
use Rattle.pp_paths.specs.Climb.{or_else, climb, IsFit, path}
use Rattle.pp_paths.proofs.Climbs.{climb_ends, climb_stops, climb_lacks, climb_on}

pub option_cases : {X : Type 0} (o : Option X) → (o ≡ None) ⊎ ((x : X) × (o ≡ Some x))
option_cases None = inl refl
option_cases (Some x) = inr (x, refl)

-- an even child's sibling is the next one, an odd one's the one before
pub even_sibling : (j : ℕ) → j % 2 ≡ 0 → sibling j ≡ j + 1
even_sibling j even = let test : (j % 2 == 0) ≡ true = grind (arith, nat_tests) in rw test refl

pub odd_sibling : (j : ℕ) → (j % 2 ≡ 0 → ⊥) → sibling j ≡ j - 1
odd_sibling j odd = let test : (j % 2 == 0) ≡ false = grind (arith, nat_tests) in rw test refl

-- both have one parent
pub sibling_half : (j : ℕ) → sibling j / 2 ≡ j / 2
sibling_half j = elim (cases_eq (j % 2) 0) [
  | inl even ↦ ap (λ i. i / 2) (even_sibling j even) ∙ omega arith
  | inr odd ↦ ap (λ i. i / 2) (odd_sibling j odd) ∙ omega arith
]

-- a child of a node that has both is there
pub child_there : (book : LookUp) (k i j : ℕ) (a b : List ℕ) → IsJoined book k i a b → j / 2 ≡ i
    → (x : List ℕ) × (book k j ≡ Some x)
child_there book k i j a b joined half = elim (which_half j i half) [
  | inl e ↦ (a, ap (λ n. book k n) e ∙ joined.left_is)
  | inr e ↦ (b, ap (λ n. book k n) e ∙ joined.right_is)
]

-- where a node is absent, so is its sibling
pub sibling_absent : (d : Descriptor) (book : LookUp) (k n j : ℕ) → IsRooted d book → k + suc n ≡ height_of d
    → book k j ≡ None → book k (sibling j) ≡ None
sibling_absent d book k n j rooted low none = elim (option_cases (book k (sibling j))) [
  | inl absent ↦ absent
  | inr (x, at) ↦
      let (a, b, joined) = hung d book k n (sibling j) x rooted low at in
      let (y, here) = child_there book k (sibling j / 2) j a b joined (sym (sibling_half j)) in
      cc
]

-- the pair of a path's first node
pub path_first : (others : LookUp) (n k j : ℕ) (digest : List ℕ) (m : ℕ) → m / 2 ≡ j / 2
    → path others (suc n) k j digest k m ≡ cond (m == j) (Some digest) (others k (sibling j))
path_first others n k j digest m half =
    let test : (k == k && m / 2 == j / 2) ≡ true = grind (arith, nat_tests) in rw test refl

pub path_here : (others : LookUp) (n k j : ℕ) (digest : List ℕ) → path others (suc n) k j digest k j ≡ Some digest
path_here others n k j digest =
    let test : (j == j) ≡ true = grind (arith, nat_tests) in path_first others n k j digest j refl ∙ rw test refl

-- the rest of a path
pub path_rest : (others : LookUp) (n k j : ℕ) (digest other : List ℕ) (l m : ℕ) → ((l ≡ k) × (m / 2 ≡ j / 2) → ⊥)
    → others k (sibling j) ≡ Some other
    → path others (suc n) k j digest l m ≡ path others n (suc k) (j / 2) (sha256 (joined j digest other)) l m
path_rest others n k j digest other l m apart is =
    let test : (l == k && m / 2 == j / 2) ≡ false = grind (arith, nat_tests) in rw (test, is) refl

-- nothing of it lies below its first node
pub path_below : (others : LookUp) (n k j : ℕ) (digest : List ℕ) (l m : ℕ) → l < k → path others n k j digest l m ≡ None
path_below others zero k j digest l m low = refl
path_below others (suc n) k j digest l m low =
    let test : (l == k && m / 2 == j / 2) ≡ false = grind (arith, nat_tests) in
    rw test (elim (option_cases (others k (sibling j))) [
      | inl none ↦ rw none refl
      | inr (other, is) ↦ rw is (path_below others n (suc k) (j / 2) (sha256 (joined j digest other)) l m (omega arith))
    ])

pub or_none : (o : Option (List ℕ)) → option_or o None ≡ o
or_none None = refl
or_none (Some x) = refl

-- a path from a node that a rooted book has adds nothing
pub path_adds_nothing : (d : Descriptor) (book others : LookUp) (n k j : ℕ) (digest kept : List ℕ) (l m : ℕ) → IsRooted d book
    → k + n ≡ height_of d → book k j ≡ Some kept → or_else book (path others n k j digest) l m ≡ book l m
path_adds_nothing d book others zero k j digest kept l m rooted top at = or_none (book l m)
path_adds_nothing d book others (suc n) k j digest kept l m rooted top at =
    let (a, b, joined') = hung d book k n j kept rooted top at in
    elim (same_node l (m / 2) k (j / 2)) [
      | inl (layer, half) ↦
          let (x, here) = child_there book k (j / 2) m a b joined' half in
          let there : book l m ≡ Some x = ap (λ i. book i m) layer ∙ here in
          rw there refl
      | inr apart ↦ elim (option_cases (others k (sibling j))) [
        | inl none ↦
            let test : (l == k && m / 2 == j / 2) ≡ false = grind (arith, nat_tests) in
            rw (test, none) (or_none (book l m))
        | inr (other, is) ↦
            let up : suc k + n ≡ height_of d = omega arith in
            ap (λ o. option_or (book l m) o) (path_rest others n k j digest other l m apart is)
            ∙ path_adds_nothing d book others n (suc k) (j / 2) (sha256 (joined j digest other)) (sha256 (a ++ b)) l m rooted up joined'.joined
      ]
    ]

-- where a climb that fits begins at a node that the book lacks, it goes on
pub fit_goes_on : (d : Descriptor) (book others : LookUp) (n k j : ℕ) (digest : List ℕ) → IsRooted d book → k + n ≡ height_of d
    → IsFit (climb book others n k j digest) → book k j ≡ None
    → (m : ℕ) × (other : List ℕ) × (n ≡ suc m) × (others k (sibling j) ≡ Some other) × (book k (sibling j) ≡ None)
    × IsFit (climb book others m (suc k) (j / 2) (sha256 (joined j digest other)))
fit_goes_on d book others zero k j digest rooted top fit none = absurd (rw (climb_stops book others 0 k j digest refl none) at fit)
fit_goes_on d book others (suc m) k j digest rooted top fit none =
    let absent = sibling_absent d book k m j rooted top none in
    elim (option_cases (others k (sibling j))) [
      | inl lacks ↦
          let neither : or_else book others k (sibling j) ≡ None = rw absent lacks in
          absurd (subst (λ c. IsFit c) (climb_lacks book others (suc m) k j digest (omega arith) none neither) fit)
      | inr (other, is) ↦
          let either : or_else book others k (sibling j) ≡ Some other = rw absent is in
          (m, other, refl, is, absent, subst (λ c. IsFit c) (climb_on book others m k j digest other none either) fit)
    ]

-- a climb that fits has its digest in the book with the path
pub fit_is_there : (d : Descriptor) (book others : LookUp) (n k j : ℕ) (digest : List ℕ) → IsRooted d book → k + n ≡ height_of d
    → IsFit (climb book others n k j digest) → or_else book (path others n k j digest) k j ≡ Some digest
fit_is_there d book others n k j digest rooted top fit = elim (option_cases (book k j)) [
  | inl none ↦
      let (m, other, more, _, _, _) = fit_goes_on d book others n k j digest rooted top fit none in
      let first : path others n k j digest k j ≡ Some digest =
      ap (λ i. path others i k j digest k j) more ∙ path_here others m k j digest in
      rw none first
  | inr (kept, at) ↦
      let same : digest ≡ kept = subst (λ c. IsFit c) (climb_ends book others n k j digest kept at) fit in
      rw at (ap (λ x. Some x) (sym same))
]
