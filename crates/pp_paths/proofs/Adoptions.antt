-- Adopting the pairs of a climb that fits, from above: what one more pair adds.
use Rattle.std.proofs.Common.{◌≡◌, ◌⊎◌, ℕ, suc, ◌+◌, ◌-◌, ◌*◌, ◌/◌, ◌%◌, ◌≤◌, ◌<◌, ◌==◌, true, false, cond, Option, Some, None, List, ◌++◌, refl, sym, ◌∙◌, ap, subst, inl, inr, arith}
use Rattle.std.specs.Prelude.{is_some}
use Rattle.std.specs.Option.{option_or}
use Rattle.std.proofs.lemmas.Bool.{cases_eq}
use Rattle.std.proofs.lemmas.Bool.Decides.{nat_tests}
use Rattle.sha2.specs.Sha256.{sha256}
use Rattle.pp_terms.specs.tree.Book.{LookUp}
use Rattle.pp_terms.specs.format.Descriptor.{height_of}
use Rattle.pp_terms.specs.tree.Proves.{joined}
use Rattle.pp_terms.specs.tree.Bins.{sibling}
use Rattle.pp_tree.specs.Book.{IsAdopted}
use Rattle.pp_tree.specs.declared.node.Node.{Node}
use Rattle.pp_tree.proofs.Rootedness.{same_node, some_same}
use Rattle.pp_paths.specs.Climb.{node_at, or_else, climb, path, IsFit, IsRootedAt, AddsPath}
use Rattle.pp_paths.proofs.Climbs.{climb_step}
use Rattle.pp_paths.proofs.Growth.{even_sibling, odd_sibling, path_first, path_rest, path_below, path_adds_nothing, fit_goes_on, fit_is_there}

-- The climb goes on from a node that the book lacks, by the sibling's digest.
pub record GoesOn (book others : LookUp) (top k j : ℕ) (digest other : List ℕ) : Type 0 where
  pub low : k < top
  pub none : book k j ≡ None
  pub beside : book k (sibling j) ≡ None
  pub other_is : others k (sibling j) ≡ Some other
  pub fit : IsFit (climb book others (top - (k + 1)) (k + 1) (j / 2) (sha256 (joined j digest other)))

present_by_test : (o e : Option (List ℕ)) → o ≡ e → is_some o ≡ true → (x : List ℕ) × (e ≡ Some x)
present_by_test None e is test = cc
present_by_test (Some x) e is test = (x, sym is)

goes_on : (book others : LookUp) (top k j : ℕ) (digest : List ℕ) → IsRootedAt top book → k ≤ top
    → IsFit (climb book others (top - k) k j digest) → book k j ≡ None
    → (other : List ℕ) × GoesOn book others top k j digest other
goes_on book others top k j digest rooted below fit none =
    let layer : k + (top - k) ≡ height_of rooted.descriptor = omega (arith, rooted.top_is) in
    let (m, other, more, is, absent, rest) =
    fit_goes_on rooted.descriptor book others (top - k) k j digest rooted.rooted layer fit none in
    let left : m ≡ top - (k + 1) = omega arith in
    let up : suc k ≡ k + 1 = omega arith in (
      other,
      record {
        low = omega arith;
        none = none;
        beside = absent;
        other_is = is;
        fit = subst (λ (n : ℕ). IsFit (climb book others n (k + 1) (j / 2) (sha256 (joined j digest other)))) left
            (subst (λ (l : ℕ). IsFit (climb book others m l (j / 2) (sha256 (joined j digest other)))) up rest);
      },
    )

-- the climb from the parent is the climb from the node
pub climb_from_parent : (book others : LookUp) (top k j : ℕ) (digest other next : List ℕ) (o found : Option (List ℕ)) (at up : Node)
    → k < top → o ≡ book k j → o ≡ None → at ≡ node_at k (sibling j) → found ≡ or_else book others at.layer at.offset → found ≡ Some other
    → up ≡ node_at (k + 1) (j / 2) → next ≡ sha256 (joined j digest other)
    → climb book others (top - up.layer) up.layer up.offset next ≡ climb book others (top - k) k j digest
climb_from_parent book others top k j digest other next o found at up low is none at_is found_is other_is up_is next_is =
    climb_step book others top k up.layer j up.offset digest other next low (sym is ∙ none)
    (sym (ap (λ (n : Node). or_else book others n.layer n.offset) at_is) ∙ sym found_is ∙ other_is)
    (ap (λ (n : Node). n.layer) up_is) (ap (λ (n : Node). n.offset) up_is) next_is

-- where it fits, the climb goes on by the sibling that is known
pub goes_on_by : (book others : LookUp) (top k j : ℕ) (digest other : List ℕ) (o found : Option (List ℕ)) (at : Node)
    → IsRootedAt top book → k ≤ top → IsFit (climb book others (top - k) k j digest) → o ≡ book k j → o ≡ None
    → at ≡ node_at k (sibling j) → found ≡ or_else book others at.layer at.offset → found ≡ Some other
    → GoesOn book others top k j digest other
goes_on_by book others top k j digest other o found at rooted below fit is none at_is found_is other_is =
    let (other', going) = goes_on book others top k j digest rooted below fit (sym is ∙ none) in
    let claimed : or_else book others k (sibling j) ≡ Some other' = (let b = going.beside in rw b going.other_is) in
    let e : found ≡ Some other' = found_is ∙ ap (λ (n : Node). or_else book others n.layer n.offset) at_is ∙ claimed in
    subst (λ (x : List ℕ). GoesOn book others top k j digest x) (some_same other' other found e other_is) going

-- the climb from the parent fits
pub fit_above : (book others : LookUp) (top k j : ℕ) (digest other next : List ℕ) (up : Node) → GoesOn book others top k j digest other
    → up ≡ node_at (k + 1) (j / 2) → next ≡ sha256 (joined j digest other)
    → (up.layer ≤ top) × IsFit (climb book others (top - up.layer) up.layer up.offset next)
fit_above book others top k j digest other next up going up_is next_is =
    let P : Node → List ℕ → Type 0 = λ at x. IsFit (climb book others (top - at.layer) at.layer at.offset x) in
    let low = going.low in
    let layer = ap (λ (at : Node). at.layer) up_is in (
      omega arith,
      subst (λ (x : List ℕ). P up x) (sym next_is)
          (subst (λ (at : Node). P at (sha256 (joined j digest other))) (sym up_is) going.fit),
    )

-- a pair in order, joined
pair_joined : (j : ℕ) (digest other left right : List ℕ) → left ≡ cond (j % 2 == 0) digest other
    → right ≡ cond (j % 2 == 0) other digest → left ++ right ≡ joined j digest other
pair_joined j digest other left right left_is right_is =
    ap (λ x. x ++ right) left_is ∙ ap (λ y. cond (j % 2 == 0) digest other ++ y) right_is
    ∙ elim (j % 2 == 0) as (λ b. cond b digest other ++ cond b other digest ≡ cond b (digest ++ other) (other ++ digest)) [
      | true ↦ refl
      | false ↦ refl
    ]

-- the parent has the digest of the pair
pub parent_fits : (old mid others : LookUp) (top k j : ℕ) (digest other next left right : List ℕ) (up : Node)
    → IsRootedAt top old → GoesOn old others top k j digest other → up ≡ node_at (k + 1) (j / 2)
    → next ≡ sha256 (joined j digest other) → AddsPath (path others (top - up.layer) up.layer up.offset next) old mid
    → left ≡ cond (j % 2 == 0) digest other → right ≡ cond (j % 2 == 0) other digest
    → mid up.layer up.offset ≡ Some (sha256 (left ++ right))
parent_fits old mid others top k j digest other next left right up rooted going up_is next_is added left_is right_is =
    let (below, fit) = fit_above old others top k j digest other next up going up_is next_is in
    let layer : up.layer + (top - up.layer) ≡ height_of rooted.descriptor = omega (arith, rooted.top_is) in
    added up.layer up.offset
    ∙ fit_is_there rooted.descriptor old others (top - up.layer) up.layer up.offset next rooted.rooted layer fit
    ∙ ap (λ x. Some x) (next_is ∙ ap (λ x. sha256 x) (sym (pair_joined j digest other left right left_is right_is)))

-- a node is one of a pair
one_of : (m j : ℕ) → m / 2 ≡ j / 2 → (m ≡ j) ⊎ ((m ≡ j → ⊥) × (m ≡ sibling j))
one_of m j half = elim (cases_eq m j) [
  | inl e ↦ inl e
  | inr ne ↦ inr (
    ne,
    elim (cases_eq (j % 2) 0) [
      | inl even ↦ (let e : m ≡ j + 1 = omega arith in e ∙ sym (even_sibling j even))
      | inr odd ↦ (let e : m ≡ j - 1 = omega arith in e ∙ sym (odd_sibling j odd))
    ],
  )
]

absent_in : (old others : LookUp) (top k j m : ℕ) (digest other : List ℕ) → GoesOn old others top k j digest other → m / 2 ≡ j / 2
    → old k m ≡ None
absent_in old others top k j m digest other going half = elim (one_of m j half) [
  | inl e ↦ ap (λ i. old k i) e ∙ going.none
  | inr (_, e) ↦ ap (λ i. old k i) e ∙ going.beside
]

-- neither child is there yet
pub child_absent : (old mid others : LookUp) (top k j l m : ℕ) (digest other next : List ℕ) (up : Node)
    → GoesOn old others top k j digest other → up ≡ node_at (k + 1) (j / 2)
    → AddsPath (path others (top - up.layer) up.layer up.offset next) old mid
    → l ≡ up.layer - 1 → m / 2 ≡ up.offset → mid l m ≡ None
child_absent old mid others top k j l m digest other next up going up_is added l_is half =
    let layer : l ≡ k = omega (arith, ap (λ (at : Node). at.layer) up_is) in
    let below : l < up.layer = omega (arith, ap (λ (at : Node). at.layer) up_is) in
    let half' : m / 2 ≡ j / 2 = half ∙ ap (λ (at : Node). at.offset) up_is in
    let none : old l m ≡ None = ap (λ i. old i m) layer ∙ absent_in old others top k j m digest other going half' in
    added l m ∙ ap (λ o. option_or o (path others (top - up.layer) up.layer up.offset next l m)) none
    ∙ path_below others (top - up.layer) up.layer up.offset next l m below

-- one pair more
adopts_one : (old mid new others : LookUp) (top n k j : ℕ) (digest other next left right : List ℕ)
    → GoesOn old others top k j digest other → next ≡ sha256 (joined j digest other)
    → AddsPath (path others n (suc k) (j / 2) next) old mid → IsAdopted k (j / 2) left right mid new
    → left ≡ cond (j % 2 == 0) digest other → right ≡ cond (j % 2 == 0) other digest
    → AddsPath (path others (suc n) k j digest) old new
adopts_one old mid new others top n k j digest other next left right going next_is added adopted left_is right_is l m =
    elim (same_node l (m / 2) k (j / 2)) [
      | inl (layer, half) ↦
          let none : old l m ≡ None = ap (λ i. old i m) layer ∙ absent_in old others top k j m digest other going half in
          let first = ap (λ i. path others (suc n) k j digest i m) layer ∙ path_first others n k j digest m half in
          ap (λ i. new i m) layer ∙ entry_is m half
          ∙ sym (ap (λ o. option_or o (path others (suc n) k j digest l m)) none ∙ first)
      | inr apart ↦
          adopted.others l m apart ∙ added l m
          ∙ ap (λ o. option_or (old l m) o) (ap (λ x. path others n (suc k) (j / 2) x l m) next_is
          ∙ sym (path_rest others n k j digest other l m apart going.other_is))
    ]
  where
    at_j : new k j ≡ Some digest
    at_j = elim (cases_eq (j % 2) 0) [
      | inl even ↦
          let e : j ≡ 2 * (j / 2) = omega arith in
          let test : (j % 2 == 0) ≡ true = grind (arith, nat_tests) in
          ap (λ i. new k i) e ∙ adopted.left_is ∙ ap (λ x. Some x) (left_is ∙ ap (λ b. cond b digest other) test)
      | inr odd ↦
          let e : j ≡ 2 * (j / 2) + 1 = omega arith in
          let test : (j % 2 == 0) ≡ false = grind (arith, nat_tests) in
          ap (λ i. new k i) e ∙ adopted.right_is ∙ ap (λ x. Some x) (right_is ∙ ap (λ b. cond b other digest) test)
    ]

    beside : new k (sibling j) ≡ Some other
    beside = elim (cases_eq (j % 2) 0) [
      | inl even ↦
          let e : j + 1 ≡ 2 * (j / 2) + 1 = omega arith in
          let test : (j % 2 == 0) ≡ true = grind (arith, nat_tests) in
          ap (λ i. new k i) (even_sibling j even ∙ e) ∙ adopted.right_is
          ∙ ap (λ x. Some x) (right_is ∙ ap (λ b. cond b other digest) test)
      | inr odd ↦
          let e : j - 1 ≡ 2 * (j / 2) = omega arith in
          let test : (j % 2 == 0) ≡ false = grind (arith, nat_tests) in
          ap (λ i. new k i) (odd_sibling j odd ∙ e) ∙ adopted.left_is
          ∙ ap (λ x. Some x) (left_is ∙ ap (λ b. cond b digest other) test)
    ]

    entry_is : (m : ℕ) → m / 2 ≡ j / 2 → new k m ≡ cond (m == j) (Some digest) (others k (sibling j))
    entry_is m half = elim (one_of m j half) [
      | inl e ↦
          let test : (m == j) ≡ true = grind (arith, nat_tests) in
          ap (λ i. new k i) e ∙ at_j ∙ sym (ap (λ b. cond b (Some digest) (others k (sibling j))) test)
      | inr (ne, e) ↦
          let test : (m == j) ≡ false = grind (arith, nat_tests) in
          ap (λ i. new k i) e ∙ beside ∙ sym (going.other_is)
          ∙ sym (ap (λ b. cond b (Some digest) (others k (sibling j))) test)
    ]

-- the same, as the code counts
pub path_adopted : (old mid new others : LookUp) (top k j : ℕ) (digest other next left right : List ℕ) (up : Node)
    → GoesOn old others top k j digest other → up ≡ node_at (k + 1) (j / 2) → next ≡ sha256 (joined j digest other)
    → AddsPath (path others (top - up.layer) up.layer up.offset next) old mid
    → IsAdopted (up.layer - 1) up.offset left right mid new
    → left ≡ cond (j % 2 == 0) digest other → right ≡ cond (j % 2 == 0) other digest
    → AddsPath (path others (top - k) k j digest) old new
path_adopted old mid new others top k j digest other next left right up going up_is next_is added adopted left_is right_is =
    let low = going.low in
    let layer = ap (λ (at : Node). at.layer) up_is in
    let offset = ap (λ (at : Node). at.offset) up_is in
    let left_over : suc (top - up.layer) ≡ top - k = omega arith in
    let higher : up.layer ≡ suc k = omega arith in
    let down : up.layer - 1 ≡ k = omega arith in
    let added' : AddsPath (path others (top - up.layer) (suc k) (j / 2) next) old mid =
    subst (λ (i : ℕ). AddsPath (path others (top - up.layer) (suc k) i next) old mid) offset
    (subst (λ (l : ℕ). AddsPath (path others (top - up.layer) l up.offset next) old mid) higher added) in
    let adopted' : IsAdopted k (j / 2) left right mid new =
    subst (λ (i : ℕ). IsAdopted k i left right mid new) offset
    (subst (λ (l : ℕ). IsAdopted l up.offset left right mid new) down adopted) in
    subst (λ (n : ℕ). AddsPath (path others n k j digest) old new) left_over
    (adopts_one old mid new others top (top - up.layer) k j digest other next left right going next_is added' adopted' left_is right_is)

-- nothing is added where the book has the node
pub nothing_added : (book others : LookUp) (top k j : ℕ) (digest : List ℕ) (o : Option (List ℕ)) → IsRootedAt top book → k ≤ top
    → o ≡ book k j → is_some o ≡ true → AddsPath (path others (top - k) k j digest) book book
nothing_added book others top k j digest o rooted below is test l m =
    let (kept, at) = present_by_test o (book k j) is test in
    let layer : k + (top - k) ≡ height_of rooted.descriptor = omega (arith, rooted.top_is) in
    sym (path_adds_nothing rooted.descriptor book others (top - k) k j digest kept l m rooted.rooted layer at)
