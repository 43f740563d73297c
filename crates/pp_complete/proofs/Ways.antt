-- A way up a rooted book: a climb by other digests has the book's at each node of it, where these are the book's at the siblings.
use Rattle.std.proofs.Common.{◌≡◌, ◌⊎◌, inl, inr, ℕ, zero, suc, ◌+◌, ◌-◌, ◌*◌, ◌/◌, ◌%◌, ◌≤◌, ◌<◌, ◌==◌, true, false, cond, Option, Some, None, List, ◌++◌, sym, ◌∙◌, ap, arith}
use Rattle.std.specs.Option.{option_or}
use Rattle.std.proofs.lemmas.Bool.{cases_eq}
use Rattle.std.proofs.lemmas.Bool.Decides.{nat_tests}
use Rattle.sha2.specs.Sha256.{sha256}
use Rattle.pp_terms.specs.format.Descriptor.{Descriptor, height_of}
use Rattle.pp_terms.specs.tree.Book.{LookUp, IsRooted}
use Rattle.pp_terms.specs.tree.Tree.{above}
use Rattle.pp_terms.specs.tree.Bins.{sibling}
use Rattle.pp_terms.specs.tree.Proves.{joined}
use Rattle.pp_terms.proofs.Nodes.{hung}
use Rattle.pp_terms.proofs.Peaks.{doubled}
use Rattle.pp_tree.proofs.Halving.{above_half}
use Rattle.pp_tree.proofs.Rootedness.{some_same, same_node}
use Rattle.pp_paths.specs.Climb.{node_at, or_else, climb, path}
use Rattle.pp_paths.proofs.Climbs.{climb_ends, climb_on}
use Rattle.pp_paths.proofs.Growth.{option_cases, even_sibling, odd_sibling, sibling_half, path_first, path_rest}
use Rattle.pp_paths.proofs.ProvenChunks.{Reaches}
use Rattle.pp_world.specs.Agreement.{IsBelow}

-- ---- nodes of the tree

pub sibling_below : (d : Descriptor) (n k j : ℕ) → IsBelow d (suc n) k j → IsBelow d (suc n) k (sibling j)
sibling_below d n k j below =
    let within = below.within in
    record { layer = below.layer; within = omega (arith, sibling_half j, doubled n) }

pub parent_below : (d : Descriptor) (n k j : ℕ) → IsBelow d (suc n) k j → IsBelow d n (suc k) (j / 2)
parent_below d n k j below =
    let within = below.within in
    let layer = below.layer in
    record { layer = omega arith; within = omega (arith, doubled n) }

-- what a rooted book has beside a node below the root, and above it
pub beside : (d : Descriptor) (book : LookUp) (n k j : ℕ) (digest : List ℕ) → IsRooted d book → IsBelow d (suc n) k j
    → book k j ≡ Some digest
    → (other : List ℕ) × (book k (sibling j) ≡ Some other) × (book (suc k) (j / 2) ≡ Some (sha256 (joined j digest other)))
beside d book n k j digest rooted below at =
    let (a, b, is) = hung d book k n j digest rooted below.layer at in
    elim (cases_eq (j % 2) 0) [
      | inl even ↦
          let here : j ≡ 2 * (j / 2) = omega arith in
          let next : j + 1 ≡ 2 * (j / 2) + 1 = omega arith in
          let same : a ≡ digest = some_same a digest (book k j) (ap (λ i. book k i) here ∙ is.left_is) at in
          let test : (j % 2 == 0) ≡ true = grind (arith, nat_tests) in
          let pair : joined j digest b ≡ a ++ b =
          ap (λ t. cond t (digest ++ b) (b ++ digest)) test ∙ ap (λ x. x ++ b) (sym same) in (
            b,
            ap (λ i. book k i) (even_sibling j even ∙ next) ∙ is.right_is,
            is.joined ∙ ap (λ x. Some (sha256 x)) (sym pair),
          )
      | inr odd ↦
          let here : j ≡ 2 * (j / 2) + 1 = omega arith in
          let before : j - 1 ≡ 2 * (j / 2) = omega arith in
          let same : b ≡ digest = some_same b digest (book k j) (ap (λ i. book k i) here ∙ is.right_is) at in
          let test : (j % 2 == 0) ≡ false = grind (arith, nat_tests) in
          let pair : joined j digest a ≡ a ++ b =
          ap (λ t. cond t (digest ++ a) (a ++ digest)) test ∙ ap (λ x. a ++ x) (sym same) in (
            a,
            ap (λ i. book k i) (odd_sibling j odd ∙ before) ∙ is.left_is,
            is.joined ∙ ap (λ x. Some (sha256 x)) (sym pair),
          )
    ]

-- ---- climbs

-- A way up, as a property of its nodes. Where a book has no node of it, the others have the sibling as theirs has it, or the book has.
pub record Leads (d : Descriptor) (book others theirs : LookUp) (On : ℕ → ℕ → Type 0) : Type 0 where
  pub root : List ℕ
  pub root_is : book (height_of d) 0 ≡ Some root
  pub agree : (n k j : ℕ) (x y : List ℕ) → IsBelow d n k j → book k j ≡ Some x → theirs k j ≡ Some y → x ≡ y
  pub given : (n k j : ℕ) (other : List ℕ) → IsBelow d (suc n) k j → On k j → book k j ≡ None → book k (sibling j) ≡ None
      → theirs k (sibling j) ≡ Some other → others k (sibling j) ≡ Some other
  pub on : (n k j : ℕ) → IsBelow d (suc n) k j → On k j → book k j ≡ None → On (suc k) (j / 2)

ended : (book others : LookUp) (n k j : ℕ) (digest kept : List ℕ) → book k j ≡ Some kept → kept ≡ digest
    → Reaches (climb book others n k j digest)
ended book others n k j digest kept here same =
    (node_at k j, digest, climb_ends book others n k j digest digest (here ∙ ap (λ x. Some x) same))

goes_further : (book others : LookUp) (n k j : ℕ) (digest other : List ℕ) → book k j ≡ None → or_else book others k (sibling j) ≡ Some other
    → Reaches (climb book others n (suc k) (j / 2) (sha256 (joined j digest other))) → Reaches (climb book others (suc n) k j digest)
goes_further book others n k j digest other none either (node, found, end) =
    (node, found, climb_on book others n k j digest other none either ∙ end)

-- then a climb along it reaches its own digest
pub reaches : (d : Descriptor) (book others theirs : LookUp) (On : ℕ → ℕ → Type 0) → IsRooted d theirs → Leads d book others theirs On
    → (n k j : ℕ) (digest : List ℕ) → IsBelow d n k j → theirs k j ≡ Some digest → On k j → Reaches (climb book others n k j digest)
reaches d book others theirs On rooted leads zero k j digest below at on = elim (option_cases (book k j)) [
  | inr (kept, here) ↦ ended book others zero k j digest kept here (leads.agree zero k j kept digest below here at)
  | inl none ↦
      let layer = below.layer in
      let within = below.within in
      let top : k ≡ height_of d = omega arith in
      let first : j ≡ 0 = omega arith in
      let root : book k j ≡ Some leads.root = ap (λ l. book l j) top ∙ ap (λ i. book (height_of d) i) first ∙ leads.root_is in
      absurd cc
]
reaches d book others theirs On rooted leads (suc n) k j digest below at on = elim (option_cases (book k j)) [
  | inr (kept, here) ↦ ended book others (suc n) k j digest kept here (leads.agree (suc n) k j kept digest below here at)
  | inl none ↦
      let (other, there, up) = beside d theirs n k j digest rooted below at in
      let either : or_else book others k (sibling j) ≡ Some other = elim (option_cases (book k (sibling j))) [
        | inr (x, has) ↦
            let same = leads.agree (suc n) k (sibling j) x other (sibling_below d n k j below) has there in
            ap (λ o. option_or o (others k (sibling j))) has ∙ ap (λ y. Some y) same
        | inl lacks ↦
            ap (λ o. option_or o (others k (sibling j))) lacks ∙ leads.given n k j other below on none lacks there
      ] in
      goes_further book others n k j digest other none either
      (reaches d book others theirs On rooted leads n (suc k) (j / 2) (sha256 (joined j digest other))
      (parent_below d n k j below) up (leads.on n k j below on none))
]

-- ---- paths

-- A way up whose siblings the others have as theirs has them.
pub record Supplies (d : Descriptor) (others theirs : LookUp) (On : ℕ → ℕ → Type 0) : Type 0 where
  pub given : (n k j : ℕ) (other : List ℕ) → IsBelow d (suc n) k j → On k j → theirs k (sibling j) ≡ Some other
      → others k (sibling j) ≡ Some other
  pub on : (n k j : ℕ) → IsBelow d (suc n) k j → On k j → On (suc k) (j / 2)

-- a node with the same parent is the node or its sibling
other_child : (m j : ℕ) → m / 2 ≡ j / 2 → (m ≡ j → ⊥) → m ≡ sibling j
other_child m j half apart = elim (cases_eq (j % 2) 0) [
  | inl even ↦ (let e = even_sibling j even in omega arith)
  | inr odd ↦ (let e = odd_sibling j odd in omega arith)
]

-- an entry of a path's first pair
pair_entry : (others : LookUp) (n k j : ℕ) (digest other : List ℕ) (l m : ℕ) → others k (sibling j) ≡ Some other → l ≡ k → m / 2 ≡ j / 2
    → ((m ≡ j) × (path others (suc n) k j digest l m ≡ Some digest)) ⊎ ((m ≡ sibling j) × (path others (suc n) k j digest l m ≡ Some other))
pair_entry others n k j digest other l m is layer half =
    let first = ap (λ i. path others (suc n) k j digest i m) layer ∙ path_first others n k j digest m half in
    elim (cases_eq m j) [
      | inl e ↦
          let test : (m == j) ≡ true = grind (arith, nat_tests) in
          inl (e, first ∙ ap (λ b. cond b (Some digest) (others k (sibling j))) test)
      | inr ne ↦
          let test : (m == j) ≡ false = grind (arith, nat_tests) in
          inr (other_child m j half ne, first ∙ ap (λ b. cond b (Some digest) (others k (sibling j))) test ∙ is)
    ]

-- what a path along it has, theirs has
pub path_agrees : (d : Descriptor) (others theirs : LookUp) (On : ℕ → ℕ → Type 0) → IsRooted d theirs → Supplies d others theirs On
    → (n k j : ℕ) (digest : List ℕ) (l m : ℕ) (x : List ℕ) → IsBelow d n k j → theirs k j ≡ Some digest → On k j
    → path others n k j digest l m ≡ Some x → theirs l m ≡ Some x
path_agrees d others theirs On rooted supplies zero k j digest l m x below at on is = absurd cc
path_agrees d others theirs On rooted supplies (suc n) k j digest l m x below at on is =
    let (other, there, up) = beside d theirs n k j digest rooted below at in
    let given = supplies.given n k j other below on there in
    elim (same_node l (m / 2) k (j / 2)) [
      | inl (layer, half) ↦ elim (pair_entry others n k j digest other l m given layer half) [
        | inl (e, entry) ↦ ap (λ i. theirs i m) layer ∙ ap (λ i. theirs k i) e ∙ at ∙ sym entry ∙ is
        | inr (e, entry) ↦ ap (λ i. theirs i m) layer ∙ ap (λ i. theirs k i) e ∙ there ∙ sym entry ∙ is
      ]
      | inr apart ↦
          path_agrees d others theirs On rooted supplies n (suc k) (j / 2) (sha256 (joined j digest other)) l m x
          (parent_below d n k j below) up (supplies.on n k j below on)
          (sym (path_rest others n k j digest other l m apart given) ∙ is)
    ]

pub same_there : (o p : Option (List ℕ)) → o ≡ p → (x : List ℕ) × (p ≡ Some x) → (x : List ℕ) × (o ≡ Some x)
same_there o p same (x, is) = (x, same ∙ is)

-- it has both children of each node above its first one
pub path_there : (d : Descriptor) (others theirs : LookUp) (On : ℕ → ℕ → Type 0) → IsRooted d theirs → Supplies d others theirs On
    → (n k j : ℕ) (digest : List ℕ) (l m : ℕ) → IsBelow d n k j → theirs k j ≡ Some digest → On k j
    → k ≤ l → l < k + n → m / 2 ≡ above (l - k) j / 2 → (x : List ℕ) × (path others n k j digest l m ≡ Some x)
path_there d others theirs On rooted supplies zero k j digest l m below at on past low half = absurd (omega arith)
path_there d others theirs On rooted supplies (suc n) k j digest l m below at on past low half =
    let (other, there, up) = beside d theirs n k j digest rooted below at in
    let given = supplies.given n k j other below on there in
    elim (cases_eq l k) [
      | inl layer ↦
          let none : l - k ≡ 0 = omega arith in
          elim (pair_entry others n k j digest other l m given layer (half ∙ ap (λ s. above s j / 2) none)) [
            | inl (e, entry) ↦ (digest, entry)
            | inr (e, entry) ↦ (other, entry)
          ]
      | inr ne ↦
          let more : suc (l - suc k) ≡ l - k = omega arith in
          let steps : above (l - k) j ≡ above (l - suc k) (j / 2) = ap (λ s. above s j) (sym more) ∙ sym (above_half (l - suc k) j) in
          same_there (path others (suc n) k j digest l m) (path others n (suc k) (j / 2) (sha256 (joined j digest other)) l m)
          (path_rest others n k j digest other l m (λ both. ne both.0) given)
          (path_there d others theirs On rooted supplies n (suc k) (j / 2) (sha256 (joined j digest other)) l m
          (parent_below d n k j below) up (supplies.on n k j below on) (omega arith) (omega arith) (half ∙ ap (λ i. i / 2) steps))
    ]
