-- A rooted book without the nodes whose parents cover no chunk is rooted, and a stray digest of it clashes with the content's tree.
-- A stray digest of the whole book needn't: two below a parent with the empty hash would be a text of that digest, and no second text.
use Rattle.std.proofs.Common.{◌≡◌, ◌⊎◌, ℕ, zero, suc, ◌+◌, ◌*◌, ◌/◌, ◌^◌, ◌≤◌, ◌<◌, ◌==◌, nat_lt, Bool, true, false, cond, Some, None, List, [], ◌∷◌, ◌++◌, length, refl, sym, ◌∙◌, ap, inl, inr, subst, arith}
use Rattle.std.specs.List.{AllByRecursion}
use Rattle.std.proofs.Math.Nat.{mul-le-mul_left}
use Rattle.std.proofs.lemmas.Bool.{and_parts, eqb-true, ltb-true, lt-ltb}
use Rattle.sha2.specs.Sha256.{sha256}
use Rattle.sha2.proofs.Facts256.{length-sha256}
use Rattle.pp_terms.specs.format.Descriptor.{Descriptor, chunks_of, height_of, IsContentOf}
use Rattle.pp_terms.specs.format.Messages.{Message, Integrity}
use Rattle.pp_terms.specs.tree.Bins.{first_leaf, last_leaf}
use Rattle.pp_terms.specs.tree.Book.{LookUp, IsJoined, IsRooted, IsBacked, PairsClash}
use Rattle.pp_terms.specs.tree.Content.{chunk_of, chunk_count}
use Rattle.pp_terms.specs.tree.Range.{Span}
use Rattle.pp_terms.specs.tree.Tree.{node, pair, leaf_of, height}
use Rattle.pp_terms.proofs.Facts.{front_same, back_same, bytes_cases, which_half}
use Rattle.pp_terms.proofs.Nodes.{hung, length-node, node_empty}
use Rattle.pp_terms.proofs.Peaks.{doubled}
use Rattle.pp_traffic.specs.Hashes.{Carries}
use Rattle.pp_tree.proofs.Clashes.{rooted_agree, node_is}
use Rattle.pp_tree.proofs.Rootedness.{some_same}
use Rattle.pp_promises.specs.Datagrams.{hash_spans}
use Rattle.pp_world.specs.Agreement.{HaveClashed, ClashesWithTree}
use Rattle.pp_complete.specs.Faults.{Differ, HasStray, AreAtFault}

-- ---- the book without what hangs below a node that covers no chunk

abbrev pub pruned : Descriptor → LookUp → LookUp
pruned d book k j = cond (nat_lt (j / 2 * 2 ^ suc k) (chunks_of d)) (book k j) None

kept : (d : Descriptor) (book : LookUp) (k j : ℕ) → j / 2 * 2 ^ suc k < chunks_of d → pruned d book k j ≡ book k j
kept d book k j over = ap (λ (b : Bool). cond b (book k j) None) (lt-ltb (j / 2 * 2 ^ suc k) (chunks_of d) over)

-- A node of the book, whose parent covers a chunk.
record IsKept (d : Descriptor) (book : LookUp) (k j : ℕ) (x : List ℕ) : Type 0 where
  over : j / 2 * 2 ^ suc k < chunks_of d
  is : book k j ≡ Some x

was_kept : (d : Descriptor) (book : LookUp) (k j : ℕ) (x : List ℕ) → pruned d book k j ≡ Some x → IsKept d book k j x
was_kept d book k j x at = of (nat_lt (j / 2 * 2 ^ suc k) (chunks_of d)) refl at
  where
    of : (b : Bool) → nat_lt (j / 2 * 2 ^ suc k) (chunks_of d) ≡ b → cond b (book k j) None ≡ Some x → IsKept d book k j x
    of true test at = record { over = ltb-true (j / 2 * 2 ^ suc k) (chunks_of d) test; is = at }
    of false test at = absurd cc

-- the parent of a node that covers a chunk covers it too
covers_up : (k j n : ℕ) → j * 2 ^ k < n → j / 2 * 2 ^ suc k < n
covers_up k j n covers =
    let down : j / 2 * 2 ≤ j = omega arith in
    let less = mul-le-mul_left (2 ^ k) down in
    let same = ap (λ p. j / 2 * p) (doubled k) in
    omega (arith, less, same)

pub rooted_pruned : (d : Descriptor) (book : LookUp) → 0 < chunks_of d → IsRooted d book → IsRooted d (pruned d book)
rooted_pruned d book some rooted = record {
  root_is = kept d book (height_of d) 0 (omega arith) ∙ rooted.root_is;
  digests = λ k j x at. rooted.digests k j x (was_kept d book k j x at).is;
  hangs = λ k j x at.
      let it = was_kept d book k j x at in
      elim (rooted.hangs k j x it.is) [
        | inl root ↦ inl root
        | inr (a, b, joined) ↦
            let left : 2 * (j / 2) / 2 ≡ j / 2 = omega arith in
            let right : (2 * (j / 2) + 1) / 2 ≡ j / 2 = omega arith in
            let over = it.over in
            inr (
              a,
              b,
              record {
                left_is = kept d book k (2 * (j / 2)) (subst (λ (i : ℕ). i * 2 ^ suc k < chunks_of d) (sym left) over) ∙ joined.left_is;
                right_is = kept d book k (2 * (j / 2) + 1) (subst (λ (i : ℕ). i * 2 ^ suc k < chunks_of d) (sym right) over) ∙ joined.right_is;
                joined = kept d book (suc k) (j / 2) (covers_up (suc k) (j / 2) (chunks_of d) over) ∙ joined.joined;
              },
            )
      ];
}

pub backed_pruned : (d : Descriptor) (book : LookUp) (i : ℕ) (bytes : List ℕ) → IsBacked d book i bytes → IsBacked d (pruned d book) i bytes
backed_pruned d book i bytes backed =
    let within = backed.within in record {
      rooted = rooted_pruned d book (omega arith) backed.rooted;
      within = within;
      whole = backed.whole;
      leaf = kept d book 0 i (covers_up 0 i (chunks_of d) (omega arith)) ∙ backed.leaf;
    }

-- hashes of nodes that cover a chunk stay
pub carries_pruned : (d : Descriptor) (book : LookUp) (front : List Message) → AllByRecursion (Carries book) front
    → AllByRecursion (λ (s : Span). s.first < chunks_of d) (hash_spans front) → AllByRecursion (Carries (pruned d book)) front
carries_pruned d book [] all firsts = tt
carries_pruned d book (Integrity span digest ∷ ms) all firsts =
    let (n, is, at) = all.0 in
    let first = eqb-true span.first (first_leaf n) (and_parts (span.first == first_leaf n) (span.last == last_leaf n) is).0 in
    let low = firsts.0 in (
      (n, is, kept d book n.layer n.offset (covers_up n.layer n.offset (chunks_of d) (omega arith)) ∙ at),
      carries_pruned d book ms all.1 firsts.1,
    )
carries_pruned d book (m ∷ ms) all firsts = (tt, carries_pruned d book ms all.1 firsts)

-- ---- a book against the content's tree

-- the entry is its half of the pair
half_is : (book : LookUp) (k j : ℕ) (x a b : List ℕ) → IsJoined book k (j / 2) a b → book k j ≡ Some x
    → ((j ≡ 2 * (j / 2)) × (x ≡ a)) ⊎ ((j ≡ 2 * (j / 2) + 1) × (x ≡ b))
half_is book k j x a b joined at = elim (which_half j (j / 2) refl) [
  | inl e ↦ inl (e, some_same x a (book k j) at (ap (λ i. book k i) e ∙ joined.left_is))
  | inr e ↦ inr (e, some_same x b (book k j) at (ap (λ i. book k i) e ∙ joined.right_is))
]

-- a node whose parent covers a chunk has the digest of the tree, or there is a clash above it
tree_agrees : (d : Descriptor) (book : LookUp) (leaf : ℕ → List ℕ) (k n j : ℕ) (x : List ℕ)
    → ((i : ℕ) → length (leaf i) ≡ 32) → node leaf (chunks_of d) (height_of d) 0 ≡ d.root → IsRooted d book
    → k + n ≡ height_of d → j < 2 ^ n → j / 2 * 2 ^ suc k < chunks_of d → book k j ≡ Some x
    → (x ≡ node leaf (chunks_of d) k j) ⊎ PairsClash (pair leaf (chunks_of d)) book n k j
tree_agrees d book leaf k zero j x long root rooted layer within over at =
    let top : k ≡ height_of d = omega arith in
    let first : j ≡ 0 = omega arith in
    let here = ap (λ l. book l j) top ∙ ap (λ i. book (height_of d) i) first ∙ rooted.root_is in
    inl (some_same x d.root (book k j) at here ∙ sym root
    ∙ ap (λ i. node leaf (chunks_of d) (height_of d) i) (sym first) ∙ ap (λ l. node leaf (chunks_of d) l j) (sym top))
tree_agrees d book leaf k (suc n) j x long root rooted layer within over at =
    let (a, b, one) = hung d book k n j x rooted layer at in
    let up : suc k + n ≡ height_of d = omega arith in
    let less : j / 2 < 2 ^ n = omega (arith, doubled n) in
    let higher = covers_up (suc k) (j / 2) (chunks_of d) over in
    elim (bytes_cases (pair leaf (chunks_of d) k (j / 2)) (a ++ b)) [
      | inl same ↦
          let size : length (node leaf (chunks_of d) k (2 * (j / 2))) ≡ length a =
          length-node leaf (chunks_of d) k (2 * (j / 2)) long ∙ sym (rooted.digests k (2 * (j / 2)) a one.left_is) in
          inl (elim (half_is book k j x a b one at) [
            | inl (even, x_is) ↦ x_is ∙ sym (front_same (node leaf (chunks_of d) k (2 * (j / 2))) (node leaf (chunks_of d) k (2 * (j / 2) + 1)) a b size same)
                ∙ ap (λ i. node leaf (chunks_of d) k i) (sym even)
            | inr (odd, x_is) ↦ x_is ∙ sym (back_same (node leaf (chunks_of d) k (2 * (j / 2))) (node leaf (chunks_of d) k (2 * (j / 2) + 1)) a b size same)
                ∙ ap (λ i. node leaf (chunks_of d) k i) (sym odd)
          ])
      | inr differ ↦ elim (tree_agrees d book leaf (suc k) n (j / 2) (sha256 (a ++ b)) long root rooted up less higher one.joined) [
        | inl same ↦ inr (inl (a, b, one, differ, sym (same ∙ node_is leaf (chunks_of d) k (j / 2) over)))
        | inr clash ↦ inr (inr clash)
      ]
    ]

-- the content's root, over the descriptor's numbers
root_here : (d : Descriptor) (content : List ℕ) → IsContentOf d content
    → node (leaf_of content d.chunk) (chunks_of d) (height_of d) 0 ≡ d.root
root_here d content is =
    ap (λ size. node (leaf_of content d.chunk) (chunk_count size d.chunk) (height (chunk_count size d.chunk)) 0) (sym is.size) ∙ is.root

stray_clashes : (d : Descriptor) (content : List ℕ) (book : LookUp) → IsContentOf d content → IsRooted d book
    → HasStray d (pruned d book) → ClashesWithTree d content book
stray_clashes d content book of rooted stray =
    let it = was_kept d book stray.k stray.j stray.digest stray.is in
    elim (tree_agrees d book (leaf_of content d.chunk) stray.k stray.n stray.j stray.digest
    (λ l. length-sha256 (chunk_of content d.chunk l)) (root_here d content of) rooted stray.below.layer stray.below.within it.over it.is) [
      | inl same ↦ absurd (stray.differ (same ∙ node_empty (leaf_of content d.chunk) (chunks_of d) stray.k stray.j stray.past))
      | inr clash ↦ (stray.n, stray.k, stray.j, stray.below, clash)
    ]

differ_clashes : (d : Descriptor) (mine book : LookUp) → IsRooted d mine → IsRooted d book → Differ d mine (pruned d book) → HaveClashed d book mine
differ_clashes d mine book rooted rooted' differ =
    let it = was_kept d book differ.k differ.j differ.digest' differ.is' in
    elim (rooted_agree d book mine differ.k differ.n differ.j differ.digest' differ.digest rooted' rooted differ.below.layer differ.below.within it.is differ.is) [
      | inl same ↦ absurd (differ.differ (sym same))
      | inr clash ↦ (differ.n, differ.k, differ.j, differ.below, clash)
    ]

-- What a fault comes to, where both books are rooted.
pub faults_clash : (d : Descriptor) (content : List ℕ) (mine book : LookUp) → IsContentOf d content → IsRooted d mine → IsRooted d book
    → AreAtFault d mine (pruned d book) → HaveClashed d book mine ⊎ ClashesWithTree d content book
faults_clash d content mine book of rooted rooted' (inl differ) = inl (differ_clashes d mine book rooted rooted' differ)
faults_clash d content mine book of rooted rooted' (inr stray) = inr (stray_clashes d content book of rooted' stray)
