-- Rooted books agree with one another and with the content's tree, or two texts have one digest.
use Rattle.std.proofs.Common.{◌≡◌, ◌⊎◌, ℕ, zero, suc, ◌+◌, ◌*◌, ◌/◌, ◌^◌, ◌≤◌, ◌<◌, nat_lt, true, Some, List, ◌++◌, length, refl, sym, ◌∙◌, ap, inl, inr, arith}
use Rattle.std.proofs.Math.Nat.{mul-le-mul_left}
use Rattle.std.proofs.lemmas.Bool.Decides.{nat_tests}
use Rattle.sha2.specs.Sha256.{sha256}
use Rattle.sha2.proofs.Facts256.{length-sha256}
use Rattle.pp_terms.specs.tree.Content.{chunk_of, chunk_count}
use Rattle.pp_terms.specs.tree.Tree.{node, pair, leaf_of, height}
use Rattle.pp_terms.specs.tree.Book.{LookUp, IsJoined, IsRooted, IsBacked, PairsClash, Clash}
use Rattle.pp_terms.specs.format.Descriptor.{Descriptor, chunks_of, height_of, IsDescriptor, IsContentOf}
use Rattle.pp_terms.proofs.Heights.{height_is}
use Rattle.pp_terms.proofs.Nodes.{hung, length-node}
use Rattle.pp_terms.proofs.Facts.{front_same, back_same, bytes_cases, which_half}
use Rattle.pp_tree.specs.Law.{BooksClash}
use Rattle.pp_terms.proofs.Peaks.{doubled}
use Rattle.pp_tree.proofs.Rootedness.{some_same}
use Rattle.pp_tree.proofs.Sizes.{chunk_count_range, chunk_size_range}

-- the entry is its half of the pair
half_is : (book : LookUp) (k j : ℕ) (x a b : List ℕ) → IsJoined book k (j / 2) a b → book k j ≡ Some x
    → ((j ≡ 2 * (j / 2)) × (x ≡ a)) ⊎ ((j ≡ 2 * (j / 2) + 1) × (x ≡ b))
half_is book k j x a b joined at = elim (which_half j (j / 2) refl) [
  | inl e ↦ inl (e, some_same x a (book k j) at (ap (λ i. book k i) e ∙ joined.left_is))
  | inr e ↦ inr (e, some_same x b (book k j) at (ap (λ i. book k i) e ∙ joined.right_is))
]

pub rooted_agree : (d : Descriptor) (book other : LookUp) (k n j : ℕ) (x y : List ℕ) → IsRooted d book → IsRooted d other
    → k + n ≡ height_of d → j < 2 ^ n → book k j ≡ Some x → other k j ≡ Some y → (x ≡ y) ⊎ BooksClash book other n k j
rooted_agree d book other k zero j x y rooted rooted' layer within at at' =
    let top : k ≡ height_of d = omega arith in
    let first : j ≡ 0 = omega arith in
    let here = ap (λ l. book l j) top ∙ ap (λ i. book (height_of d) i) first ∙ rooted.root_is in
    let there = ap (λ l. other l j) top ∙ ap (λ i. other (height_of d) i) first ∙ rooted'.root_is in
    inl (some_same x d.root (book k j) at here ∙ some_same d.root y (other k j) there at')
rooted_agree d book other k (suc n) j x y rooted rooted' layer within at at' =
    let (a, b, one) = hung d book k n j x rooted layer at in
    let (a', b', two) = hung d other k n j y rooted' layer at' in
    let up : suc k + n ≡ height_of d = omega arith in
    let less : j / 2 < 2 ^ n = omega (arith, doubled n) in
    elim (bytes_cases (a ++ b) (a' ++ b')) [
      | inl same ↦
          let long : length a ≡ length a' =
          rooted.digests k (2 * (j / 2)) a one.left_is ∙ sym (rooted'.digests k (2 * (j / 2)) a' two.left_is) in
          inl (elim (half_is book k j x a b one at) [
            | inl (even, x_is) ↦ elim (half_is other k j y a' b' two at') [
              | inl (_, y_is) ↦ x_is ∙ front_same a b a' b' long same ∙ sym y_is
              | inr (odd, _) ↦ absurd (omega arith)
            ]
            | inr (odd, x_is) ↦ elim (half_is other k j y a' b' two at') [
              | inl (even, _) ↦ absurd (omega arith)
              | inr (_, y_is) ↦ x_is ∙ back_same a b a' b' long same ∙ sym y_is
            ]
          ])
      | inr differ ↦ elim (rooted_agree d book other (suc k) n (j / 2) (sha256 (a ++ b)) (sha256 (a' ++ b'))
          rooted rooted' up less one.joined two.joined) [
            | inl same ↦ inr (inl (a, b, a', b', one, two, differ, same))
            | inr clash ↦ inr (inr clash)
          ]
    ]

-- a node that covers a chunk is the digest of its pair
pub node_is : (leaf : ℕ → List ℕ) (n k j : ℕ) → j * 2 ^ suc k < n → node leaf n (suc k) j ≡ sha256 (pair leaf n k j)
unfolding node
node_is leaf n k j covers =
    let test : nat_lt (j * 2 ^ suc k) n ≡ true = grind (arith, nat_tests) in rw test refl

pub leaf_is : (leaf : ℕ → List ℕ) (n j : ℕ) → j < n → node leaf n zero j ≡ leaf j
unfolding node
leaf_is leaf n j covers = let test : nat_lt j n ≡ true = grind (arith, nat_tests) in rw test refl

-- the parent of a node that covers a chunk covers it too
parent_covers : (k j n : ℕ) → j * 2 ^ k < n → j / 2 * 2 ^ suc k < n
parent_covers k j n covers =
    let down : j / 2 * 2 ≤ j = omega arith in
    let less = mul-le-mul_left (2 ^ k) down in
    let same = ap (λ p. j / 2 * p) (doubled k) in
    omega (arith, less, same)

tree_agree : (d : Descriptor) (book : LookUp) (leaf : ℕ → List ℕ) (k n j : ℕ) (x : List ℕ)
    → ((i : ℕ) → length (leaf i) ≡ 32) → node leaf (chunks_of d) (height_of d) 0 ≡ d.root → IsRooted d book
    → k + n ≡ height_of d → j < 2 ^ n → j * 2 ^ k < chunks_of d → book k j ≡ Some x
    → (x ≡ node leaf (chunks_of d) k j) ⊎ PairsClash (pair leaf (chunks_of d)) book n k j
tree_agree d book leaf k zero j x long root rooted layer within covers at =
    let top : k ≡ height_of d = omega arith in
    let first : j ≡ 0 = omega arith in
    let here = ap (λ l. book l j) top ∙ ap (λ i. book (height_of d) i) first ∙ rooted.root_is in
    inl (some_same x d.root (book k j) at here ∙ sym root
    ∙ ap (λ i. node leaf (chunks_of d) (height_of d) i) (sym first) ∙ ap (λ l. node leaf (chunks_of d) l j) (sym top))
tree_agree d book leaf k (suc n) j x long root rooted layer within covers at =
    let (a, b, one) = hung d book k n j x rooted layer at in
    let up : suc k + n ≡ height_of d = omega arith in
    let less : j / 2 < 2 ^ n = omega (arith, doubled n) in
    let over = parent_covers k j (chunks_of d) covers in
    let left = node leaf (chunks_of d) k (2 * (j / 2)) in
    let right = node leaf (chunks_of d) k (2 * (j / 2) + 1) in
    elim (bytes_cases (pair leaf (chunks_of d) k (j / 2)) (a ++ b)) [
      | inl same ↦
          let size : length (node leaf (chunks_of d) k (2 * (j / 2))) ≡ length a =
          length-node leaf (chunks_of d) k (2 * (j / 2)) long ∙ sym (rooted.digests k (2 * (j / 2)) a one.left_is) in
          inl (elim (half_is book k j x a b one at) [
            | inl (even, x_is) ↦ x_is ∙ sym (front_same (node leaf (chunks_of d) k (2 * (j / 2))) (node leaf (chunks_of d) k (2 * (j / 2) + 1)) a b size same)
                ∙ ap (λ i. node leaf (chunks_of d) k i) (sym even)
            | inr (odd, x_is) ↦ x_is ∙ sym (back_same (node leaf (chunks_of d) k (2 * (j / 2))) (node leaf (chunks_of d) k (2 * (j / 2) + 1)) a b size same)
                ∙ ap (λ i. node leaf (chunks_of d) k i) (sym odd)
          ])
      | inr differ ↦ elim (tree_agree d book leaf (suc k) n (j / 2) (sha256 (a ++ b)) long root rooted up less over one.joined) [
        | inl same ↦ inr (inl (a, b, one, differ, sym (same ∙ node_is leaf (chunks_of d) k (j / 2) over)))
        | inr clash ↦ inr (inr clash)
      ]
    ]

-- the content's root, over the descriptor's numbers
root_here : (d : Descriptor) (content : List ℕ) → IsContentOf d content
    → node (leaf_of content d.chunk) (chunks_of d) (height_of d) 0 ≡ d.root
root_here d content is =
    ap (λ size. node (leaf_of content d.chunk) (chunk_count size d.chunk) (height (chunk_count size d.chunk)) 0) (sym is.size) ∙ is.root

pub backed_is_chunk : (d : Descriptor) (content : List ℕ) (book : LookUp) (i : ℕ) (bytes : List ℕ)
    → IsDescriptor d → IsContentOf d content → IsBacked d book i bytes
    → (bytes ≡ chunk_of content d.chunk i) ⊎ Clash d content book i bytes
backed_is_chunk d content book i bytes is of backed =
    let range = chunk_size_range d.chunk is.chunk_size in
    let some : 0 < d.chunk = omega arith in
    let count = chunk_count_range d.size d.chunk some is.content_size in
    let tall = height_is (chunks_of d) count.0 count.1 in
    let below : i < 2 ^ height_of d = omega (arith, tall.covers, backed.within) in
    let bottom : 0 + height_of d ≡ height_of d = omega arith in
    let covers : i * 2 ^ 0 < chunks_of d = omega (arith, backed.within) in
    elim (tree_agree d book (leaf_of content d.chunk) 0 (height_of d) i (sha256 bytes)
    (λ l. length-sha256 (chunk_of content d.chunk l)) (root_here d content of) backed.rooted bottom below covers backed.leaf) [
      | inl same ↦ elim (bytes_cases bytes (chunk_of content d.chunk i)) [
        | inl e ↦ inl e
        | inr differ ↦ inr (inl (differ, same ∙ leaf_is (leaf_of content d.chunk) (chunks_of d) i backed.within))
      ]
      | inr clash ↦ inr (inr clash)
    ]
