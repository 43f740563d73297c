-- The nodes that are listed of a book tell what it knows of the tree; and a book in memory knows nothing else.
use Rattle.std.proofs.Common.{◌≡◌, ◌⊎◌, inl, inr, ℕ, zero, suc, ◌+◌, ◌-◌, ◌*◌, ◌/◌, ◌^◌, ◌<◌, ◌≤◌, Option, Some, None, List, [], ◌∷◌, ◌++◌, length, slice_index_or, refl, sym, ◌∙◌, ap, subst, arith}
use Rattle.std.proofs.Math.Nat.{two-pow-succ}
use Rattle.std.proofs.lemmas.Bool.{cases_lt}
use Rattle.std.proofs.lemmas.Option.{same_Some}
use Rattle.pp_terms.specs.tree.Book.{LookUp, IsRooted}
use Rattle.pp_terms.specs.format.Descriptor.{Descriptor, height_of}
use Rattle.pp_tree.specs.Book.{BookState, cell_of, entry, IsInTree}
use Rattle.pp_tree.proofs.BinNumbers.{node_of_cell}
use Rattle.pp_recording.specs.Spelling.{KnownNode}
use Rattle.pp_recording.specs.Recording.{node_with, first_nodes, lowest_nodes, nodes_of}

-- ---- among some nodes

abbrev Among : KnownNode → List KnownNode → Type 0
Among n [] = ⊥
Among n (m ∷ ms) = (n ≡ m) ⊎ Among n ms

among_left : (n : KnownNode) (xs ys : List KnownNode) → Among n xs → Among n (xs ++ ys)
among_left n [] ys among = absurd among
among_left n (x ∷ xs) ys (inl same) = inl same
among_left n (x ∷ xs) ys (inr among) = inr (among_left n xs ys among)

among_right : (n : KnownNode) (xs ys : List KnownNode) → Among n ys → Among n (xs ++ ys)
among_right n [] ys among = among
among_right n (x ∷ xs) ys among = inr (among_right n xs ys among)

among_split : (n : KnownNode) (xs ys : List KnownNode) → Among n (xs ++ ys) → Among n xs ⊎ Among n ys
among_split n [] ys among = inr among
among_split n (x ∷ xs) ys (inl same) = inl (inl same)
among_split n (x ∷ xs) ys (inr among) = elim (among_split n xs ys among) [ inl left ↦ inl (inr left) | inr right ↦ inr right ]

abbrev node : ℕ → ℕ → List ℕ → KnownNode
node k j x = record { layer = k; offset = j; digest = x }

-- ---- what is known is listed

one_listed : (k j : ℕ) (x : List ℕ) (o : Option (List ℕ)) → o ≡ Some x → Among (node k j x) (node_with k j o)
one_listed k j x None is = absurd (let e : None ≡ Some x = is in cc)
one_listed k j x (Some y) is = inl (ap (λ (z : List ℕ). node k j z) (sym (same_Some y x is)))

first_listed : (a : LookUp) (k n j : ℕ) (x : List ℕ) → j < n → a k j ≡ Some x → Among (node k j x) (first_nodes a k n)
first_listed a k zero j x less is = absurd (omega (arith, less))
first_listed a k (suc n) j x less is = elim (cases_lt j n) [
  | inl below ↦ among_left (node k j x) (first_nodes a k n) (node_with k n (a k n)) (first_listed a k n j x below is)
  | inr not ↦ (let same : j ≡ n = omega (arith, not, less) in
      among_right (node k j x) (first_nodes a k n) (node_with k n (a k n))
      (subst (λ (i : ℕ). Among (node k j x) (node_with k i (a k i))) same (one_listed k j x (a k j) is)))
]

lowest_listed : (a : LookUp) (h n k j : ℕ) (x : List ℕ) → k < n → j < 2 ^ (h - k) → a k j ≡ Some x → Among (node k j x) (lowest_nodes a h n)
lowest_listed a h zero k j x less within is = absurd (omega (arith, less))
lowest_listed a h (suc n) k j x less within is = elim (cases_lt k n) [
  | inl below ↦ among_left (node k j x) (lowest_nodes a h n) (first_nodes a n (2 ^ (h - n))) (lowest_listed a h n k j x below within is)
  | inr not ↦ (let same : k ≡ n = omega (arith, not, less) in
      among_right (node k j x) (lowest_nodes a h n) (first_nodes a n (2 ^ (h - n)))
      (subst (λ (l : ℕ). Among (node k j x) (first_nodes a l (2 ^ (h - l)))) same (first_listed a k (2 ^ (h - k)) j x within is)))
]

-- ---- what is listed is known

-- the book has the node's digest
abbrev Has : LookUp → KnownNode → Type 0
Has a n = a n.layer n.offset ≡ Some n.digest

one_known : (a : LookUp) (n : KnownNode) (k j : ℕ) (o : Option (List ℕ)) → a k j ≡ o → Among n (node_with k j o) → Has a n
one_known a n k j None at among = absurd among
one_known a n k j (Some x) at (inl same) = subst (λ (m : KnownNode). Has a m) (sym same) at
one_known a n k j (Some x) at (inr none) = absurd none

first_known : (a : LookUp) (n : KnownNode) (k m : ℕ) → Among n (first_nodes a k m) → Has a n
first_known a n k zero among = absurd among
first_known a n k (suc m) among = elim (among_split n (first_nodes a k m) (node_with k m (a k m)) among) [
  | inl left ↦ first_known a n k m left
  | inr right ↦ one_known a n k m (a k m) refl right
]

lowest_known : (a : LookUp) (n : KnownNode) (h m : ℕ) → Among n (lowest_nodes a h m) → Has a n
lowest_known a n h zero among = absurd among
lowest_known a n h (suc m) among = elim (among_split n (lowest_nodes a h m) (first_nodes a m (2 ^ (h - m))) among) [
  | inl left ↦ lowest_known a n h m left
  | inr right ↦ first_known a n m (2 ^ (h - m)) right
]

-- ---- two books that are listed as one

told : (d : Descriptor) (a b : LookUp) (k j : ℕ) (x : List ℕ) → nodes_of d a ≡ nodes_of d b → IsInTree d k j → a k j ≡ Some x → b k j ≡ Some x
told d a b k j x same within is =
    let low = within.layer in
    lowest_known b (node k j x) (height_of d) (suc (height_of d))
    (subst (λ (ns : List KnownNode). Among (node k j x) ns) same
    (lowest_listed a (height_of d) (suc (height_of d)) k j x (omega (arith, low)) within.offset is))

pub nodes_tell : (d : Descriptor) (a b : LookUp) (k j : ℕ) → nodes_of d a ≡ nodes_of d b → IsInTree d k j → a k j ≡ b k j
nodes_tell d a b k j same within = at (a k j) (b k j) refl refl
  where
    at : (o p : Option (List ℕ)) → a k j ≡ o → b k j ≡ p → a k j ≡ b k j
    at (Some x) p first second = first ∙ sym (told d a b k j x same within first)
    at None (Some y) first second = told d b a k j y (sym same) within second ∙ sym second
    at None None first second = first ∙ sym second

-- ---- a book in memory

-- a node past the cells isn't known
past_cells : {X : Type 0} (cells : List (Option X)) (n : ℕ) → length cells ≤ n → slice_index_or cells n None ≡ None
past_cells [] n low = refl
past_cells (c ∷ cells) zero low = absurd (omega arith)
past_cells (c ∷ cells) (suc n) low = past_cells cells n (omega arith)

-- a node that is known stands among the cells
among_cells : (b : BookState) (k j : ℕ) (x : List ℕ) → entry b k j ≡ Some x → cell_of k j < length b.cells
among_cells b k j x is = elim (cases_lt (cell_of k j) (length b.cells)) [
  | inl less ↦ less
  | inr not ↦ absurd (let none : None ≡ Some x = sym (past_cells b.cells (cell_of k j) (omega (arith, not))) ∙ is in cc)
]

below_power : (n : ℕ) → n < 2 ^ n
below_power zero = omega arith
below_power (suc n) = let before = below_power n in let twice = two-pow-succ n in omega (arith, before, twice)

-- a node with its parent in the tree lies in the tree
child_within : (d : Descriptor) (k j : ℕ) → IsInTree d (suc k) (j / 2) → IsInTree d k j
child_within d k j up =
    let layer = up.layer in
    let offset = up.offset in
    let one : height_of d - k ≡ suc (height_of d - suc k) = omega (arith, layer) in
    let size : 2 ^ (height_of d - k) ≡ 2 ^ (height_of d - suc k) + 2 ^ (height_of d - suc k) =
    ap (λ (n : ℕ). 2 ^ n) one ∙ two-pow-succ (height_of d - suc k) in
    record { layer = omega (arith, layer); offset = omega (arith, offset, size) }

-- with so many layers left up to one that has no cell
rooted_from : (d : Descriptor) (b : BookState) → IsRooted d (entry b) → (n k j : ℕ) (x : List ℕ) → length b.cells < n + k → entry b k j ≡ Some x
    → IsInTree d k j
rooted_from d b rooted zero k j x above is =
    let lies = among_cells b k j x is in
    let size = below_power (length b.cells) in
    let more = two-pow-succ (length b.cells) in
    let within = node_of_cell k (length b.cells) j (omega (arith, lies, size, more)) in
    let low = within.0 in absurd (omega (arith, low, above))
rooted_from d b rooted (suc n) k j x above is = elim (rooted.hangs k j x is) [
  | inl root ↦ (let top = root.0 in let first = root.1 in
      record {
        layer = omega (arith, top);
        offset = subst (λ (m : ℕ). j < 2 ^ m) (let none : 0 ≡ height_of d - k = omega (arith, top) in none) (omega (arith, first));
      })
  | inr pair ↦ child_within d k j (rooted_from d b rooted n (suc k) (j / 2) _ (omega (arith, above)) pair.2.joined)
]

-- a rooted book in memory knows nodes of the tree alone
pub rooted_within : (d : Descriptor) (b : BookState) (k j : ℕ) (x : List ℕ) → IsRooted d (entry b) → entry b k j ≡ Some x → IsInTree d k j
rooted_within d b k j x rooted is = rooted_from d b rooted (suc (length b.cells)) k j x (omega arith) is
