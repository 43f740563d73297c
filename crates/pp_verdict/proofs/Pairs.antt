-- A rooted book hangs from its root, pair by pair.
use Rattle.std.proofs.Common.{◌≡◌, ◌↔◌, ◌⊎◌, ⊎_elim, inl, inr, ℕ, zero, suc, ◌+◌, ◌-◌, ◌*◌, ◌/◌, ◌^◌, ◌<◌, ◌≤◌, Option, Some, None, List, length, refl, ◌∙◌, ap, subst, arith}
use Rattle.std.proofs.lemmas.Bool.{cases_eq}
use Rattle.pp_terms.specs.tree.Book.{LookUp, IsJoined, IsRooted}
use Rattle.pp_terms.specs.format.Descriptor.{Descriptor, height_of}
use Rattle.pp_terms.proofs.Peaks.{doubled}
use Rattle.pp_tree.specs.Book.{BookState, entry, cell_of, IsPreparedFor}
use Rattle.pp_tree.proofs.BinNumbers.{cell_in, node_of_cell}
use Rattle.pp_verdict.specs.Rooted.{IsPair, Hangs, HangsAll, HangsFromRoot}

option_cases : (o : Option (List ℕ)) → (o ≡ None) ⊎ ((x : List ℕ) × (o ≡ Some x))
option_cases None = inl refl
option_cases (Some x) = inr (x, refl)

not_both : (x : List ℕ) (o : Option (List ℕ)) → o ≡ None → o ≡ Some x → ⊥
not_both x o e f = cc

one_is : (x y : List ℕ) (o : Option (List ℕ)) → o ≡ Some x → o ≡ Some y → x ≡ y
one_is x y o e f = cc

-- which child of its parent a node is
which : (j : ℕ) → (j ≡ 2 * (j / 2)) ⊎ (j ≡ 2 * (j / 2) + 1)
which j = ⊎_elim (λ e. inl e) (λ ne. inr (omega arith)) (cases_eq j (2 * (j / 2)))

-- ---- a rooted book hangs

joined_at : (d : Descriptor) (book : LookUp) → IsRooted d book → (k i j : ℕ) (x : List ℕ) → k < height_of d → j / 2 ≡ i → book k j ≡ Some x
    → (left : List ℕ) × (right : List ℕ) × IsJoined book k i left right
joined_at d book rooted k i j x low half e = ⊎_elim
    (λ root. absurd (omega (arith, root.0)))
    (λ joined. subst (λ (n : ℕ). (left : List ℕ) × (right : List ℕ) × IsJoined book k n left right) half joined)
    (rooted.hangs k j x e)

pair_of : (d : Descriptor) (book : LookUp) → IsRooted d book → (k i : ℕ) → (left : List ℕ) × (right : List ℕ) × IsJoined book k i left right → IsPair book k i
pair_of d book rooted k i (left, right, joined) = record {
  left = left;
  right = right;
  joined = joined;
  left_length = rooted.digests k (2 * i) left joined.left_is;
  right_length = rooted.digests k (2 * i + 1) right joined.right_is;
}

hangs_at : (d : Descriptor) (book : LookUp) → IsRooted d book → (k i : ℕ) → k < height_of d → Hangs book k i
hangs_at d book rooted k i low = ⊎_elim
    (λ left. ⊎_elim
    (λ right. inl (left, right))
    (λ right. inr (pair_of d book rooted k i (joined_at d book rooted k i (2 * i + 1) right.0 low (omega arith) right.1)))
    (option_cases (book k (2 * i + 1))))
    (λ left. inr (pair_of d book rooted k i (joined_at d book rooted k i (2 * i) left.0 low (omega arith) left.1)))
    (option_cases (book k (2 * i)))

-- ---- what hangs is rooted

-- a node that the book knows lies in the tree
node_in : (d : Descriptor) (book : BookState) → IsPreparedFor d book → (k j : ℕ) (x : List ℕ) → entry book k j ≡ Some x
    → (k ≤ height_of d) × (j < 2 ^ (height_of d - k))
node_in d book prepared k j x e =
    node_of_cell k (height_of d) j (let lt = cell_in book.cells (cell_of k j) x e in omega (arith, lt, prepared.cells))

pair_at : (d : Descriptor) (book : BookState) → IsPreparedFor d book → HangsFromRoot d (entry book) → (k j : ℕ) (x : List ℕ) → entry book k j ≡ Some x
    → ((k ≡ height_of d) × (j ≡ 0)) ⊎ IsPair (entry book) k (j / 2)
pair_at d book prepared hung k j x e =
    let within = node_in d book prepared k j x e in
    ⊎_elim
    (λ root. inl (root, first j (height_of d - k) (omega (arith, root)) within.1))
    (λ below.
    let low : k < height_of d = omega (arith, within.0) in
    let half : j / 2 < 2 ^ (height_of d - k - 1) = halved j (height_of d - k) (omega arith) within.1 in
    ⊎_elim
    (λ none. absurd (⊎_elim
    (λ left. not_both x (entry book k (2 * (j / 2))) none.0 (subst (λ (n : ℕ). entry book k n ≡ Some x) left e))
    (λ right. not_both x (entry book k (2 * (j / 2) + 1)) none.1 (subst (λ (n : ℕ). entry book k n ≡ Some x) right e))
    (which j)))
    (λ pair. inr pair)
    (hung.layers k low (j / 2) half))
    (cases_eq k (height_of d))
  where
    first : (j n : ℕ) → n ≡ 0 → j < 2 ^ n → j ≡ 0
    first j n none lt = let one : 2 ^ n ≡ 1 = ap (λ (m : ℕ). 2 ^ m) none in omega arith

    halved : (j n : ℕ) → 0 < n → j < 2 ^ n → j / 2 < 2 ^ (n - 1)
    halved j zero some lt = absurd (omega arith)
    halved j (suc n) some lt =
        let up = doubled n in
        let same : 2 ^ (suc n - 1) ≡ 2 ^ n = ap (λ (m : ℕ). 2 ^ m) (omega arith) in
        omega arith

rooted_from : (d : Descriptor) (book : BookState) → IsPreparedFor d book → HangsFromRoot d (entry book) → IsRooted d (entry book)
rooted_from d book prepared hung = record {
  root_is = hung.root_is;
  digests = λ k j x e. ⊎_elim
      (λ root.
      let at : entry book k j ≡ Some d.root = ap (λ (l : ℕ). entry book l j) root.0 ∙ ap (λ (i : ℕ). entry book (height_of d) i) root.1 ∙ hung.root_is in
      ap (λ (xs : List ℕ). length xs) (one_is x d.root (entry book k j) e at) ∙ hung.root_length)
      (λ pair. ⊎_elim
      (λ left. ap (λ (xs : List ℕ). length xs) (one_is x pair.left (entry book k (2 * (j / 2))) (subst (λ (n : ℕ). entry book k n ≡ Some x) left e) pair.joined.left_is) ∙ pair.left_length)
      (λ right. ap (λ (xs : List ℕ). length xs) (one_is x pair.right (entry book k (2 * (j / 2) + 1)) (subst (λ (n : ℕ). entry book k n ≡ Some x) right e) pair.joined.right_is) ∙ pair.right_length)
      (which j))
      (pair_at d book prepared hung k j x e);
  hangs = λ k j x e. ⊎_elim (λ root. inl root) (λ pair. inr (pair.left, pair.right, pair.joined)) (pair_at d book prepared hung k j x e);
}

pub rooted_hangs : (d : Descriptor) (book : BookState) → length d.root ≡ 32 → IsPreparedFor d book
    → ((entry book (height_of d) 0 ≡ Some d.root) × ((k : ℕ) → k < height_of d → HangsAll d (entry book) k)) ↔ IsRooted d (entry book)
rooted_hangs d book long prepared = (
  λ both. rooted_from d book prepared (record { root_is = both.0; root_length = long; layers = both.1 }),
  λ rooted. (rooted.root_is, λ k low i lt. hangs_at d (entry book) rooted k i low),
)
