-- Rooted books: the root alone is one, and adopting a pair keeps it one.
use Rattle.std.specs.Prelude.{MatchOption, IsSome}
use Rattle.std.proofs.Common.{◌≡◌, ◌⊎◌, ℕ, zero, suc, ◌+◌, ◌-◌, ◌*◌, ◌/◌, ◌%◌, ◌^◌, ◌≤◌, ◌<◌, Option, Some, None, List, ◌++◌, length, replicate, refl, sym, ◌∙◌, ap, subst, inl, inr, arith, get_or-set_other, get_or-set_same}
use Rattle.std.proofs.Math.ListN.{set, length-set}
use Rattle.std.proofs.lemmas.Bool.{cases_eq, cases_lt}
use Rattle.std.proofs.lemmas.List.{get_or_past, get_or-replicate, length-replicate}
use Rattle.std.proofs.lemmas.Nat.{pow_pos}
use Rattle.sha2.specs.Sha256.{sha256}
use Rattle.pp_terms.specs.tree.Book.{LookUp, IsRooted}
use Rattle.pp_terms.specs.format.Descriptor.{Descriptor, height_of}
use Rattle.pp_terms.proofs.Facts.{which_half}
use Rattle.pp_tree.specs.Book.{BookState, cell_of, in_cells, entry, IsBookOf, IsPreparedFor, IsInTree, HasRootAlone, IsAdopted, IsEntered}
use Rattle.pp_tree.specs.Cells.{AreOfTree}
use Rattle.pp_terms.proofs.Peaks.{doubled}
use Rattle.pp_tree.proofs.BinNumbers.{same_cell, shifted, child_cells, cell_in, node_below, node_of_cell}

-- whether two nodes are one
pub same_node : (k j l i : ℕ) → ((k ≡ l) × (j ≡ i)) ⊎ ((k ≡ l) × (j ≡ i) → ⊥)
same_node k j l i = elim (cases_eq k l) [
  | inl e ↦ elim (cases_eq j i) [ inl f ↦ inl (e, f) | inr ne ↦ inr (λ both. ne both.1) ]
  | inr ne ↦ inr (λ both. ne both.0)
]

pub some_same : {X : Type 0} (x y : X) (o : Option X) → o ≡ Some x → o ≡ Some y → x ≡ y
some_same x y o p q = cc

pub rooted_alone : (d : Descriptor) (book : LookUp) → length d.root ≡ 32 → HasRootAlone d book → IsRooted d book
rooted_alone d book long alone = record {
  root_is = alone.root_is;
  digests = λ k j x is. elim (same_node k j (height_of d) 0) [
    | inl same ↦
        let at : book k j ≡ Some d.root = ap (λ (l : ℕ). book l j) same.0 ∙ ap (λ (i : ℕ). book (height_of d) i) same.1 ∙ alone.root_is in
        let e = some_same d.root x (book k j) at is in ap (λ ys. length ys) (sym e) ∙ long
    | inr other ↦ let none = alone.others k j other in cc
  ];
  hangs = λ k j x is. elim (same_node k j (height_of d) 0) [
    | inl same ↦ inl same
    | inr other ↦ let none = alone.others k j other in cc
  ];
}

-- and so it is the descriptor's book, where it was prepared for it
pub book_alone : (d : Descriptor) (book : BookState) → length d.root ≡ 32 → book.descriptor ≡ Some d → HasRootAlone d (entry book)
    → IsBookOf d book
book_alone d book long is alone = record { descriptor_is = is; rooted = rooted_alone d (entry book) long alone }

-- one cell of absent ones was filled
pub alone_in : (d : Descriptor) (book : List (Option (List ℕ))) (n : ℕ) → n ≡ 2 ^ height_of d - 1
    → book ≡ set (replicate (2 * n + 1) None) n (Some d.root) → HasRootAlone d (in_cells book)
alone_in d book n middle cells =
    let nothing : Option (List ℕ) = None in
    let some : 0 < 2 ^ height_of d = pow_pos (height_of d) in
    let at : cell_of (height_of d) 0 ≡ n = omega arith in
    let inside : n < length (replicate (2 * n + 1) nothing) = rw length-replicate (omega arith) in
    record {
      root_is = rw (cells, at) (get_or-set_same (replicate (2 * n + 1) None) n (Some d.root) None inside);
      others = λ k j other.
          let apart : cell_of k j ≡ n → ⊥ = λ e. other (same_cell k (height_of d) j 0 (e ∙ sym at)) in
          rw cells (get_or-set_other (replicate (2 * n + 1) None) n (cell_of k j) (Some d.root) None apart
          ∙ elim (cases_lt (cell_of k j) (2 * n + 1)) [
            | inl lt ↦ get_or-replicate (2 * n + 1) (cell_of k j) None None lt
            | inr ge ↦ get_or_past (replicate (2 * n + 1) None) (cell_of k j) None (rw length-replicate ge)
          ]);
    }

-- both children's cells were filled
pub adopted_in : (old new : List (Option (List ℕ))) (k i a b : ℕ) (left right : List ℕ) → a ≡ cell_of k (2 * i) → b ≡ cell_of k (2 * i + 1)
    → b < length old → new ≡ set (set old a (Some left)) b (Some right)
    → IsAdopted k i left right (in_cells old) (in_cells new)
adopted_in old new k i a b left right a_is b_is within cells =
    let some : 0 < 2 ^ k = pow_pos k in
    let order : a < b = omega arith in
    let apart : a ≡ b → ⊥ = λ e. absurd (omega arith) in
    let in_a : a < length old = omega arith in
    let in_b : b < length (set old a (Some left)) = rw length-set within in
    record {
      left_is = rw (cells, ← a_is) (get_or-set_other (set old a (Some left)) b a (Some right) None apart
          ∙ get_or-set_same old a (Some left) None in_a);
      right_is = rw (cells, ← b_is) (get_or-set_same (set old a (Some left)) b (Some right) None in_b);
      others = λ l j other.
          let not_a : cell_of l j ≡ a → ⊥ = λ e.
          let same = same_cell l k j (2 * i) (e ∙ a_is) in other (same.0, omega arith) in
          let not_b : cell_of l j ≡ b → ⊥ = λ e.
          let same = same_cell l k j (2 * i + 1) (e ∙ b_is) in other (same.0, omega arith) in
          rw cells (get_or-set_other (set old a (Some left)) b (cell_of l j) (Some right) None not_b
          ∙ get_or-set_other old a (cell_of l j) (Some left) None not_a);
    }

-- every entry stays
pub adopted_keeps : (k i : ℕ) (left right : List ℕ) (old new : LookUp) → IsAdopted k i left right old new
    → old k (2 * i) ≡ None → old k (2 * i + 1) ≡ None → (l j : ℕ) (x : List ℕ) → old l j ≡ Some x → new l j ≡ Some x
adopted_keeps k i left right old new is no_left no_right l j x at = elim (same_node l (j / 2) k i) [
  | inr other ↦ is.others l j other ∙ at
  | inl same ↦ elim (which_half j i same.1) [
    | inl e ↦ let none : old l j ≡ None = ap (λ (m : ℕ). old m j) same.0 ∙ ap (λ (n : ℕ). old k n) e ∙ no_left in cc
    | inr e ↦ let none : old l j ≡ None = ap (λ (m : ℕ). old m j) same.0 ∙ ap (λ (n : ℕ). old k n) e ∙ no_right in cc
  ]
]

-- one of the pair
adopted_digest : (k i : ℕ) (left right : List ℕ) (old new : LookUp) → IsAdopted k i left right old new
    → length left ≡ 32 → length right ≡ 32 → (l j : ℕ) (x : List ℕ) → l ≡ k → j / 2 ≡ i → new l j ≡ Some x → length x ≡ 32
adopted_digest k i left right old new is left_long right_long l j x layer half at = elim (which_half j i half) [
  | inl e ↦
      let there : new l j ≡ Some left = ap (λ (m : ℕ). new m j) layer ∙ ap (λ (n : ℕ). new k n) e ∙ is.left_is in
      let same = some_same left x (new l j) there at in ap (λ ys. length ys) (sym same) ∙ left_long
  | inr e ↦
      let there : new l j ≡ Some right = ap (λ (m : ℕ). new m j) layer ∙ ap (λ (n : ℕ). new k n) e ∙ is.right_is in
      let same = some_same right x (new l j) there at in ap (λ ys. length ys) (sym same) ∙ right_long
]

pub rooted_on : (d : Descriptor) (k i : ℕ) (left right : List ℕ) (old new : LookUp) → IsAdopted k i left right old new
    → length left ≡ 32 → length right ≡ 32 → old (suc k) i ≡ Some (sha256 (left ++ right))
    → old k (2 * i) ≡ None → old k (2 * i + 1) ≡ None → IsRooted d old → IsRooted d new
rooted_on d k i left right old new is left_long right_long fits no_left no_right rooted =
    let keeps = adopted_keeps k i left right old new is no_left no_right in
    record {
      root_is = keeps (height_of d) 0 d.root rooted.root_is;
      digests = λ l j x at. elim (same_node l (j / 2) k i) [
        | inl same ↦ adopted_digest k i left right old new is left_long right_long l j x same.0 same.1 at
        | inr other ↦ rooted.digests l j x (sym (is.others l j other) ∙ at)
      ];
      hangs = λ l j x at. elim (same_node l (j / 2) k i) [
        | inl same ↦ inr (
          left,
          right,
          record {
            left_is = ap (λ (m : ℕ). new m (2 * (j / 2))) same.0 ∙ ap (λ (n : ℕ). new k (2 * n)) same.1 ∙ is.left_is;
            right_is = ap (λ (m : ℕ). new m (2 * (j / 2) + 1)) same.0 ∙ ap (λ (n : ℕ). new k (2 * n + 1)) same.1 ∙ is.right_is;
            joined = ap (λ (m : ℕ). new (suc m) (j / 2)) same.0 ∙ ap (λ (n : ℕ). new (suc k) n) same.1
                ∙ keeps (suc k) i (sha256 (left ++ right)) fits;
          },
        )
        | inr other ↦ elim (rooted.hangs l j x (sym (is.others l j other) ∙ at)) [
          | inl root ↦ inl root
          | inr (a, b, joined) ↦ inr (
            a,
            b,
            record {
              left_is = keeps l (2 * (j / 2)) a joined.left_is;
              right_is = keeps l (2 * (j / 2) + 1) b joined.right_is;
              joined = keeps (suc l) (j / 2) (sha256 (a ++ b)) joined.joined;
            },
          )
        ]
      ];
    }

-- the number of the middle cell, as the code computes it
middle_is : (h m : ℕ) → h ≤ 20 → m ≡ 1 * 2 ^ h % 18446744073709551616 - 1 → m ≡ 2 ^ h - 1
middle_is h m few e = let small : h < 64 = omega arith in e ∙ ap (λ (n : ℕ). n - 1) (shifted h small)

-- the cells of a tree of h layers below the root
pub prepared_cells : (h m : ℕ) (cells : List (Option (List ℕ))) (x : Option (List ℕ)) → h ≤ 20
    → m ≡ 1 * 2 ^ h % 18446744073709551616 - 1 → cells ≡ replicate (2 * m + 1) None → AreOfTree (set cells m x)
prepared_cells h m cells x few e is =
    let middle = middle_is h m few e in
    let some : 0 < 2 ^ h = pow_pos h in
    let count : length (set cells m x) ≡ 2 * m + 1 = rw (length-set, is, length-replicate) refl in
    record { layers = suc h; few = omega arith; size = omega (arith, doubled h) }

-- the same cells, all of them absent
pub blank_cells : (h m : ℕ) (cells : List (Option (List ℕ))) → h ≤ 20
    → m ≡ 1 * 2 ^ h % 18446744073709551616 - 1 → cells ≡ replicate (2 * m + 1) None → AreOfTree cells
blank_cells h m cells few e is =
    let middle = middle_is h m few e in
    let some : 0 < 2 ^ h = pow_pos h in
    let count : length cells ≡ 2 * m + 1 = rw (is, length-replicate) refl in
    record { layers = suc h; few = omega arith; size = omega (arith, doubled h) }

-- the cell of a node of the tree
pub cell_inside : (d : Descriptor) (book : BookState) (k j : ℕ) → IsPreparedFor d book → IsInTree d k j → cell_of k j < length book.cells
cell_inside d book k j prepared within = let low = node_below k (height_of d) j within.layer within.offset in omega (arith, low, prepared.cells)

pub is_there : (P : ℕ → Type 0) (n m : ℕ) (found : Option ℕ) → m < n → MatchOption found (n ≤ m) P → IsSome found
is_there P n m None lt told = absurd (omega (arith, lt, told))
is_there P n m (Some at) lt told = refl

-- what is entered is entered at a node of the tree
pub entry_inside : (d : Descriptor) (book : BookState) (k j : ℕ) (x : List ℕ) → IsPreparedFor d book → entry book k j ≡ Some x → IsInTree d k j
entry_inside d book k j x prepared is =
    let low : cell_of k j < 2 ^ suc (height_of d) - 1 = omega (arith, cell_in book.cells (cell_of k j) x is, prepared.cells) in
    let both = node_of_cell k (height_of d) j low in
    record { layer = both.0; offset = both.1 }

-- one cell was filled
pub entered_in : (old new : List (Option (List ℕ))) (k j at : ℕ) (x : List ℕ) → at ≡ cell_of k j → at < length old
    → new ≡ set old at (Some x) → IsEntered k j x (in_cells old) (in_cells new)
entered_in old new k j at x at_is within cells = record {
  entry_is = rw (cells, ← at_is) (get_or-set_same old at (Some x) None within);
  others = λ l i other.
      let apart : cell_of l i ≡ at → ⊥ = λ e. other (same_cell l k i j (e ∙ at_is)) in
      rw cells (get_or-set_other old at (cell_of l i) (Some x) None apart);
}

pub alone_made : (d : Descriptor) (book : List (Option (List ℕ))) (h m : ℕ) (cells : List (Option (List ℕ))) (root : List ℕ)
    → h ≡ height_of d → h ≤ 20 → m ≡ 1 * 2 ^ h % 18446744073709551616 - 1 → cells ≡ replicate (2 * m + 1) None
    → root ≡ d.root → book ≡ set cells m (Some root) → HasRootAlone d (in_cells book)
alone_made d book h m cells root layer few e is root_is book_is =
    alone_in d book m (middle_is h m few e ∙ ap (λ (n : ℕ). 2 ^ n - 1) layer)
    (book_is ∙ ap (λ (xs : List (Option (List ℕ))). set xs m (Some root)) is
    ∙ ap (λ (r : List ℕ). set (replicate (2 * m + 1) None) m (Some r)) root_is)

-- the pair in its cells, as the code finds them
pub pair_adopted : (old new : List (Option (List ℕ))) (m i at step h : ℕ) (left right x y : List ℕ) → 0 < m → m ≤ 20 → at ≡ cell_of m i
    → step ≡ 1 * 2 ^ (m - 1) % 18446744073709551616 → length old ≡ 2 ^ h - 1 → at < length old
    → x ≡ left → y ≡ right → new ≡ set (set old (at - step) (Some x)) (at + step) (Some y)
    → IsAdopted (m - 1) i left right (in_cells old) (in_cells new)
pair_adopted old new m i at step h left right x y some few at_is step_is size within x_is y_is cells =
    let places = child_cells old m i at step h some few at_is step_is size within in
    adopted_in old new (m - 1) i (at - step) (at + step) left right places.0 places.1 places.2
    (cells ∙ ap (λ (l : List ℕ). set (set old (at - step) (Some l)) (at + step) (Some y)) x_is
    ∙ ap (λ (r : List ℕ). set (set old (at - step) (Some left)) (at + step) (Some r)) y_is)

-- and the book is rooted as before
pub pair_rooted : (d : Descriptor) (old new : LookUp) (m i : ℕ) (left right : List ℕ) → 0 < m
    → IsAdopted (m - 1) i left right old new → length left ≡ 32 → length right ≡ 32
    → old m i ≡ Some (sha256 (left ++ right)) → old (m - 1) (2 * i) ≡ None → old (m - 1) (2 * i + 1) ≡ None
    → IsRooted d old → IsRooted d new
pair_rooted d old new zero i left right some is left_long right_long fits no_left no_right rooted = absurd (omega arith)
pair_rooted d old new (suc k) i left right some is left_long right_long fits no_left no_right rooted =
    let down : suc k - 1 ≡ k = omega arith in
    rooted_on d k i left right old new (subst (λ (l : ℕ). IsAdopted l i left right old new) down is)
    left_long right_long fits (ap (λ (l : ℕ). old l (2 * i)) (sym down) ∙ no_left)
    (ap (λ (l : ℕ). old l (2 * i + 1)) (sym down) ∙ no_right) rooted
