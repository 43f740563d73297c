-- The word for "the book has all peaks", and the other ways to say it.
use Rattle.std.proofs.Common.{◌≡◌, ◌↔◌, ⊎_elim, ℕ, zero, suc, ◌-◌, ◌%◌, eqb, Bool, true, false, cond, ◌&&◌, ◌||◌, Option, Some, None, List, [], ◌∷◌, refl, sym, ◌∙◌, ap, arith}
use Rattle.std.specs.Prelude.{is_some, is_none}
use Rattle.std.specs.List.{list_all, find}
use Rattle.std.proofs.lemmas.Bool.{cases_Bool, cond-true, cond-false, eqb-true, eqb-false, eq-eqb, ne_eqb, and_parts, and_from, false≢true}
use Rattle.pp_terms.specs.tree.Tree.{Node, above, peaks, peaks_below}
use Rattle.pp_terms.specs.tree.Book.{LookUp, has_peaks, has_peaks_below}
use Rattle.pp_terms.specs.tree.Proves.{first_absent}

-- the book has a node
abbrev has_node : LookUp → Node → Bool
has_node book at = is_some (book at.layer at.offset)

has_below : (book : LookUp) (n layers : ℕ) → has_peaks_below book n layers ≡ list_all (has_node book) (peaks_below layers n)
has_below book n zero = refl
has_below book n (suc k) = ⊎_elim
    (λ odd.
    let zero_test : eqb (above k n % 2) 0 ≡ false = let one = eqb-true (above k n % 2) 1 odd in ne_eqb (above k n % 2) 0 (λ e. omega (arith, e, one)) in
    ap (λ (b : Bool). (b || has_node book (record { layer = k; offset = above k n - 1 })) && has_peaks_below book n k) zero_test
    ∙ ap (λ (b : Bool). has_node book (record { layer = k; offset = above k n - 1 }) && b) (has_below book n k)
    ∙ ap (λ (xs : List Node). list_all (has_node book) xs) (sym (cond-true (eqb (above k n % 2) 1) (record { layer = k; offset = above k n - 1 } ∷ peaks_below k n) (peaks_below k n) odd)))
    (λ even.
    let zero_test : eqb (above k n % 2) 0 ≡ true = let other = eqb-false (above k n % 2) 1 even in eq-eqb (above k n % 2) 0 (half (above k n) other) in
    ap (λ (b : Bool). (b || has_node book (record { layer = k; offset = above k n - 1 })) && has_peaks_below book n k) zero_test
    ∙ has_below book n k
    ∙ ap (λ (xs : List Node). list_all (has_node book) xs) (sym (cond-false (eqb (above k n % 2) 1) (record { layer = k; offset = above k n - 1 } ∷ peaks_below k n) (peaks_below k n) even)))
    (cases_Bool (eqb (above k n % 2) 1))
  where
    half : (c : ℕ) → (c % 2 ≡ 1 → ⊥) → c % 2 ≡ 0
    half c other = omega (arith, other)

-- every peak is in the book
pub peaks_all : (book : LookUp) (n : ℕ) → has_peaks book n ≡ list_all (λ at. is_some (book at.layer at.offset)) (peaks n)
peaks_all book n = has_below book n 21

none_found : (book : LookUp) (xs : List Node) → find (λ at. is_none (book at.layer at.offset)) xs ≡ None → list_all (has_node book) xs ≡ true
none_found book [] e = refl
none_found book (x ∷ xs) e = by (book x.layer x.offset) refl (none_found book xs)
  where
    by : (o : Option (List ℕ)) → book x.layer x.offset ≡ o
        → (find (λ at. is_none (book at.layer at.offset)) xs ≡ None → list_all (has_node book) xs ≡ true) → list_all (has_node book) (x ∷ xs) ≡ true
    by None at rest = absurd (let some : Some x ≡ None = sym (ap (λ (o : Option (List ℕ)). cond (is_none o) (Some x) (find (λ y. is_none (book y.layer y.offset)) xs)) at) ∙ e in cc)
    by (Some d) at rest =
        and_from (has_node book x) (list_all (has_node book) xs) (ap (λ (o : Option (List ℕ)). is_some o) at)
        (rest (sym (ap (λ (o : Option (List ℕ)). cond (is_none o) (Some x) (find (λ y. is_none (book y.layer y.offset)) xs)) at) ∙ e))

found_none : (book : LookUp) (xs : List Node) → list_all (has_node book) xs ≡ true → find (λ at. is_none (book at.layer at.offset)) xs ≡ None
found_none book [] e = refl
found_none book (x ∷ xs) e = by (book x.layer x.offset) refl (found_none book xs)
  where
    parts : (has_node book x ≡ true) × (list_all (has_node book) xs ≡ true)
    parts = and_parts (has_node book x) (list_all (has_node book) xs) e

    by : (o : Option (List ℕ)) → book x.layer x.offset ≡ o
        → (list_all (has_node book) xs ≡ true → find (λ at. is_none (book at.layer at.offset)) xs ≡ None) → find (λ at. is_none (book at.layer at.offset)) (x ∷ xs) ≡ None
    by None at rest = absurd (false≢true (sym (ap (λ (o : Option (List ℕ)). is_some o) at) ∙ parts.0))
    by (Some d) at rest = ap (λ (o : Option (List ℕ)). cond (is_none o) (Some x) (find (λ y. is_none (book y.layer y.offset)) xs)) at ∙ rest parts.1

-- no peak is absent
pub none_absent : (book : LookUp) (n : ℕ) → (first_absent book n ≡ None) ↔ (has_peaks book n ≡ true)
unfolding first_absent
none_absent book n = (λ none. peaks_all book n ∙ none_found book (peaks n) none, λ all. found_none book (peaks n) (sym (peaks_all book n) ∙ all))
