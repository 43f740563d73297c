-- The nodes that a book knows, as far as an entry changes them.
use Rattle.std.proofs.Common.{◌≡◌, ℕ, zero, suc, ◌-◌, ◌^◌, ◌<◌, ◌≤◌, Option, Some, None, List, [], ◌∷◌, ◌++◌, refl, sym, ◌∙◌, ap, inl, inr, arith, append_assoc}
use Rattle.std.proofs.lemmas.Bool.{cases_lt}
use Rattle.std.proofs.lemmas.List.{append-nil}
use Rattle.pp_terms.specs.tree.Book.{LookUp}
use Rattle.pp_recording.specs.Spelling.{KnownNode}
use Rattle.pp_recording.specs.Recording.{node_with, first_nodes, lowest_nodes}
use Rattle.pp_recording.specs.Drafts.{AreAbsentFrom}

-- ---- what is absent adds nothing

pub first_nodes-same : (book : LookUp) (k j n : ℕ) → j ≤ n → ((i : ℕ) → j ≤ i → book k i ≡ None) → first_nodes book k n ≡ first_nodes book k j
first_nodes-same book k j zero le none = let e : zero ≡ j = omega (arith, le) in ap (λ (m : ℕ). first_nodes book k m) e
first_nodes-same book k j (suc n) le none = elim (cases_lt n j) [
  | inl lt ↦ let e : suc n ≡ j = omega (arith, lt, le) in ap (λ (m : ℕ). first_nodes book k m) e
  | inr ge ↦
      ap (λ (o : Option (List ℕ)). first_nodes book k n ++ node_with k n o) (none n ge)
      ∙ append-nil (first_nodes book k n)
      ∙ first_nodes-same book k j n ge none
]

pub first_nodes-none : (book : LookUp) (k n : ℕ) → ((i : ℕ) → book k i ≡ None) → first_nodes book k n ≡ []
first_nodes-none book k n none = first_nodes-same book k 0 n (omega arith) (λ i le. none i)

pub lowest_nodes-same : (book : LookUp) (h k n : ℕ) → k ≤ n → ((l i : ℕ) → k ≤ l → book l i ≡ None) → lowest_nodes book h n ≡ lowest_nodes book h k
lowest_nodes-same book h k zero le none = let e : zero ≡ k = omega (arith, le) in ap (λ (m : ℕ). lowest_nodes book h m) e
lowest_nodes-same book h k (suc n) le none = elim (cases_lt n k) [
  | inl lt ↦ let e : suc n ≡ k = omega (arith, lt, le) in ap (λ (m : ℕ). lowest_nodes book h m) e
  | inr ge ↦
      ap (λ (ns : List KnownNode). lowest_nodes book h n ++ ns) (first_nodes-none book n (2 ^ (h - n)) (λ i. none n i ge))
      ∙ append-nil (lowest_nodes book h n)
      ∙ lowest_nodes-same book h k n ge none
]

-- ---- two books that know the same there

pub first_nodes-equal : (a b : LookUp) (k n : ℕ) → ((i : ℕ) → i < n → a k i ≡ b k i) → first_nodes a k n ≡ first_nodes b k n
first_nodes-equal a b k zero same = refl
first_nodes-equal a b k (suc n) same =
    ap (λ (ns : List KnownNode). ns ++ node_with k n (a k n)) (first_nodes-equal a b k n (λ i lt. same i (omega arith)))
    ∙ ap (λ (o : Option (List ℕ)). first_nodes b k n ++ node_with k n o) (same n (omega arith))

pub lowest_nodes-equal : (a b : LookUp) (h n : ℕ) → ((l i : ℕ) → l < n → a l i ≡ b l i) → lowest_nodes a h n ≡ lowest_nodes b h n
lowest_nodes-equal a b h zero same = refl
lowest_nodes-equal a b h (suc n) same =
    ap (λ (ns : List KnownNode). ns ++ first_nodes a n (2 ^ (h - n))) (lowest_nodes-equal a b h n (λ l i lt. same l i (omega arith)))
    ∙ ap (λ (ns : List KnownNode). lowest_nodes b h n ++ ns) (first_nodes-equal a b n (2 ^ (h - n)) (λ i lt. same n i (omega arith)))

-- ---- a node entered behind all others

pub nodes_up_to : (book : LookUp) (h k j : ℕ) → k ≤ h → j ≤ 2 ^ (h - k) → AreAbsentFrom book k j
    → lowest_nodes book h (suc h) ≡ lowest_nodes book h k ++ first_nodes book k j
nodes_up_to book h k j low within none =
    lowest_nodes-same book h (suc k) (suc h) (omega arith) (λ l i le. none.above l i (omega arith))
    ∙ ap (λ (ns : List KnownNode). lowest_nodes book h k ++ ns) (first_nodes-same book k j (2 ^ (h - k)) within none.here)

pub nodes_entered : (old new : LookUp) (h k j : ℕ) (x : List ℕ) → k ≤ h → j < 2 ^ (h - k) → AreAbsentFrom old k j → new k j ≡ Some x
    → ((l i : ℕ) → ((l ≡ k) × (i ≡ j) → ⊥) → new l i ≡ old l i)
    → lowest_nodes new h (suc h) ≡ lowest_nodes old h (suc h) ++ record { layer = k; offset = j; digest = x } ∷ []
nodes_entered old new h k j x low within none here others =
    let later : AreAbsentFrom new k (suc j) = record {
      here = λ i le. others k i (λ both. absurd (omega (arith, le, both.1))) ∙ none.here i (omega arith);
      above = λ l i lt. others l i (λ both. absurd (omega (arith, lt, both.0))) ∙ none.above l i lt;
    } in
    let below : lowest_nodes new h k ≡ lowest_nodes old h k =
    lowest_nodes-equal new old h k (λ l i lt. others l i (λ both. absurd (omega (arith, lt, both.0)))) in
    let beside : first_nodes new k j ≡ first_nodes old k j =
    first_nodes-equal new old k j (λ i lt. others k i (λ both. absurd (omega (arith, lt, both.1)))) in
    nodes_up_to new h k (suc j) low (omega arith) later
    ∙ ap (λ (o : Option (List ℕ)). lowest_nodes new h k ++ (first_nodes new k j ++ node_with k j o)) here
    ∙ ap (λ (ns : List KnownNode). ns ++ (first_nodes new k j ++ record { layer = k; offset = j; digest = x } ∷ [])) below
    ∙ ap (λ (ns : List KnownNode). lowest_nodes old h k ++ (ns ++ record { layer = k; offset = j; digest = x } ∷ [])) beside
    ∙ sym (append_assoc (lowest_nodes old h k) (first_nodes old k j) (record { layer = k; offset = j; digest = x } ∷ []))
    ∙ ap (λ (ns : List KnownNode). ns ++ record { layer = k; offset = j; digest = x } ∷ []) (sym (nodes_up_to old h k j low (omega arith) none))
