-- Two books are without fault, or a fault is found: the tree has so many nodes, and each is looked at.
use Rattle.std.proofs.Common.{◌≡◌, ◌⊎◌, inl, inr, ℕ, zero, suc, ◌+◌, ◌-◌, ◌*◌, ◌^◌, ◌≤◌, ◌<◌, Some, List, sym, ◌∙◌, ap, subst, arith}
use Rattle.std.proofs.lemmas.Bool.{cases_eq, cases_lt}
use Rattle.pp_terms.specs.format.Descriptor.{Descriptor, chunks_of, height_of}
use Rattle.pp_terms.specs.tree.Book.{LookUp}
use Rattle.pp_terms.specs.tree.Tree.{empty_hash}
use Rattle.pp_terms.proofs.Facts.{bytes_cases}
use Rattle.pp_tree.proofs.Rootedness.{some_same}
use Rattle.pp_paths.proofs.Growth.{option_cases}
use Rattle.pp_world.specs.Agreement.{IsBelow}
use Rattle.pp_complete.specs.Faults.{Differ, HasStray, AreAtFault}

-- At a node of the tree that both have they have one digest, and the second has none but the empty hash of a node past the chunks.
pub record AreFaultless (d : Descriptor) (mine theirs : LookUp) : Type 0 where
  pub agree : (n k j : ℕ) (x y : List ℕ) → IsBelow d n k j → mine k j ≡ Some x → theirs k j ≡ Some y → x ≡ y
  pub empty : (n k j : ℕ) (x : List ℕ) → IsBelow d n k j → chunks_of d ≤ j * 2 ^ k → theirs k j ≡ Some x → x ≡ empty_hash

-- something is found, or each number below a bound has the property
found_or_each : (F : Type 0) (P : ℕ → Type 0) → ((x : ℕ) → F ⊎ P x) → (n : ℕ) → F ⊎ ((x : ℕ) → x < n → P x)
found_or_each F P at zero = inr (λ x lt. absurd (omega arith))
found_or_each F P at (suc n) = elim (at n) [
  | inl found ↦ inl found
  | inr here ↦ elim (found_or_each F P at n) [
    | inl found ↦ inl found
    | inr rest ↦ inr (λ x lt. elim (cases_eq x n) [ inl e ↦ subst P (sym e) here | inr ne ↦ rest x (omega arith) ])
  ]
]

-- the same of the nodes of a tree
module _ (d : Descriptor) (F : Type 0) (P : ℕ → ℕ → ℕ → Type 0) (at : (n k j : ℕ) → IsBelow d n k j → F ⊎ P n k j) where
  at_place : (k j : ℕ) → F ⊎ ((n : ℕ) → IsBelow d n k j → P n k j)
  at_place k j = elim (cases_lt (height_of d) k) [
    | inl high ↦ inr (λ n below. let layer = below.layer in absurd (omega arith))
    | inr low ↦ elim (cases_lt j (2 ^ (height_of d - k))) [
      | inr past ↦ inr (λ n below.
          let layer = below.layer in
          let same : n ≡ height_of d - k = omega arith in
          let within = below.within in
          let power = ap (λ (m : ℕ). 2 ^ m) same in
          absurd (omega arith))
      | inl within ↦ elim (at (height_of d - k) k j (record { layer = omega arith; within = within })) [
        | inl found ↦ inl found
        | inr here ↦ inr (λ n below.
            let layer = below.layer in
            let same : height_of d - k ≡ n = omega arith in
            subst (λ m. P m k j) same here)
      ]
    ]
  ]

  found_or_all : F ⊎ ((n k j : ℕ) → IsBelow d n k j → P n k j)
  found_or_all =
      elim (found_or_each F (λ k. (j : ℕ) → j < 2 ^ (height_of d - k) → (n : ℕ) → IsBelow d n k j → P n k j)
      (λ k. found_or_each F (λ j. (n : ℕ) → IsBelow d n k j → P n k j) (at_place k) (2 ^ (height_of d - k))) (height_of d + 1)) [
        | inl found ↦ inl found
        | inr all ↦ inr (λ n k j below.
            let layer = below.layer in
            let same : n ≡ height_of d - k = omega arith in
            let power = ap (λ (m : ℕ). 2 ^ m) same in
            let within = below.within in
            all k (omega arith) j (omega arith) n below)
      ]

differ_or_agree : (d : Descriptor) (mine theirs : LookUp) (n k j : ℕ) → IsBelow d n k j
    → Differ d mine theirs ⊎ ((x y : List ℕ) → mine k j ≡ Some x → theirs k j ≡ Some y → x ≡ y)
differ_or_agree d mine theirs n k j below = elim (option_cases (mine k j)) [
  | inl none ↦ inr (λ x y at at'. absurd cc)
  | inr (a, here) ↦ elim (option_cases (theirs k j)) [
    | inl none ↦ inr (λ x y at at'. absurd cc)
    | inr (b, there) ↦ elim (bytes_cases a b) [
      | inl same ↦ inr (λ x y at at'. some_same x a (mine k j) at here ∙ same ∙ some_same b y (theirs k j) there at')
      | inr differ ↦ inl (record { n = n; k = k; j = j; below = below; digest = a; digest' = b; is = here; is' = there; differ = differ })
    ]
  ]
]

stray_or_empty : (d : Descriptor) (theirs : LookUp) (n k j : ℕ) → IsBelow d n k j
    → HasStray d theirs ⊎ ((x : List ℕ) → chunks_of d ≤ j * 2 ^ k → theirs k j ≡ Some x → x ≡ empty_hash)
stray_or_empty d theirs n k j below = elim (cases_lt (j * 2 ^ k) (chunks_of d)) [
  | inl covers ↦ inr (λ x past at. absurd (omega arith))
  | inr past ↦ elim (option_cases (theirs k j)) [
    | inl none ↦ inr (λ x past' at. absurd cc)
    | inr (b, there) ↦ elim (bytes_cases b empty_hash) [
      | inl same ↦ inr (λ x past' at. some_same x b (theirs k j) at there ∙ same)
      | inr differ ↦ inl (record { n = n; k = k; j = j; below = below; past = past; digest = b; is = there; differ = differ })
    ]
  ]
]

pub fault_or_none : (d : Descriptor) (mine theirs : LookUp) → AreAtFault d mine theirs ⊎ AreFaultless d mine theirs
fault_or_none d mine theirs =
    elim (found_or_all d (Differ d mine theirs) (λ n k j. (x y : List ℕ) → mine k j ≡ Some x → theirs k j ≡ Some y → x ≡ y)
    (differ_or_agree d mine theirs)) [
      | inl differ ↦ inl (inl differ)
      | inr agree ↦
          elim (found_or_all d (HasStray d theirs) (λ n k j. (x : List ℕ) → chunks_of d ≤ j * 2 ^ k → theirs k j ≡ Some x → x ≡ empty_hash)
          (stray_or_empty d theirs)) [
            | inl stray ↦ inl (inr stray)
            | inr empty ↦ inr (record {
              agree = λ n k j x y below at at'. agree n k j below x y at at';
              empty = λ n k j x below past at. empty n k j below x past at;
            })
          ]
    ]
