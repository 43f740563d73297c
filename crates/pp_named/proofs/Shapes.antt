-- Nodes past the last chunk, layer by layer.
use Rattle.std.proofs.Common.{◌≡◌, ◌↔◌, ◌⊎◌, ℕ, ◌+◌, ◌-◌, ◌*◌, ◌%◌, ◌^◌, ◌<◌, ◌≤◌, Bool, true, false, not, nat_eq, Option, None, Some, is_some, MatchOption, List, replicate, IsTrue, ap, ◌∙◌, subst, sym, inl, inr, arith}
use Rattle.std.proofs.lemmas.Bool.{cases_Bool, cases_eq, cases_lt}
use Rattle.std.proofs.lemmas.Grind.{div_ceil_times}
use Rattle.std.proofs.lemmas.Nat.{pow_pos}
use Rattle.std.proofs.Math.Nat.{mul-le-mul_left}
use Rattle.std.proofs.Math.Pow.{pow_mono}
use Rattle.std.specs.Int.{div_ceil}
use Rattle.std.specs.Cmp.Lexicographic.{pointwise, same_text, other_text}
use Rattle.pp_terms.specs.tree.Book.{LookUp}
use Rattle.pp_terms.specs.tree.Tree.{empty_hash}
use Rattle.pp_terms.specs.format.Descriptor.{Descriptor, height_of, IsDescriptor}
use Rattle.pp_tree.specs.declared.node.Node.{Node}
use Rattle.pp_tree.proofs.Sizes.{chunk_size_range, chunk_count_range}
use Rattle.pp_named.specs.Shape.{IsFilled, IsMisshapen, IsFirstInLayer, IsFirstMisshapen}

-- the first multiple that isn't below a number
first_multiple : (n p j : ℕ) → 0 < p → (n ≤ j * p) ↔ (div_ceil n p ≤ j)
first_multiple n p j some =
    let held = div_ceil_times n p some in (
      λ le. elim (cases_lt j (div_ceil n p)) [
        | inl lt ↦ let more = mul-le-mul_left p lt in absurd (omega (arith, held.1, more))
        | inr ge ↦ ge
      ],
      λ le. let more = mul-le-mul_left p le in omega (arith, held.0, more),
    )

-- the first node of a layer that covers no chunk, by the code's number
pub first_offset : (n k at : ℕ) → k ≤ 20 → at ≡ div_ceil n (1 * 2 ^ k % 2 ^ 32) → (j : ℕ) → (n ≤ j * 2 ^ k) ↔ (at ≤ j)
first_offset n k at low is j =
    let up : 2 ^ k ≤ 2 ^ 20 = pow_mono low in
    let whole : 1 * 2 ^ k % 2 ^ 32 ≡ 2 ^ k = omega (arith, up) in
    let at_is : at ≡ div_ceil n (2 ^ k) = is ∙ ap (λ (p : ℕ). div_ceil n p) whole in
    subst (λ (a : ℕ). (n ≤ j * 2 ^ k) ↔ (a ≤ j)) (sym at_is) (first_multiple n (2 ^ k) j (pow_pos k))

-- the code's test of a digest
pub filled_tested : (book : LookUp) (k j : ℕ) (digest zeros : List ℕ) (b : Bool) → book k j ≡ Some digest → zeros ≡ replicate 32 0
    → b ≡ not (pointwise nat_eq digest zeros) → IsTrue b ↔ IsFilled book k j
unfolding empty_hash
filled_tested book k j digest zeros b is zeros_is tested = elim (cases_Bool (pointwise nat_eq digest zeros)) [
  | inl same ↦
      let no : b ≡ false = tested ∙ ap (λ (x : Bool). not x) same in (
        λ yes. absurd (let e : true ≡ false = sym yes ∙ no in cc),
        λ filled.
            let one : Some filled.digest ≡ Some digest = sym filled.is ∙ is in
            let e : filled.digest ≡ digest = cc in
            absurd (filled.differ (e ∙ same_text digest zeros (sym same) ∙ zeros_is)),
      )
  | inr other ↦
      let yes : b ≡ true = tested ∙ ap (λ (x : Bool). not x) other in (
        λ _. record { digest = digest; is = is; differ = λ e. other_text digest zeros (sym other) (e ∙ sym zeros_is) },
        λ filled. yes,
      )
]

-- a layer's answer, where no lower layer has such a node
pub first_found : (d : Descriptor) (book : LookUp) (k : ℕ) (found : Option Node) → ((l j : ℕ) → l < k → IsMisshapen d book l j → ⊥)
    → MatchOption found ((j : ℕ) → IsMisshapen d book k j → ⊥) (λ at. (at.layer ≡ k) × IsFirstInLayer d book at.layer at.offset)
    → is_some found ≡ true
    → MatchOption found ((l j : ℕ) → IsMisshapen d book l j → ⊥) (λ at. IsFirstMisshapen d book at.layer at.offset)
first_found d book k None lower first some = absurd (let e : false ≡ true = some in cc)
first_found d book k (Some at) lower (layer, first) some = record { is = first.is; first = before }
  where
    before : (l i : ℕ) → IsMisshapen d book l i → (at.layer < l) ⊎ ((at.layer ≡ l) × (at.offset ≤ i))
    before l i mis = elim (cases_lt l at.layer) [
      | inl lt ↦ absurd (lower l i (omega arith) mis)
      | inr ge ↦ elim (cases_eq at.layer l) [
        | inl same ↦ inr (same, first.first i (subst (λ (m : ℕ). IsMisshapen d book m i) (sym same) mis))
        | inr other ↦ inl (omega arith)
      ]
    ]

pub none_yet : (d : Descriptor) (book : LookUp) (k : ℕ) (found : Option Node) → ((l j : ℕ) → l < k → IsMisshapen d book l j → ⊥)
    → MatchOption found ((j : ℕ) → IsMisshapen d book k j → ⊥) (λ at. (at.layer ≡ k) × IsFirstInLayer d book at.layer at.offset)
    → is_some found ≡ false → (l j : ℕ) → l < k + 1 → IsMisshapen d book l j → ⊥
none_yet d book k None lower none absent l j lt mis = elim (cases_eq l k) [
  | inl same ↦ none j (subst (λ (m : ℕ). IsMisshapen d book m j) same mis)
  | inr other ↦ lower l j (omega arith) mis
]
none_yet d book k (Some at) lower first absent l j lt mis = absurd (let e : true ≡ false = absent in cc)

-- the root covers a chunk
pub none_above : (d : Descriptor) (book : LookUp) (top : ℕ) → IsDescriptor d → height_of d ≤ top
    → ((l j : ℕ) → l < top → IsMisshapen d book l j → ⊥) → (k j : ℕ) → IsMisshapen d book k j → ⊥
none_above d book top valid high lower k j mis = elim (cases_lt k top) [
  | inl lt ↦ lower k j lt mis
  | inr ge ↦
      let layer = mis.in_tree.layer in
      let offset = mis.in_tree.offset in
      let some : 0 < d.chunk = omega (arith, (chunk_size_range d.chunk valid.chunk_size).0) in
      let chunks = chunk_count_range d.size d.chunk some valid.content_size in
      let one : height_of d - k ≡ 0 = omega arith in
      let first : j ≡ 0 = let below : j < 2 ^ 0 = subst (λ (n : ℕ). j < 2 ^ n) one offset in omega arith in
      let none : j * 2 ^ k ≡ 0 = ap (λ (i : ℕ). i * 2 ^ k) first ∙ omega arith in
      absurd (omega (arith, chunks.0, mis.past, none))
]
