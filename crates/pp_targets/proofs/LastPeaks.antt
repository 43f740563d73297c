-- Peaks and siblings above the last chunk.
use Rattle.std.proofs.Common.{◌≡◌, ◌≢◌, ◌⊎◌, ℕ, zero, suc, ◌+◌, ◌-◌, ◌*◌, ◌/◌, ◌%◌, ◌^◌, ◌<◌, ◌≤◌, Option, Some, None, List, refl, sym, ◌∙◌, ap, inl, inr, arith}
use Rattle.std.proofs.lemmas.Bool.{cases_eq, cases_lt}
use Rattle.std.proofs.lemmas.Nat.{pow_pos}
use Rattle.std.proofs.Math.Nat.{le-div_iff_mul-le}
use Rattle.pp_terms.specs.tree.Tree.{above}
use Rattle.pp_terms.specs.tree.Book.{LookUp}
use Rattle.pp_terms.specs.tree.Bins.{sibling}
use Rattle.pp_terms.specs.tree.Proves.{last_layer, Proves}
use Rattle.pp_terms.specs.tree.Claims.{or_else}
use Rattle.pp_terms.specs.format.Descriptor.{Descriptor, chunks_of}
use Rattle.pp_terms.proofs.Peaks.{above_is}
use Rattle.pp_paths.proofs.Growth.{even_sibling, odd_sibling}
use Rattle.pp_paths.proofs.PeakNodes.{IsLast}
use Rattle.pp_paths.proofs.ProvenChunks.{Counted}

-- up to the layer of the last peak the last chunk is under the last full node
pub before_last : (n i last : ℕ) → suc i ≡ n → IsLast n last → (k : ℕ) → k ≤ last → above k n ≡ suc (above k i)
before_last n i last end is zero low = sym end
before_last n i last end is (suc k) low =
    let down = before_last n i last end is k (omega arith) in
    let even = is.lower k (omega arith) in omega arith

-- above the last peak the last chunk is under the node that is not full
pub past_last : (n i last : ℕ) → suc i ≡ n → IsLast n last → (k : ℕ) → last < k → above k i ≡ above k n
past_last n i last end is zero high = absurd (omega arith)
past_last n i last end is (suc k) high = elim (cases_eq k last) [
  | inl same ↦
      let at = before_last n i last end is k (omega arith) in
      let odd : above k n % 2 ≡ 1 = ap (λ (l : ℕ). above l n % 2) same ∙ is.odd in omega arith
  | inr other ↦ ap (λ (m : ℕ). m / 2) (past_last n i last end is k (omega arith))
]

pub sibling_twice : (o : ℕ) → sibling (sibling o) ≡ o
sibling_twice o = elim (cases_eq (o % 2) 0) [
  | inl even ↦ ap sibling (even_sibling o even) ∙ odd_sibling (o + 1) (λ e. absurd (omega arith)) ∙ omega arith
  | inr odd ↦ ap sibling (odd_sibling o odd) ∙ even_sibling (o - 1) (omega arith) ∙ omega arith
]

pub sibling_other : (o : ℕ) → sibling o ≢ o
sibling_other o e = elim (cases_eq (o % 2) 0) [
  | inl even ↦ omega (arith, even_sibling o even, e)
  | inr odd ↦ omega (arith, odd_sibling o odd, e)
]

pub either_is : (o f : Option (List ℕ)) → (o ≡ None) ⊎ (o ≡ f) → or_else o f ≡ f
either_is o f (inl none) = rw none refl
either_is None f (inr same) = refl
either_is (Some x) f (inr same) = same

-- a node whose offset is below the count of full nodes covers a chunk
pub below_count : (n k j : ℕ) → j < above k n → j * 2 ^ k < n
below_count n k j lt =
    let is = above_is k n in
    let one : 0 < 2 ^ k = pow_pos k in
    let counted : j + 1 ≤ n / 2 ^ k = omega (arith, is) in
    let fits : (j + 1) * 2 ^ k ≤ n = (le-div_iff_mul-le one).0 counted in
    omega arith

-- the node after the last full one above the last chunk covers none
pub over_count : (n i k o : ℕ) → suc i ≡ n → o ≡ suc (above k i) → n ≤ o * 2 ^ k
over_count n i k o end is =
    let at = above_is k i in
    let one : 0 < 2 ^ k = pow_pos k in
    let next : i < suc (i / 2 ^ k) * 2 ^ k = omega arith in
    let same : o * 2 ^ k ≡ suc (i / 2 ^ k) * 2 ^ k = ap (λ (m : ℕ). m * 2 ^ k) (is ∙ ap (λ (m : ℕ). suc m) at) in
    omega (arith, next, same)

-- below the last peak the sibling of a node above the last chunk stands left of it
pub left_sibling : (n i last : ℕ) → suc i ≡ n → IsLast n last → (k : ℕ) → k < last → sibling (above k i) * 2 ^ k < n
left_sibling n i last end is k lt =
    let at = before_last n i last end is k (omega arith) in
    let even = is.lower k lt in
    let odd : above k i % 2 ≡ 0 → ⊥ = λ z. absurd (omega arith) in
    let less : sibling (above k i) < above k n = rw (odd_sibling (above k i) odd) (omega arith) in
    below_count n k (sibling (above k i)) less

-- the peak above a last chunk is the last one
pub top_is : (e : Descriptor) (known : LookUp) (i : ℕ) (bytes : List ℕ) (count : Counted e) (end : suc i ≡ chunks_of e)
    (proof : Proves e known i bytes) → proof.top ≡ last_layer (chunks_of e)
top_is e known i bytes count end proof = elim (cases_lt proof.top (last_layer (chunks_of e))) [
  | inl lt ↦
      let even = count.last.lower proof.top lt in
      let odd = proof.has_peak in absurd (omega arith)
  | inr ge ↦ elim (cases_eq proof.top (last_layer (chunks_of e))) [
    | inl same ↦ same
    | inr other ↦
        let past = past_last (chunks_of e) i (last_layer (chunks_of e)) end count.last proof.top (omega arith) in
        let odd = proof.has_peak in
        let below = proof.below_it in absurd (omega arith)
  ]
]
