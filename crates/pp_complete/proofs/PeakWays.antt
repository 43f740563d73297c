-- The way from the last peak up to the root: claims that have a rooted book's digests of the peaks have its siblings, where a node
-- past the chunks has the empty hash.
use Rattle.std.proofs.Common.{◌≡◌, inl, inr, ℕ, zero, suc, ◌+◌, ◌-◌, ◌*◌, ◌/◌, ◌%◌, ◌^◌, ◌≤◌, ◌<◌, nat_lt, true, false, cond, Some, List, sym, ◌∙◌, ap, arith}
use Rattle.std.proofs.lemmas.Bool.{cases_eq}
use Rattle.std.proofs.lemmas.Bool.Decides.{nat_tests}
use Rattle.std.proofs.lemmas.Nat.{pow_pos}
use Rattle.pp_terms.specs.format.Descriptor.{Descriptor, chunks_of, height_of}
use Rattle.pp_terms.specs.tree.Book.{LookUp}
use Rattle.pp_terms.specs.tree.Tree.{above, empty_hash}
use Rattle.pp_terms.specs.tree.Bins.{sibling}
use Rattle.pp_terms.specs.tree.Proves.{filled, last_layer, peak_offset}
use Rattle.pp_terms.proofs.Heights.{height_is}
use Rattle.pp_terms.proofs.Peaks.{above_is, doubled}
use Rattle.pp_paths.proofs.Growth.{even_sibling, odd_sibling}
use Rattle.pp_paths.proofs.PeakNodes.{layer_within}
use Rattle.pp_paths.proofs.ProvenChunks.{Counted, past_full, covered}
use Rattle.pp_world.specs.Agreement.{IsBelow}
use Rattle.pp_complete.proofs.Faultless.{AreFaultless}
use Rattle.pp_complete.proofs.Ways.{Supplies, sibling_below}

-- The claims have the book's digest of each peak.
abbrev pub ClaimsPeaks : Descriptor → (claims theirs : LookUp) → Type 0
ClaimsPeaks d claims theirs = (k : ℕ) (x : List ℕ) → k ≤ height_of d → above k (chunks_of d) % 2 ≡ 1
    → theirs k (peak_offset k (chunks_of d)) ≡ Some x → claims k (peak_offset k (chunks_of d)) ≡ Some x

-- the nodes on the way from the last peak
abbrev pub FromLast : Descriptor → ℕ → ℕ → Type 0
FromLast d k j = (s : ℕ) × (k ≡ last_layer (chunks_of d) + s) × (j ≡ above s (peak_offset (last_layer (chunks_of d)) (chunks_of d)))

-- up to the last peak's layer the full nodes cover all chunks
whole_above : (n last l : ℕ) → ((k : ℕ) → k < last → above k n % 2 ≡ 0) → l ≤ last → above l n * 2 ^ l ≡ n
whole_above n last zero even low = omega arith
whole_above n last (suc l) even low =
    let rest = whole_above n last l even (omega arith) in
    let here = even l (omega arith) in
    let half : above l n ≡ above (suc l) n * 2 = omega arith in
    let same : above l n * 2 ^ l ≡ above (suc l) n * 2 * 2 ^ l = ap (λ q. q * 2 ^ l) half in
    let times : above (suc l) n * 2 ^ suc l ≡ above (suc l) n * 2 * 2 ^ l = ap (λ p. above (suc l) n * p) (doubled l) ∙ grind arith in
    omega arith

-- the full nodes of a layer and the one behind them cover all chunks, and more
behind_full : (n k : ℕ) → n < (above k n + 1) * 2 ^ k
behind_full n k =
    let e = above_is k n in
    let one : 0 < 2 ^ k = pow_pos k in
    let less : n < n / 2 ^ k * 2 ^ k + 2 ^ k = omega arith in
    let whole : (above k n + 1) * 2 ^ k ≡ n / 2 ^ k * 2 ^ k + 2 ^ k = ap (λ q. (q + 1) * 2 ^ k) e ∙ grind arith in
    omega arith

-- no peak lies above the root
pub peak_within : (d : Descriptor) (k : ℕ) → Counted d → above k (chunks_of d) % 2 ≡ 1 → k ≤ height_of d
peak_within d k count odd =
    let tall = height_is (chunks_of d) count.some count.most in
    layer_within (chunks_of d) k (height_of d) tall.covers (omega arith)

module _ (d : Descriptor) (mine theirs claims : LookUp) (count : Counted d) (fine : AreFaultless d mine theirs)
    (claimed : ClaimsPeaks d claims theirs) where
  past_given : (n k j : ℕ) (other : List ℕ) → IsBelow d n k j → chunks_of d ≤ j * 2 ^ k → theirs k j ≡ Some other
      → filled (chunks_of d) claims k j ≡ Some other
  past_given n k j other below past at =
      let test : nat_lt (j * 2 ^ k) (chunks_of d) ≡ false = grind (arith, nat_tests) in
      ap (λ b. cond b (claims k j) (Some empty_hash)) test ∙ ap (λ x. Some x) (sym (fine.empty n k j other below past at))

  peak_given : (k : ℕ) (other : List ℕ) → above k (chunks_of d) % 2 ≡ 1 → theirs k (peak_offset k (chunks_of d)) ≡ Some other
      → filled (chunks_of d) claims k (peak_offset k (chunks_of d)) ≡ Some other
  peak_given k other odd at =
      let over = covered (chunks_of d) k (omega arith) in
      let test : nat_lt (peak_offset k (chunks_of d) * 2 ^ k) (chunks_of d) ≡ true = grind (arith, nat_tests) in
      ap (λ b. cond b (claims k (peak_offset k (chunks_of d))) (Some empty_hash)) test
      ∙ claimed k other (peak_within d k count odd) odd at

  beside_given : (n k j : ℕ) (other : List ℕ) → IsBelow d n k (sibling j) → FromLast d k j → theirs k (sibling j) ≡ Some other
      → filled (chunks_of d) claims k (sibling j) ≡ Some other
  beside_given n k j other below (zero, layer, offset) at =
      let c = chunks_of d in
      let odd = count.last.odd in
      let same : above (last_layer c) c ≡ above k c = ap (λ l. above l c) (let e : last_layer c ≡ k = omega arith in e) in
      let whole = whole_above c (last_layer c) (last_layer c) count.last.lower (omega arith) in
      let power : 2 ^ last_layer c ≡ 2 ^ k = ap (λ l. 2 ^ l) (let e : last_layer c ≡ k = omega arith in e) in
      let even : j % 2 ≡ 0 = omega arith in
      let next : above k c ≡ sibling j = (let e = even_sibling j even in omega arith) in
      let all : sibling j * 2 ^ k ≡ above (last_layer c) c * 2 ^ last_layer c =
      ap (λ q. q * 2 ^ k) (sym next) ∙ ap (λ q. q * 2 ^ k) (sym same) ∙ ap (λ p. above (last_layer c) c * p) (sym power) in
      past_given n k (sibling j) other below (omega arith) at
  beside_given n k j other below (suc s, layer, offset) at =
      let c = chunks_of d in
      let spot : j ≡ above k c =
      offset ∙ past_full c (last_layer c) (suc s) count.last.odd (omega arith)
      ∙ ap (λ l. above l c) (let e : suc s + last_layer c ≡ k = omega arith in e) in
      elim (cases_eq (j % 2) 0) [
        | inl even ↦
            let next : sibling j ≡ above k c + 1 = even_sibling j even ∙ ap (λ q. q + 1) spot in
            let over = behind_full c k in
            let all : sibling j * 2 ^ k ≡ (above k c + 1) * 2 ^ k = ap (λ q. q * 2 ^ k) next in
            past_given n k (sibling j) other below (omega arith) at
        | inr odd ↦
            let before : sibling j ≡ peak_offset k c = odd_sibling j odd ∙ ap (λ q. q - 1) spot in
            ap (λ i. filled c claims k i) before
            ∙ peak_given k other (omega arith) (ap (λ i. theirs k i) (sym before) ∙ at)
      ]

  pub supplies_last : Supplies d (filled (chunks_of d) claims) theirs (FromLast d)
  supplies_last = record {
    given = λ n k j other below on at. beside_given (suc n) k j other (sibling_below d n k j below) on at;
    on = λ n k j below (s, layer, offset). (suc s, omega arith, ap (λ i. i / 2) offset);
  }
