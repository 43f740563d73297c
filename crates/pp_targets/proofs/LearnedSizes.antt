-- The climbs of `learn`, and what it answers by them.
use Rattle.std.proofs.Common.{◌≡◌, ℕ, zero, suc, ◌+◌, ◌-◌, ◌/◌, ◌%◌, ◌^◌, ◌<◌, ◌≤◌, ◌==◌, false, Option, Some, None, List, length, refl, sym, ◌∙◌, ap, inl, inr, arith}
use Rattle.std.specs.Prelude.{is_none, if◌then◌else◌}
use Rattle.std.proofs.lemmas.Bool.{cases_eq}
use Rattle.std.proofs.lemmas.Bool.Decides.{nat_tests}
use Rattle.sha2.specs.Sha256.{sha256}
use Rattle.pp_terms.specs.tree.Tree as tree
use Rattle.pp_terms.specs.tree.Tree.{above, height, IsHeight, empty_hash}
use Rattle.pp_terms.specs.tree.Book.{LookUp}
use Rattle.pp_terms.specs.tree.Bins.{sibling}
use Rattle.pp_terms.specs.tree.Proves.{joined, climbed, filled, first_absent, last_layer, peak_offset}
use Rattle.pp_terms.proofs.Heights.{height_is}
use Rattle.pp_terms.proofs.Nodes.{height_bound}
use Rattle.pp_tree.specs.Node.{node_of}
use Rattle.pp_tree.specs.declared.node.Node.{Node}
use Rattle.pp_paths.specs.Judge.{same}
use Rattle.pp_paths.proofs.Growth.{option_cases, even_sibling, odd_sibling}
use Rattle.pp_paths.proofs.PeakNodes.{IsLast, last_is, layer_within, peak_known}
use Rattle.pp_paths.proofs.ProvenChunks.{climbed_on}
use Rattle.pp_targets.specs.declared.learning.Learned.{Learned}
use Rattle.pp_targets.specs.declared.learning.Learned.TheVariants.{Size, SixtyFour}
use Rattle.pp_targets.specs.Target.{SwarmName}
use Rattle.pp_targets.specs.Learn.{ended, first_beside, missing_or, wrong_or, root_by_peaks, learned}
use Rattle.pp_targets.proofs.ClimbSteps.{climbed_by, filled_known, filled_past}
use Rattle.pp_targets.proofs.LastPeaks.{before_last, past_last, left_sibling, below_count, over_count}

-- What the number of a last chunk says of peaks.
pub record EndsAt (i : ℕ) : Type 0 where
  pub last : IsLast (i + 1) (last_layer (i + 1))
  pub low : last_layer (i + 1) ≤ height (i + 1)
  pub high : height (i + 1) ≤ 20
  pub peak : peak_offset (last_layer (i + 1)) (i + 1) ≡ above (last_layer (i + 1)) i

pub ends_at : (i : ℕ) → i < 2 ^ 20 → EndsAt i
ends_at i few =
    let last = last_is (i + 1) (omega arith) (omega arith) in
    let tall = height_is (i + 1) (omega arith) (omega arith) in
    let odd = last.odd in
    let at = before_last (i + 1) i (last_layer (i + 1)) (omega arith) last (last_layer (i + 1)) (omega arith) in
    record {
      last = last;
      low = layer_within (i + 1) (last_layer (i + 1)) (height (i + 1)) tall.covers (omega arith);
      high = height_bound (i + 1) tall (omega arith);
      peak = omega arith;
    }

-- a climb lacks no sibling exactly where it has an end
pub none_beside : (known : LookUp) (n k j : ℕ) (digest end : List ℕ) → climbed known n k j digest ≡ Some end → first_beside known n k j ≡ None
none_beside known zero k j digest end is = refl
none_beside known (suc n) k j digest end is =
    let (other, beside, rest) = climbed_on known n k j digest end is in
    rw beside (none_beside known n (suc k) (j / 2) (sha256 (joined j digest other)) end rest)

pub climbs_on : (known : LookUp) (n k j : ℕ) (digest : List ℕ) → first_beside known n k j ≡ None
    → (end : List ℕ) × (climbed known n k j digest ≡ Some end)
climbs_on known zero k j digest none = (digest, refl)
climbs_on known (suc n) k j digest none = elim (option_cases (known k (sibling j))) [
  | inl lacks ↦
      let e : first_beside known (suc n) k j ≡ Some (record { layer = k; offset = sibling j }) = rw lacks refl in cc
  | inr (other, beside) ↦
      let rest : first_beside known n (suc k) (j / 2) ≡ None = rw beside at none in
      let (end, is) = climbs_on known n (suc k) (j / 2) (sha256 (joined j digest other)) rest in
      (end, climbed_by known n k j digest other beside ∙ is)
]

climbed_none : (known : LookUp) (n k j : ℕ) (digest : List ℕ) → known k (sibling j) ≡ None → climbed known (suc n) k j digest ≡ None
climbed_none known n k j digest none = rw none refl

-- below the last peak no empty hash is met
pub climbed_low : (known : LookUp) (i : ℕ) → EndsAt i → (m k : ℕ) (digest : List ℕ) → k + m ≡ last_layer (i + 1)
    → climbed (filled (i + 1) known) m k (above k i) digest ≡ climbed known m k (above k i) digest
climbed_low known i ends zero k digest sum = refl
climbed_low known i ends (suc m) k digest sum =
    let covers = left_sibling (i + 1) i (last_layer (i + 1)) (omega arith) ends.last k (omega arith) in
    let is = filled_known (i + 1) known k (sibling (above k i)) covers in
    elim (option_cases (known k (sibling (above k i)))) [
      | inl none ↦ climbed_none (filled (i + 1) known) m k (above k i) digest (is ∙ none) ∙ sym (climbed_none known m k (above k i) digest none)
      | inr (other, beside) ↦ climbed_by (filled (i + 1) known) m k (above k i) digest other (is ∙ beside)
          ∙ climbed_low known i ends m (suc k) (sha256 (joined (above k i) digest other)) (omega arith)
          ∙ sym (climbed_by known m k (above k i) digest other beside)
    ]

pub beside_low : (known : LookUp) (i : ℕ) → EndsAt i → (m k : ℕ) → k + m ≡ last_layer (i + 1)
    → first_beside (filled (i + 1) known) m k (above k i) ≡ first_beside known m k (above k i)
beside_low known i ends zero k sum = refl
beside_low known i ends (suc m) k sum =
    let covers = left_sibling (i + 1) i (last_layer (i + 1)) (omega arith) ends.last k (omega arith) in
    let is = filled_known (i + 1) known k (sibling (above k i)) covers in
    ap (λ o. if is_none o then Some (let at : tree.Node = record { layer = k; offset = sibling (above k i) } in at)
    else first_beside (filled (i + 1) known) m (suc k) (above (suc k) i)) is
    ∙ ap (λ p. if is_none (known k (sibling (above k i))) then Some (let at : tree.Node = record { layer = k; offset = sibling (above k i) } in at) else p)
    (beside_low known i ends m (suc k) (omega arith))

-- above the last peak each sibling is a peak, or has the empty hash
sibling_high : (known : LookUp) (i : ℕ) → EndsAt i → first_absent known (i + 1) ≡ None → (k : ℕ) → last_layer (i + 1) ≤ k → k < height (i + 1)
    → (x : List ℕ) × (filled (i + 1) known k (sibling (above k i)) ≡ Some x)
sibling_high known i ends all k from lt = elim (cases_eq (above k i % 2) 0) [
  | inl even ↦
      let next = even_sibling (above k i) even in
      (empty_hash, filled_past (i + 1) known k (sibling (above k i)) (over_count (i + 1) i k (sibling (above k i)) (omega arith) (omega (arith, next))))
  | inr odd ↦
      let before = odd_sibling (above k i) odd in
      let high = ends.high in
      let high' : last_layer (i + 1) < k = elim (cases_eq k (last_layer (i + 1))) [
        | inl same ↦
            let at = before_last (i + 1) i (last_layer (i + 1)) (omega arith) ends.last k (omega arith) in
            let one : above k (i + 1) % 2 ≡ 1 = ap (λ (l : ℕ). above l (i + 1) % 2) same ∙ ends.last.odd in absurd (omega arith)
        | inr other ↦ omega arith
      ] in
      let past = past_last (i + 1) i (last_layer (i + 1)) (omega arith) ends.last k high' in
      let (x, at) = peak_known known (i + 1) k all (omega arith) (omega arith) in
      let place : sibling (above k i) ≡ peak_offset k (i + 1) = omega arith in
      let less : sibling (above k i) < above k (i + 1) = omega arith in
      (x, filled_known (i + 1) known k (sibling (above k i)) (below_count (i + 1) k (sibling (above k i)) less) ∙ ap (λ (o : ℕ). known k o) place ∙ at)
]

pub beside_high : (known : LookUp) (i : ℕ) → EndsAt i → first_absent known (i + 1) ≡ None → (m k : ℕ) → last_layer (i + 1) ≤ k → k + m ≡ height (i + 1)
    → first_beside (filled (i + 1) known) m k (above k i) ≡ None
beside_high known i ends all zero k from sum = refl
beside_high known i ends all (suc m) k from sum =
    let (x, is) = sibling_high known i ends all k from (omega arith) in
    rw is (beside_high known i ends all m (suc k) (omega arith) (omega arith))

-- the answer by its parts
pub learned_by : (name : SwarmName) (known : LookUp) (i : ℕ) (bytes : List ℕ) (absent beside : Option tree.Node) (found kept root : Option (List ℕ))
    → (length bytes ≡ 64 → ⊥) → first_absent known (i + 1) ≡ absent → first_beside known (last_layer (i + 1)) 0 i ≡ beside
    → climbed known (last_layer (i + 1)) 0 i (sha256 bytes) ≡ found
    → known (last_layer (i + 1)) (peak_offset (last_layer (i + 1)) (i + 1)) ≡ kept → root_by_peaks (i + 1) known ≡ root
    → learned name known i bytes ≡ missing_or absent (missing_or beside (wrong_or found kept (wrong_or root (Some name.root) (Size (ended name i (length bytes))))))
learned_by name known i bytes absent beside found kept root apart absent_is beside_is found_is kept_is root_is =
    let last : ℕ = last_layer (i + 1) in
    let test : (length bytes == 64) ≡ false = grind (arith, nat_tests) in
    let end : Learned = Size (ended name i (length bytes)) in
    ap (λ b. if b then SixtyFour else missing_or (first_absent known (i + 1))
    (missing_or (first_beside known (last_layer (i + 1)) 0 i)
    (wrong_or (climbed known (last_layer (i + 1)) 0 i (sha256 bytes)) (known (last_layer (i + 1)) (peak_offset (last_layer (i + 1)) (i + 1)))
    (wrong_or (root_by_peaks (i + 1) known) (Some name.root) (Size (ended name i (length bytes))))))) test
    ∙ ap (λ o. missing_or o
    (missing_or (first_beside known (last_layer (i + 1)) 0 i)
    (wrong_or (climbed known (last_layer (i + 1)) 0 i (sha256 bytes)) (known (last_layer (i + 1)) (peak_offset (last_layer (i + 1)) (i + 1)))
    (wrong_or (root_by_peaks (i + 1) known) (Some name.root) (Size (ended name i (length bytes))))))) absent_is
    ∙ ap (λ o. missing_or absent (missing_or o
    (wrong_or (climbed known (last_layer (i + 1)) 0 i (sha256 bytes)) (known (last_layer (i + 1)) (peak_offset (last_layer (i + 1)) (i + 1)))
    (wrong_or (root_by_peaks (i + 1) known) (Some name.root) (Size (ended name i (length bytes))))))) beside_is
    ∙ ap (λ o. missing_or absent (missing_or beside
    (wrong_or o (known (last_layer (i + 1)) (peak_offset (last_layer (i + 1)) (i + 1)))
    (wrong_or (root_by_peaks (i + 1) known) (Some name.root) (Size (ended name i (length bytes))))))) found_is
    ∙ ap (λ o. missing_or absent (missing_or beside (wrong_or found o
    (wrong_or (root_by_peaks (i + 1) known) (Some name.root) (Size (ended name i (length bytes))))))) kept_is
    ∙ ap (λ o. missing_or absent (missing_or beside (wrong_or found kept
    (wrong_or o (Some name.root) (Size (ended name i (length bytes))))))) root_is

-- ---- the steps of a climb in code

pub climb_step : (known : LookUp) (top k k' j j' : ℕ) (digest other next : List ℕ) → k < top → known k (sibling j) ≡ Some other
    → k' ≡ k + 1 → j' ≡ j / 2 → next ≡ sha256 (joined j digest other)
    → climbed known (top - k') k' j' next ≡ climbed known (top - k) k j digest
climb_step known top k k' j j' digest other next low beside up half next_is =
    let left : top - k ≡ suc (top - k') = omega arith in
    let layer : k' ≡ suc k = omega arith in
    ap (λ (l : ℕ). climbed known (top - k') l j' next) layer ∙ ap (λ (o : ℕ). climbed known (top - k') (suc k) o next) half
    ∙ ap (λ xs. climbed known (top - k') (suc k) (j / 2) xs) next_is ∙ sym (climbed_by known (top - k') k j digest other beside)
    ∙ ap (λ (n : ℕ). climbed known n k j digest) (sym left)

pub beside_step : (known : LookUp) (top k k' j j' : ℕ) (other : List ℕ) → k < top → known k (sibling j) ≡ Some other
    → k' ≡ k + 1 → j' ≡ j / 2 → first_beside known (top - k') k' j' ≡ first_beside known (top - k) k j
beside_step known top k k' j j' other low beside up half =
    let left : top - k ≡ suc (top - k') = omega arith in
    let layer : k' ≡ suc k = omega arith in
    let on : first_beside known (suc (top - k')) k j ≡ first_beside known (top - k') (suc k) (j / 2) = rw beside refl in
    ap (λ (l : ℕ). first_beside known (top - k') l j') layer ∙ ap (λ (o : ℕ). first_beside known (top - k') (suc k) o) half ∙ sym on
    ∙ ap (λ (n : ℕ). first_beside known n k j) (sym left)

pub beside_first : (known : LookUp) (top k j : ℕ) (at : Node) → k < top → known at.layer at.offset ≡ None
    → at ≡ record { layer = k; offset = sibling j } → first_beside known (top - k) k j ≡ Some (node_of at)
beside_first known top k j at low none is =
    let left : top - k ≡ suc (top - suc k) = omega arith in
    let lacks : known k (sibling j) ≡ None = sym (ap (λ (n : Node). known n.layer n.offset) is) ∙ none in
    let here : first_beside known (suc (top - suc k)) k j ≡ Some (record { layer = k; offset = sibling j }) = rw lacks refl in
    ap (λ (n : ℕ). first_beside known n k j) left ∙ here ∙ sym (ap (λ (n : Node). Some (node_of n)) is)
