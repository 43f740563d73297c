-- The climb of a chunk that comes with hashes which complete its path.
use Rattle.std.proofs.Common.{◌≡◌, ◌⊎◌, inl, inr, ℕ, zero, suc, ◌+◌, ◌/◌, ◌%◌, ◌<◌, eqb, Bool, true, false, not, ◌&&◌, ◌||◌, Option, Some, None, List, [], ◌∷◌, refl, sym, ◌∙◌, ap, arith}
use Rattle.std.specs.List.{list_all, list_any}
use Rattle.std.proofs.lemmas.Bool.{and_parts, or_cases, both_ways, eqb-true, false_from_ne_true, not-true}
use Rattle.sha2.specs.Sha256.{sha256}
use Rattle.pp_terms.specs.format.Descriptor.{Descriptor, chunks_of, height_of, IsDescriptor}
use Rattle.pp_terms.specs.tree.Book.{LookUp}
use Rattle.pp_terms.specs.tree.Bins.{parent_of, sibling_of, sibling}
use Rattle.pp_terms.specs.tree.Tree.{Node, above, height, peaks, is_peak, same_node, leaf_at}
use Rattle.pp_terms.specs.tree.Proves.{first_absent, peak_offset}
use Rattle.pp_terms.proofs.Facts.{value_of}
use Rattle.pp_terms.proofs.Heights.{height_is}
use Rattle.pp_terms.proofs.Nodes.{goes_on, height_bound}
use Rattle.pp_terms.proofs.Peaks.{below_full, no_last, peak_found, peak_in}
use Rattle.pp_tree.proofs.Rootedness.{some_same}
use Rattle.pp_traffic.specs.Hashes.{completes_from}
use Rattle.pp_paths.specs.declared.settling.Settled.TheVariants.{Known}
use Rattle.pp_paths.specs.declared.judging.Verdict.TheVariants.{Fits}
use Rattle.pp_paths.specs.Climb.{AddsPath}
use Rattle.pp_paths.specs.Judge.{judged}
use Rattle.pp_paths.specs.Settle.{settled, path_of_peaks}
use Rattle.pp_paths.proofs.Growth.{sibling_half}
use Rattle.pp_paths.proofs.PeakNodes.{peak_known, peaks_known}
use Rattle.pp_paths.proofs.ProvenChunks.{counted}
use Rattle.pp_paths.proofs.SettledPeaks.{settled_known}
use Rattle.pp_paths.proofs.Verdicts.{as_fits}
use Rattle.pp_world.specs.Agreement.{IsBelow}
use Rattle.pp_complete.specs.Laws.{IsClaimedBy, IsCompleted, CompletedIsSettled, CompletedFits}
use Rattle.pp_complete.proofs.Faultless.{AreFaultless, fault_or_none}
use Rattle.pp_complete.proofs.Ways.{Leads, reaches}
use Rattle.pp_complete.proofs.Peaked.{IsPeaked, LacksPeaks, peaked_before, peaked_by_claims, claims_settle}

abbrev node : ℕ → ℕ → Node
node k j = record { layer = k; offset = j }

node_cases : (o : Option Node) → (o ≡ None) ⊎ ((x : Node) × (o ≡ Some x))
node_cases None = inl refl
node_cases (Some x) = inr (x, refl)

-- ---- complete paths

-- what a complete path says of its first node
first_step : (layers chunks : ℕ) (brought told : Node → Bool) (n : Node) → completes_from (suc layers) chunks brought told n ≡ true
    → (told n ≡ true) ⊎ (((is_peak chunks n ≡ true) × (list_all (λ p. brought p || told p) (peaks chunks) ≡ true))
    ⊎ ((is_peak chunks n ≡ false) × ((brought (sibling_of n) || told (sibling_of n)) ≡ true)
    × (completes_from layers chunks brought told (parent_of n) ≡ true)))
first_step layers chunks brought told n e =
    let all = list_all (λ p. brought p || told p) (peaks chunks) in
    let beside = brought (sibling_of n) || told (sibling_of n) in
    let rest = completes_from layers chunks brought told (parent_of n) in
    elim (or_cases (told n || is_peak chunks n && all) (not (is_peak chunks n) && beside && rest) e) [
      | inl ends ↦ elim (or_cases (told n) (is_peak chunks n && all) ends) [
        | inl is_told ↦ inl is_told
        | inr peak ↦ (let parts = and_parts (is_peak chunks n) all peak in inr (inl (parts.0, parts.1)))
      ]
      | inr up ↦
          let outer = and_parts (not (is_peak chunks n) && beside) rest up in
          let inner = and_parts (not (is_peak chunks n)) beside outer.0 in
          inr (inr (not-true (is_peak chunks n) inner.0, inner.1, outer.1))
    ]

-- at a node that is neither told nor a peak it goes on
goes_on_up : (layers chunks : ℕ) (brought told : Node → Bool) (n : Node) → completes_from layers chunks brought told n ≡ true
    → told n ≡ false → is_peak chunks n ≡ false
    → (rest : ℕ) × ((brought (sibling_of n) || told (sibling_of n)) ≡ true) × (completes_from rest chunks brought told (parent_of n) ≡ true)
goes_on_up zero chunks brought told n e untold no_peak = absurd cc
goes_on_up (suc layers) chunks brought told n e untold no_peak = elim (first_step layers chunks brought told n e) [
  | inl is_told ↦ absurd (both_ways (told n) untold is_told)
  | inr (inl peak) ↦ absurd (both_ways (is_peak chunks n) no_peak peak.0)
  | inr (inr up) ↦ (layers, up.1, up.2)
]

-- where nothing is told all peaks are brought
all_brought : (layers chunks : ℕ) (brought told : Node → Bool) (n : Node) → ((m : Node) → told m ≡ false)
    → completes_from layers chunks brought told n ≡ true → list_all (λ p. brought p || told p) (peaks chunks) ≡ true
all_brought zero chunks brought told n none e = absurd cc
all_brought (suc layers) chunks brought told n none e = elim (first_step layers chunks brought told n e) [
  | inl is_told ↦ absurd (both_ways (told n) (none n) is_told)
  | inr (inl peak) ↦ peak.1
  | inr (inr up) ↦ all_brought layers chunks brought told (parent_of n) none up.2
]

among : (p : Node → Bool) (n : Node) (xs : List Node) → list_all p xs ≡ true → list_any (same_node n) xs ≡ true → p n ≡ true
among p n [] all e = absurd cc
among p n (x ∷ xs) all e =
    let parts = and_parts (p x) (list_all p xs) all in
    elim (or_cases (same_node n x) (list_any (same_node n) xs) e) [
      | inl same ↦
          let both = and_parts (eqb n.layer x.layer) (eqb n.offset x.offset) same in
          ap (λ k. p (node k n.offset)) (eqb-true n.layer x.layer both.0)
          ∙ ap (λ j. p (node x.layer j)) (eqb-true n.offset x.offset both.1) ∙ parts.0
      | inr later ↦ among p n xs parts.1 later
    ]

-- ---- a completed chunk

module _ (d : Descriptor) (mine theirs claims : LookUp) (brought told : Node → Bool) (i : ℕ) (bytes : List ℕ) (is : IsDescriptor d)
    (c : IsCompleted d mine theirs claims brought told i bytes) (fine : AreFaultless d mine theirs) where
  -- where mine lacks a peak nothing is told
  none_told : (at : Node) → first_absent mine (chunks_of d) ≡ Some at → (n : Node) → told n ≡ false
  none_told at absent = elim c.peaks [
    | inr none ↦ none
    | inl all ↦
        let known = peaks_known mine (chunks_of d) (λ k low odd.
        let off = peak_offset k (chunks_of d) in
        value_of (mine k off) (c.has (node k off) (all (node k off) (peak_in 21 (chunks_of d) k low odd)))) in
        absurd cc
  ]

  -- and so each peak is claimed with theirs
  peak_claimed : ((n : Node) → told n ≡ false) → (k : ℕ) → k < 21 → above k (chunks_of d) % 2 ≡ 1
      → IsClaimedBy claims theirs (node k (peak_offset k (chunks_of d)))
  peak_claimed none k low odd =
      let n = node k (peak_offset k (chunks_of d)) in
      let all = all_brought (height (chunks_of d) + 1) (chunks_of d) brought told (leaf_at i) none c.path in
      let either = among (λ p. brought p || told p) n (peaks (chunks_of d)) all (peak_in 21 (chunks_of d) k low odd) in
      c.claimed n (below_full (chunks_of d) n (omega arith)) (elim (or_cases (brought n) (told n) either) [
        | inl is_brought ↦ is_brought
        | inr is_told ↦ absurd (both_ways (told n) (none n) is_told)
      ])

  lacking : (at : Node) → first_absent mine (chunks_of d) ≡ Some at → LacksPeaks d mine theirs claims
  lacking at absent =
      let none = none_told at absent in
      let count = counted d is in
      let low = height_bound (chunks_of d) (height_is (chunks_of d) count.some count.most) count.most in
      record {
        rooted = c.rooted;
        rooted' = c.backed.rooted;
        count = count;
        fine = fine;
        absent = at;
        absent_is = absent;
        theirs_all = peaks_known theirs (chunks_of d) (λ k less odd. let claim = peak_claimed none k less odd in (claim.digest, claim.is));
        claimed = λ k x within odd there.
            let claim = peak_claimed none k (omega arith) odd in
            claim.claimed ∙ ap (λ y. Some y) (some_same claim.digest x (theirs k (peak_offset k (chunks_of d))) claim.is there);
      }

  settles : settled (chunks_of d) mine claims ≡ Known
  settles = elim (node_cases (first_absent mine (chunks_of d))) [
    | inl all ↦ sym (settled_known (chunks_of d) mine claims all)
    | inr (at, absent) ↦ claims_settle d mine theirs claims (lacking at absent)
  ]

  peaked_is : (peaked : LookUp) → AddsPath (path_of_peaks (chunks_of d) mine claims) mine peaked → IsPeaked d mine theirs peaked
  peaked_is peaked added = elim (node_cases (first_absent mine (chunks_of d))) [
    | inl all ↦ peaked_before d mine theirs claims peaked c.rooted (counted d is) fine all added
    | inr (at, absent) ↦ peaked_by_claims d mine theirs claims (lacking at absent) peaked added
  ]

  -- a full node on the way of the chunk, from which the path goes on
  OnWay : ℕ → ℕ → Type 0
  OnWay k j = (layers : ℕ) × (j < above k (chunks_of d)) × (completes_from layers (chunks_of d) brought told (node k j) ≡ true)

  module _ (peaked : LookUp) (has : IsPeaked d mine theirs peaked) where
    told_there : (n : Node) → peaked n.layer n.offset ≡ None → told n ≡ false
    told_there n none = false_from_ne_true (told n) (λ is_told.
        let (x, there) = value_of (mine n.layer n.offset) (c.has n is_told) in
        let kept = has.keeps n.layer n.offset x there in
        absurd cc)

    peak_there : (n : Node) → peaked n.layer n.offset ≡ None → is_peak (chunks_of d) n ≡ false
    peak_there n none = false_from_ne_true (is_peak (chunks_of d) n) (λ peak.
        let found = peak_found (chunks_of d) n peak in
        let odd : above n.layer (chunks_of d) % 2 ≡ 1 = omega (arith, found.1, found.2) in
        let (x, there) = peak_known peaked (chunks_of d) n.layer has.all found.0 odd in
        let last : n.offset ≡ peak_offset n.layer (chunks_of d) = omega (arith, found.2) in
        let here : peaked n.layer n.offset ≡ Some x = ap (λ j. peaked n.layer j) last ∙ there in
        absurd cc)

    -- the parent and the sibling are full too
    half_below : (n k j : ℕ) → IsBelow d (suc n) k j → j < above k (chunks_of d) → peaked k j ≡ None → j / 2 < above k (chunks_of d) / 2
    half_below n k j below full none =
        let count = counted d is in
        let low = height_bound (chunks_of d) (height_is (chunks_of d) count.some count.most) count.most in
        let layer = below.layer in
        goes_on (above k (chunks_of d)) j full (no_last (chunks_of d) (node k j) (omega arith) (peak_there (node k j) none))

    way_leads : Leads d peaked claims theirs OnWay
    unfolding OnWay
    way_leads = record {
      root = d.root;
      root_is = has.keeps (height_of d) 0 d.root c.rooted.root_is;
      agree = has.agree;
      given = λ n k j other below on none absent at.
          let (layers, full, path) = on in
          let untold = told_there (node k j) none in
          let (rest, beside, up) = goes_on_up layers (chunks_of d) brought told (node k j) path untold (peak_there (node k j) none) in
          let half = half_below n k j below full none in
          let under : sibling j < above k (chunks_of d) = (let same = sibling_half j in omega arith) in
          let is_brought : brought (node k (sibling j)) ≡ true =
          elim (or_cases (brought (node k (sibling j))) (told (node k (sibling j))) beside) [
            | inl is_brought' ↦ is_brought'
            | inr is_told ↦ absurd (both_ways (told (node k (sibling j))) (told_there (node k (sibling j)) absent) is_told)
          ] in
          let claim = c.claimed (node k (sibling j)) (below_full (chunks_of d) (node k (sibling j)) under) is_brought in
          claim.claimed ∙ ap (λ y. Some y) (some_same claim.digest other (theirs k (sibling j)) claim.is at);
      on = λ n k j below on none.
          let (layers, full, path) = on in
          let (rest, beside, up) =
          goes_on_up layers (chunks_of d) brought told (node k j) path (told_there (node k j) none) (peak_there (node k j) none) in
          let higher : suc k ≡ k + 1 = omega arith in
          (rest, half_below n k j below full none, ap (λ l. completes_from rest (chunks_of d) brought told (node l (j / 2))) higher ∙ up);
    }

    leaf_on : OnWay 0 i
    unfolding OnWay
    leaf_on = (height (chunks_of d) + 1, c.backed.within, c.path)

    fits : judged d peaked claims i bytes ≡ Fits
    fits =
        let count = counted d is in
        let tall = height_is (chunks_of d) count.some count.most in
        let within = c.backed.within in
        let covers = tall.covers in
        let bottom : IsBelow d (height_of d) 0 i = record { layer = omega arith; within = omega arith } in
        let (at, digest, end) = reaches d peaked claims theirs OnWay c.backed.rooted way_leads (height_of d) 0 i (sha256 bytes)
        bottom c.backed.leaf leaf_on in
        as_fits d peaked claims i bytes (record { whole = c.backed.whole; peaks_known = has.all; at = at; digest = digest; reaches = end })

pub completed_is_settled : CompletedIsSettled
completed_is_settled d mine theirs claims brought told i bytes is c = elim (fault_or_none d mine theirs) [
  | inl fault ↦ inr fault
  | inr fine ↦ inl (settles d mine theirs claims brought told i bytes is c fine)
]

pub completed_fits : CompletedFits
completed_fits d mine theirs claims brought told i bytes is c peaked added = elim (fault_or_none d mine theirs) [
  | inl fault ↦ inr fault
  | inr fine ↦ inl (fits d mine theirs claims brought told i bytes is c fine peaked
      (peaked_is d mine theirs claims brought told i bytes is c fine peaked added))
]
