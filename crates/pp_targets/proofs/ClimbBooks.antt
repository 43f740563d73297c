-- The book of what a proof's climbs meet is a book of the descriptor, and backs the chunk.
use Rattle.std.proofs.Common.{◌≡◌, ◌≢◌, ◌⊎◌, ℕ, zero, suc, ◌-◌, ◌/◌, ◌%◌, ◌<◌, ◌≤◌, ◌==◌, nat_lt, nat_le, true, false, Some, None, List, length, refl, sym, ◌∙◌, ap, subst, inl, inr, arith}
use Rattle.std.specs.Prelude.{option_and_then, is_some, if◌then◌else◌}
use Rattle.std.proofs.lemmas.Bool.{cases_eq, cases_lt, cases_Bool}
use Rattle.std.proofs.lemmas.Bool.Decides.{nat_tests}
use Rattle.sha2.specs.Sha256.{sha256}
use Rattle.sha2.proofs.Facts256.{length-sha256}
use Rattle.pp_terms.specs.tree.Tree.{Node, above, is_full, is_peak}
use Rattle.pp_terms.specs.tree.Book.{LookUp, IsJoined, IsBacked}
use Rattle.pp_terms.specs.tree.Bins.{sibling}
use Rattle.pp_terms.specs.tree.Proves.{climbed, filled, last_layer, peak_offset, Proves}
use Rattle.pp_terms.specs.tree.Claims.{met, met_below, met_at_peaks, met_above, or_else}
use Rattle.pp_terms.specs.format.Descriptor.{Descriptor, chunks_of, height_of, IsDescriptor}
use Rattle.pp_terms.proofs.Facts.{which_half}
use Rattle.pp_terms.proofs.Heights.{height_is}
use Rattle.pp_terms.proofs.Nodes.{height_bound}
use Rattle.pp_terms.proofs.Peaks.{peak_in, peak_found, below_full, full_below}
use Rattle.pp_tree.proofs.Rootedness.{some_same}
use Rattle.pp_paths.proofs.Growth.{option_cases, even_sibling, odd_sibling, sibling_half}
use Rattle.pp_paths.proofs.PeakNodes.{layer_within, at_most_one, peak_known}
use Rattle.pp_paths.proofs.ProvenChunks.{Counted, counted, last_there, above_twice}
use Rattle.pp_targets.specs.ClimbBook.{beside_met, climb_book}
use Rattle.pp_targets.specs.Law.{ClimbIsBacked}
use Rattle.pp_targets.proofs.Descent.{some_none}
use Rattle.pp_targets.proofs.ClimbSteps.{step_of, length-climbed, filled_known, length-filled, pair_of}
use Rattle.pp_targets.proofs.LastPeaks.{before_last, past_last, sibling_twice, sibling_other, either_is, below_count}

-- halving keeps the order
less_above : (m a b : ℕ) → above m a < above m b → a < b
less_above zero a b lt = lt
less_above (suc m) a b lt = less_above m a b (omega arith)

sibling_low : (o n : ℕ) → o / 2 < n / 2 → sibling o < n
sibling_low o n lt = elim (cases_eq (o % 2) 0) [
  | inl even ↦ omega (arith, even_sibling o even)
  | inr odd ↦ omega (arith, odd_sibling o odd)
]

abbrev at_node : ℕ → ℕ → Node
at_node k j = record { layer = k; offset = j }

-- A pair of a book in layer k, below node (k + 1, o).
abbrev pub HasPair : LookUp → ℕ → ℕ → Type 0
HasPair book k o = (left : List ℕ) × (right : List ℕ) × IsJoined book k o left right × (length left ≡ 32) × (length right ≡ 32)

module _ (e : Descriptor) (known : LookUp) (i : ℕ) (bytes : List ℕ) (count : Counted e) (within : i < chunks_of e)
    (proof : Proves e known i bytes) where
  abbrev n : ℕ
  n = chunks_of e

  abbrev last : ℕ
  last = last_layer (chunks_of e)

  abbrev peak : ℕ
  peak = peak_offset (last_layer (chunks_of e)) (chunks_of e)

  abbrev book : LookUp
  book = climb_book e known i bytes

  -- the node of the climb from the peaks in layer k
  abbrev spine : ℕ → ℕ
  spine k = above (k - last_layer (chunks_of e)) (peak_offset (last_layer (chunks_of e)) (chunks_of e))

  -- ---- where the climbs go

  full_way : (k : ℕ) → k ≤ proof.top → above k i < above k n
  full_way k low =
      let a = above_twice (proof.top - k) k i proof.top (omega arith) in
      let b = above_twice (proof.top - k) k n proof.top (omega arith) in
      let odd = proof.has_peak in
      let below = proof.below_it in
      less_above (proof.top - k) (above k i) (above k n) (omega (arith, a, b))

  past_way : (k : ℕ) → proof.top < k → above k i ≡ above k n
  past_way zero high = absurd (omega arith)
  past_way (suc k) high = elim (cases_eq k proof.top) [
    | inl same ↦
        let odd : above k n % 2 ≡ 1 = ap (λ (l : ℕ). above l n % 2) same ∙ proof.has_peak in
        let below : above k i ≡ above k n - 1 = ap (λ (l : ℕ). above l i) same ∙ proof.below_it ∙ ap (λ (l : ℕ). above l n - 1) (sym same) in
        omega arith
    | inr other ↦ ap (λ (m : ℕ). m / 2) (past_way k (omega arith))
  ]

  last_chunk : suc (n - 1) ≡ n
  last_chunk = let some = count.some in omega arith

  spine_is : (k : ℕ) → last ≤ k → spine k ≡ above k (n - 1)
  spine_is k from =
      let at = before_last n (n - 1) last last_chunk count.last last (omega arith) in
      let peak_is : peak ≡ above last (n - 1) = omega arith in
      ap (λ (o : ℕ). above (k - last) o) peak_is ∙ sym (above_twice (k - last) last (n - 1) k (omega arith))

  spine_past : (k : ℕ) → last < k → spine k ≡ above k n
  spine_past k from = spine_is k (omega arith) ∙ past_last n (n - 1) last last_chunk count.last k from

  from_last : (k : ℕ) → above k n % 2 ≡ 1 → last ≤ k
  from_last k odd = elim (cases_lt k last) [
    | inl lt ↦ (let even = count.last.lower k lt in absurd (omega arith))
    | inr ge ↦ ge
  ]

  tall : height_of e ≤ 20
  tall = height_bound n (height_is n count.some count.most) count.most

  inside : (k : ℕ) → 0 < above k n → k ≤ height_of e
  inside k some = layer_within n k (height_of e) (height_is n count.some count.most).covers some

  top_low : proof.top ≤ height_of e
  top_low = let odd = proof.has_peak in inside proof.top (omega arith)

  -- ---- what is met

  full_met : (k j : ℕ) → is_full n (at_node k j) ≡ true → met e known i bytes k j ≡ or_else (met_below known i bytes k j) (met_at_peaks n known k j)
  full_met k j full = rw full refl

  other_met : (k j : ℕ) → is_full n (at_node k j) ≡ true → above k i ≢ j → met e known i bytes k j ≡ met_at_peaks n known k j
  other_met k j full ne =
      let test : (above k i == j) ≡ false = grind (arith, nat_tests) in
      let below : met_below known i bytes k j ≡ None = rw test refl in
      full_met k j full ∙ ap (λ o. or_else o (met_at_peaks n known k j)) below

  part_met : (k j : ℕ) → is_full n (at_node k j) ≡ false → k ≤ height_of e → met e known i bytes k j ≡ met_above n known k j
  part_met k j part low = let test : nat_le k (height_of e) ≡ true = grind (arith, nat_tests) in rw (part, test) refl

  past_met : (k j : ℕ) → height_of e < k → met e known i bytes k j ≡ None
  past_met k j high = elim (cases_Bool (is_full n (at_node k j))) [
    | inl full ↦ (let lt = full_below n (at_node k j) full in let low = inside k (omega arith) in absurd (omega arith))
    | inr part ↦ (let test : nat_le k (height_of e) ≡ false = grind (arith, nat_tests) in rw (part, test) refl)
  ]

  met_way : (k : ℕ) (x : List ℕ) → k ≤ proof.top → climbed known k 0 i (sha256 bytes) ≡ Some x → met e known i bytes k (above k i) ≡ Some x
  met_way k x low is =
      let full = below_full n (at_node k (above k i)) (full_way k low) in
      let test : (above k i == above k i) ≡ true = grind (arith, nat_tests) in
      let below : met_below known i bytes k (above k i) ≡ Some x = rw test is in
      full_met k (above k i) full ∙ ap (λ o. or_else o (met_at_peaks n known k (above k i))) below

  at_peaks : (k j : ℕ) → k < 21 → above k n ≡ suc j → above k n % 2 ≡ 1 → met_at_peaks n known k j ≡ known k j
  at_peaks k j low is odd =
      let place : above k n - 1 ≡ j = omega arith in
      let test : is_peak n (at_node k j) ≡ true = subst (λ (o : ℕ). is_peak n (at_node k o) ≡ true) place (peak_in 21 n k low odd) in
      ap (λ b. if b then known k j else None) test

  met_peak : (k j : ℕ) → above k n ≡ suc j → above k n % 2 ≡ 1 → met e known i bytes k j ≡ known k j
  met_peak k j is odd =
      let low = inside k (omega arith) in
      let high = tall in
      let full = below_full n (at_node k j) (omega arith) in
      let there = at_peaks k j (omega arith) is odd in
      elim (cases_eq (above k i) j) [
        | inr ne ↦ other_met k j full ne ∙ there
        | inl here ↦
            let top : k ≡ proof.top = elim (cases_lt proof.top k) [
              | inl past ↦ (let same = past_way k past in absurd (omega arith))
              | inr ge ↦ elim (cases_eq k proof.top) [
                | inl same ↦ same
                | inr other ↦ (let next = full_way (suc k) (omega arith) in absurd (omega arith))
              ]
            ] in
            let test : (above k i == j) ≡ true = grind (arith, nat_tests) in
            let below : met_below known i bytes k j ≡ known k j =
            (let test' : met_below known i bytes k j ≡ climbed known k 0 i (sha256 bytes) = rw test refl in
            test' ∙ ap (λ (l : ℕ). climbed known l 0 i (sha256 bytes)) top ∙ proof.to_peak
            ∙ ap (λ (l : ℕ). known l (above l n - 1)) (sym top) ∙ ap (λ (o : ℕ). known k o) (let e : above k n - 1 ≡ j = omega arith in e)) in
            full_met k j full ∙ ap (λ o. or_else o (met_at_peaks n known k j)) below ∙ ap (λ o. or_else (known k j) o) there
            ∙ either_is (known k j) (known k j) (inr refl)
      ]

  part_spine : (k : ℕ) → last < k → is_full n (at_node k (spine k)) ≡ false
  part_spine k high = elim (cases_Bool (is_full n (at_node k (spine k)))) [
    | inl full ↦ (let lt = full_below n (at_node k (spine k)) full in let is = spine_past k high in absurd (omega arith))
    | inr part ↦ part
  ]

  -- ---- the book

  beside_is : (k o : ℕ) (x : List ℕ) → k < height_of e → met e known i bytes k o ≡ Some x
      → (met e known i bytes k (sibling o) ≡ None) ⊎ (met e known i bytes k (sibling o) ≡ filled n known k (sibling o))
      → book k (sibling o) ≡ filled n known k (sibling o)
  beside_is k o x low here which =
      let test : nat_lt k (height_of e) ≡ true = grind (arith, nat_tests) in
      let back : met e known i bytes k (sibling (sibling o)) ≡ Some x = ap (λ (j : ℕ). met e known i bytes k j) (sibling_twice o) ∙ here in
      let some : is_some (met e known i bytes k (sibling (sibling o))) ≡ true = ap (λ p. is_some p) back in
      let beside : beside_met e known i bytes k (sibling o) ≡ filled n known k (sibling o) = rw (test, some) refl in
      ap (λ p. or_else (met e known i bytes k (sibling o)) p) beside
      ∙ either_is (met e known i bytes k (sibling o)) (filled n known k (sibling o)) which

  none_beside_met : (k j : ℕ) → height_of e ≤ k → beside_met e known i bytes k j ≡ None
  none_beside_met k j high = let test : nat_lt k (height_of e) ≡ false = grind (arith, nat_tests) in rw test refl

  in_book : (k o : ℕ) (x : List ℕ) → met e known i bytes k o ≡ Some x → book k o ≡ Some x
  in_book k o x is = ap (λ p. or_else p (beside_met e known i bytes k o)) is

  module _ (y : List ℕ) (there : known last peak ≡ Some y) (kept : List ℕ) (end : climbed known proof.top 0 i (sha256 bytes) ≡ Some kept)
      (high : climbed (filled n known) (height_of e - last) last peak y ≡ Some e.root) where
    -- a pair below the chunk's peak
    pair_way : (k : ℕ) → k < proof.top → HasPair book k (above k i / 2)
    pair_way k lt =
        let step = step_of known proof.top k 0 i k (sha256 bytes) kept lt (omega arith) end in
        let low = top_low in
        let here = met_way k step.here (omega arith) step.here_is in
        let up = met_way (suc k) step.up (omega arith) step.up_is in
        let less : sibling (above k i) < above k n = sibling_low (above k i) (above k n) (full_way (suc k) lt) in
        let is = filled_known n known k (sibling (above k i)) (below_count n k (sibling (above k i)) less) in
        let full = below_full n (at_node k (sibling (above k i))) less in
        let ne = sibling_other (above k i) in
        let which : (met e known i bytes k (sibling (above k i)) ≡ None) ⊎ (met e known i bytes k (sibling (above k i)) ≡ filled n known k (sibling (above k i))) =
        (let at = other_met k (sibling (above k i)) full (λ same. ne (sym same)) in
        elim (cases_Bool (is_peak n (at_node k (sibling (above k i))))) [
          | inl is_one ↦ inr (at ∙ ap (λ b. if b then known k (sibling (above k i)) else None) is_one ∙ sym is)
          | inr is_not ↦ inl (at ∙ ap (λ b. if b then known k (sibling (above k i)) else None) is_not)
        ]) in
        let beside = beside_is k (above k i) step.here (omega arith) here which ∙ is ∙ step.beside in
        pair_of book k (above k i) step.here step.other step.up (in_book k (above k i) step.here here) beside (in_book (suc k) (above (suc k) i) step.up up)
        step.joins (length-climbed known k 0 i (sha256 bytes) step.here (length-sha256 bytes) step.here_is)
        (proof.digests k (sibling (above k i)) step.other step.beside)

    met_spine : (k : ℕ) (x : List ℕ) → last ≤ k → k ≤ height_of e → climbed (filled n known) (k - last) last peak y ≡ Some x
        → met e known i bytes k (spine k) ≡ Some x
    met_spine k x from low is = elim (cases_eq k last) [
      | inl same ↦
          let none : k - last ≡ 0 = omega arith in
          let offset : spine k ≡ peak = ap (λ (m : ℕ). above m peak) none in
          let odd : above k n % 2 ≡ 1 = ap (λ (l : ℕ). above l n % 2) same ∙ count.last.odd in
          let peak_is : peak ≡ above k n - 1 = ap (λ (l : ℕ). above l n - 1) (sym same) in
          let first : Some y ≡ Some x = sym (ap (λ (m : ℕ). climbed (filled n known) m last peak y) none) ∙ is in
          ap (λ (o : ℕ). met e known i bytes k o) offset ∙ met_peak k peak (omega arith) odd
          ∙ ap (λ (l : ℕ). known l peak) same ∙ there ∙ first
      | inr other ↦
          let part = part_spine k (omega arith) in
          let from' : nat_le last k ≡ true = grind (arith, nat_tests) in
          let test : (spine k == spine k) ≡ true = grind (arith, nat_tests) in
          let at : met_above n known k (spine k) ≡ Some x = rw (from', test, there, is) refl in
          part_met k (spine k) part low ∙ at
    ]

    sibling_spine : (k : ℕ) → last ≤ k → k < height_of e → (met e known i bytes k (sibling (spine k)) ≡ None)
        ⊎ (met e known i bytes k (sibling (spine k)) ≡ filled n known k (sibling (spine k)))
    sibling_spine k from low = elim (cases_Bool (is_full n (at_node k (sibling (spine k))))) [
      | inr part ↦
          let from' : nat_le last k ≡ true = grind (arith, nat_tests) in
          let ne = sibling_other (spine k) in
          let test : (spine k == sibling (spine k)) ≡ false = grind (arith, nat_tests) in
          let at : met_above n known k (sibling (spine k)) ≡ None = rw (from', test) refl in
          inl (part_met k (sibling (spine k)) part (omega arith) ∙ at)
      | inl full ↦
          let lt = full_below n (at_node k (sibling (spine k))) full in
          let is = filled_known n known k (sibling (spine k)) (below_count n k (sibling (spine k)) lt) in
          elim (cases_eq k last) [
            | inl same ↦
                let at = spine_is k from in
                let before = before_last n (n - 1) last last_chunk count.last k (omega arith) in
                let odd : above k n % 2 ≡ 1 = ap (λ (l : ℕ). above l n % 2) same ∙ count.last.odd in
                let next = even_sibling (spine k) (omega arith) in
                absurd (omega arith)
            | inr other ↦
                let past = spine_past k (omega arith) in
                elim (cases_eq (spine k % 2) 0) [
                  | inl even ↦ (let next = even_sibling (spine k) even in absurd (omega arith))
                  | inr odd ↦
                      let before = odd_sibling (spine k) odd in
                      inr (met_peak k (sibling (spine k)) (omega arith) (omega arith) ∙ sym is)
                ]
          ]
    ]

    pair_spine : (k : ℕ) → last ≤ k → k < height_of e → HasPair book k (spine k / 2)
    pair_spine k from low =
        let step = step_of (filled n known) (height_of e - last) (k - last) last peak k y e.root (omega arith) (omega arith) high in
        let next : suc k - last ≡ suc (k - last) = omega arith in
        let here = met_spine k step.here from (omega arith) step.here_is in
        let up = met_spine (suc k) step.up (omega arith) (omega arith) (ap (λ (l : ℕ). climbed (filled n known) l last peak y) next ∙ step.up_is) in
        let half : spine (suc k) ≡ spine k / 2 = ap (λ (l : ℕ). above l peak) next in
        let over : book (suc k) (spine k / 2) ≡ Some step.up = ap (λ (o : ℕ). book (suc k) o) (sym half) ∙ in_book (suc k) (spine (suc k)) step.up up in
        pair_of book k (spine k) step.here step.other step.up (in_book k (spine k) step.here here)
        (beside_is k (spine k) step.here low here (sibling_spine k from low) ∙ step.beside) over step.joins
        (length-climbed (filled n known) (k - last) last peak y step.here (proof.digests last peak y there) step.here_is)
        (length-filled n known k (sibling (spine k)) step.other proof.digests step.beside)

    pair_peak : (k j : ℕ) → above k n ≡ suc j → above k n % 2 ≡ 1 → k < height_of e → HasPair book k (j / 2)
    pair_peak k j is odd low =
        let from = from_last k odd in
        let half : spine k / 2 ≡ j / 2 = elim (cases_eq k last) [
          | inl same ↦
              let at = spine_is k from in
              let before = before_last n (n - 1) last last_chunk count.last k (omega arith) in omega arith
          | inr other ↦ (let past = spine_past k (omega arith) in omega arith)
        ] in
        subst (λ (o : ℕ). HasPair book k o) half (pair_spine k from low)

    -- each node that is met has its pair
    pair_met : (k j : ℕ) (x : List ℕ) → k < height_of e → met e known i bytes k j ≡ Some x → HasPair book k (j / 2)
    pair_met k j x low is = elim (cases_Bool (is_full n (at_node k j))) [
      | inl full ↦
          let lt = full_below n (at_node k j) full in
          elim (cases_eq (above k i) j) [
            | inl here ↦ elim (cases_lt k proof.top) [
              | inl less ↦ subst (λ (o : ℕ). HasPair book k (o / 2)) here (pair_way k less)
              | inr ge ↦ elim (cases_eq k proof.top) [
                | inr other ↦ (let past = past_way k (omega arith) in absurd (omega arith))
                | inl top ↦
                    let odd : above k n % 2 ≡ 1 = ap (λ (l : ℕ). above l n % 2) top ∙ proof.has_peak in
                    let below : above k i ≡ above k n - 1 = ap (λ (l : ℕ). above l i) top ∙ proof.below_it ∙ ap (λ (l : ℕ). above l n - 1) (sym top) in
                    pair_peak k j (omega arith) odd low
              ]
            ]
            | inr ne ↦
                let at = other_met k j full ne in
                elim (cases_Bool (is_peak n (at_node k j))) [
                  | inl is_one ↦
                      let found = peak_found n (at_node k j) is_one in
                      pair_peak k j (omega (arith, found.2)) (omega (arith, found.1, found.2)) low
                  | inr is_not ↦
                      let none : met e known i bytes k j ≡ None = at ∙ ap (λ b. if b then known k j else None) is_not in cc
                ]
          ]
      | inr part ↦ elim (cases_lt k last) [
        | inl lt ↦
            let under : nat_le last k ≡ false = grind (arith, nat_tests) in
            let none : met_above n known k j ≡ None = rw under refl in
            let none' = part_met k j part (omega arith) ∙ none in cc
        | inr from ↦ elim (cases_eq (spine k) j) [
          | inl here ↦ subst (λ (o : ℕ). HasPair book k (o / 2)) here (pair_spine k from low)
          | inr ne ↦
              let from' : nat_le last k ≡ true = grind (arith, nat_tests) in
              let test : (spine k == j) ≡ false = grind (arith, nat_tests) in
              let none : met_above n known k j ≡ None = rw (from', test) refl in
              let none' = part_met k j part (omega arith) ∙ none in cc
        ]
      ]
    ]

    -- in the root's layer there is the root alone
    only_root : (j : ℕ) (x : List ℕ) → met e known i bytes (height_of e) j ≡ Some x → j ≡ 0
    only_root j x is = elim (cases_Bool (is_full n (at_node (height_of e) j))) [
      | inl full ↦
          let lt = full_below n (at_node (height_of e) j) full in
          let one = at_most_one n (height_of e) (height_is n count.some count.most).covers in omega arith
      | inr part ↦ elim (cases_eq (spine (height_of e)) j) [
        | inl here ↦ sym here ∙ count.halved
        | inr ne ↦
            let low = count.within in
            let from' : nat_le last (height_of e) ≡ true = grind (arith, nat_tests) in
            let test : (spine (height_of e) == j) ≡ false = grind (arith, nat_tests) in
            let none : met_above n known (height_of e) j ≡ None = rw (from', test) refl in
            let none' = part_met (height_of e) j part (omega arith) ∙ none in cc
      ]
    ]

    pair_in : (k j : ℕ) (x : List ℕ) → k < height_of e → book k j ≡ Some x → HasPair book k (j / 2)
    pair_in k j x low is = elim (option_cases (met e known i bytes k j)) [
      | inr (y', at) ↦ pair_met k j y' low at
      | inl none ↦ elim (option_cases (met e known i bytes k (sibling j))) [
        | inr (y', at) ↦ subst (λ (o : ℕ). HasPair book k o) (sibling_half j) (pair_met k (sibling j) y' low at)
        | inl none' ↦
            let test : nat_lt k (height_of e) ≡ true = grind (arith, nat_tests) in
            let beside : beside_met e known i bytes k j ≡ None = rw (test, none') refl in
            let nothing : book k j ≡ None = ap (λ o. or_else o (beside_met e known i bytes k j)) none ∙ beside in cc
      ]
    ]

    root_in : (j : ℕ) (x : List ℕ) → book (height_of e) j ≡ Some x → j ≡ 0
    root_in j x is = elim (option_cases (met e known i bytes (height_of e) j)) [
      | inr (y', at) ↦ only_root j y' at
      | inl none ↦
          let nothing : book (height_of e) j ≡ None =
          ap (λ o. or_else o (beside_met e known i bytes (height_of e) j)) none ∙ none_beside_met (height_of e) j (omega arith) in
          some_none x (sym nothing ∙ is)
    ]

    none_past : (k j : ℕ) → height_of e < k → book k j ≡ None
    none_past k j high' =
        ap (λ o. or_else o (beside_met e known i bytes k j)) (past_met k j high') ∙ none_beside_met k j (omega arith)

    root_is : book (height_of e) 0 ≡ Some e.root
    root_is =
        ap (λ (o : ℕ). book (height_of e) o) (sym count.halved)
        ∙ in_book (height_of e) (spine (height_of e)) e.root (met_spine (height_of e) e.root count.within (omega arith) high)

    length_in : (k j : ℕ) (x : List ℕ) → length e.root ≡ 32 → book k j ≡ Some x → length x ≡ 32
    length_in k j x long is = elim (cases_lt k (height_of e)) [
      | inl low ↦
          let (left, right, joined', left_long, right_long) = pair_in k j x low is in
          elim (which_half j (j / 2) refl) [
            | inl even ↦ ap (λ xs. length xs) (some_same x left (book k j) is (ap (λ (o : ℕ). book k o) even ∙ joined'.left_is)) ∙ left_long
            | inr odd ↦ ap (λ xs. length xs) (some_same x right (book k j) is (ap (λ (o : ℕ). book k o) odd ∙ joined'.right_is)) ∙ right_long
          ]
      | inr ge ↦ elim (cases_eq k (height_of e)) [
        | inr other ↦ (let none = none_past k j (omega arith) in cc)
        | inl top ↦
            let here : book (height_of e) j ≡ Some x = ap (λ (l : ℕ). book l j) (sym top) ∙ is in
            let first = root_in j x here in
            let same : book (height_of e) 0 ≡ Some x = ap (λ (o : ℕ). book (height_of e) o) (sym first) ∙ here in
            ap (λ xs. length xs) (some_same x e.root (book (height_of e) 0) same root_is) ∙ long
      ]
    ]

    hangs_in : (k j : ℕ) (x : List ℕ) → book k j ≡ Some x
        → ((k ≡ height_of e) × (j ≡ 0)) ⊎ ((left : List ℕ) × (right : List ℕ) × IsJoined book k (j / 2) left right)
    hangs_in k j x is = elim (cases_lt k (height_of e)) [
      | inl low ↦ (let (left, right, joined', _, _) = pair_in k j x low is in inr (left, right, joined'))
      | inr ge ↦ elim (cases_eq k (height_of e)) [
        | inr other ↦ (let none = none_past k j (omega arith) in cc)
        | inl top ↦ inl (top, root_in j x (ap (λ (l : ℕ). book l j) (sym top) ∙ is))
      ]
    ]

    backed : length e.root ≡ 32 → IsBacked e book i bytes
    backed long = record {
      rooted = record {
        root_is = root_is;
        digests = λ k j x is. length_in k j x long is;
        hangs = hangs_in;
      };
      within = within;
      whole = proof.whole;
      leaf = in_book 0 i (sha256 bytes) (met_way 0 (sha256 bytes) (omega arith) refl);
    }

    beside_peak : last < height_of e → book last (sibling peak) ≡ filled n known last (sibling peak)
    beside_peak lt =
        let none : last - last ≡ 0 = omega arith in
        let offset : spine last ≡ peak = ap (λ (m : ℕ). above m peak) none in
        let here = met_spine last y (omega arith) (omega arith) (ap (λ (m : ℕ). climbed (filled n known) m last peak y) none) in
        subst (λ (o : ℕ). book last (sibling o) ≡ filled n known last (sibling o)) offset
        (beside_is last (spine last) y lt here (sibling_spine last (omega arith) lt))

-- The book of the climbs, and what it has beside the last peak.
pub record IsClimbBook (e : Descriptor) (known book : LookUp) (i : ℕ) (bytes : List ℕ) : Type 0 where
  pub backed : IsBacked e book i bytes
  pub beside : last_layer (chunks_of e) < height_of e
      → book (last_layer (chunks_of e)) (sibling (peak_offset (last_layer (chunks_of e)) (chunks_of e)))
      ≡ filled (chunks_of e) known (last_layer (chunks_of e)) (sibling (peak_offset (last_layer (chunks_of e)) (chunks_of e)))

pub climb_book_is : (e : Descriptor) (known : LookUp) (i : ℕ) (bytes : List ℕ) → IsDescriptor e → i < chunks_of e → Proves e known i bytes
    → IsClimbBook e known (climb_book e known i bytes) i bytes
climb_book_is e known i bytes is within proof =
    let count = counted e is in
    let (y, there) = last_there e known count proof.peaks_known in
    let low = top_low e known i bytes count within proof in
    let few = tall e known i bytes count within proof in
    let (kept, at) = peak_known known (chunks_of e) proof.top proof.peaks_known (omega arith) proof.has_peak in
    let end = proof.to_peak ∙ at in
    let high : climbed (filled (chunks_of e) known) (height_of e - last_layer (chunks_of e)) (last_layer (chunks_of e)) (peak_offset (last_layer (chunks_of e)) (chunks_of e)) y ≡ Some e.root =
    sym (ap (λ o. option_and_then (climbed (filled (chunks_of e) known) (height_of e - last_layer (chunks_of e)) (last_layer (chunks_of e)) (peak_offset (last_layer (chunks_of e)) (chunks_of e))) o) there) ∙ proof.to_root in
    record {
      backed = backed e known i bytes count within proof y there kept end high is.root_length;
      beside = beside_peak e known i bytes count within proof y there kept end high;
    }

pub climb_is_backed : ClimbIsBacked
climb_is_backed e known i bytes is within proof = (climb_book_is e known i bytes is within proof).backed
