-- The book with the settled peaks: it has all, and no other digest than theirs.
use Rattle.std.proofs.Common.{◌≡◌, inl, inr, ℕ, ◌+◌, ◌-◌, ◌*◌, ◌/◌, ◌%◌, ◌^◌, ◌≤◌, ◌<◌, cond, Some, None, List, [], refl, sym, ◌∙◌, ap, subst, arith}
use Rattle.std.specs.Prelude.{unwrap_or}
use Rattle.std.specs.Option.{option_or}
use Rattle.std.proofs.lemmas.Bool.{cases_eq, cases_lt}
use Rattle.std.proofs.lemmas.Nat.{pow_pos}
use Rattle.std.proofs.Math.Nat.{div-lt_iff_lt-mul}
use Rattle.pp_terms.specs.format.Descriptor.{Descriptor, chunks_of, height_of}
use Rattle.pp_terms.specs.tree.Book.{LookUp, IsRooted}
use Rattle.pp_terms.specs.tree.Tree as tree
use Rattle.pp_terms.specs.tree.Tree.{above}
use Rattle.pp_terms.specs.tree.Proves.{first_absent, filled, last_layer, peak_offset}
use Rattle.pp_terms.proofs.Heights.{height_is}
use Rattle.pp_terms.proofs.Peaks.{above_is}
use Rattle.pp_tree.proofs.Rootedness.{some_same}
use Rattle.pp_paths.specs.declared.settling.Settled.TheVariants.{Known, Wrong}
use Rattle.pp_paths.specs.Climb.{or_else, climb, path, AddsPath}
use Rattle.pp_paths.specs.Settle.{last_digest, climb_of_peaks, path_of_peaks, missing_or, settled, settled_of, known_or}
use Rattle.pp_paths.proofs.Growth.{option_cases, path_adds_nothing}
use Rattle.pp_paths.proofs.PeakNodes.{at_most_one, peak_known, peaks_known, peaks_there}
use Rattle.pp_paths.proofs.ProvenChunks.{Counted, Reaches, past_full, last_there}
use Rattle.pp_paths.proofs.Verdicts.{same_as_itself}
use Rattle.pp_world.specs.Agreement.{IsBelow}
use Rattle.pp_complete.proofs.Faultless.{AreFaultless}
use Rattle.pp_complete.proofs.Ways.{Leads, reaches, path_agrees, path_there, same_there}
use Rattle.pp_complete.proofs.PeakWays.{ClaimsPeaks, FromLast, peak_within, supplies_last}

-- The book keeps mine, has no other digest than theirs, and has all peaks.
pub record IsPeaked (d : Descriptor) (mine theirs peaked : LookUp) : Type 0 where
  pub keeps : (k j : ℕ) (x : List ℕ) → mine k j ≡ Some x → peaked k j ≡ Some x
  pub agree : (n k j : ℕ) (x y : List ℕ) → IsBelow d n k j → peaked k j ≡ Some x → theirs k j ≡ Some y → x ≡ y
  pub all : first_absent peaked (chunks_of d) ≡ None

-- no peak lies below the last one
last_lowest : (d : Descriptor) (k : ℕ) → Counted d → above k (chunks_of d) % 2 ≡ 1 → last_layer (chunks_of d) ≤ k
last_lowest d k count odd = elim (cases_lt k (last_layer (chunks_of d))) [
  | inl lt ↦ (let even = count.last.lower k lt in absurd (omega arith))
  | inr ge ↦ ge
]

-- the last peak is a node of the tree
last_below : (d : Descriptor) → Counted d
    → IsBelow d (height_of d - last_layer (chunks_of d)) (last_layer (chunks_of d)) (peak_offset (last_layer (chunks_of d)) (chunks_of d))
last_below d count =
    let n = chunks_of d in
    let off = peak_offset (last_layer n) n in
    let rest = height_of d - last_layer n in
    let within = count.within in
    let none : off / 2 ^ rest ≡ 0 = sym (above_is rest off) ∙ count.halved in
    let less : off < 1 * 2 ^ rest = (div-lt_iff_lt-mul (pow_pos rest)).0 (omega arith) in
    record { layer = omega arith; within = omega arith }

-- in a rooted book the root's layer lacks no peak
under_root : (d : Descriptor) (book : LookUp) (k : ℕ) → IsRooted d book → Counted d → above k (chunks_of d) % 2 ≡ 1
    → book k (peak_offset k (chunks_of d)) ≡ None → k < height_of d
under_root d book k rooted count odd none = elim (cases_eq k (height_of d)) [
  | inr ne ↦ (let low = peak_within d k count odd in omega arith)
  | inl top ↦
      let n = chunks_of d in
      let tall = height_is n count.some count.most in
      let one = at_most_one n k (omega (arith, tall.covers, ap (λ (i : ℕ). 2 ^ i) top)) in
      let first : peak_offset k n ≡ 0 = omega arith in
      let root : book k (peak_offset k n) ≡ Some d.root = ap (λ j. book k j) first ∙ ap (λ l. book l 0) top ∙ rooted.root_is in
      absurd cc
]

-- ---- where mine had all peaks

pub peaked_before : (d : Descriptor) (mine theirs claims peaked : LookUp) → IsRooted d mine → Counted d → AreFaultless d mine theirs
    → first_absent mine (chunks_of d) ≡ None → AddsPath (path_of_peaks (chunks_of d) mine claims) mine peaked
    → IsPeaked d mine theirs peaked
peaked_before d mine theirs claims peaked rooted count fine all added = record {
  keeps = λ k j x at. same k j ∙ at;
  agree = λ n k j x y below at at'. fine.agree n k j x y below (sym (same k j) ∙ at) at';
  all = peaks_known peaked (chunks_of d) (λ k low odd.
      let (x, at) = peak_known mine (chunks_of d) k all low odd in (x, same k (peak_offset k (chunks_of d)) ∙ at));
}
  where
    same : (k j : ℕ) → peaked k j ≡ mine k j
    same k j =
        let n = chunks_of d in
        let (x, at) = last_there d mine count all in
        let within = count.within in
        let up : last_layer n + (height_of d - last_layer n) ≡ height_of d = omega arith in
        added k j
        ∙ path_adds_nothing d mine (filled n claims) (height_of d - last_layer n) (last_layer n) (peak_offset (last_layer n) n)
        (last_digest n mine claims) x k j rooted up at

-- ---- where it lacked one

-- The claims have theirs of each peak, and theirs has them all.
pub record LacksPeaks (d : Descriptor) (mine theirs claims : LookUp) : Type 0 where
  pub rooted : IsRooted d mine
  pub rooted' : IsRooted d theirs
  pub count : Counted d
  pub fine : AreFaultless d mine theirs
  pub absent : tree.Node
  pub absent_is : first_absent mine (chunks_of d) ≡ Some absent
  pub theirs_all : first_absent theirs (chunks_of d) ≡ None
  pub claimed : ClaimsPeaks d claims theirs

module _ (d : Descriptor) (mine theirs claims : LookUp) (lacks : LacksPeaks d mine theirs claims) where
  -- theirs and the claims have the last peak
  theirs_last : (x : List ℕ) × (theirs (last_layer (chunks_of d)) (peak_offset (last_layer (chunks_of d)) (chunks_of d)) ≡ Some x)
  theirs_last = last_there d theirs lacks.count lacks.theirs_all

  last_digest_is : last_digest (chunks_of d) mine claims ≡ theirs_last.0
  last_digest_is =
      let n = chunks_of d in
      let last = last_layer n in
      let off = peak_offset last n in
      let (x, there) = theirs_last in
      let count = lacks.count in
      let claim = lacks.claimed last x count.within count.last.odd there in
      let none : mine last off ≡ None = elim (option_cases (mine last off)) [
        | inl e ↦ e
        | inr (y, here) ↦
            let all = peaks_there d mine last y lacks.rooted count.some count.most count.last here in
            let absent = lacks.absent_is in
            cc
      ] in
      ap (λ o. unwrap_or (option_or o (claims last off)) []) none ∙ ap (λ o. unwrap_or o []) claim

  from_last : FromLast d (last_layer (chunks_of d)) (peak_offset (last_layer (chunks_of d)) (chunks_of d))
  from_last = (0, omega arith, refl)

  -- the climb of the peaks reaches its own digest
  climb_reaches : Reaches (climb_of_peaks (chunks_of d) mine claims)
  climb_reaches =
      let n = chunks_of d in
      let last = last_layer n in
      let off = peak_offset last n in
      let supplies = supplies_last d mine theirs claims lacks.count lacks.fine lacks.claimed in
      let leads : Leads d mine (filled n claims) theirs (FromLast d) = record {
        root = d.root;
        root_is = lacks.rooted.root_is;
        agree = lacks.fine.agree;
        given = λ m k j other below on none absent at. supplies.given m k j other below on at;
        on = λ m k j below on none. supplies.on m k j below on;
      } in
      let by_theirs = reaches d mine (filled n claims) theirs (FromLast d) lacks.rooted' leads (height_of d - last) last off
      theirs_last.0 (last_below d lacks.count) theirs_last.1 from_last in
      subst (λ x. Reaches (climb mine (filled n claims) (height_of d - last) last off x)) (sym last_digest_is) by_theirs

  pub claims_settle : settled (chunks_of d) mine claims ≡ Known
  claims_settle =
      let n = chunks_of d in
      let (node, found, end) = climb_reaches in
      let all : first_absent (or_else mine claims) n ≡ None = peaks_known (or_else mine claims) n (λ k low odd.
      let off = peak_offset k n in
      let (x, there) = peak_known theirs n k lacks.theirs_all low odd in
      let claim = lacks.claimed k x (peak_within d k lacks.count odd) odd there in
      elim (option_cases (mine k off)) [
        | inl none ↦ (x, ap (λ o. option_or o (claims k off)) none ∙ claim)
        | inr (y, here) ↦ (y, ap (λ o. option_or o (claims k off)) here)
      ]) in
      ap (λ o. known_or o (missing_or (first_absent (or_else mine claims) n) (settled_of (climb_of_peaks n mine claims)))) lacks.absent_is
      ∙ ap (λ o. missing_or o (settled_of (climb_of_peaks n mine claims))) all
      ∙ ap (λ c. settled_of c) end
      ∙ ap (λ b. cond b Known (Wrong found found)) (same_as_itself found)

  -- what the path of the peaks has, theirs has
  added_is_theirs : (k j : ℕ) (x : List ℕ) → path_of_peaks (chunks_of d) mine claims k j ≡ Some x → theirs k j ≡ Some x
  added_is_theirs k j x at =
      let n = chunks_of d in
      let last = last_layer n in
      let off = peak_offset last n in
      path_agrees d (filled n claims) theirs (FromLast d) lacks.rooted'
      (supplies_last d mine theirs claims lacks.count lacks.fine lacks.claimed)
      (height_of d - last) last off theirs_last.0 k j x (last_below d lacks.count) theirs_last.1 from_last
      (sym (ap (λ y. path (filled n claims) (height_of d - last) last off y k j) last_digest_is) ∙ at)

  -- it has each peak below the root
  peak_added : (k : ℕ) → above k (chunks_of d) % 2 ≡ 1 → k < height_of d
      → (x : List ℕ) × (path_of_peaks (chunks_of d) mine claims k (peak_offset k (chunks_of d)) ≡ Some x)
  peak_added k odd under =
      let n = chunks_of d in
      let last = last_layer n in
      let off = peak_offset last n in
      let count = lacks.count in
      let lowest = last_lowest d k count odd in
      let within = count.within in
      let half : peak_offset k n / 2 ≡ above (k - last) off / 2 = elim (cases_eq k last) [
        | inl e ↦
            let none : 0 ≡ k - last = omega arith in
            ap (λ l. peak_offset l n / 2) e ∙ ap (λ s. above s off / 2) none
        | inr ne ↦
            let steps = past_full n last (k - last) count.last.odd (omega arith) in
            let layer : k - last + last ≡ k = omega arith in
            let spot : above (k - last) off ≡ above k n = steps ∙ ap (λ l. above l n) layer in
            let same : peak_offset k n / 2 ≡ above k n / 2 = omega arith in
            same ∙ ap (λ i. i / 2) (sym spot)
      ] in
      same_there (path_of_peaks n mine claims k (peak_offset k n))
      (path (filled n claims) (height_of d - last) last off theirs_last.0 k (peak_offset k n))
      (ap (λ y. path (filled n claims) (height_of d - last) last off y k (peak_offset k n)) last_digest_is)
      (path_there d (filled n claims) theirs (FromLast d) lacks.rooted'
      (supplies_last d mine theirs claims lacks.count lacks.fine lacks.claimed)
      (height_of d - last) last off theirs_last.0 k (peak_offset k n) (last_below d lacks.count) theirs_last.1 from_last
      lowest (omega arith) half)

  pub peaked_by_claims : (peaked : LookUp) → AddsPath (path_of_peaks (chunks_of d) mine claims) mine peaked → IsPeaked d mine theirs peaked
  peaked_by_claims peaked added = record {
    keeps = kept;
    agree = λ n k j x y below at at'. elim (option_cases (mine k j)) [
      | inr (z, here) ↦ some_same x z (peaked k j) at (kept k j z here) ∙ lacks.fine.agree n k j z y below here at'
      | inl none ↦ some_same x y (theirs k j) (added_is_theirs k j x (sym (new k j none) ∙ at)) at'
    ];
    all = peaks_known peaked (chunks_of d) (λ k low odd. elim (option_cases (mine k (peak_offset k (chunks_of d)))) [
      | inr (x, here) ↦ (x, kept k (peak_offset k (chunks_of d)) x here)
      | inl none ↦
          let (x, there) = peak_added k odd (under_root d mine k lacks.rooted lacks.count odd none) in
          (x, new k (peak_offset k (chunks_of d)) none ∙ there)
    ]);
  }
    where
      kept : (k j : ℕ) (x : List ℕ) → mine k j ≡ Some x → peaked k j ≡ Some x
      kept k j x at = added k j ∙ ap (λ o. option_or o (path_of_peaks (chunks_of d) mine claims k j)) at

      new : (k j : ℕ) → mine k j ≡ None → peaked k j ≡ path_of_peaks (chunks_of d) mine claims k j
      new k j none = added k j ∙ ap (λ o. option_or o (path_of_peaks (chunks_of d) mine claims k j)) none
