-- What a peer sends with a chunk is enough for its receiver.
use Rattle.std.proofs.Common.{◌≡◌, ⊎_elim, ℕ, zero, suc, ◌+◌, ◌-◌, ◌*◌, ◌/◌, ◌%◌, ◌^◌, ◌≤◌, ◌<◌, ◌==◌, Bool, true, false, cond, not, ◌&&◌, ◌||◌, Option, Some, None, List, ◌∷◌, ◌++◌, refl, sym, ◌∙◌, ap, subst, inl, inr, arith, nat_lt}
use Rattle.std.specs.Prelude.{IfSome, is_some, option_and_then}
use Rattle.std.specs.List.{list_all}
use Rattle.std.proofs.lemmas.Bool.{cases_eq, cases_lt, and_parts, or_cases, false≢true, both_ways}
use Rattle.std.proofs.lemmas.Bool.Decides.{nat_tests}
use Rattle.std.proofs.lemmas.Nat.{pow_pos}
use Rattle.std.proofs.Math.Nat.{mul-le-mul_left}
use Rattle.sha2.specs.Sha256.{sha256}
use Rattle.pp_terms.specs.tree.Tree.{Node, above, empty_hash, peaks, peaks_below, is_peak}
use Rattle.pp_terms.specs.tree.Book.{LookUp, IsRooted}
use Rattle.pp_terms.specs.tree.Bins.{sibling, parent_of, sibling_of}
use Rattle.pp_terms.specs.format.Descriptor.{Descriptor, chunks_of, height_of, IsDescriptor}
use Rattle.pp_terms.specs.tree.Proves.{joined, climbed, filled, first_absent, last_layer, peak_offset, Proves}
use Rattle.pp_terms.proofs.Heights.{height_is}
use Rattle.pp_terms.proofs.Nodes.{hung}
use Rattle.pp_terms.proofs.Peaks.{above_is, peak_found}
use Rattle.pp_tree.proofs.Rootedness.{some_same}
use Rattle.pp_traffic.specs.Hashes.{completes_from}
use Rattle.pp_paths.specs.declared.climbing.Climb.TheVariants.{Reached}
use Rattle.pp_paths.specs.declared.settling.Settled.TheVariants.{Known}
use Rattle.pp_paths.specs.declared.judging.Verdict.TheVariants.{Fits}
use Rattle.pp_paths.specs.Climb.{node_at, or_else, climb, AddsPath}
use Rattle.pp_paths.specs.Judge.{judged}
use Rattle.pp_paths.specs.Settle.{settled, last_digest, path_of_peaks}
use Rattle.pp_paths.specs.Datagram.{IsSent, SentIsEnough}
use Rattle.pp_paths.proofs.Climbs.{climb_ends, climb_on}
use Rattle.pp_paths.proofs.Growth.{option_cases, even_sibling, odd_sibling, sibling_absent, path_adds_nothing}
use Rattle.pp_paths.proofs.PeakNodes.{peak_known, peaks_known}
use Rattle.pp_paths.proofs.Followed.{Follows, HasNoOther}
use Rattle.pp_paths.proofs.SettledPeaks.{settled_known}
use Rattle.pp_paths.proofs.Verdicts.{as_fits}
use Rattle.pp_tree.proofs.Halving.{above_half}
use Rattle.pp_paths.proofs.ProvenChunks.{Reaches, Counted, counted, last_there, past_full, covered, followed_is_settled, followed_fits}

abbrev at_node : ℕ → ℕ → Node
at_node k j = record { layer = k; offset = j }

-- What all peaks pass, the peak of a layer passes.
rest_passes : (p : Node → Bool) (b : Bool) (x : Node) (xs : List Node) → list_all p (cond b (x ∷ xs) xs) ≡ true → list_all p xs ≡ true
rest_passes p true x xs all = (and_parts (p x) (list_all p xs) all).1
rest_passes p false x xs all = all

peak_passes : (p : Node → Bool) (layers n k : ℕ) → list_all p (peaks_below layers n) ≡ true → k < layers → above k n % 2 ≡ 1
    → p (at_node k (peak_offset k n)) ≡ true
peak_passes p zero n k all low odd = absurd (omega arith)
peak_passes p (suc layers) n k all low odd = elim (cases_eq k layers) [
  | inl e ↦
      let here : above layers n % 2 ≡ 1 = ap (λ (l : ℕ). above l n % 2) (sym e) ∙ odd in
      let test : (above layers n % 2 == 1) ≡ true = grind (arith, nat_tests) in
      let both = sym (ap (λ b. list_all p (cond b (at_node layers (peak_offset layers n) ∷ peaks_below layers n) (peaks_below layers n))) test) ∙ all in
      ap (λ (l : ℕ). p (at_node l (peak_offset l n))) e
      ∙ (and_parts (p (at_node layers (peak_offset layers n))) (list_all p (peaks_below layers n)) both).0
  | inr ne ↦
      peak_passes p layers n k
      (rest_passes p (above layers n % 2 == 1) (at_node layers (peak_offset layers n)) (peaks_below layers n) all) (omega arith) odd
]

even_test : (j : ℕ) → j % 2 ≡ 0 → (j % 2 == 0) ≡ true
even_test j even = grind (arith, nat_tests)

odd_test : (j : ℕ) → (j % 2 ≡ 0 → ⊥) → (j % 2 == 0) ≡ false
odd_test j odd = grind (arith, nat_tests)

under_test : (a b : ℕ) → a < b → nat_lt a b ≡ true
under_test a b lt = grind (arith, nat_tests)

past_test : (a b : ℕ) → b ≤ a → nat_lt a b ≡ false
past_test a b le = grind (arith, nat_tests)

twice : (a l : ℕ) → a * 2 ^ suc l ≡ 2 * a * 2 ^ l
twice a l = grind arith

-- A number of zero bits at its end: what they leave, doubled as often, is the number.
ends_in_zeros : (n l : ℕ) → ((k : ℕ) → k < l → above k n % 2 ≡ 0) → above l n * 2 ^ l ≡ n
ends_in_zeros n zero even = omega arith
ends_in_zeros n (suc l) even =
    let rest = ends_in_zeros n l (λ k lt. even k (omega arith)) in
    let half : above l n ≡ 2 * (above l n / 2) = (let e = even l (omega arith) in omega arith) in
    let both = twice (above l n / 2) l in
    both ∙ ap (λ (m : ℕ). m * 2 ^ l) (sym half) ∙ rest

-- One that ends in a bit is more than what the higher layers leave of it.
more_than_above : (n k l : ℕ) → above k n % 2 ≡ 1 → k < l → above l n * 2 ^ l < n
more_than_above n k zero odd lt = absurd (omega arith)
more_than_above n k (suc l) odd lt = elim (cases_eq k l) [
  | inl e ↦
      let here : above l n % 2 ≡ 1 = ap (λ (m : ℕ). above m n % 2) (sym e) ∙ odd in
      let less : 2 * (above l n / 2) + 1 ≡ above l n = omega arith in
      let both = twice (above l n / 2) l in
      let sum : (2 * (above l n / 2) + 1) * 2 ^ l ≡ 2 * (above l n / 2) * 2 ^ l + 2 ^ l = grind arith in
      let same : (2 * (above l n / 2) + 1) * 2 ^ l ≡ above l n * 2 ^ l = ap (λ (m : ℕ). m * 2 ^ l) less in
      let some : 0 < 2 ^ l = pow_pos l in
      let down = down l in
      omega arith
  | inr ne ↦
      let lower = more_than_above n k l odd (omega arith) in
      let both = twice (above l n / 2) l in
      let half : 2 * (above l n / 2) ≤ above l n = omega arith in
      let times = mul-le-mul_left (2 ^ l) half in
      omega arith
]
  where
    down : (l : ℕ) → above l n * 2 ^ l ≤ n
    down l = (let e = above_is l n in let one : 0 < 2 ^ l = pow_pos l in let low : n / 2 ^ l * 2 ^ l ≤ n = omega arith in
        subst (λ (m : ℕ). m * 2 ^ l ≤ n) (sym e) low)

module _ (d : Descriptor) (receiver sender claims : LookUp) (sent told : Node → Bool) (i : ℕ) (bytes : List ℕ) (is : IsDescriptor d)
    (within : i < chunks_of d) (s : IsSent d receiver sender claims sent told i bytes) where
  count : Counted d
  count = counted d is

  -- the sender has the sibling of a node below the root, and their parent
  risen : (n k j : ℕ) (x : List ℕ) → k + suc n ≡ height_of d → sender k j ≡ Some x
      → (y : List ℕ) × (sender k (sibling j) ≡ Some y) × (sender (suc k) (j / 2) ≡ Some (sha256 (joined j x y)))
  risen n k j x low at =
      let (a, b, pair) = hung d sender k n j x s.sends low at in
      elim (cases_eq (j % 2) 0) [
        | inl even ↦
            let here : j ≡ 2 * (j / 2) = omega arith in
            let next : j + 1 ≡ 2 * (j / 2) + 1 = omega arith in
            let same = some_same a x (sender k j) (ap (λ m. sender k m) here ∙ pair.left_is) at in
            let test = even_test j even in (
              b,
              ap (λ m. sender k m) (even_sibling j even ∙ next) ∙ pair.right_is,
              pair.joined ∙ ap (λ y. Some (sha256 (y ++ b))) same ∙ sym (ap (λ c. Some (sha256 (cond c (x ++ b) (b ++ x)))) test),
            )
        | inr odd ↦
            let here : j ≡ 2 * (j / 2) + 1 = omega arith in
            let before : j - 1 ≡ 2 * (j / 2) = omega arith in
            let same = some_same b x (sender k j) (ap (λ m. sender k m) here ∙ pair.right_is) at in
            let test = odd_test j odd in (
              a,
              ap (λ m. sender k m) (odd_sibling j odd ∙ before) ∙ pair.left_is,
              pair.joined ∙ ap (λ y. Some (sha256 (a ++ y))) same ∙ sym (ap (λ c. Some (sha256 (cond c (x ++ a) (a ++ x)))) test),
            )
      ]

  -- at a node of the sender's the receiver has no other digest
  kept : (k j : ℕ) (x : List ℕ) → sender k j ≡ Some x → IfSome (receiver k j) (λ y. y ≡ x)
  kept k j x at = elim (option_cases (receiver k j)) [
    | inl none ↦ subst (λ o. IfSome o (λ y. y ≡ x)) (sym none) tt
    | inr (y, here) ↦ subst (λ o. IfSome o (λ z. z ≡ x)) (sym here) (s.agree k j y x here at)
  ]

  -- what was claimed of a node that was sent is the sender's
  claimed_is : (n : Node) (y : List ℕ) → sent n ≡ true → sender n.layer n.offset ≡ Some y → claims n.layer n.offset ≡ Some y
  claimed_is n y is_sent at =
      let (x, claim, own) = s.claimed n is_sent in
      claim ∙ ap (λ z. Some z) (some_same x y (sender n.layer n.offset) own at)

  -- ---- who has all peaks

  told_there : (n : Node) → told n ≡ true → receiver n.layer n.offset ≡ None → ⊥
  told_there n is_told none = false≢true (sym (ap (λ o. is_some o) none) ∙ s.has n is_told)

  some_there : (o : Option (List ℕ)) → is_some o ≡ true → (x : List ℕ) × (o ≡ Some x)
  some_there None e = absurd (false≢true e)
  some_there (Some x) e = (x, refl)

  all_there : list_all told (peaks (chunks_of d)) ≡ true → first_absent receiver (chunks_of d) ≡ None
  all_there all = peaks_known receiver (chunks_of d) (λ k low odd.
      some_there (receiver k (peak_offset k (chunks_of d))) (s.has (at_node k (peak_offset k (chunks_of d))) (peak_passes told 21 (chunks_of d) k all low odd)))

  peak_there : first_absent receiver (chunks_of d) ≡ None → (k j : ℕ) → is_peak (chunks_of d) (at_node k j) ≡ true → receiver k j ≡ None → ⊥
  peak_there all k j peak none =
      let found = peak_found (chunks_of d) (at_node k j) peak in
      let odd : above k (chunks_of d) % 2 ≡ 1 = omega (arith, found.1, found.2) in
      let (x, there) = peak_known receiver (chunks_of d) k all found.0 odd in
      let here : peak_offset k (chunks_of d) ≡ j = omega (arith, found.2) in
      let at : receiver k j ≡ Some x = ap (λ m. receiver k m) (sym here) ∙ there in
      cc

  step_on : (m k j : ℕ) → m + k ≡ height_of d → completes_from m (chunks_of d) sent told (parent_of (at_node k j)) ≡ true
      → completes_from m (chunks_of d) sent told (at_node (suc k) (j / 2)) ≡ true
  step_on m k j sum on =
      let up : k + 1 ≡ suc k = omega arith in
      subst (λ (l : ℕ). completes_from m (chunks_of d) sent told (at_node l (j / 2)) ≡ true) up on

  -- what is said of a way that isn't at its end
  goes_on : (m k j : ℕ) → (not (is_peak (chunks_of d) (at_node k j)) && (sent (sibling_of (at_node k j)) || told (sibling_of (at_node k j)))
      && completes_from m (chunks_of d) sent told (parent_of (at_node k j))) ≡ true
      → ((sent (at_node k (sibling j)) || told (at_node k (sibling j))) ≡ true)
      × (completes_from m (chunks_of d) sent told (parent_of (at_node k j)) ≡ true)
  goes_on m k j on =
      let outer = and_parts (not (is_peak (chunks_of d) (at_node k j)) && (sent (sibling_of (at_node k j)) || told (sibling_of (at_node k j))))
      (completes_from m (chunks_of d) sent told (parent_of (at_node k j))) on in
      ((and_parts (not (is_peak (chunks_of d) (at_node k j))) (sent (sibling_of (at_node k j)) || told (sibling_of (at_node k j))) outer.0).1, outer.1)

  -- who has all peaks has a node on the way, and the climb reaches it
  reaches_known : first_absent receiver (chunks_of d) ≡ None → (m n k j : ℕ) (x : List ℕ) → m + k ≡ height_of d + 1 → k + n ≡ height_of d
      → sender k j ≡ Some x → completes_from m (chunks_of d) sent told (at_node k j) ≡ true → Reaches (climb receiver claims n k j x)
  reaches_known all zero n k j x sum high at path = absurd (false≢true path)
  reaches_known all (suc m) n k j x sum high at path = elim (option_cases (receiver k j)) [
    | inr (y, here) ↦
        (node_at k j, x, climb_ends receiver claims n k j x y here ∙ ap (λ z. Reached (node_at k j) x z) (s.agree k j y x here at))
    | inl none ↦ ⊎_elim
        (λ first. ⊎_elim
        (λ is_told. absurd (told_there (at_node k j) is_told none))
        (λ peak. absurd (peak_there all k j (and_parts (is_peak (chunks_of d) (at_node k j)) (list_all (λ p. sent p || told p) (peaks (chunks_of d))) peak).0 none))
        (or_cases (told (at_node k j)) (is_peak (chunks_of d) (at_node k j) && list_all (λ p. sent p || told p) (peaks (chunks_of d))) first))
        (λ up. climbs_on n high (goes_on m k j up) none
        (λ n' y sum' high' over on. reaches_known all m n' (suc k) (j / 2) (sha256 (joined j x y)) sum' high' over on))
        (or_cases (told (at_node k j) || (is_peak (chunks_of d) (at_node k j) && list_all (λ p. sent p || told p) (peaks (chunks_of d))))
        (not (is_peak (chunks_of d) (at_node k j)) && (sent (sibling_of (at_node k j)) || told (sibling_of (at_node k j)))
        && completes_from m (chunks_of d) sent told (parent_of (at_node k j))) path)
  ]
    where
      climbs_on : (n : ℕ) → k + n ≡ height_of d → ((sent (at_node k (sibling j)) || told (at_node k (sibling j))) ≡ true)
          × (completes_from m (chunks_of d) sent told (parent_of (at_node k j)) ≡ true) → receiver k j ≡ None
          → ((n' : ℕ) (y : List ℕ) → m + suc k ≡ height_of d + 1 → suc k + n' ≡ height_of d → sender (suc k) (j / 2) ≡ Some (sha256 (joined j x y))
          → completes_from m (chunks_of d) sent told (at_node (suc k) (j / 2)) ≡ true → Reaches (climb receiver claims n' (suc k) (j / 2) (sha256 (joined j x y))))
          → Reaches (climb receiver claims n k j x)
      climbs_on zero high on none more =
          let last : m ≡ 0 = omega arith in
          absurd (false≢true (ap (λ (l : ℕ). completes_from l (chunks_of d) sent told (parent_of (at_node k j))) (sym last) ∙ on.1))
      climbs_on (suc n) high on none more =
          let (y, beside, up) = risen n k j x high at in
          let absent = sibling_absent d receiver k n j s.receives high none in
          let is_sent : sent (at_node k (sibling j)) ≡ true = ⊎_elim (λ e. e) (λ is_told. absurd (told_there (at_node k (sibling j)) is_told absent))
          (or_cases (sent (at_node k (sibling j))) (told (at_node k (sibling j))) on.0) in
          let claim = claimed_is (at_node k (sibling j)) y is_sent beside in
          let either : or_else receiver claims k (sibling j) ≡ Some y = rw absent claim in
          let (node, found, reaches) = more n y (omega arith) (omega arith) up (step_on m k j (omega arith) on.1) in
          (node, found, climb_on receiver claims n k j x y none either ∙ reaches)

  fits_known : first_absent receiver (chunks_of d) ≡ None → judged d receiver claims i bytes ≡ Fits
  fits_known all =
      let reached = reaches_known all (height_of d + 1) (height_of d) 0 i (sha256 bytes) (omega arith) (omega arith) s.leaf s.path in
      as_fits d receiver claims i bytes (record { whole = s.whole; peaks_known = all; at = reached.0; digest = reached.1; reaches = reached.2 })

  same_peaked : (peaked : LookUp) → first_absent receiver (chunks_of d) ≡ None → AddsPath (path_of_peaks (chunks_of d) receiver claims) receiver peaked
      → peaked ≡ receiver
  same_peaked peaked all added =
      let last = last_layer (chunks_of d) in
      let (x, there) = last_there d receiver count all in
      let low = count.within in
      λ t k j. (added k j ∙ path_adds_nothing d receiver (filled (chunks_of d) claims) (height_of d - last) last (peak_offset last (chunks_of d))
      (last_digest (chunks_of d) receiver claims) x k j s.receives (omega arith) there) t

  -- ---- who has nothing

  -- The way from a node up to its peak: the claims climb it, and the receiver has no other digest on it.
  record Climbs (top k j : ℕ) (x : List ℕ) : Type 0 where
    up : ℕ
    top_is : top ≡ k + up
    peak : is_peak (chunks_of d) (at_node top (above up j)) ≡ true
    all : list_all (λ p. sent p || told p) (peaks (chunks_of d)) ≡ true
    end : List ℕ
    climbs : climbed claims up k j x ≡ Some end
    own : sender top (above up j) ≡ Some end
    follows : Follows receiver claims up k j x

  sent_alone : ((n : Node) → told n ≡ false) → (n : Node) → (sent n || told n) ≡ true → sent n ≡ true
  sent_alone none n either = ⊎_elim (λ e. e) (λ is_told. absurd (both_ways (told n) (none n) is_told)) (or_cases (sent n) (told n) either)

  climbs_up : ((n : Node) → told n ≡ false) → (m n k j : ℕ) (x : List ℕ) → m + k ≡ height_of d + 1 → k + n ≡ height_of d
      → sender k j ≡ Some x → completes_from m (chunks_of d) sent told (at_node k j) ≡ true → (top : ℕ) × Climbs top k j x
  climbs_up none zero n k j x sum high at path = absurd (false≢true path)
  climbs_up none (suc m) n k j x sum high at path = ⊎_elim
      (λ first. ⊎_elim
      (λ is_told. absurd (both_ways (told (at_node k j)) (none (at_node k j)) is_told))
      (λ peak. let parts = and_parts (is_peak (chunks_of d) (at_node k j)) (list_all (λ p. sent p || told p) (peaks (chunks_of d))) peak in (
        k,
        record {
          up = 0;
          top_is = omega arith;
          peak = parts.0;
          all = parts.1;
          end = x;
          climbs = refl;
          own = at;
          follows = kept k j x at;
        },
      ))
      (or_cases (told (at_node k j)) (is_peak (chunks_of d) (at_node k j) && list_all (λ p. sent p || told p) (peaks (chunks_of d))) first))
      (λ up. climbs_on n high (goes_on m k j up)
      (λ n' y sum' high' over on. climbs_up none m n' (suc k) (j / 2) (sha256 (joined j x y)) sum' high' over on))
      (or_cases (told (at_node k j) || (is_peak (chunks_of d) (at_node k j) && list_all (λ p. sent p || told p) (peaks (chunks_of d))))
      (not (is_peak (chunks_of d) (at_node k j)) && (sent (sibling_of (at_node k j)) || told (sibling_of (at_node k j)))
      && completes_from m (chunks_of d) sent told (parent_of (at_node k j))) path)
    where
      climbs_on : (n : ℕ) → k + n ≡ height_of d → ((sent (at_node k (sibling j)) || told (at_node k (sibling j))) ≡ true)
          × (completes_from m (chunks_of d) sent told (parent_of (at_node k j)) ≡ true)
          → ((n' : ℕ) (y : List ℕ) → m + suc k ≡ height_of d + 1 → suc k + n' ≡ height_of d → sender (suc k) (j / 2) ≡ Some (sha256 (joined j x y))
          → completes_from m (chunks_of d) sent told (at_node (suc k) (j / 2)) ≡ true → (top : ℕ) × Climbs top (suc k) (j / 2) (sha256 (joined j x y)))
          → (top : ℕ) × Climbs top k j x
      climbs_on zero high on more =
          let last : m ≡ 0 = omega arith in
          absurd (false≢true (ap (λ (l : ℕ). completes_from l (chunks_of d) sent told (parent_of (at_node k j))) (sym last) ∙ on.1))
      climbs_on (suc n) high on more =
          let (y, beside, up) = risen n k j x high at in
          let claim = claimed_is (at_node k (sibling j)) y (sent_alone none (at_node k (sibling j)) on.0) beside in
          let (top, rest) = more n y (omega arith) (omega arith) up (step_on m k j (omega arith) on.1) in
          let half = above_half rest.up j in (
            top,
            record {
              up = suc rest.up;
              top_is = omega (arith, rest.top_is);
              peak = ap (λ o. is_peak (chunks_of d) (at_node top o)) (sym half) ∙ rest.peak;
              all = rest.all;
              end = rest.end;
              climbs = rw claim rest.climbs;
              own = ap (λ o. sender top o) (sym half) ∙ rest.own;
              follows = (
                kept k j x at,
                λ other is_other. subst (λ z. Follows receiver claims rest.up (suc k) (j / 2) (sha256 (joined j x z)))
                    (some_same y other (claims k (sibling j)) claim is_other) rest.follows,
              );
            },
          )

  -- the peak of a layer was sent
  peak_sent : ((n : Node) → told n ≡ false) → list_all (λ p. sent p || told p) (peaks (chunks_of d)) ≡ true → (k : ℕ) → k < 21
      → above k (chunks_of d) % 2 ≡ 1
      → (x : List ℕ) × (claims k (peak_offset k (chunks_of d)) ≡ Some x) × (sender k (peak_offset k (chunks_of d)) ≡ Some x)
  peak_sent none all k low odd =
      let n = at_node k (peak_offset k (chunks_of d)) in
      s.claimed n (sent_alone none n (peak_passes (λ p. sent p || told p) 21 (chunks_of d) k all low odd))

  low_layer : (l : ℕ) → l ≤ height_of d → l < 21
  low_layer l le =
      let tall = height_is (chunks_of d) count.some count.most in
      elim (cases_lt 20 (height_of d)) [
        | inl gt ↦ (let big : 2 ^ 20 < chunks_of d = tall.least 20 gt in let most = count.most in absurd (omega arith))
        | inr within ↦ omega arith
      ]

  abbrev last : ℕ
  last = last_layer (chunks_of d)

  abbrev off : ℕ
  off = peak_offset last (chunks_of d)

  -- a node that covers no chunk has the empty hash
  filled_with : (l j : ℕ) (y : List ℕ) → sender l j ≡ Some y → chunks_of d ≤ j * 2 ^ l → j / 2 * 2 ^ suc l < chunks_of d
      → filled (chunks_of d) claims l j ≡ Some y
  filled_with l j y at past parent =
      let test = past_test (j * 2 ^ l) (chunks_of d) past in
      ap (λ b. cond b (claims l j) (Some empty_hash)) test ∙ ap (λ x. Some x) (sym (s.empty l j y at past parent))

  -- one that covers a chunk has what is claimed
  filled_by : (l j : ℕ) (y : List ℕ) → claims l j ≡ Some y → j * 2 ^ l < chunks_of d → filled (chunks_of d) claims l j ≡ Some y
  filled_by l j y at under =
      let test = under_test (j * 2 ^ l) (chunks_of d) under in
      ap (λ b. cond b (claims l j) (Some empty_hash)) test ∙ at

  -- the sibling of a node on the way from the last peak is a peak, or covers no chunk
  beside_last : (y : List ℕ) → sender last (sibling off) ≡ Some y → filled (chunks_of d) claims last (sibling off) ≡ Some y
  beside_last y at =
      let odd = count.last.odd in
      let even : off % 2 ≡ 0 = omega arith in
      let next : sibling off ≡ above last (chunks_of d) = even_sibling off even ∙ omega arith in
      let half : above last (chunks_of d) / 2 ≡ off / 2 = omega arith in
      let whole = ends_in_zeros (chunks_of d) last count.last.lower in
      let under = covered (chunks_of d) last (omega arith) in
      let both = twice (off / 2) last in
      let same : 2 * (off / 2) ≡ off = omega arith in
      let parent : off / 2 * 2 ^ suc last < chunks_of d = subst (λ (m : ℕ). m < chunks_of d) (sym (both ∙ ap (λ (m : ℕ). m * 2 ^ last) same)) under in
      ap (λ j. filled (chunks_of d) claims last j) next
      ∙ filled_with last (above last (chunks_of d)) y (ap (λ j. sender last j) (sym next) ∙ at) (omega (arith, whole))
      (subst (λ (m : ℕ). m * 2 ^ suc last < chunks_of d) (sym half) parent)

  beside_later : ((n : Node) → told n ≡ false) → list_all (λ p. sent p || told p) (peaks (chunks_of d)) ≡ true → (l : ℕ) (y : List ℕ) → last < l
      → l ≤ height_of d → sender l (sibling (above l (chunks_of d))) ≡ Some y
      → filled (chunks_of d) claims l (sibling (above l (chunks_of d))) ≡ Some y
  beside_later none all l y past le at = elim (cases_eq (above l (chunks_of d) % 2) 0) [
    | inl even ↦
        let next = even_sibling (above l (chunks_of d)) even in
        let over : chunks_of d ≤ (above l (chunks_of d) + 1) * 2 ^ l = beyond l in
        let half : (above l (chunks_of d) + 1) / 2 ≡ above l (chunks_of d) / 2 = omega arith in
        let both = twice (above l (chunks_of d) / 2) l in
        let same : 2 * (above l (chunks_of d) / 2) ≡ above l (chunks_of d) = omega arith in
        let less = more_than_above (chunks_of d) last l count.last.odd past in
        let parent : above l (chunks_of d) / 2 * 2 ^ suc l < chunks_of d =
        subst (λ (m : ℕ). m < chunks_of d) (sym (both ∙ ap (λ (m : ℕ). m * 2 ^ l) same)) less in
        ap (λ j. filled (chunks_of d) claims l j) next
        ∙ filled_with l (above l (chunks_of d) + 1) y (ap (λ j. sender l j) (sym next) ∙ at) over
        (subst (λ (m : ℕ). m * 2 ^ suc l < chunks_of d) (sym half) parent)
    | inr odd ↦
        let one : above l (chunks_of d) % 2 ≡ 1 = omega arith in
        let before = odd_sibling (above l (chunks_of d)) odd in
        let (x, claim, own) = peak_sent none all l (low_layer l le) one in
        let same = some_same x y (sender l (peak_offset l (chunks_of d))) own (ap (λ j. sender l j) (sym before) ∙ at) in
        ap (λ j. filled (chunks_of d) claims l j) before
        ∙ filled_by l (peak_offset l (chunks_of d)) y (claim ∙ ap (λ z. Some z) same) (covered (chunks_of d) l (omega arith))
  ]
    where
      beyond : (l : ℕ) → chunks_of d ≤ (above l (chunks_of d) + 1) * 2 ^ l
      beyond l =
          let e = above_is l (chunks_of d) in
          let one : 0 < 2 ^ l = pow_pos l in
          let less : chunks_of d < chunks_of d / 2 ^ l * 2 ^ l + 2 ^ l = omega arith in
          let sum : (above l (chunks_of d) + 1) * 2 ^ l ≡ chunks_of d / 2 ^ l * 2 ^ l + 2 ^ l = ap (λ (q : ℕ). (q + 1) * 2 ^ l) e ∙ grind arith in
          omega (arith, less, sum)

  -- the sibling on the way, so many layers above the last peak
  beside_on : ((n : Node) → told n ≡ false) → list_all (λ p. sent p || told p) (peaks (chunks_of d)) ≡ true → (up l : ℕ) (y : List ℕ) → l ≡ last + up
      → l ≤ height_of d → sender l (sibling (above up off)) ≡ Some y → filled (chunks_of d) claims l (sibling (above up off)) ≡ Some y
  beside_on none all zero l y layer le at =
      let here : l ≡ last = omega arith in
      ap (λ k. filled (chunks_of d) claims k (sibling off)) here ∙ beside_last y (ap (λ k. sender k (sibling off)) (sym here) ∙ at)
  beside_on none all (suc up) l y layer le at =
      let sum : suc up + last ≡ l = omega arith in
      let here : above (suc up) off ≡ above l (chunks_of d) =
      past_full (chunks_of d) last (suc up) count.last.odd (omega arith) ∙ ap (λ k. above k (chunks_of d)) sum in
      ap (λ o. filled (chunks_of d) claims l (sibling o)) here
      ∙ beside_later none all l y (omega arith) le (ap (λ o. sender l (sibling o)) (sym here) ∙ at)

  -- from the last peak the claims lead to the root, and the receiver has no other digest on the way
  rises : ((n : Node) → told n ≡ false) → list_all (λ p. sent p || told p) (peaks (chunks_of d)) ≡ true → (n up l : ℕ) (x : List ℕ) → l ≡ last + up
      → l + n ≡ height_of d → sender l (above up off) ≡ Some x
      → (climbed (filled (chunks_of d) claims) n l (above up off) x ≡ Some d.root) × Follows receiver (filled (chunks_of d) claims) n l (above up off) x
  rises none all zero up l x layer high at =
      let top : up ≡ height_of d - last = omega arith in
      let root : above up off ≡ 0 = ap (λ m. above m off) top ∙ count.halved in
      let here : sender l (above up off) ≡ Some d.root =
      ap (λ o. sender l o) root ∙ ap (λ k. sender k 0) (let e : l ≡ height_of d = omega arith in e) ∙ s.sends.root_is in
      (ap (λ z. Some z) (some_same x d.root (sender l (above up off)) at here), kept l (above up off) x at)
  rises none all (suc n) up l x layer high at =
      let (y, beside, over) = risen n l (above up off) x high at in
      let claim = beside_on none all up l y layer (omega arith) beside in
      let rest = rises none all n (suc up) (suc l) (sha256 (joined (above up off) x y)) (omega arith) (omega arith) over in (
        rw claim rest.0,
        (
          kept l (above up off) x at,
          λ other is_other. subst (λ z. Follows receiver (filled (chunks_of d) claims) n (suc l) (above up off / 2) (sha256 (joined (above up off) x z)))
              (some_same y other (filled (chunks_of d) claims l (sibling (above up off))) claim is_other) rest.1,
        ),
      )

  -- so the claims prove the chunk, and the receiver contradicts none of their climbs
  way : ((n : Node) → told n ≡ false) → (top : ℕ) × Climbs top 0 i (sha256 bytes)
  way none = climbs_up none (height_of d + 1) (height_of d) 0 i (sha256 bytes) (omega arith) (omega arith) s.leaf s.path

  last_sent : ((n : Node) → told n ≡ false) → (x : List ℕ) × (claims last off ≡ Some x) × (sender last off ≡ Some x)
  last_sent none = let low = count.within in peak_sent none (way none).1.all last (low_layer last low) count.last.odd

  root_way : (none : (n : Node) → told n ≡ false)
      → (climbed (filled (chunks_of d) claims) (height_of d - last) last off (last_sent none).0 ≡ Some d.root)
      × Follows receiver (filled (chunks_of d) claims) (height_of d - last) last off (last_sent none).0
  root_way none =
      let low = count.within in
      rises none (way none).1.all (height_of d - last) 0 last (last_sent none).0 (omega arith) (omega arith) (last_sent none).2

  proof : ((n : Node) → told n ≡ false) → Proves d claims i bytes
  proof none =
      let (top, climb') = way none in
      let found = peak_found (chunks_of d) (at_node top (above climb'.up i)) climb'.peak in
      let here : top ≡ climb'.up = omega (arith, climb'.top_is) in
      let offset : above top i ≡ above climb'.up i = ap (λ m. above m i) here in
      let odd : above top (chunks_of d) % 2 ≡ 1 = omega (arith, found.1, found.2) in
      let peak = peak_sent none climb'.all top found.0 odd in
      let at : peak_offset top (chunks_of d) ≡ above climb'.up i = omega (arith, found.2) in
      let same = some_same peak.0 climb'.end (sender top (peak_offset top (chunks_of d))) peak.2 (ap (λ o. sender top o) at ∙ climb'.own) in
      record {
        whole = s.whole;
        digests = s.digests;
        peaks_known = peaks_known claims (chunks_of d) (λ k low odd. let (x, claim, _) = peak_sent none climb'.all k low odd in (x, claim));
        top = top;
        has_peak = odd;
        below_it = offset ∙ sym at;
        to_peak = ap (λ m. climbed claims m 0 i (sha256 bytes)) here ∙ climb'.climbs ∙ ap (λ z. Some z) (sym same) ∙ sym peak.1;
        to_root = ap (λ o. option_and_then (climbed (filled (chunks_of d) claims) (height_of d - last) last off) o) (last_sent none).1 ∙ (root_way none).0;
      }

  no_other : (none : (n : Node) → told n ≡ false) → HasNoOther d receiver claims i bytes (proof none)
  unfolding proof way
  no_other none =
      let (top, climb') = way none in
      let here : climb'.up ≡ top = omega (arith, climb'.top_is) in
      record {
        to_peak = subst (λ m. Follows receiver claims m 0 i (sha256 bytes)) here climb'.follows;
        to_root = λ digest at. subst (λ z. Follows receiver (filled (chunks_of d) claims) (height_of d - last) last off z)
            (some_same (last_sent none).0 digest (claims last off) (last_sent none).1 at) (root_way none).1;
      }

  pub sent_settled : settled (chunks_of d) receiver claims ≡ Known
  sent_settled = ⊎_elim
      (λ all. sym (settled_known (chunks_of d) receiver claims (all_there all)))
      (λ none. followed_is_settled d receiver claims i bytes (proof none) is s.receives (no_other none))
      s.all_or_none

  pub sent_fits : (peaked : LookUp) → AddsPath (path_of_peaks (chunks_of d) receiver claims) receiver peaked → IsRooted d peaked
      → judged d peaked claims i bytes ≡ Fits
  sent_fits peaked added rooted = ⊎_elim
      (λ all. ap (λ (b : LookUp). judged d b claims i bytes) (same_peaked peaked (all_there all) added) ∙ fits_known (all_there all))
      (λ none. followed_fits d receiver peaked claims i bytes (proof none) is s.receives (no_other none) added rooted)
      s.all_or_none

pub sent_is_enough : SentIsEnough
sent_is_enough = record {
  settled_by = λ d receiver sender claims sent told i bytes is within s. sent_settled d receiver sender claims sent told i bytes is within s;
  fits = λ d receiver peaked sender claims sent told i bytes is within s added rooted.
      sent_fits d receiver sender claims sent told i bytes is within s peaked added rooted;
}
