-- Peaks: where they stand in their layer, and that they are the full nodes whose parent isn't full.
use Rattle.std.proofs.Common.{◌≡◌, ◌⊎◌, inl, inr, ⊎_elim, ℕ, zero, suc, ◌+◌, ◌-◌, ◌*◌, ◌/◌, ◌%◌, ◌^◌, ◌<◌, ◌≤◌, eqb, Bool, true, false, cond, not, ◌&&◌, List, ◌∷◌, refl, sym, ◌∙◌, ap, subst, arith, add-one}
use Rattle.std.proofs.Math.Nat.{div-div-eq-div-mul, le-div_iff_mul-le}
use Rattle.std.proofs.lemmas.Nat.{pow_pos}
use Rattle.std.proofs.Math.Pow.{pow_mono}
use Rattle.std.proofs.lemmas.Bool.{and_parts, and_from, or_cases, or_left, or_right, not-true, not_from_false, cases_Bool, cases_eq, cases_lt, both_ways, eq-eqb, eqb-true, cond-true, cond-false, le-leb, leb-true, false_from_ne_true}
use Rattle.std.specs.List.{list_any}
use Rattle.pp_terms.specs.tree.Tree.{Node, peaks_below, above, is_full, same_node, is_peak}
use Rattle.pp_terms.specs.tree.Bins.{parent_of}
use Rattle.pp_terms.specs.Law.{PeaksAreTopmost}

-- ---- halving again and again is division by a power of two

pub doubled : (k : ℕ) → 2 ^ suc k ≡ 2 ^ k * 2
doubled k = grind arith

pub above_is : (k c : ℕ) → above k c ≡ c / 2 ^ k
above_is zero c = grind arith
above_is (suc k) c =
    ap (λ (n : ℕ). n / 2) (above_is k c) ∙ div-div-eq-div-mul c (2 ^ k) 2 ∙ ap (λ (d : ℕ). c / d) (sym (doubled k))

-- ---- where a peak stands

pub same_is : (n : Node) → same_node n n ≡ true
same_is n = and_from (eqb n.layer n.layer) (eqb n.offset n.offset) (eq-eqb n.layer n.layer refl) (eq-eqb n.offset n.offset refl)

pub peak_in : (layers chunks k : ℕ) → k < layers → above k chunks % 2 ≡ 1 → list_any (same_node (record { layer = k; offset = above k chunks - 1 })) (peaks_below layers chunks) ≡ true
peak_in zero chunks k lt odd = absurd (omega arith)
peak_in (suc layers) chunks k lt odd = ⊎_elim
    (λ e. subst (λ (l : ℕ). list_any (same_node (record { layer = k; offset = above k chunks - 1 })) (cond (eqb (above l chunks % 2) 1) (record { layer = l; offset = above l chunks - 1 } ∷ peaks_below l chunks) (peaks_below l chunks)) ≡ true) e (first k odd))
    (λ ne. later (eqb (above layers chunks % 2) 1) (peak_in layers chunks k (omega arith) odd))
    (cases_eq k layers)
  where
    first : (l : ℕ) → above l chunks % 2 ≡ 1 → list_any (same_node (record { layer = l; offset = above l chunks - 1 })) (cond (eqb (above l chunks % 2) 1) (record { layer = l; offset = above l chunks - 1 } ∷ peaks_below l chunks) (peaks_below l chunks)) ≡ true
    first l is_odd = rw (eq-eqb (above l chunks % 2) 1 is_odd) (or_left (same_node (record { layer = l; offset = above l chunks - 1 }) (record { layer = l; offset = above l chunks - 1 })) (list_any (same_node (record { layer = l; offset = above l chunks - 1 })) (peaks_below l chunks)) (same_is (record { layer = l; offset = above l chunks - 1 })))

    later : (b : Bool) → list_any (same_node (record { layer = k; offset = above k chunks - 1 })) (peaks_below layers chunks) ≡ true
        → list_any (same_node (record { layer = k; offset = above k chunks - 1 })) (cond b (record { layer = layers; offset = above layers chunks - 1 } ∷ peaks_below layers chunks) (peaks_below layers chunks)) ≡ true
    later true e = or_right (same_node (record { layer = k; offset = above k chunks - 1 }) (record { layer = layers; offset = above layers chunks - 1 })) (list_any (same_node (record { layer = k; offset = above k chunks - 1 })) (peaks_below layers chunks)) e
    later false e = e

-- no node of the way before a peak is the last full one of an odd count
pub no_last : (chunks : ℕ) (n : Node) → n.layer < 21 → is_peak chunks n ≡ false → (above n.layer chunks % 2 ≡ 1) × (n.offset ≡ above n.layer chunks - 1) → ⊥
no_last chunks n lt no_peak both =
    both_ways (is_peak chunks n) no_peak
    (subst (λ (o : ℕ). is_peak chunks (record { layer = n.layer; offset = o }) ≡ true) (sym both.1) (peak_in 21 chunks n.layer lt both.0))

-- where a peak of the lowest layers stands
found : (layers chunks : ℕ) (n : Node) → list_any (same_node n) (peaks_below layers chunks) ≡ true
    → (n.layer < layers) × (above n.layer chunks % 2 ≡ 1) × (n.offset ≡ above n.layer chunks - 1)
found zero chunks n e = absurd cc
found (suc layers) chunks n e = ⊎_elim
    (λ odd. at_odd odd (λ e. found layers chunks n e) (or_cases (same_node n (record { layer = layers; offset = above layers chunks - 1 })) (list_any (same_node n) (peaks_below layers chunks))
    (sym (ap (λ (xs : List Node). list_any (same_node n) xs) (cond-true (eqb (above layers chunks % 2) 1) (record { layer = layers; offset = above layers chunks - 1 } ∷ peaks_below layers chunks) (peaks_below layers chunks) odd)) ∙ e)))
    (λ even. further (found layers chunks n
    (sym (ap (λ (xs : List Node). list_any (same_node n) xs) (cond-false (eqb (above layers chunks % 2) 1) (record { layer = layers; offset = above layers chunks - 1 } ∷ peaks_below layers chunks) (peaks_below layers chunks) even)) ∙ e)))
    (cases_Bool (eqb (above layers chunks % 2) 1))
  where
    further : (n.layer < layers) × (above n.layer chunks % 2 ≡ 1) × (n.offset ≡ above n.layer chunks - 1)
        → (n.layer < suc layers) × (above n.layer chunks % 2 ≡ 1) × (n.offset ≡ above n.layer chunks - 1)
    further all = (omega (arith, all.0), all.1, all.2)

    at_odd : eqb (above layers chunks % 2) 1 ≡ true
        → (list_any (same_node n) (peaks_below layers chunks) ≡ true → (n.layer < layers) × (above n.layer chunks % 2 ≡ 1) × (n.offset ≡ above n.layer chunks - 1))
        → (same_node n (record { layer = layers; offset = above layers chunks - 1 }) ≡ true) ⊎ (list_any (same_node n) (peaks_below layers chunks) ≡ true)
        → (n.layer < suc layers) × (above n.layer chunks % 2 ≡ 1) × (n.offset ≡ above n.layer chunks - 1)
    at_odd odd rest (inl same) =
        let parts = and_parts (eqb n.layer layers) (eqb n.offset (above layers chunks - 1)) same in
        let layer : n.layer ≡ layers = eqb-true n.layer layers parts.0 in
        let full : above n.layer chunks ≡ above layers chunks = ap (λ (k : ℕ). above k chunks) layer in
        (omega (arith, layer), ap (λ (q : ℕ). q % 2) full ∙ eqb-true (above layers chunks % 2) 1 odd, eqb-true n.offset (above layers chunks - 1) parts.1 ∙ ap (λ (q : ℕ). q - 1) (sym full))
    at_odd odd rest (inr later) = further (rest later)

-- A node is a peak where its layer has an odd number of full nodes, and it is the last of them.
pub peak_found : (chunks : ℕ) (n : Node) → is_peak chunks n ≡ true → (n.layer < 21) × (n.offset % 2 ≡ 0) × (above n.layer chunks ≡ n.offset + 1)
peak_found chunks n e = let all = found 21 chunks n e in (all.0, omega (arith, all.1, all.2), omega (arith, all.1, all.2))

pub peak_from : (chunks : ℕ) (n : Node) → n.layer < 21 → n.offset % 2 ≡ 0 → above n.layer chunks ≡ n.offset + 1 → is_peak chunks n ≡ true
peak_from chunks n low even last =
    subst (λ (o : ℕ). is_peak chunks (record { layer = n.layer; offset = o }) ≡ true) (omega (arith, last))
    (peak_in 21 chunks n.layer low (omega (arith, even, last)))

-- ---- the full nodes of a layer

pub full_below : (n : ℕ) (at : Node) → is_full n at ≡ true → at.offset < above at.layer n
full_below n at e =
    let fits = leb-true ((at.offset + 1) * 2 ^ at.layer) n e in
    let is = above_is at.layer n in
    let counted : at.offset + 1 ≤ n / 2 ^ at.layer = (le-div_iff_mul-le (pow_pos at.layer)).1 fits in
    omega (arith, is, counted)

pub below_full : (n : ℕ) (at : Node) → at.offset < above at.layer n → is_full n at ≡ true
below_full n at lt =
    let is = above_is at.layer n in
    let counted : at.offset + 1 ≤ n / 2 ^ at.layer = omega (arith, is) in
    le-leb ((at.offset + 1) * 2 ^ at.layer) n ((le-div_iff_mul-le (pow_pos at.layer)).0 counted)

above_next : (k c : ℕ) → above (k + 1) c ≡ above k c / 2
above_next k c = rw add-one refl

-- a layer with full nodes is no higher than the peaks
low_layer : (n k : ℕ) → n < 2 ^ 21 → 0 < above k n → k < 21
low_layer n k low some = ⊎_elim
    (λ lt. lt)
    (λ high. absurd (
    let is = above_is k n in
    let counted : 1 ≤ n / 2 ^ k = omega (arith, is) in
    let fits : 1 * 2 ^ k ≤ n = (le-div_iff_mul-le (pow_pos k)).0 counted in
    let grows : 2 ^ 21 ≤ 2 ^ k = pow_mono high in
    omega arith))
    (cases_lt k 21)

pub peaks_topmost : PeaksAreTopmost
peaks_topmost n at low = ⊎_elim
    (λ is.
    let stands = peak_found n at is in
    let up = above_next at.layer n in
    is ∙ sym (and_from (is_full n at) (not (is_full n (parent_of at)))
    (below_full n at (omega (arith, stands.2)))
    (not_from_false (is_full n (parent_of at)) (false_from_ne_true (is_full n (parent_of at)) (λ full.
    let higher = full_below n (parent_of at) full in omega (arith, stands.1, stands.2, up, higher))))))
    (λ none. none ∙ sym (false_from_ne_true (is_full n at && not (is_full n (parent_of at))) (λ both.
    let parts = and_parts (is_full n at) (not (is_full n (parent_of at))) both in
    let lt = full_below n at parts.0 in
    let layer = low_layer n at.layer low (omega arith) in
    let up = above_next at.layer n in
    let apart = no_last n at layer none in
    both_ways (is_full n (parent_of at)) (not-true (is_full n (parent_of at)) parts.1)
    (below_full n (parent_of at) (⊎_elim
    (λ odd. ⊎_elim (λ last. absurd (apart (odd, last))) (λ other. omega (arith, up)) (cases_eq at.offset (above at.layer n - 1)))
    (λ even. omega (arith, up))
    (cases_eq (above at.layer n % 2) 1))))))
    (cases_Bool (is_peak n at))
