-- A rooted book with all peaks and a chunk's leaf has every node of the chunk's plan.
use Rattle.std.proofs.Common.{◌≡◌, ⊎_elim, ℕ, zero, suc, ◌+◌, ◌-◌, ◌*◌, ◌/◌, ◌%◌, ◌^◌, ◌<◌, ◌≤◌, eqb, Bool, true, false, cond, ◌||◌, List, [], ◌∷◌, ◌++◌, refl, sym, ◌∙◌, ap, subst, arith}
use Rattle.std.specs.Prelude.{is_some}
use Rattle.std.specs.List.{AllByRecursion, list_all}
use Rattle.std.proofs.lemmas.Bool.{and_parts, or_cases, or_parts, cases_Bool, cases_lt, both_ways, eqb-true, eqb-false, cond-true, cond-false, leb-true}
use Rattle.std.proofs.lemmas.Nat.{pow_pos}
use Rattle.std.proofs.Math.Pow.{pow_mono}
use Rattle.pp_terms.specs.tree.Bins.{parent_of, sibling_of}
use Rattle.pp_terms.specs.tree.Book.{LookUp, IsJoined, IsRooted, has_peaks_below}
use Rattle.pp_terms.specs.tree.Tree.{Node, height, peaks, peaks_below, above, is_full, is_peak, leaf_at}
use Rattle.pp_terms.specs.format.Descriptor.{Descriptor, chunks_of, height_of}
use Rattle.pp_terms.proofs.Heights.{height_is}
use Rattle.pp_terms.proofs.Facts.{value_of, has_value, which_half}
use Rattle.pp_terms.proofs.Nodes.{goes_on, above_up, height_bound}
use Rattle.pp_terms.proofs.Peaks.{above_is, below_full, peak_from, no_last}
use Rattle.pp_traffic.specs.Laws.{IsInBook, uncles_from, PlansAreInBooks}

-- ---- nodes whose leaves are all chunks

pub full_bound : (chunks : ℕ) (n : Node) → is_full chunks n ≡ true → (n.offset + 1) * 2 ^ n.layer ≤ chunks
full_bound chunks n e = leb-true ((n.offset + 1) * 2 ^ n.layer) chunks e

power_above : (k : ℕ) → 20 < k → 2 ^ 20 < 2 ^ k
power_above zero lt = absurd (omega arith)
power_above (suc k) lt = ⊎_elim
    (λ more. let h = power_above k more in omega arith)
    (λ is. let e : suc k ≡ 21 = omega arith in let size : 2 ^ suc k ≡ 2 ^ 21 = ap (λ (n : ℕ). 2 ^ n) e in omega (arith, size))
    (cases_lt 20 k)

pub full_low : (chunks : ℕ) (n : Node) → chunks ≤ 2 ^ 20 → is_full chunks n ≡ true → n.layer ≤ 20
full_low chunks n most e =
    let bound = full_bound chunks n e in
    let more : (n.offset + 1) * 2 ^ n.layer ≡ n.offset * 2 ^ n.layer + 2 ^ n.layer = omega arith in
    ⊎_elim (λ high. absurd (let h = power_above n.layer high in omega arith)) (λ low. low) (cases_lt 20 n.layer)

-- ---- the peaks

below_is : (k c : ℕ) → above k c % 2 ≡ 1 → above k c - 1 < above k c
below_is k c odd = omega (arith, odd)

peaks_given : (d : Descriptor) (book : LookUp) (layers : ℕ) → has_peaks_below book (chunks_of d) layers ≡ true → AllByRecursion (IsInBook d book) (peaks_below layers (chunks_of d))
peaks_given d book zero e = tt
peaks_given d book (suc k) e =
    let n = above k (chunks_of d) in
    let parts = and_parts (eqb (n % 2) 0 || is_some (book k (n - 1))) (has_peaks_below book (chunks_of d) k) e in
    let rest = peaks_given d book k parts.1 in
    ⊎_elim
    (λ odd. subst (λ (xs : List Node). AllByRecursion (IsInBook d book) xs) (sym (cond-true (eqb (n % 2) 1) (record { layer = k; offset = n - 1 } ∷ peaks_below k (chunks_of d)) (peaks_below k (chunks_of d)) odd)) (
      (
        below_full (chunks_of d) (record { layer = k; offset = n - 1 }) (below_is k (chunks_of d) (eqb-true (n % 2) 1 odd)),
        ⊎_elim (λ even. absurd (let zero_is = eqb-true (n % 2) 0 even in let one = eqb-true (n % 2) 1 odd in omega (arith, zero_is, one))) (λ there. there) (or_cases (eqb (n % 2) 0) (is_some (book k (n - 1))) parts.0),
      ),
      rest,
    ))
    (λ even. subst (λ (xs : List Node). AllByRecursion (IsInBook d book) xs) (sym (cond-false (eqb (n % 2) 1) (record { layer = k; offset = n - 1 } ∷ peaks_below k (chunks_of d)) (peaks_below k (chunks_of d)) even)) rest)
    (cases_Bool (eqb (n % 2) 1))

-- ---- the siblings on the way up

-- A node on the way up is one of the full nodes of its layer, and is in the book.
record IsOnWay (d : Descriptor) (book : LookUp) (n : Node) : Type 0 where
  full : n.offset < above n.layer (chunks_of d)
  there : is_some (book n.layer n.offset) ≡ true

-- one that is no peak lies below the root
below_root : (d : Descriptor) (n : Node) → 0 < chunks_of d → chunks_of d ≤ 2 ^ 20 → is_peak (chunks_of d) n ≡ false → n.offset < above n.layer (chunks_of d) → n.layer < height_of d
below_root d n some most no_peak lt =
    let is = height_is (chunks_of d) some most in
    let bound = full_bound (chunks_of d) n (below_full (chunks_of d) n lt) in
    let more : (n.offset + 1) * 2 ^ n.layer ≡ n.offset * 2 ^ n.layer + 2 ^ n.layer = omega arith in
    ⊎_elim (λ low. low)
    (λ high. absurd (
    let grows : 2 ^ height_of d ≤ 2 ^ n.layer = pow_mono high in
    let covers = is.covers in
    let power = pow_pos n.layer in
    let all : chunks_of d ≡ 2 ^ n.layer = omega (arith, is.covers) in
    let first : n.offset ≡ 0 = zero_offset n.offset (2 ^ n.layer) (chunks_of d) power (omega arith) (omega (arith, all)) in
    let one : above n.layer (chunks_of d) ≡ 1 = above_is n.layer (chunks_of d) ∙ ap (λ (c : ℕ). c / 2 ^ n.layer) all ∙ self_quotient (2 ^ n.layer) power in
    let low : n.layer < 21 = low_layer n.layer (omega (arith, all)) in
    both_ways (is_peak (chunks_of d) n) no_peak (peak_from (chunks_of d) n low (omega (arith, first)) (omega (arith, one, first)))))
    (cases_lt n.layer (height_of d))
  where
    zero_offset : (o p c : ℕ) → 0 < p → o * p + p ≤ c → c ≤ p → o ≡ 0
    zero_offset zero p c power le fits = refl
    zero_offset (suc o) p c power le fits = absurd (omega arith)

    self_quotient : (p : ℕ) → 0 < p → p / p ≡ 1
    self_quotient p power = grind arith

    low_layer : (k : ℕ) → 2 ^ k ≤ 2 ^ 20 → k < 21
    low_layer k le = ⊎_elim (λ high. absurd (let h = power_above k high in omega arith)) (λ low. omega arith) (cases_lt 20 k)

sibling_half : (n : Node) → (sibling_of n).offset / 2 ≡ n.offset / 2
sibling_half n = ⊎_elim
    (λ even. let e = eqb-true (n.offset % 2) 0 even in ap (λ (o : ℕ). o / 2) (cond-true (eqb (n.offset % 2) 0) (n.offset + 1) (n.offset - 1) even) ∙ omega (arith, e))
    (λ odd. let e = eqb-false (n.offset % 2) 0 odd in ap (λ (o : ℕ). o / 2) (cond-false (eqb (n.offset % 2) 0) (n.offset + 1) (n.offset - 1) odd) ∙ omega (arith, e))
    (cases_Bool (eqb (n.offset % 2) 0))

child_in : (book : LookUp) (k i j : ℕ) (a b : List ℕ) → IsJoined book k i a b → j / 2 ≡ i → is_some (book k j) ≡ true
child_in book k i j a b joined half = ⊎_elim
    (λ e. has_value (book k j) a (ap (λ (m : ℕ). book k m) e ∙ joined.left_is))
    (λ e. has_value (book k j) b (ap (λ (m : ℕ). book k m) e ∙ joined.right_is))
    (which_half j i half)

family : (d : Descriptor) (book : LookUp) (n : Node) → IsRooted d book → 0 < chunks_of d → chunks_of d ≤ 2 ^ 20 → is_peak (chunks_of d) n ≡ false → IsOnWay d book n
    → IsOnWay d book (parent_of n) × IsInBook d book (sibling_of n)
family d book n rooted some most no_peak on =
    let low = below_root d n some most no_peak on.full in
    let is = height_is (chunks_of d) some most in
    let bound = height_bound (chunks_of d) is most in
    let half = goes_on (above n.layer (chunks_of d)) n.offset on.full (no_last (chunks_of d) n (omega arith) no_peak) in
    let entry = value_of (book n.layer n.offset) on.there in
    let pair = ⊎_elim (λ root. absurd (omega (arith, root.0))) (λ p. p) (rooted.hangs n.layer n.offset entry.0 entry.1) in
    let parent_there : is_some (book (n.layer + 1) (n.offset / 2)) ≡ true =
    subst (λ (k : ℕ). is_some (book k (n.offset / 2)) ≡ true) (let up : suc n.layer ≡ n.layer + 1 = omega arith in up) (has_value (book (suc n.layer) (n.offset / 2)) _ pair.2.joined) in
    let sibling_low : (sibling_of n).offset < above n.layer (chunks_of d) =
    let same = sibling_half n in omega (arith, half, same) in (
      record { full = subst (λ (c : ℕ). n.offset / 2 < c) (sym (above_up n.layer (chunks_of d))) half; there = parent_there },
      (below_full (chunks_of d) (sibling_of n) sibling_low, child_in book n.layer (n.offset / 2) (sibling_of n).offset pair.0 pair.1 pair.2 (sibling_half n)),
    )

all_append : (P : Node → Type 0) (xs ys : List Node) → AllByRecursion P xs → AllByRecursion P ys → AllByRecursion P (xs ++ ys)
all_append P [] ys a b = b
all_append P (x ∷ xs) ys a b = (a.0, all_append P xs ys a.1 b)

uncles_given : (d : Descriptor) (book : LookUp) (told : Node → Bool) (layers : ℕ) (n : Node) → IsRooted d book → 0 < chunks_of d → chunks_of d ≤ 2 ^ 20 → IsOnWay d book n
    → AllByRecursion (IsInBook d book) (uncles_from layers (chunks_of d) told n)
uncles_given d book told zero n rooted some most on = tt
uncles_given d book told (suc layers) n rooted some most on = ⊎_elim
    (λ ends. subst (λ (xs : List Node). AllByRecursion (IsInBook d book) xs)
    (sym (cond-true (told n || is_peak (chunks_of d) n) [] (uncles_from layers (chunks_of d) told (parent_of n) ++ cond (told (sibling_of n)) [] (sibling_of n ∷ [])) ends)) tt)
    (λ goes.
    let kin = family d book n rooted some most (or_parts (told n) (is_peak (chunks_of d) n) goes).1 on in
    subst (λ (xs : List Node). AllByRecursion (IsInBook d book) xs)
    (sym (cond-false (told n || is_peak (chunks_of d) n) [] (uncles_from layers (chunks_of d) told (parent_of n) ++ cond (told (sibling_of n)) [] (sibling_of n ∷ [])) goes))
    (all_append (IsInBook d book) (uncles_from layers (chunks_of d) told (parent_of n)) (cond (told (sibling_of n)) [] (sibling_of n ∷ []))
    (uncles_given d book told layers (parent_of n) rooted some most kin.0) (own (sibling_of n) (told (sibling_of n)) kin.1)))
    (cases_Bool (told n || is_peak (chunks_of d) n))
  where
    own : (m : Node) (b : Bool) → IsInBook d book m → AllByRecursion (IsInBook d book) (cond b [] (m ∷ []))
    own m true given = tt
    own m false given = (given, tt)

pub plans_in_books : PlansAreInBooks
plans_in_books d book told i some most rooted peaked within leaf =
    all_append (IsInBook d book) (cond (list_all told (peaks (chunks_of d))) [] (peaks (chunks_of d))) (uncles_from (height (chunks_of d) + 1) (chunks_of d) told (leaf_at i))
    (front (list_all told (peaks (chunks_of d))))
    (uncles_given d book told (height (chunks_of d) + 1) (leaf_at i) rooted some most (record { full = within; there = leaf }))
  where
    front : (b : Bool) → AllByRecursion (IsInBook d book) (cond b [] (peaks (chunks_of d)))
    front true = tt
    front false = peaks_given d book 21 peaked
