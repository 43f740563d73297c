-- The hashes of a chunk's plan are of nodes that cover chunks, and few.
use Rattle.std.proofs.Common.{◌≡◌, ℕ, zero, suc, ◌+◌, ◌-◌, ◌*◌, ◌/◌, ◌%◌, ◌^◌, ◌<◌, ◌≤◌, eqb, Bool, true, false, cond, ◌||◌, List, [], ◌∷◌, ◌++◌, length, map, refl, sym, subst, arith, length-append}
use Rattle.std.specs.List.{AllByRecursion, list_all}
use Rattle.std.proofs.lemmas.Bool.{or_parts, eqb-true, eqb-false}
use Rattle.std.proofs.lemmas.List.{length-map}
use Rattle.std.proofs.lemmas.Nat.{pow_pos}
use Rattle.pp_terms.specs.tree.Bins.{parent_of, sibling_of}
use Rattle.pp_terms.specs.tree.Range.{Span, leaves_of}
use Rattle.pp_terms.specs.tree.Tree.{Node, height, peaks, peaks_below, above, is_peak, leaf_at}
use Rattle.pp_terms.proofs.Heights.{height_is}
use Rattle.pp_terms.proofs.Nodes.{goes_on, above_up, height_bound}
use Rattle.pp_terms.proofs.Peaks.{below_full, no_last}
use Rattle.pp_traffic.specs.Laws.{uncles_from, plan}
use Rattle.pp_traffic.proofs.PlansInBooks.{full_bound, full_low}

-- ---- each covers chunks

-- one of the full nodes of its layer
abbrev IsFullNode : ℕ → Node → Type 0
IsFullNode chunks n = n.offset < above n.layer chunks

peaks_full : (chunks layers : ℕ) → AllByRecursion (IsFullNode chunks) (peaks_below layers chunks)
peaks_full chunks zero = tt
peaks_full chunks (suc k) = of (peaks_full chunks k) (eqb (above k chunks % 2) 1) refl
  where
    of : AllByRecursion (IsFullNode chunks) (peaks_below k chunks) → (b : Bool) → eqb (above k chunks % 2) 1 ≡ b
        → AllByRecursion (IsFullNode chunks) (cond b (record { layer = k; offset = above k chunks - 1 } ∷ peaks_below k chunks) (peaks_below k chunks))
    of rest true test = (let odd = eqb-true (above k chunks % 2) 1 test in omega (arith, odd), rest)
    of rest false test = rest

sibling_half : (n : Node) → (sibling_of n).offset / 2 ≡ n.offset / 2
sibling_half n = of (eqb (n.offset % 2) 0) refl
  where
    of : (b : Bool) → eqb (n.offset % 2) 0 ≡ b → cond b (n.offset + 1) (n.offset - 1) / 2 ≡ n.offset / 2
    of true test = let even = eqb-true (n.offset % 2) 0 test in omega (arith, even)
    of false test = let odd = eqb-false (n.offset % 2) 0 test in omega (arith, odd)

all_append : (P : Node → Type 0) (xs ys : List Node) → AllByRecursion P xs → AllByRecursion P ys → AllByRecursion P (xs ++ ys)
all_append P [] ys a b = b
all_append P (x ∷ xs) ys a b = (a.0, all_append P xs ys a.1 b)

uncles_full : (chunks : ℕ) (told : Node → Bool) (layers : ℕ) (n : Node) → chunks ≤ 2 ^ 20 → IsFullNode chunks n
    → AllByRecursion (IsFullNode chunks) (uncles_from layers chunks told n)
uncles_full chunks told zero n most full = tt
uncles_full chunks told (suc layers) n most full = of (λ up. uncles_full chunks told layers (parent_of n) most up) (told n || is_peak chunks n) refl
  where
    own : (m : Node) (b : Bool) → IsFullNode chunks m → AllByRecursion (IsFullNode chunks) (cond b [] (m ∷ []))
    own m true given = tt
    own m false given = (given, tt)

    of : (IsFullNode chunks (parent_of n) → AllByRecursion (IsFullNode chunks) (uncles_from layers chunks told (parent_of n)))
        → (b : Bool) → (told n || is_peak chunks n) ≡ b → AllByRecursion (IsFullNode chunks)
        (cond b [] (uncles_from layers chunks told (parent_of n) ++ cond (told (sibling_of n)) [] (sibling_of n ∷ [])))
    of rest true ends = tt
    of rest false goes =
        let low = full_low chunks n most (below_full chunks n full) in
        let half = goes_on (above n.layer chunks) n.offset full
        (no_last chunks n (omega arith) (or_parts (told n) (is_peak chunks n) goes).1) in
        let up : IsFullNode chunks (parent_of n) = subst (λ (c : ℕ). n.offset / 2 < c) (sym (above_up n.layer chunks)) half in
        let beside : IsFullNode chunks (sibling_of n) = let same = sibling_half n in omega (arith, half, same) in
        all_append (IsFullNode chunks) (uncles_from layers chunks told (parent_of n)) (cond (told (sibling_of n)) [] (sibling_of n ∷ []))
        (rest up) (own (sibling_of n) (told (sibling_of n)) beside)

plan_full : (chunks : ℕ) (told : Node → Bool) (i : ℕ) → chunks ≤ 2 ^ 20 → i < chunks → AllByRecursion (IsFullNode chunks) (plan chunks told i)
plan_full chunks told i most within =
    all_append (IsFullNode chunks) (cond (list_all told (peaks chunks)) [] (peaks chunks)) (uncles_from (height chunks + 1) chunks told (leaf_at i))
    (front (list_all told (peaks chunks))) (uncles_full chunks told (height chunks + 1) (leaf_at i) most within)
  where
    front : (b : Bool) → AllByRecursion (IsFullNode chunks) (cond b [] (peaks chunks))
    front true = tt
    front false = peaks_full chunks 21

first_within : (chunks : ℕ) (n : Node) → IsFullNode chunks n → (leaves_of n).first < chunks
first_within chunks n full =
    let bound = full_bound chunks n (below_full chunks n full) in
    let more : (n.offset + 1) * 2 ^ n.layer ≡ n.offset * 2 ^ n.layer + 2 ^ n.layer = omega arith in
    let some = pow_pos n.layer in
    omega arith

firsts_of : (chunks : ℕ) (ns : List Node) → AllByRecursion (IsFullNode chunks) ns → AllByRecursion (λ (s : Span). s.first < chunks) (map leaves_of ns)
firsts_of chunks [] all = tt
firsts_of chunks (n ∷ ns) all = (first_within chunks n all.0, firsts_of chunks ns all.1)

last_within : (chunks : ℕ) (n : Node) → IsFullNode chunks n → (leaves_of n).last < chunks
last_within chunks n full =
    let bound = full_bound chunks n (below_full chunks n full) in
    let more : (n.offset + 1) * 2 ^ n.layer ≡ n.offset * 2 ^ n.layer + 2 ^ n.layer = omega arith in
    let some = pow_pos n.layer in
    omega arith

lasts_of : (chunks : ℕ) (ns : List Node) → AllByRecursion (IsFullNode chunks) ns → AllByRecursion (λ (s : Span). s.last < chunks) (map leaves_of ns)
lasts_of chunks [] all = tt
lasts_of chunks (n ∷ ns) all = (last_within chunks n all.0, lasts_of chunks ns all.1)

-- and no others
pub plan_inside : (chunks : ℕ) (told : Node → Bool) (i : ℕ) → chunks ≤ 2 ^ 20 → i < chunks
    → AllByRecursion (λ (s : Span). s.last < chunks) (map leaves_of (plan chunks told i))
plan_inside chunks told i most within = lasts_of chunks (plan chunks told i) (plan_full chunks told i most within)

pub plan_covers : (chunks : ℕ) (told : Node → Bool) (i : ℕ) → chunks ≤ 2 ^ 20 → i < chunks
    → AllByRecursion (λ (s : Span). s.first < chunks) (map leaves_of (plan chunks told i))
plan_covers chunks told i most within = firsts_of chunks (plan chunks told i) (plan_full chunks told i most within)

-- ---- they are few

few_peaks : (chunks layers : ℕ) → length (peaks_below layers chunks) ≤ layers
few_peaks chunks zero = omega arith
few_peaks chunks (suc k) = of (few_peaks chunks k) (eqb (above k chunks % 2) 1)
  where
    of : length (peaks_below k chunks) ≤ k → (b : Bool) → length (cond b (record { layer = k; offset = above k chunks - 1 } ∷ peaks_below k chunks) (peaks_below k chunks)) ≤ suc k
    of rest true = omega (arith, rest)
    of rest false = omega (arith, rest)

few_uncles : (chunks : ℕ) (told : Node → Bool) (layers : ℕ) (n : Node) → length (uncles_from layers chunks told n) ≤ layers
few_uncles chunks told zero n = omega arith
few_uncles chunks told (suc layers) n = of (few_uncles chunks told layers (parent_of n)) (told n || is_peak chunks n) (told (sibling_of n))
  where
    of : length (uncles_from layers chunks told (parent_of n)) ≤ layers → (ends b : Bool)
        → length (cond ends [] (uncles_from layers chunks told (parent_of n) ++ cond b [] (sibling_of n ∷ []))) ≤ suc layers
    of rest true b = omega arith
    of rest false true =
        let sum = length-append {A = Node} (uncles_from layers chunks told (parent_of n)) [] in omega (arith, rest, sum)
    of rest false false =
        let sum = length-append (uncles_from layers chunks told (parent_of n)) (sibling_of n ∷ []) in omega (arith, rest, sum)

pub few_planned : (chunks : ℕ) (told : Node → Bool) (i : ℕ) → chunks ≤ 2 ^ 20 → i < chunks → length (map leaves_of (plan chunks told i)) ≤ 128
few_planned chunks told i most within =
    let tall = height_bound chunks (height_is chunks (omega arith) most) most in
    let uncles = few_uncles chunks told (height chunks + 1) (leaf_at i) in
    let sum = length-append (cond (list_all told (peaks chunks)) [] (peaks chunks)) (uncles_from (height chunks + 1) chunks told (leaf_at i)) in
    let front = few_front (list_all told (peaks chunks)) in
    let same = length-map (plan chunks told i) leaves_of in
    omega (arith, tall, uncles, sum, front, same)
  where
    few_front : (b : Bool) → length (cond b [] (peaks chunks)) ≤ 21
    few_front true = omega arith
    few_front false = few_peaks chunks 21
