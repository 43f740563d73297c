-- Brought hashes complete a path exactly where all of its plan is among them.
use Rattle.std.proofs.Common.{◌≡◌, ⊎_elim, ℕ, zero, suc, ◌+◌, ◌*◌, ◌/◌, ◌^◌, ◌<◌, ◌≤◌, Bool, true, false, cond, not, ◌&&◌, ◌||◌, List, [], ◌∷◌, ◌++◌, refl, sym, ◌∙◌, ap, arith, add-one, pow-suc}
use Rattle.std.proofs.lemmas.Bool.{cases_Bool, or_parts, both_ways, cond-true, cond-false, and_left}
use Rattle.std.proofs.lemmas.List.Folds.{list_all-append}
use Rattle.std.specs.List.{list_all}
use Rattle.pp_terms.specs.tree.Tree.{Node, height, peaks, above, is_peak, leaf_at}
use Rattle.pp_terms.specs.tree.Bins.{parent_of, sibling_of}
use Rattle.pp_terms.proofs.Heights.{height_is}
use Rattle.pp_traffic.specs.Hashes.{completes_from}
use Rattle.pp_terms.proofs.Nodes.{goes_on, above_up, fewer, height_bound}
use Rattle.pp_terms.proofs.Facts.{all_weaker}
use Rattle.pp_terms.proofs.Peaks.{no_last}
use Rattle.pp_traffic.specs.Laws.{uncles_from}
use Rattle.pp_plan.specs.Law.{IsTold, PlansAreLeast}

-- whether all peaks are brought or told
abbrev ready : ℕ → (Node → Bool) → (Node → Bool) → Bool
ready chunks brought told = list_all (λ p. brought p || told p) (peaks chunks)

-- at a node that is told or a peak
stops : (t k r c v : Bool) → (t ≡ true → r ≡ true) → (t || k) ≡ true → (t || (k && r) || (not k && c && v)) ≡ (r && true)
stops true k true c v known e = refl
stops true k false c v known e = absurd (let no : false ≡ true = known refl in cc)
stops false true true c v known e = refl
stops false true false c v known e = refl
stops false false r c v known e = absurd cc

-- at any other
climbs : (t k r c v : Bool) → (t || k) ≡ false → (t || (k && r) || (not k && c && v)) ≡ (c && v)
climbs true k r c v e = absurd cc
climbs false true r c v e = absurd cc
climbs false false r c v e = refl

finish : (b t r u : Bool) → ((b || t) && (r && u)) ≡ (r && (u && cond t true (b && true)))
finish true true true true = refl
finish true true true false = refl
finish true true false true = refl
finish true true false false = refl
finish true false true true = refl
finish true false true false = refl
finish true false false true = refl
finish true false false false = refl
finish false true true true = refl
finish false true true false = refl
finish false true false true = refl
finish false true false false = refl
finish false false true true = refl
finish false false true false = refl
finish false false false true = refl
finish false false false false = refl

own_all : (p : Node → Bool) (n : Node) (b : Bool) → list_all p (cond b [] (n ∷ [])) ≡ cond b true (p n && true)
own_all p n true = refl
own_all p n false = refl

least_from : (layers chunks : ℕ) (brought told : Node → Bool) (n : Node) → n.offset < above n.layer chunks → above n.layer chunks < 2 ^ layers → n.layer + layers ≤ 21
    → ((m : Node) → told m ≡ true → ready chunks brought told ≡ true)
    → completes_from layers chunks brought told n ≡ (ready chunks brought told && list_all brought (uncles_from layers chunks told n))
least_from zero chunks brought told n lt few le known = absurd (omega arith)
least_from (suc layers) chunks brought told n lt few le known = ⊎_elim
    (λ ends. stops (told n) (is_peak chunks n) (ready chunks brought told) (brought (sibling_of n) || told (sibling_of n)) (completes_from layers chunks brought told (parent_of n)) (known n) ends
    ∙ sym (ap (λ (xs : List Node). ready chunks brought told && list_all brought xs)
    (cond-true (told n || is_peak chunks n) [] (uncles_from layers chunks told (parent_of n) ++ cond (told (sibling_of n)) [] (sibling_of n ∷ [])) ends)))
    (λ on. climbs (told n) (is_peak chunks n) (ready chunks brought told) (brought (sibling_of n) || told (sibling_of n)) (completes_from layers chunks brought told (parent_of n)) on
    ∙ ap (λ (v : Bool). (brought (sibling_of n) || told (sibling_of n)) && v) (least_from layers chunks brought told (parent_of n) (up (or_parts (told n) (is_peak chunks n) on).1).0 (up (or_parts (told n) (is_peak chunks n) on).1).1 (omega arith) known)
    ∙ finish (brought (sibling_of n)) (told (sibling_of n)) (ready chunks brought told) (list_all brought (uncles_from layers chunks told (parent_of n)))
    ∙ sym (ap (λ (v : Bool). ready chunks brought told && v) (all_up on)))
    (cases_Bool (told n || is_peak chunks n))
  where
    up : is_peak chunks n ≡ false → (n.offset / 2 < above (n.layer + 1) chunks) × (above (n.layer + 1) chunks < 2 ^ layers)
    up no_peak = (
      rw above_up (goes_on (above n.layer chunks) n.offset lt (no_last chunks n (omega arith) no_peak)),
      rw above_up (fewer layers (above n.layer chunks) few),
    )

    all_up : (told n || is_peak chunks n) ≡ false → list_all brought (uncles_from (suc layers) chunks told n)
        ≡ (list_all brought (uncles_from layers chunks told (parent_of n)) && cond (told (sibling_of n)) true (brought (sibling_of n) && true))
    all_up on = ap (λ (xs : List Node). list_all brought xs)
        (cond-false (told n || is_peak chunks n) [] (uncles_from layers chunks told (parent_of n) ++ cond (told (sibling_of n)) [] (sibling_of n ∷ [])) on)
        ∙ list_all-append brought (uncles_from layers chunks told (parent_of n)) (cond (told (sibling_of n)) [] (sibling_of n ∷ []))
        ∙ ap (λ (v : Bool). list_all brought (uncles_from layers chunks told (parent_of n)) && v) (own_all brought (sibling_of n) (told (sibling_of n)))

or_none : (b t : Bool) → t ≡ false → b ≡ (b || t)
or_none true t e = refl
or_none false true e = absurd cc
or_none false false e = refl

all_same : (p q : Node → Bool) → ((n : Node) → q n ≡ false) → (xs : List Node) → list_all p xs ≡ list_all (λ n. p n || q n) xs
all_same p q none [] = refl
all_same p q none (x ∷ xs) = ap (λ (b : Bool). b && list_all p xs) (or_none (p x) (q x) (none x))
    ∙ ap (λ (b : Bool). (p x || q x) && b) (all_same p q none xs)

-- where nothing is told, the peaks are sent
sent_all : (p q : Node → Bool) → ((n : Node) → q n ≡ false) → (xs : List Node) → list_all p (cond (list_all q xs) [] xs) ≡ list_all (λ n. p n || q n) xs
sent_all p q none [] = refl
sent_all p q none (x ∷ xs) =
    ap (λ (ys : List Node). list_all p ys) (cond-false (q x && list_all q xs) [] (x ∷ xs) (and_left (q x) (list_all q xs) (none x)))
    ∙ all_same p q none (x ∷ xs)

peaks_sent : (chunks : ℕ) (brought told : Node → Bool) → IsTold chunks told → list_all brought (cond (list_all told (peaks chunks)) [] (peaks chunks)) ≡ ready chunks brought told
peaks_sent chunks brought told is = ⊎_elim
    (λ all. ap (λ (ys : List Node). list_all brought ys) (cond-true (list_all told (peaks chunks)) [] (peaks chunks) all) ∙ sym (all_weaker brought told (peaks chunks) all))
    (λ none. sent_all brought told none (peaks chunks))
    is

known_ready : (chunks : ℕ) (brought told : Node → Bool) → IsTold chunks told → (m : Node) → told m ≡ true → ready chunks brought told ≡ true
known_ready chunks brought told is m e = ⊎_elim
    (λ all. all_weaker brought told (peaks chunks) all)
    (λ none. absurd (both_ways (told m) (none m) e))
    is

pub plans_are_least : PlansAreLeast
plans_are_least chunks told i brought is le lt =
    let tall = height_is chunks (omega arith) le in
    let up : 2 ^ (height chunks + 1) ≡ 2 ^ height chunks * 2 = rw add-one (pow-suc 2 (height chunks)) in
    let low : height chunks ≤ 20 = height_bound chunks tall le in
    least_from (height chunks + 1) chunks brought told (leaf_at i) lt (omega (arith, tall.covers, up)) (omega arith) (known_ready chunks brought told is)
    ∙ ap (λ (b : Bool). b && list_all brought (uncles_from (height chunks + 1) chunks told (leaf_at i))) (sym (peaks_sent chunks brought told is))
    ∙ sym (list_all-append brought (cond (list_all told (peaks chunks)) [] (peaks chunks)) (uncles_from (height chunks + 1) chunks told (leaf_at i)))
