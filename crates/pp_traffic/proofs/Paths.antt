-- Complete paths: they stay complete with more hashes, and a plan completes one.
use Rattle.std.proofs.Common.{◌≡◌, inl, inr, ⊎_elim, ℕ, zero, suc, ◌+◌, ◌*◌, ◌^◌, ◌<◌, ◌≤◌, Bool, true, false, cond, not, ◌&&◌, ◌||◌, List, [], ◌∷◌, ◌++◌, refl, ◌∙◌, ap, arith, add-one, pow-suc}
use Rattle.std.proofs.lemmas.Bool.{and_parts, and_from, or_cases, or_left, or_right, or_from, not-true, cases_Bool, cond-false}
use Rattle.std.specs.List.{list_any, list_all}
use Rattle.std.proofs.lemmas.List.Folds.{list_any-append}
use Rattle.pp_terms.specs.tree.Tree.{Node, height, peaks, above, same_node, is_peak, leaf_at}
use Rattle.pp_terms.specs.tree.Bins.{parent_of, sibling_of}
use Rattle.pp_terms.proofs.Heights.{height_is}
use Rattle.pp_traffic.specs.Hashes.{completes_from}
use Rattle.pp_terms.proofs.Nodes.{goes_on, above_up, fewer, height_bound}
use Rattle.pp_terms.proofs.Facts.{all_weaker}
use Rattle.pp_terms.proofs.Peaks.{no_last, same_is}
use Rattle.pp_traffic.specs.Laws.{PathsGrow, uncles_from, plan, PlansComplete}
use Rattle.pp_traffic.proofs.PathPlaces.{ends_here, goes_up}

abbrev Within : (Node → Bool) → (Node → Bool) → Type 0
Within few many = (n : Node) → few n ≡ true → many n ≡ true

either_grows : (brought more told known : Node → Bool) → Within brought more → Within told known → (n : Node)
    → (brought n || told n) ≡ true → (more n || known n) ≡ true
either_grows brought more told known b t n e = ⊎_elim (λ first. or_left (more n) (known n) (b n first)) (λ second. or_right (more n) (known n) (t n second)) (or_cases (brought n) (told n) e)

all_grow : (p q : Node → Bool) → Within p q → (xs : List Node) → list_all p xs ≡ true → list_all q xs ≡ true
all_grow p q w [] e = refl
all_grow p q w (x ∷ xs) e = let parts = and_parts (p x) (list_all p xs) e in and_from (q x) (list_all q xs) (w x parts.0) (all_grow p q w xs parts.1)

grows_from : (layers chunks : ℕ) (brought more told known : Node → Bool) (n : Node) → Within brought more → Within told known
    → completes_from layers chunks brought told n ≡ true → completes_from layers chunks more known n ≡ true
grows_from zero chunks brought more told known n b t e = absurd cc
grows_from (suc layers) chunks brought more told known n b t e = ⊎_elim
    (λ first. ⊎_elim
    (λ is_told. ends_here layers chunks more known n (inl (t n is_told)))
    (λ peak. let parts = and_parts (is_peak chunks n) (list_all (λ p. brought p || told p) (peaks chunks)) peak in
    ends_here layers chunks more known n (inr (parts.0, all_grow (λ p. brought p || told p) (λ p. more p || known p) (λ p h. either_grows brought more told known b t p h) (peaks chunks) parts.1)))
    (or_cases (told n) (is_peak chunks n && list_all (λ p. brought p || told p) (peaks chunks)) first))
    (λ up.
    let outer = and_parts (not (is_peak chunks n) && (brought (sibling_of n) || told (sibling_of n))) (completes_from layers chunks brought told (parent_of n)) up in
    let inner = and_parts (not (is_peak chunks n)) (brought (sibling_of n) || told (sibling_of n)) outer.0 in
    goes_up layers chunks more known n (not-true (is_peak chunks n) inner.0) (either_grows brought more told known b t (sibling_of n) inner.1)
    (grows_from layers chunks brought more told known (parent_of n) b t outer.1))
    (or_cases (told n || is_peak chunks n && list_all (λ p. brought p || told p) (peaks chunks)) (not (is_peak chunks n) && (brought (sibling_of n) || told (sibling_of n)) && completes_from layers chunks brought told (parent_of n)) e)

pub paths_grow : PathsGrow
paths_grow chunks brought more told known i b t e = grows_from (height chunks + 1) chunks brought more told known (leaf_at i) b t e

-- ---- peaks on the way up

-- A node that is brought, told or needed by its list
abbrev Brings : List Node → Node → Bool
Brings xs n = list_any (same_node n) xs

some_own : (xs : List Node) (n : Node) → list_any (same_node n) (xs ++ n ∷ []) ≡ true
some_own xs n = list_any-append (same_node n) xs (n ∷ []) ∙ or_right (list_any (same_node n) xs) (same_node n n || false) (or_left (same_node n n) false (same_is n))

in_front : (xs ys : List Node) (n : Node) → Brings xs n ≡ true → Brings (xs ++ ys) n ≡ true
in_front xs ys n e = list_any-append (same_node n) xs ys ∙ or_left (list_any (same_node n) xs) (list_any (same_node n) ys) e

in_back : (xs ys : List Node) (n : Node) → Brings ys n ≡ true → Brings (xs ++ ys) n ≡ true
in_back xs ys n e = list_any-append (same_node n) xs ys ∙ or_right (list_any (same_node n) xs) (list_any (same_node n) ys) e

uncles_are : (layers chunks : ℕ) (told : Node → Bool) (n : Node) → told n ≡ false → is_peak chunks n ≡ false
    → uncles_from (suc layers) chunks told n ≡ uncles_from layers chunks told (parent_of n) ++ cond (told (sibling_of n)) [] (sibling_of n ∷ [])
uncles_are layers chunks told n untold no_peak =
    cond-false (told n || is_peak chunks n) [] (uncles_from layers chunks told (parent_of n) ++ cond (told (sibling_of n)) [] (sibling_of n ∷ [])) (or_from (told n) (is_peak chunks n) untold no_peak)

own_sibling : (xs : List Node) (b : Bool) (n : Node) → b ≡ false → list_any (same_node n) (xs ++ cond b [] (n ∷ [])) ≡ true
own_sibling xs true n e = absurd cc
own_sibling xs false n e = some_own xs n

sibling_needed : (layers chunks : ℕ) (brought told : Node → Bool) (n : Node) → told n ≡ false → is_peak chunks n ≡ false
    → ((m : Node) → list_any (same_node m) (uncles_from (suc layers) chunks told n) ≡ true → brought m ≡ true)
    → (brought (sibling_of n) || told (sibling_of n)) ≡ true
sibling_needed layers chunks brought told n untold no_peak has = ⊎_elim
    (λ knows. or_right (brought (sibling_of n)) (told (sibling_of n)) knows)
    (λ lacks. or_left (brought (sibling_of n)) (told (sibling_of n))
    (has (sibling_of n)
    (ap (λ (xs : List Node). list_any (same_node (sibling_of n)) xs) (uncles_are layers chunks told n untold no_peak)
    ∙ own_sibling (uncles_from layers chunks told (parent_of n)) (told (sibling_of n)) (sibling_of n) lacks)))
    (cases_Bool (told (sibling_of n)))

uncles_above : (layers chunks : ℕ) (brought told : Node → Bool) (n : Node) → told n ≡ false → is_peak chunks n ≡ false
    → ((m : Node) → list_any (same_node m) (uncles_from (suc layers) chunks told n) ≡ true → brought m ≡ true)
    → (m : Node) → list_any (same_node m) (uncles_from layers chunks told (parent_of n)) ≡ true → brought m ≡ true
uncles_above layers chunks brought told n untold no_peak has m e =
    has m (ap (λ (xs : List Node). list_any (same_node m) xs) (uncles_are layers chunks told n untold no_peak)
    ∙ in_front (uncles_from layers chunks told (parent_of n)) (cond (told (sibling_of n)) [] (sibling_of n ∷ [])) m e)

planned : (layers chunks : ℕ) (brought told : Node → Bool) (n : Node) → n.offset < above n.layer chunks → above n.layer chunks < 2 ^ layers → n.layer + layers ≤ 21
    → list_all (λ p. brought p || told p) (peaks chunks) ≡ true
    → ((m : Node) → list_any (same_node m) (uncles_from layers chunks told n) ≡ true → brought m ≡ true)
    → completes_from layers chunks brought told n ≡ true
planned zero chunks brought told n lt few le ready has = absurd (omega arith)
planned (suc layers) chunks brought told n lt few le ready has = ⊎_elim
    (λ knows. ends_here layers chunks brought told n (inl knows))
    (λ untold. ⊎_elim
    (λ peak. ends_here layers chunks brought told n (inr (peak, ready)))
    (λ no_peak. goes_up layers chunks brought told n no_peak
    (sibling_needed layers chunks brought told n untold no_peak has)
    (planned layers chunks brought told (parent_of n)
    (rw above_up (goes_on (above n.layer chunks) n.offset lt (no_last chunks n (omega arith) no_peak)))
    (rw above_up (fewer layers (above n.layer chunks) few))
    (omega arith) ready (uncles_above layers chunks brought told n untold no_peak has)))
    (cases_Bool (is_peak chunks n)))
    (cases_Bool (told n))

all_own : (xs ys : List Node) (q : Node → Bool) → ((n : Node) → list_any (same_node n) ys ≡ true → q n ≡ true) → ((n : Node) → list_any (same_node n) xs ≡ true → list_any (same_node n) ys ≡ true)
    → list_all q xs ≡ true
all_own [] ys q has within = refl
all_own (x ∷ xs) ys q has within = and_from (q x) (list_all q xs)
    (has x (within x (or_left (same_node x x) (list_any (same_node x) xs) (same_is x))))
    (all_own xs ys q has (λ n e. within n (or_right (same_node n x) (list_any (same_node n) xs) e)))

peaks_ready : (chunks : ℕ) (told : Node → Bool) (i : ℕ)
    → list_all (λ p. list_any (same_node p) (plan chunks told i) || told p) (peaks chunks) ≡ true
peaks_ready chunks told i = ⊎_elim
    (λ known. all_weaker (λ p. list_any (same_node p) (plan chunks told i)) told (peaks chunks) known)
    (λ unknown. all_own (peaks chunks) (peaks chunks) (λ p. list_any (same_node p) (plan chunks told i) || told p)
    (λ n e. or_left (list_any (same_node n) (plan chunks told i)) (told n)
    (in_front (cond (list_all told (peaks chunks)) [] (peaks chunks)) (uncles_from (height chunks + 1) chunks told (leaf_at i)) n
    (ap (λ (xs : List Node). list_any (same_node n) xs) (cond-false (list_all told (peaks chunks)) [] (peaks chunks) unknown) ∙ e)))
    (λ n e. e))
    (cases_Bool (list_all told (peaks chunks)))

pub plans_complete : PlansComplete
plans_complete chunks told i le lt =
    let is = height_is chunks (omega arith) le in
    let up : 2 ^ (height chunks + 1) ≡ 2 ^ height chunks * 2 = rw add-one (pow-suc 2 (height chunks)) in
    let low : height chunks ≤ 20 = height_bound chunks is le in
    planned (height chunks + 1) chunks (λ n. list_any (same_node n) (plan chunks told i)) told (leaf_at i) lt (omega (arith, is.covers, up)) (omega arith)
    (peaks_ready chunks told i)
    (λ m e. in_back (cond (list_all told (peaks chunks)) [] (peaks chunks)) (uncles_from (height chunks + 1) chunks told (leaf_at i)) m e)
