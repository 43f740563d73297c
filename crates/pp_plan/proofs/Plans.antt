-- The pieces of a plan.
use Rattle.std.proofs.Common.{◌≡◌, inl, inr, ⊎_elim, ℕ, zero, suc, ◌+◌, ◌^◌, ◌<◌, ◌≤◌, Bool, true, false, cond, ◌&&◌, ◌||◌, List, [], ◌∷◌, ◌++◌, refl, sym, ◌∙◌, ap, append_assoc, append-nil, ◌-◌, arith}
use Rattle.std.proofs.lemmas.Bool.{cases_Bool, and_from, and_left, or_left, cond-true, cond-false}
use Rattle.std.specs.List.{list_all}
use Rattle.std.specs.Prelude.{Result, Ok, Err, IsOk, OnOk}
use Rattle.pp_terms.specs.tree.Tree.{Node, height, peaks, is_peak, leaf_at}
use Rattle.pp_terms.specs.tree.Bins.{parent_of, sibling_of}
use Rattle.pp_traffic.specs.Hashes.{completes}
use Rattle.pp_traffic.specs.Laws.{plan, uncles_from}
use Rattle.pp_plan.specs.Law.{IsTold}
use Rattle.pp_plan.specs.Told.{ToldNodes, knows, is_marked}
use Rattle.pp_plan.proofs.Least.{plans_are_least}
use Rattle.pp_plan.proofs.Stories.{peaks_are, all_wider}

front_told : (t : ToldNodes) → t.some ≡ true → list_all (knows t) (peaks t.chunks) ≡ true
front_told t e = all_wider (is_peak t.chunks) (knows t)
    (λ n p. and_from t.some (is_peak t.chunks n || is_marked t (parent_of n)) e (or_left (is_peak t.chunks n) (is_marked t (parent_of n)) p))
    (peaks t.chunks) (peaks_are t.chunks)

none_told : (t : ToldNodes) → t.some ≡ false → (n : Node) → knows t n ≡ false
none_told t e n = and_left t.some (is_peak t.chunks n || is_marked t (parent_of n)) e

knows_is : (t : ToldNodes) → IsTold t.chunks (knows t)
knows_is t = ⊎_elim (λ e. inl (front_told t e)) (λ e. inr (none_told t e)) (cases_Bool t.some)

unless_told : (q : Node → Bool) → ((n : Node) → q n ≡ false) → (xs : List Node) → cond (list_all q xs) [] xs ≡ xs
unless_told q none [] = refl
unless_told q none (x ∷ xs) = cond-false (q x && list_all q xs) [] (x ∷ xs) (and_left (q x) (list_all q xs) (none x))

-- the whole plan: the peaks unless something was told, then the siblings
pub plan_is : (t : ToldNodes) (i : ℕ) (front out : List Node) → front ≡ cond t.some [] (peaks t.chunks)
    → out ≡ front ++ uncles_from (height t.chunks + 1) t.chunks (knows t) (leaf_at i)
    → out ≡ plan t.chunks (knows t) i
plan_is t i front out front_is is = is
    ∙ ap (λ (xs : List Node). xs ++ uncles_from (height t.chunks + 1) t.chunks (knows t) (leaf_at i)) (front_is ∙ ⊎_elim
    (λ e. cond-true t.some [] (peaks t.chunks) e ∙ sym (cond-true (list_all (knows t) (peaks t.chunks)) [] (peaks t.chunks) (front_told t e)))
    (λ e. cond-false t.some [] (peaks t.chunks) e ∙ sym (unless_told (knows t) (none_told t e) (peaks t.chunks)))
    (cases_Bool t.some))

-- a plan completes the path, and no proper part of it
pub plan_least : (t : ToldNodes) (i : ℕ) (out : List Node) (brought : Node → Bool) → t.chunks ≤ 2 ^ 20 → i < t.chunks
    → out ≡ plan t.chunks (knows t) i
    → completes t.chunks brought (knows t) i ≡ list_all brought out
plan_least t i out brought most lt is = plans_are_least t.chunks (knows t) i brought (knows_is t) most lt
    ∙ sym (ap (λ (xs : List Node). list_all brought xs) is)

-- the climb: at its bound, where it ends, and past a sibling that is told or isn't
pub at_bound : (layers chunks : ℕ) (told : Node → Bool) (n : Node) (out : List Node) → layers ≡ 0 → out ≡ out ++ uncles_from layers chunks told n
at_bound zero chunks told n out e = sym (append-nil out)
at_bound (suc layers) chunks told n out e = absurd (omega (arith, e))

pub at_end : (layers chunks : ℕ) (told : Node → Bool) (n : Node) (out : List Node) → (layers ≡ 0 → ⊥) → (told n || is_peak chunks n) ≡ true
    → out ≡ out ++ uncles_from layers chunks told n
at_end zero chunks told n out some e = absurd (some refl)
at_end (suc layers) chunks told n out some e = sym (append-nil out)
    ∙ sym (ap (λ (xs : List Node). out ++ xs) (cond-true (told n || is_peak chunks n) [] (uncles_from layers chunks told (parent_of n) ++ cond (told (sibling_of n)) [] (sibling_of n ∷ [])) e))

pub past_sibling : (layers chunks : ℕ) (told : Node → Bool) (n : Node) (out more : List Node) → (layers ≡ 0 → ⊥) → (told n || is_peak chunks n) ≡ false → told (sibling_of n) ≡ true
    → more ≡ out ++ uncles_from (layers - 1) chunks told (parent_of n)
    → more ≡ out ++ uncles_from layers chunks told n
past_sibling zero chunks told n out more some e known is = absurd (some refl)
past_sibling (suc layers) chunks told n out more some e known is = is
    ∙ ap (λ (k : ℕ). out ++ uncles_from k chunks told (parent_of n)) (omega arith)
    ∙ sym (ap (λ (xs : List Node). out ++ xs)
    (cond-false (told n || is_peak chunks n) [] (uncles_from layers chunks told (parent_of n) ++ cond (told (sibling_of n)) [] (sibling_of n ∷ [])) e
    ∙ ap (λ (xs : List Node). uncles_from layers chunks told (parent_of n) ++ xs) (cond-true (told (sibling_of n)) [] (sibling_of n ∷ []) known)
    ∙ append-nil (uncles_from layers chunks told (parent_of n))))

pub with_sibling : (layers chunks : ℕ) (told : Node → Bool) (n : Node) (out more all : List Node) → (layers ≡ 0 → ⊥) → (told n || is_peak chunks n) ≡ false → told (sibling_of n) ≡ false
    → more ≡ out ++ uncles_from (layers - 1) chunks told (parent_of n)
    → all ≡ more ++ sibling_of n ∷ []
    → all ≡ out ++ uncles_from layers chunks told n
with_sibling zero chunks told n out more all some e unknown is last = absurd (some refl)
with_sibling (suc layers) chunks told n out more all some e unknown is last = last
    ∙ ap (λ (xs : List Node). xs ++ sibling_of n ∷ []) (is ∙ ap (λ (k : ℕ). out ++ uncles_from k chunks told (parent_of n)) (omega arith))
    ∙ append_assoc out (uncles_from layers chunks told (parent_of n)) (sibling_of n ∷ [])
    ∙ sym (ap (λ (xs : List Node). out ++ xs)
    (cond-false (told n || is_peak chunks n) [] (uncles_from layers chunks told (parent_of n) ++ cond (told (sibling_of n)) [] (sibling_of n ∷ [])) e
    ∙ ap (λ (xs : List Node). uncles_from layers chunks told (parent_of n) ++ xs) (cond-false (told (sibling_of n)) [] (sibling_of n ∷ []) unknown)))

pub ok_gives : {T E : Type 0} (r : Result T E) (P : Type 0) → IsOk r → OnOk r P → P
ok_gives (Ok v) P is p = p
ok_gives (Err e) P is p = absurd cc

-- all of them, since none is told
pub front_is : (some : Bool) (all found : List Node) → some ≡ false → found ≡ all → found ≡ cond some [] all
front_is true all found e is = absurd cc
front_is false all found e is = is
