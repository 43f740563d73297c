-- Complete paths in words by places.
use Rattle.std.proofs.Common.{◌≡◌, ◌⊎◌, inl, inr, ⊎_elim, ℕ, zero, suc, ◌+◌, ◌<◌, Bool, true, false, not, ◌&&◌, ◌||◌, arith}
use Rattle.std.proofs.lemmas.Bool.{and_parts, and_from, or_cases, or_left, or_right, not-true, not_from_false, cases_Bool}
use Rattle.std.specs.List.{list_all}
use Rattle.pp_terms.specs.tree.Tree.{Node, height, peaks, is_peak, leaf_at}
use Rattle.pp_terms.specs.tree.Bins.{parent_of, sibling_of}
use Rattle.pp_traffic.specs.Hashes.{completes_from, completes}
use Rattle.pp_traffic.specs.Places.{ancestor, CompletesByPlaces, PathsByPlaces}

-- the same from any node, within so many layers
record FromNode (layers chunks : ℕ) (brought told : Node → Bool) (n : Node) : Type 0 where
  up : ℕ
  within : up < layers
  ends : (told (ancestor up n) ≡ true) ⊎ ((is_peak chunks (ancestor up n) ≡ true) × (list_all (λ p. brought p || told p) (peaks chunks) ≡ true))
  passed : (k : ℕ) → k < up → (told (ancestor k n) ≡ false) × (is_peak chunks (ancestor k n) ≡ false)
  siblings : (k : ℕ) → k < up → (brought (sibling_of (ancestor k n)) || told (sibling_of (ancestor k n))) ≡ true

here : (layers chunks : ℕ) (brought told : Node → Bool) (n : Node)
    → ((told n ≡ true) ⊎ ((is_peak chunks n ≡ true) × (list_all (λ p. brought p || told p) (peaks chunks) ≡ true)))
    → FromNode (suc layers) chunks brought told n
here layers chunks brought told n ends = record {
  up = 0;
  within = omega arith;
  ends = ends;
  passed = λ k lt. absurd (omega arith);
  siblings = λ k lt. absurd (omega arith);
}

-- below what holds above
each_below : (P : ℕ → Type 0) (n : ℕ) → P 0 → ((k : ℕ) → k < n → P (suc k)) → (k : ℕ) → k < suc n → P k
each_below P n first rest zero lt = first
each_below P n first rest (suc k) lt = rest k (omega arith)

above : (layers chunks : ℕ) (brought told : Node → Bool) (n : Node) → told n ≡ false → is_peak chunks n ≡ false
    → (brought (sibling_of n) || told (sibling_of n)) ≡ true → FromNode layers chunks brought told (parent_of n) → FromNode (suc layers) chunks brought told n
above layers chunks brought told n untold no_peak sibling rest = record {
  up = suc rest.up;
  within = omega (arith, rest.within);
  ends = rest.ends;
  passed = each_below (λ k. (told (ancestor k n) ≡ false) × (is_peak chunks (ancestor k n) ≡ false)) rest.up (untold, no_peak) rest.passed;
  siblings = each_below (λ k. (brought (sibling_of (ancestor k n)) || told (sibling_of (ancestor k n))) ≡ true) rest.up sibling rest.siblings;
}

by_node : (layers chunks : ℕ) (brought told : Node → Bool) (n : Node) → completes_from layers chunks brought told n ≡ true → FromNode layers chunks brought told n
by_node zero chunks brought told n e = absurd cc
by_node (suc layers) chunks brought told n e = ⊎_elim
    (λ first. ⊎_elim
    (λ is_told. here layers chunks brought told n (inl is_told))
    (λ peak. let parts = and_parts (is_peak chunks n) (list_all (λ p. brought p || told p) (peaks chunks)) peak in here layers chunks brought told n (inr (parts.0, parts.1)))
    (or_cases (told n) (is_peak chunks n && list_all (λ p. brought p || told p) (peaks chunks)) first))
    (λ up.
    let outer = and_parts (not (is_peak chunks n) && (brought (sibling_of n) || told (sibling_of n))) (completes_from layers chunks brought told (parent_of n)) up in
    let inner = and_parts (not (is_peak chunks n)) (brought (sibling_of n) || told (sibling_of n)) outer.0 in
    ⊎_elim
    (λ is_told. here layers chunks brought told n (inl is_told))
    (λ untold. above layers chunks brought told n untold (not-true (is_peak chunks n) inner.0) inner.1 (by_node layers chunks brought told (parent_of n) outer.1))
    (cases_Bool (told n)))
    (or_cases (told n || is_peak chunks n && list_all (λ p. brought p || told p) (peaks chunks)) (not (is_peak chunks n) && (brought (sibling_of n) || told (sibling_of n)) && completes_from layers chunks brought told (parent_of n)) e)

pub ends_here : (layers chunks : ℕ) (brought told : Node → Bool) (n : Node)
    → ((told n ≡ true) ⊎ ((is_peak chunks n ≡ true) × (list_all (λ p. brought p || told p) (peaks chunks) ≡ true)))
    → completes_from (suc layers) chunks brought told n ≡ true
ends_here layers chunks brought told n ends =
    or_left (told n || is_peak chunks n && list_all (λ p. brought p || told p) (peaks chunks)) (not (is_peak chunks n) && (brought (sibling_of n) || told (sibling_of n)) && completes_from layers chunks brought told (parent_of n))
    (⊎_elim (λ is_told. or_left (told n) (is_peak chunks n && list_all (λ p. brought p || told p) (peaks chunks)) is_told)
    (λ peak. or_right (told n) (is_peak chunks n && list_all (λ p. brought p || told p) (peaks chunks)) (and_from (is_peak chunks n) (list_all (λ p. brought p || told p) (peaks chunks)) peak.0 peak.1)) ends)

pub goes_up : (layers chunks : ℕ) (brought told : Node → Bool) (n : Node) → is_peak chunks n ≡ false
    → (brought (sibling_of n) || told (sibling_of n)) ≡ true → completes_from layers chunks brought told (parent_of n) ≡ true
    → completes_from (suc layers) chunks brought told n ≡ true
goes_up layers chunks brought told n no_peak sibling rest =
    or_right (told n || is_peak chunks n && list_all (λ p. brought p || told p) (peaks chunks)) (not (is_peak chunks n) && (brought (sibling_of n) || told (sibling_of n)) && completes_from layers chunks brought told (parent_of n))
    (and_from (not (is_peak chunks n) && (brought (sibling_of n) || told (sibling_of n))) (completes_from layers chunks brought told (parent_of n))
    (and_from (not (is_peak chunks n)) (brought (sibling_of n) || told (sibling_of n)) (not_from_false (is_peak chunks n) no_peak) sibling) rest)

node_by : (up layers chunks : ℕ) (brought told : Node → Bool) (n : Node) → up < layers
    → ((told (ancestor up n) ≡ true) ⊎ ((is_peak chunks (ancestor up n) ≡ true) × (list_all (λ p. brought p || told p) (peaks chunks) ≡ true)))
    → ((k : ℕ) → k < up → (told (ancestor k n) ≡ false) × (is_peak chunks (ancestor k n) ≡ false))
    → ((k : ℕ) → k < up → (brought (sibling_of (ancestor k n)) || told (sibling_of (ancestor k n))) ≡ true)
    → completes_from layers chunks brought told n ≡ true
node_by up zero chunks brought told n lt ends passed siblings = absurd (omega arith)
node_by zero (suc layers) chunks brought told n lt ends passed siblings = ends_here layers chunks brought told n ends
node_by (suc up) (suc layers) chunks brought told n lt ends passed siblings =
    goes_up layers chunks brought told n (passed 0 (omega arith)).1 (siblings 0 (omega arith))
    (node_by up layers chunks brought told (parent_of n) (omega arith) ends (λ k less. passed (suc k) (omega arith)) (λ k less. siblings (suc k) (omega arith)))

to_places : (chunks : ℕ) (brought told : Node → Bool) (i : ℕ) → completes chunks brought told i ≡ true → CompletesByPlaces chunks brought told i
to_places chunks brought told i e =
    let found = by_node (height chunks + 1) chunks brought told (leaf_at i) e in
    record { up = found.up; within = omega (arith, found.within); ends = found.ends; passed = found.passed; siblings = found.siblings }

pub paths_by_places : PathsByPlaces
paths_by_places chunks brought told i = (
  to_places chunks brought told i,
  λ by. node_by by.up (height chunks + 1) chunks brought told (leaf_at i) (omega (arith, by.within)) by.ends by.passed by.siblings,
)
