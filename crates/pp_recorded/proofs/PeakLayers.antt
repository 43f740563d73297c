-- Peaks lie in the 21 lowest layers.
use Rattle.std.proofs.Common.{◌≡◌, ℕ, zero, suc, ◌-◌, ◌<◌, ◌%◌, eqb, Bool, true, false, cond, List, [], ◌∷◌, length, get_or, map, sym, subst, arith}
use Rattle.std.specs.List.{AllByRecursion}
use Rattle.pp_terms.specs.tree.Tree.{Node, above, peaks_below, peaks}
use Rattle.pp_tree.specs.declared.node.Node as code
use Rattle.pp_tree.specs.Node.{node_of}

abbrev Low : ℕ → List Node → Type 0
Low k ns = AllByRecursion (λ (n : Node). n.layer < k) ns

higher : (k : ℕ) (ns : List Node) → Low k ns → Low (suc k) ns
higher k [] low = tt
higher k (n ∷ ns) low = (let e : n.layer < suc k = omega (arith, low.0) in e, higher k ns low.1)

low_below : (k n : ℕ) → Low k (peaks_below k n)
low_below zero n = tt
low_below (suc k) n = by (eqb (above k n % 2) 1) (low_below k n)
  where
    by : (b : Bool) → Low k (peaks_below k n) → Low (suc k) (cond b (record { layer = k; offset = above k n - 1 } ∷ peaks_below k n) (peaks_below k n))
    by true low = (let e : k < suc k = omega arith in e, higher k (peaks_below k n) low)
    by false low = higher k (peaks_below k n) low

pub low_peaks : (n : ℕ) → Low 21 (peaks n)
low_peaks n = low_below 21 n

-- as a list in memory
all_low : (xs : List code.Node) → Low 21 (map node_of xs) → (k : ℕ) (z : code.Node) → k < length xs → (get_or xs k z).layer < 21
all_low [] low k z lt = absurd (omega arith)
all_low (x ∷ xs) low zero z lt = low.0
all_low (x ∷ xs) low (suc k) z lt = all_low xs low.1 k z (let e : k < length xs = omega arith in e)

pub peaks_low : (chunks : ℕ) (xs ys : List code.Node) → ys ≡ xs → map node_of xs ≡ peaks chunks
    → (k : ℕ) (z : code.Node) → k < length ys → (get_or ys k z).layer < 21
peaks_low chunks xs ys same are =
    subst (λ (zs : List code.Node). (k : ℕ) (z : code.Node) → k < length zs → (get_or zs k z).layer < 21) (sym same)
    (all_low xs (subst (λ (ns : List Node). Low 21 ns) (sym are) (low_peaks chunks)))
