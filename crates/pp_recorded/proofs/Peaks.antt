-- Tests of the peaks, without looking into them.
use Rattle.std.proofs.Common.{◌≡◌, ℕ, Bool, ◌&&◌, List, [], ◌∷◌, map, refl, ◌∙◌, ap}
use Rattle.std.specs.List.{list_all}
use Rattle.pp_terms.specs.tree.Tree.{Node, peaks}
use Rattle.pp_tree.specs.declared.node.Node as code
use Rattle.pp_tree.specs.Node.{node_of}

all_map : (p : Node → Bool) (xs : List code.Node) → list_all (λ (x : code.Node). p (node_of x)) xs ≡ list_all p (map node_of xs)
all_map p [] = refl
all_map p (x ∷ xs) = ap (λ (b : Bool). p (node_of x) && b) (all_map p xs)

pub each_peak : (chunks : ℕ) (p : Node → Bool) (xs ys : List code.Node) (b : Bool) → ys ≡ xs → map node_of xs ≡ peaks chunks
    → b ≡ list_all (λ (x : code.Node). p (node_of x)) ys → b ≡ list_all p (peaks chunks)
each_peak chunks p xs ys b same are is =
    is ∙ ap (λ (zs : List code.Node). list_all (λ (x : code.Node). p (node_of x)) zs) same
    ∙ all_map p xs ∙ ap (λ (ns : List Node). list_all p ns) are
