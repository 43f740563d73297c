use Rattle.std.proofs.Common.{◌≡◌, ◌++◌, ◌-◌, map, refl, ◌∷◌, [], ap, ◌∙◌, subst, sym, List, arith}
use Rattle.std.proofs.lemmas.List.{map-append}
use Rattle.pp_terms.specs.tree.Tree as terms
use Rattle.pp_terms.specs.tree.Tree.{peaks_below}
use Rattle.pp_tree.specs.Node.{node_of}
use Rattle.pp_tree.proofs.Halving.{peak_here, no_peak_here}
use Rattle.pp_tree.proofs.node.peaks_in.Goals as goal

pub loop-layer-preserved-then-full-eq1 : goal.loop-layer-preserved-then-full-eq1
loop-layer-preserved-then-full-eq1 c =
    let grown = ap (λ xs. map node_of xs) c.push.ensures.items
    ∙ map-append node_of c.loop-layer.peaks.items (_ ∷ []) in (
      omega (arith, c.push.ensures.len),
      subst (λ (out : List terms.Node). out ++ peaks_below (c.loop-layer.layer - 1) c.args.chunks ≡ peaks_below c.args.layers c.args.chunks)
          (sym grown)
          (peak_here c.loop-layer.layer c.args.chunks _ (map node_of c.loop-layer.peaks.items) _ c.loop-layer-test.true refl
          c.if-full-eq1.true c.loop-layer.invariant.1),
    )

pub loop-layer-preserved : goal.loop-layer-preserved
loop-layer-preserved c = (
  omega arith,
  no_peak_here c.loop-layer.layer c.args.chunks _ (map node_of c.loop-layer.peaks.items) _ c.loop-layer-test.true refl
      c.if-full-eq1.false c.loop-layer.invariant.1,
)
