use Rattle.std.proofs.Common.{map, length, sym, refl, subst, ap, ◌∙◌, List, arith}
use Rattle.pp_tree.specs.declared.node.Node.{Node}
use Rattle.pp_tree.specs.Node.{node_of}
use Rattle.pp_ranges.specs.Covering.{IsCoverTo}
use Rattle.pp_ranges.proofs.Dyadic.{cover_begins}
use Rattle.pp_ranges.proofs.CoverSteps.{climb_on, climb_past}
use Rattle.pp_ranges.proofs.nodes.climb.Goals as goal
use Rattle.pp_ranges.proofs.nodes.climb.Goals.{then-offset-eq1, else-offset-eq1}

pub loop-layer-init : goal.loop-layer-init
loop-layer-init c =
    let size = ap (λ (xs : List Node). length xs) c.requires.empty in (
      subst (λ (xs : List Node). IsCoverTo c.args.first c.args.end c.args.first (map node_of xs)) (sym c.requires.empty)
          (cover_begins c.args.first c.args.end),
      (c.args.first, omega arith),
      omega arith,
      omega (arith, size),
      omega arith,
      c.requires.part,
    )

pub loop-layer-preserved : goal.loop-layer-preserved
loop-layer-preserved c = elim c.if-offset-eq1.branch [
  | then-offset-eq1 w ↦
      climb_on c.args.first c.args.end c.loop-layer.at c.loop-layer.layer _ _ c.if-offset-eq1.at c.loop-layer.nodes.items
      c.if-offset-eq1.nodes.items c.loop-layer.invariant.0 c.loop-layer.invariant.1 c.loop-layer.invariant.3 c.loop-layer.invariant.5
      refl w.if-offset-eq1.true c.loop-layer-test.true refl c.if-at-layer.true w.at-is (ap (λ v. v.items) w.nodes-is ∙ w.push.ensures.items)
  | else-offset-eq1 w ↦
      climb_past c.args.first c.args.end c.loop-layer.at c.loop-layer.layer _ c.if-offset-eq1.at c.loop-layer.nodes.items
      c.if-offset-eq1.nodes.items c.loop-layer.invariant.0 c.loop-layer.invariant.1 c.loop-layer.invariant.2 c.loop-layer.invariant.3
      c.loop-layer.invariant.5 refl w.if-offset-eq1.false c.loop-layer-test.true w.at-is (ap (λ v. v.items) w.nodes-is)
]
