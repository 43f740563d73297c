use Rattle.std.proofs.Common.{◌≡◌, suc, ◌+◌, ◌-◌, ◌^◌, ◌<◌, map, refl, subst, ap, arith}
use Rattle.pp_tree.specs.Node.{node_of}
use Rattle.pp_ranges.specs.Covering.{IsCoverTo}
use Rattle.pp_ranges.proofs.CoverSteps.{descend_on, descend_facts}
use Rattle.pp_ranges.proofs.nodes.descend.Goals as goal

pub loop-layer-preserved-then-at-layer : goal.loop-layer-preserved-then-at-layer
loop-layer-preserved-then-at-layer c =
    let up : suc (c.loop-layer.layer - 1) ≡ c.loop-layer.layer = omega arith in
    let small : c.loop-layer.layer - 1 < 32 = omega (arith, c.loop-layer.invariant.5) in
    let facts = descend_facts c.args.end c.loop-layer.at (c.loop-layer.layer - 1) c.loop-layer.layer _ up c.loop-layer.invariant.1
    c.loop-layer.invariant.4 small refl in (
      λ low cover. descend_on low c.args.end c.loop-layer.at (c.loop-layer.layer - 1) c.loop-layer.layer _ _ _ c.loop-layer.nodes.items
          c.push.new.self.items up c.loop-layer.invariant.1 c.loop-layer.invariant.4 refl small refl c.if-at-layer.true refl c.push.ensures.items
          (c.loop-layer.invariant.0 low cover),
      facts.1,
      c.if-at-layer.true,
      omega (arith, c.push.ensures.len, c.loop-layer.invariant.3),
      facts.2,
      omega (arith, c.loop-layer.invariant.5),
    )

pub loop-layer-preserved : goal.loop-layer-preserved
loop-layer-preserved c =
    let up : suc (c.loop-layer.layer - 1) ≡ c.loop-layer.layer = omega arith in
    let small : c.loop-layer.layer - 1 < 32 = omega (arith, c.loop-layer.invariant.5) in
    let facts = descend_facts c.args.end c.loop-layer.at (c.loop-layer.layer - 1) c.loop-layer.layer _ up c.loop-layer.invariant.1
    c.loop-layer.invariant.4 small refl in (
      c.loop-layer.invariant.0,
      facts.0,
      c.loop-layer.invariant.2,
      omega (arith, c.loop-layer.invariant.3),
      subst (λ n. c.args.end < c.loop-layer.at + n) facts.3 c.if-at-layer.false,
      omega (arith, c.loop-layer.invariant.5),
    )

pub returns : goal.returns
returns c = λ low cover.
    let none : c.loop-layer.layer ≡ 0 = omega arith in
    let one = ap (λ n. 2 ^ n) none in
    let done : c.loop-layer.at ≡ c.args.end = omega (arith, c.loop-layer.invariant.2, c.loop-layer.invariant.4, one) in
    subst (λ a. IsCoverTo low c.args.end a (map node_of c.loop-layer.nodes.items)) done (c.loop-layer.invariant.0 low cover)
