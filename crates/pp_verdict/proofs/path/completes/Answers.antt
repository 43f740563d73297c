use Rattle.std.proofs.Common.{◌≡◌, ◌+◌, ◌-◌, suc, Some, Option, Bool, refl, sym, ◌∙◌, ap, arith}
use Rattle.pp_terms.specs.tree.Tree.{Node}
use Rattle.pp_terms.specs.tree.Bins.{parent_of}
use Rattle.pp_terms.specs.format.Descriptor.{chunks_of}
use Rattle.pp_traffic.specs.Hashes.{is_told, completes_from}
use Rattle.pp_tree.specs.Node.{node_of}
use Rattle.pp_recorded.specs.Paths.{brought, settled}
use Rattle.pp_recorded.proofs.Climbs.{climbed, climb_more}
use Rattle.pp_verdict.proofs.path.completes.Goals as goal

pub returns-in-Some : goal.returns-in-Some
returns-in-Some c = λ s stands.
    climbed (chunks_of c.args.descriptor.now) c.layers.layers (c.layers.layers - 1) (brought c.args.descriptor.now c.args.chunk.datagram.now c.args.chunk.count)
    (is_told (chunks_of c.args.descriptor.now) s) (node_of c.layers.node) (Some c.in-Some.answer) c.in-Some.answer
    (let e : c.layers.layers ≡ suc (c.layers.layers - 1) = omega arith in e) (c.in-Some.ensures s stands) refl
    ∙ sym (c.layers.invariant.same s stands)

pub layers-preserved : goal.layers-preserved
layers-preserved c =
    let d = c.args.descriptor.now in
    let b = brought c.args.descriptor.now c.args.chunk.datagram.now c.args.chunk.count in
    record {
      low = (let up : c.parent-node.result.layer ≡ c.layers.node.layer + 1 = ap (λ (n : Node). n.layer) c.parent-node.ensures.parent in
          omega (arith, up, c.layers.invariant.low));
      same = λ s stands. c.layers.invariant.same s stands
          ∙ climb_more (chunks_of d) c.layers.layers (c.layers.layers - 1) b (is_told (chunks_of d) s) (node_of c.layers.node) (let e : c.layers.layers ≡ suc (c.layers.layers - 1) = omega arith in e)
          ∙ ap (λ (a : Option Bool). settled a (completes_from (c.layers.layers - 1) (chunks_of d) b (is_told (chunks_of d) s) (parent_of (node_of c.layers.node)))) (sym (c.in-None.ensures s stands))
          ∙ ap (λ (n : Node). completes_from (c.layers.layers - 1) (chunks_of d) b (is_told (chunks_of d) s) n) (sym c.parent-node.ensures.parent);
    }
