use Rattle.std.proofs.Common.{◌≡◌, ◌+◌, sym, ◌∙◌, ap, arith}
use Rattle.pp_terms.specs.format.Descriptor.{chunks_of}
use Rattle.pp_tree.specs.declared.node.Node.{Node}
use Rattle.pp_recorded.specs.Claims.{known_of}
use Rattle.pp_recorded.specs.Provings.{looked_up}
use Rattle.pp_recorded.proofs.Provings.{climbed_more}
use Rattle.pp_recorded.proofs.proving.climb.Goals as goal

pub steps-preserved : goal.steps-preserved
steps-preserved c =
    let up : c.parent-node.result.layer ≡ c.steps.node.layer + 1 = ap (λ (at : Node). at.layer) c.parent-node.ensures.is in
    let low = c.steps.invariant.low in
    let some = c.steps-test.true in
    record {
      low = omega (arith, up, low, some);
      same = c.steps.invariant.same
          ∙ climbed_more (looked_up c.args.is_filled (chunks_of c.args.claims.now.descriptor.now) (known_of c.args.claims.now)) c.steps.left c.steps.node.layer c.parent-node.result.layer
          c.steps.node.offset c.parent-node.result.offset c.steps.reached c.in-Some.other c.join-reached.result c.steps-test.true
          (sym (c.in-Some.ensures ∙ ap (λ (at : Node). looked_up c.args.is_filled (chunks_of c.args.claims.now.descriptor.now) (known_of c.args.claims.now) at.layer at.offset) c.sibling.ensures.is))
          up (ap (λ (at : Node). at.offset) c.parent-node.ensures.is) c.join-reached.ensures;
    }
