use Rattle.std.proofs.Common.{sym, ◌∙◌, ap, arith}
use Rattle.pp_terms.specs.tree.Claims.{latest}
use Rattle.pp_terms.specs.tree.Proves.{filled}
use Rattle.pp_targets.proofs.LearnedSizes.{climb_step, beside_step}
use Rattle.pp_targets.proofs.learning.climb.Goals as goal

pub loop-node-preserved : goal.loop-node-preserved
loop-node-preserved c =
    let node = c.loop-node.node in
    let up = c.parent-node.result in
    let claims = filled c.args.chunks (latest c.args.claims.now) in
    let beside = sym (ap (λ at. claims at.layer at.offset) c.sibling-beside.ensures.is) ∙ sym c.in-Some.ensures in
    let layer = ap (λ at. at.layer) c.parent-node.ensures.is in
    let offset = ap (λ at. at.offset) c.parent-node.ensures.is in
    record {
      low = omega (arith, layer);
      same = climb_step claims c.args.top node.layer up.layer node.offset up.offset c.loop-node.digest c.in-Some.other
          c.join-digest.result c.loop-node-test.true beside layer offset c.join-digest.ensures ∙ c.loop-node.invariant.same;
      beside = beside_step claims c.args.top node.layer up.layer node.offset up.offset c.in-Some.other c.loop-node-test.true beside
          layer offset ∙ c.loop-node.invariant.beside;
    }
