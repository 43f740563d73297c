use Rattle.std.proofs.Common.{sym, ◌∙◌, ap, arith}
use Rattle.pp_tree.specs.Book.{entry}
use Rattle.pp_paths.specs.Climb.{or_else}
use Rattle.pp_paths.proofs.Climbs.{climb_step}
use Rattle.pp_paths.proofs.climbing.climb_from.Goals as goal

pub loop-node-preserved : goal.loop-node-preserved
loop-node-preserved g c =
    let node = c.loop-node.node in
    let up = c.parent-node.result in
    let book = entry c.args.book.now in
    let others = g.O.Others.look_up c.args.others.now in
    let beside = ap (λ at. or_else book others at.layer at.offset) c.sibling-beside.ensures.is in (
      omega (arith, ap (λ at. at.layer) c.parent-node.ensures.is),
      climb_step book others c.args.top node.layer up.layer node.offset up.offset c.loop-node.digest c.in-Some-known.other
          c.join-digest.result c.loop-node-test.true (sym c.in_default.ensures.get) (sym beside ∙ sym c.in-Some-known.ensures)
          (ap (λ at. at.layer) c.parent-node.ensures.is) (ap (λ at. at.offset) c.parent-node.ensures.is) c.join-digest.ensures
          ∙ c.loop-node.invariant.1,
    )
