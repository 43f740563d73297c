use Rattle.std.proofs.Common.{refl, ◌∙◌, ap}
use Rattle.pp_draft.specs.Puts.{message_for}
use Rattle.pp_draft.proofs.Names.{low_at, node_name, can_put, names_chunks}
use Rattle.pp_draft.proofs.Putting.{adds_none, cover_more, cover_lacks, cover_done}
use Rattle.pp_draft.proofs.ranges.put_cover.Goals as goal

pub loop-node-init : goal.loop-node-init
loop-node-init c = record { adds = adds_none c.args.descriptor.now c.args.out.now c.args.at c.requires.within; size = refl }

pub leaves-requires : goal.leaves-requires
leaves-requires c = low_at c.args.nodes.now c.loop-node.node-index _ c.requires.low c.loop-node-test.true

pub put_kind-requires-clause-within : goal.put_kind-requires-clause-within
put_kind-requires-clause-within c = c.loop-node.invariant.adds.within

pub put_kind-requires-clause-can : goal.put_kind-requires-clause-can
put_kind-requires-clause-can c = rw c.leaves.ensures
    (can_put c.args.descriptor.now.method c.args.kind _ (node_name c.args.descriptor.now.method _ (low_at c.args.nodes.now c.loop-node.node-index _ c.requires.low c.loop-node-test.true)))

pub put_kind-requires-clause-named : goal.put_kind-requires-clause-named
put_kind-requires-clause-named c = rw c.leaves.ensures
    (names_chunks c.args.descriptor.now.method c.args.kind _ (node_name c.args.descriptor.now.method _ (low_at c.args.nodes.now c.loop-node.node-index _ c.requires.low c.loop-node-test.true)))

pub loop-node-preserved : goal.loop-node-preserved
loop-node-preserved c = record {
  adds = cover_more c.args.descriptor.now c.args.kind c.args.nodes.now c.loop-node.node-index _ _ c.args.out.now c.loop-node.out c.put_kind.new.out c.args.at c.loop-node.end c.in-Some.next
      c.loop-node-test.true (ap (message_for c.args.kind) c.leaves.ensures) c.loop-node.invariant.adds c.in-Some.ensures;
  size = c.put_kind.auto.out ∙ c.loop-node.invariant.size;
}

pub returns-in-None : goal.returns-in-None
returns-in-None c =
    cover_lacks c.args.descriptor.now c.args.kind c.args.nodes.now c.loop-node.node-index _ _ c.args.out.now c.loop-node.out c.put_kind.new.out c.args.at c.loop-node.end
    c.loop-node-test.true c.requires.few c.requires.within (ap (message_for c.args.kind) c.leaves.ensures) c.loop-node.invariant.size c.loop-node.invariant.adds c.in-None.ensures

pub returns : goal.returns
returns c =
    cover_done c.args.descriptor.now c.args.kind c.args.nodes.now c.loop-node.node-index c.args.out.now c.loop-node.out c.args.at c.loop-node.end c.loop-node-test.false c.loop-node.invariant.adds
