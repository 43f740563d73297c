use Rattle.std.proofs.Common.{refl, ◌∙◌, arith}
use Rattle.pp_tree.specs.Book.{entry}
use Rattle.pp_draft.proofs.Names.{node_name}
use Rattle.pp_draft.proofs.Putting.{adds_none}
use Rattle.pp_draft.proofs.Hashes.{there_at, given_low, hashes_more, hashes_done}
use Rattle.pp_draft.proofs.chunk.put_hashes.Goals as goal

pub loop-node-init : goal.loop-node-init
loop-node-init c = record { adds = adds_none c.args.descriptor.now c.args.out.now c.args.at (omega (arith, c.requires.room)); ends = omega arith; size = refl }

pub hash-requires-clause-given : goal.hash-requires-clause-given
hash-requires-clause-given c = there_at c.args.descriptor.now (entry c.args.book.now) c.args.nodes.now c.loop-node.node-index _ _ c.requires.given c.loop-node-test.true refl

pub hash-requires-clause-low : goal.hash-requires-clause-low
hash-requires-clause-low c =
    given_low c.args.descriptor.now (entry c.args.book.now) c.args.nodes.now c.loop-node.node-index _ _ c.chunks-chunks.ensures.chunks c.chunks-chunks.ensures.range.1 c.requires.given c.loop-node-test.true

pub append-end-requires-clause-can : goal.append-end-requires-clause-can
append-end-requires-clause-can c = rw c.hash.ensures.is
    (node_name c.args.descriptor.now.method _ (given_low c.args.descriptor.now (entry c.args.book.now) c.args.nodes.now c.loop-node.node-index _ _ c.chunks-chunks.ensures.chunks c.chunks-chunks.ensures.range.1 c.requires.given c.loop-node-test.true)).span

pub append-end-requires-clause-named : goal.append-end-requires-clause-named
append-end-requires-clause-named c = rw c.hash.ensures.is
    (node_name c.args.descriptor.now.method _ (given_low c.args.descriptor.now (entry c.args.book.now) c.args.nodes.now c.loop-node.node-index _ _ c.chunks-chunks.ensures.chunks c.chunks-chunks.ensures.range.1 c.requires.given c.loop-node-test.true)).named

pub append-end-requires-clause-room : goal.append-end-requires-clause-room
append-end-requires-clause-room c =
    omega (arith, c.requires.room, c.requires.few, c.loop-node.invariant.ends, c.loop-node.invariant.size, c.loop-node-test.true, c.hash.ensures.short c.args.descriptor.now.method)

pub loop-node-preserved : goal.loop-node-preserved
loop-node-preserved c = record {
  adds = hashes_more c.args.descriptor.now (entry c.args.book.now) c.args.nodes.now c.loop-node.node-index _ _ c.args.out.now c.loop-node.out c.append-end.new.out c.args.at c.loop-node.end c.append-end.result
      c.loop-node-test.true c.hash.ensures.is c.loop-node.invariant.adds c.append-end.ensures;
  ends = omega (arith, c.loop-node.invariant.ends, c.append-end.ensures.ends, c.hash.ensures.short c.args.descriptor.now.method);
  size = c.append-end.auto.out ∙ c.loop-node.invariant.size;
}

pub returns-clause-adds : goal.returns-clause-adds
returns-clause-adds c =
    hashes_done c.args.descriptor.now (entry c.args.book.now) c.args.nodes.now c.loop-node.node-index c.args.out.now c.loop-node.out c.args.at c.loop-node.end c.loop-node-test.false c.loop-node.invariant.adds
