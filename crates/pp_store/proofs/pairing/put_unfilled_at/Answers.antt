use Rattle.std.proofs.Common.{arith}
use Rattle.std.proofs.lemmas.Result.{on_ok_weaker}
use Rattle.pp_tree.specs.Book.{entry}
use Rattle.pp_store.proofs.Marking.{low_height, unfilled_at, unfilled_stored, unfilled_none}
use Rattle.pp_store.proofs.Writtens.{unfilled_there, unfilled_absent}
use Rattle.pp_store.proofs.pairing.put_unfilled_at.Goals as goal

pub overflow_add-offset : goal.overflow_add-offset
overflow_add-offset g c = let low = low_height c.args.descriptor.now c.chunks-chunks.ensures.valid in omega (arith, low, c.requires.inner)

pub overflow_shr-offset : goal.overflow_shr-offset
overflow_shr-offset g c = let low = low_height c.args.descriptor.now c.chunks-chunks.ensures.valid in omega (arith, low, c.requires.inner)

pub overflow_add-layer : goal.overflow_add-layer
overflow_add-layer g c = let low = low_height c.args.descriptor.now c.chunks-chunks.ensures.valid in omega (arith, low, c.requires.inner)

pub overflow_shl-offset : goal.overflow_shl-offset
overflow_shl-offset g c = let low = low_height c.args.descriptor.now c.chunks-chunks.ensures.valid in omega (arith, low, c.requires.inner)

pub put_pair-requires-clause-there : goal.put_pair-requires-clause-there
put_pair-requires-clause-there g c =
    unfilled_at c.args.descriptor.now (entry c.args.book.now) c.args.layer c.chunks-chunks.result c.chunks-chunks.ensures.valid c.chunks-chunks.ensures.chunks
    c.requires.rooted c.requires.peaks c.requires.inner c.if-offset-layer.true

pub returns-then-offset-layer-clause-stored : goal.returns-then-offset-layer-clause-stored
returns-then-offset-layer-clause-stored g c =
    on_ok_weaker c.put_pair.result (unfilled_stored c.args.descriptor.now c.args.layer c.chunks-chunks.result c.put_pair.new.pairs c.chunks-chunks.ensures.chunks)
    c.put_pair.ensures.stored

pub returns-else-offset-layer-clause-stored : goal.returns-else-offset-layer-clause-stored
returns-else-offset-layer-clause-stored g c is =
    absurd (unfilled_none c.args.descriptor.now c.args.layer c.chunks-chunks.result c.chunks-chunks.ensures.valid c.chunks-chunks.ensures.chunks c.if-offset-layer.false is)

pub returns-then-offset-layer-clause-wrote : goal.returns-then-offset-layer-clause-wrote
returns-then-offset-layer-clause-wrote g c =
    on_ok_weaker c.put_pair.result (unfilled_there c.args.descriptor.now (entry c.args.book.now) c.args.layer c.chunks-chunks.result c.args.pairs.now c.put_pair.new.pairs
    (g.D.Disk.state c.args.disk.now) (g.D.Disk.state c.put_pair.new.disk) c.chunks-chunks.ensures.valid c.chunks-chunks.ensures.chunks c.if-offset-layer.true)
    c.put_pair.ensures.wrote

pub returns-else-offset-layer-clause-wrote : goal.returns-else-offset-layer-clause-wrote
returns-else-offset-layer-clause-wrote g c =
    unfilled_absent c.args.descriptor.now (entry c.args.book.now) c.args.layer c.chunks-chunks.result c.args.pairs.now (g.D.Disk.state c.args.disk.now)
    c.chunks-chunks.ensures.valid c.chunks-chunks.ensures.chunks c.if-offset-layer.false
