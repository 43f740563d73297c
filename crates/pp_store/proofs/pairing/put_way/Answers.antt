use Rattle.std.proofs.Common.{arith}
use Rattle.pp_tree.specs.Book.{entry}
use Rattle.pp_store.proofs.Marking.{way_at, way_more}
use Rattle.pp_store.proofs.Writings.{does_later}
use Rattle.pp_store.proofs.PairWrites.{puts_more}
use Rattle.pp_store.proofs.Writtens.{way_wrote}
use Rattle.pp_store.proofs.pairing.put_way.Goals as goal

pub put_pair-requires-clause-there : goal.put_pair-requires-clause-there
put_pair-requires-clause-there g c =
    way_at c.args.descriptor.now (entry c.args.book.now) c.args.i c.loop-layer.layer c.requires.rooted c.requires.leaf
    (omega (arith, c.height-layer-end.ensures.height))

pub returns-in-Err-clause-does : goal.returns-in-Err-clause-does
returns-in-Err-clause-does g c = does_later _ _ _ _ c.loop-layer.invariant.puts.keeps c.in-Err.ensures.does

pub returns-in-Err-clause-puts : goal.returns-in-Err-clause-puts
returns-in-Err-clause-puts g c = puts_more _ _ _ _ _ _ _ _ c.loop-layer.invariant.puts c.in-Err.ensures.puts

pub loop-layer-preserved : goal.loop-layer-preserved
loop-layer-preserved g c = record {
  puts = puts_more _ _ _ _ _ _ _ _ c.loop-layer.invariant.puts c.in-Ok.ensures.puts;
  wrote = way_wrote _ _ c.args.i c.loop-layer.layer _ _ _ _ _ _ c.loop-layer.invariant.puts.keeps c.loop-layer.invariant.wrote c.in-Ok.ensures.wrote;
  stored = way_more c.args.i c.loop-layer.layer c.loop-layer.pairs c.put_pair.new.pairs c.in-Ok.ensures.puts.stays c.in-Ok.ensures.stored c.loop-layer.invariant.stored;
}
