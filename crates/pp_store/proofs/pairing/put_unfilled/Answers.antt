use Rattle.pp_store.proofs.Marking.{unfilled_more}
use Rattle.pp_store.proofs.Writings.{does_later}
use Rattle.pp_store.proofs.PairWrites.{puts_more}
use Rattle.pp_store.proofs.Writtens.{unfilled_wrote}
use Rattle.pp_store.proofs.pairing.put_unfilled.Goals as goal

pub returns-in-Err-clause-does : goal.returns-in-Err-clause-does
returns-in-Err-clause-does g c = does_later _ _ _ _ c.loop-layer.invariant.puts.keeps c.in-Err.ensures.does

pub returns-in-Err-clause-puts : goal.returns-in-Err-clause-puts
returns-in-Err-clause-puts g c = puts_more _ _ _ _ _ _ _ _ c.loop-layer.invariant.puts c.in-Err.ensures.puts

pub loop-layer-preserved : goal.loop-layer-preserved
loop-layer-preserved g c = record {
  puts = puts_more _ _ _ _ _ _ _ _ c.loop-layer.invariant.puts c.in-Ok.ensures.puts;
  wrote = unfilled_wrote c.args.descriptor.now _ c.loop-layer.layer _ _ _ _ _ _ c.loop-layer.invariant.puts.keeps c.loop-layer.invariant.wrote c.in-Ok.ensures.wrote;
  stored = unfilled_more c.args.descriptor.now c.loop-layer.layer c.loop-layer.pairs c.put_unfilled_at.new.pairs c.in-Ok.ensures.puts.stays c.in-Ok.ensures.stored c.loop-layer.invariant.stored;
}
