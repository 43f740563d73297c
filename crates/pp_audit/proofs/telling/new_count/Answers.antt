use Rattle.std.proofs.Common.{arith}
use Rattle.pp_promises.specs.Announced.{is_new}
use Rattle.pp_recorded.specs.Entries.{past, life_of}
use Rattle.pp_audit.proofs.Countings.{count_range}
use Rattle.pp_audit.proofs.telling.new_count.Goals as goal

pub loop-chunk-preserved : goal.loop-chunk-preserved
loop-chunk-preserved c = record {
  few = omega (arith, c.loop-chunk.invariant.few, c.new_at-count.ensures.few);
  same = count_range (is_new c.args.descriptor.now (life_of c.args.life) (past c.args.entries.now)) c.loop-chunk.chunk c.loop-chunk.count c.new_at-count.result
      c.loop-chunk.invariant.same c.new_at-count.ensures.count;
}
