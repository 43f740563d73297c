use Rattle.std.proofs.Common.{arith}
use Rattle.pp_traffic.specs.Story.{story}
use Rattle.pp_promises.specs.OwnSide.{is_named}
use Rattle.pp_recorded.specs.Entries.{past, life_of}
use Rattle.pp_audit.proofs.Countings.{count_range}
use Rattle.pp_audit.proofs.offers.named_count.Goals as goal

pub loop-chunk-preserved : goal.loop-chunk-preserved
loop-chunk-preserved c = record {
  few = omega (arith, c.loop-chunk.invariant.few, c.named_at-count.ensures.few);
  same = count_range (λ i. is_named i (story c.args.descriptor.now (life_of c.args.life) (past c.args.entries.now))) c.loop-chunk.chunk c.loop-chunk.count c.named_at-count.result
      c.loop-chunk.invariant.same c.named_at-count.ensures.count;
}
