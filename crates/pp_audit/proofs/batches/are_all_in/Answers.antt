use Rattle.std.proofs.Common.{map}
use Rattle.pp_audit.specs.Batches as terms
use Rattle.pp_audit.specs.Batches.{pending_of}
use Rattle.pp_audit.proofs.Countings.{all_more}
use Rattle.pp_audit.proofs.batches.are_all_in.Goals as goal

pub loop-chunk-preserved : goal.loop-chunk-preserved
loop-chunk-preserved c =
    all_more (terms.is_in c.args.committed.now c.args.stored.now (map pending_of c.args.pending.now))
    c.loop-chunk.chunk c.is_in-all.result c.loop-chunk.all c.is_in-all.ensures c.loop-chunk.invariant
