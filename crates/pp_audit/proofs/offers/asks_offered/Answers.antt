use Rattle.pp_recorded.specs.Entries.{past, life_of}
use Rattle.pp_recorded.specs.Offers.{is_asked_for}
use Rattle.pp_audit.proofs.Countings.{all_more}
use Rattle.pp_audit.proofs.offers.asks_offered.Goals as goal

pub loop-chunk-preserved : goal.loop-chunk-preserved
loop-chunk-preserved c =
    all_more (is_asked_for c.args.held.now c.args.descriptor.now (past c.args.entries.now) (life_of c.args.life)) c.loop-chunk.chunk c.is_asked_for-all.result c.loop-chunk.all
    c.is_asked_for-all.ensures c.loop-chunk.invariant
