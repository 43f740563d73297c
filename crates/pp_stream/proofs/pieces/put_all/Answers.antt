use Rattle.pp_stream.proofs.Written.{written_more}
use Rattle.pp_stream.proofs.pieces.put_all.Goals as goal

pub loop-written-preserved : goal.loop-written-preserved
loop-written-preserved g c = written_more _ _ _ _ _ _ c.loop-written.invariant c.loop-written-test.true c.in-Ok.ensures
