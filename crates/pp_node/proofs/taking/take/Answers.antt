use Rattle.pp_store.proofs.Fillings.{filled_more}
use Rattle.pp_node.proofs.taking.take.Goals as goal

pub loop-filled-preserved : goal.loop-filled-preserved
loop-filled-preserved g c =
    filled_more _ _ _ _ _ _ _ c.loop-filled.invariant c.loop-filled-test.true c.read.auto.into c.in-Ok.ensures
