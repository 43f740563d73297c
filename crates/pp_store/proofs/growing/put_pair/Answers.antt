use Rattle.std.proofs.Common.{arith, refl}
use Rattle.pp_store.proofs.Layering.{puts_there, put_fails}
use Rattle.pp_store.proofs.growing.put_pair.Goals as goal

pub returns-in-Ok-clause-put : goal.returns-in-Ok-clause-put
returns-in-Ok-clause-put g c =
    puts_there _ _ _ _ _ _ _ c.parent.result refl refl (omega arith) c.in-Ok.ensures.written

pub returns-in-Err-clause-put : goal.returns-in-Err-clause-put
returns-in-Err-clause-put g c = put_fails _ _ _ _ _ (omega arith) c.in-Err.ensures.written
