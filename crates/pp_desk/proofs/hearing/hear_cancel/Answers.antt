use Rattle.pp_desk.proofs.Heard.{part_goes, outside_goes}
use Rattle.pp_desk.proofs.hearing.hear_cancel.Goals as goal

pub returns-in-Some-clause-goes : goal.returns-in-Some-clause-goes
returns-in-Some-clause-goes c now = part_goes _ _ _ _ _ _ c.chunks.ensures c.in-Some.ensures (c.cancel.ensures.goes now _)

pub returns-in-None-clause-goes : goal.returns-in-None-clause-goes
returns-in-None-clause-goes c now = outside_goes now _ _ _ _ c.chunks.ensures c.in-None.ensures (λ n e. e)
