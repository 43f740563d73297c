use Rattle.pp_seat.proofs.Saying.{proved_follows}
use Rattle.pp_seat.proofs.seat.Seat.prove.Goals as goal

pub returns-clause-proved : goal.returns-clause-proved
returns-clause-proved c = rw (← c.self.view_is) (proved_follows _)
