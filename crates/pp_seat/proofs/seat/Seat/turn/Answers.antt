use Rattle.pp_seat.proofs.Saying.{owing_stays}
use Rattle.pp_seat.proofs.seat.Seat.turn.Goals as goal

pub returns-clause-stays : goal.returns-clause-stays
returns-clause-stays c = rw (← c.self.view_is) (owing_stays _)
