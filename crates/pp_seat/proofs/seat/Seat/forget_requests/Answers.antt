use Rattle.pp_seat.proofs.Saying.{none_stays}
use Rattle.pp_seat.proofs.seat.Seat.forget_requests.Goals as goal

pub returns-clause-stays : goal.returns-clause-stays
returns-clause-stays c = rw (← c.self.view_is, c.clear.ensures) (none_stays _)
