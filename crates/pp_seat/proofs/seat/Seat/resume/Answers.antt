use Rattle.pp_seat.proofs.Saying.{resume_stays}
use Rattle.pp_seat.proofs.seat.Seat.resume.Goals as goal

pub returns-clause-stays : goal.returns-clause-stays
returns-clause-stays c = rw (← c.self.view_is) (resume_stays _)
