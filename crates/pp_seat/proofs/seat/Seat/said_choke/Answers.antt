use Rattle.pp_seat.proofs.Saying.{choke_goes}
use Rattle.pp_seat.proofs.seat.Seat.said_choke.Goals as goal

pub returns-clause-goes : goal.returns-clause-goes
returns-clause-goes c now = rw (← c.self.view_is) (choke_goes _ c.clear.new.self now c.clear.ensures)
