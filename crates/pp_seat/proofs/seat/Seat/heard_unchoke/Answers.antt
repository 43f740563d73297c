use Rattle.pp_seat.proofs.Hearing.{unchoke_goes}
use Rattle.pp_seat.proofs.Awaited.{unchoke_keeps_awaited}
use Rattle.pp_seat.proofs.seat.Seat.heard_unchoke.Goals as goal

pub returns-clause-goes : goal.returns-clause-goes
returns-clause-goes c now = rw (← c.self.view_is) (unchoke_goes _ now)

pub returns-clause-awaits : goal.returns-clause-awaits
returns-clause-awaits c now = rw (← c.self.view_is) (unchoke_keeps_awaited now _)
