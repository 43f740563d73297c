use Rattle.pp_seat.proofs.Saying.{unchoke_goes, unchoke_again}
use Rattle.pp_seat.proofs.seat.Seat.said_unchoke.Goals as goal

pub returns-clause-goes : goal.returns-clause-goes
returns-clause-goes c now = rw (← c.self.view_is) (unchoke_goes _ now c.if-not-self.false)

pub returns-then-not-self-clause-goes : goal.returns-then-not-self-clause-goes
returns-then-not-self-clause-goes c now = rw (← c.self.view_is) (unchoke_again _ now c.if-not-self.true)
