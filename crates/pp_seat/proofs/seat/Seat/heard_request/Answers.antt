use Rattle.pp_seat.proofs.Hearing.{request_goes, choked_goes}
use Rattle.pp_seat.proofs.seat.Seat.heard_request.Goals as goal

pub returns-clause-goes : goal.returns-clause-goes
returns-clause-goes c now span =
    rw (← c.self.view_is) (request_goes _ c.args.range c.request.new.self now span c.if-not-self.false c.request.ensures.exact c.request.ensures.ranges)

pub returns-then-not-self-clause-goes : goal.returns-then-not-self-clause-goes
returns-then-not-self-clause-goes c now span = rw (← c.self.view_is) (choked_goes _ c.args.range now span c.if-not-self.true)
