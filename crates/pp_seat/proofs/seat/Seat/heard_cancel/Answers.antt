use Rattle.pp_seat.proofs.Hearing.{cancel_goes}
use Rattle.pp_seat.proofs.seat.Seat.heard_cancel.Goals as goal

pub returns-clause-goes : goal.returns-clause-goes
returns-clause-goes c now span = rw (← c.self.view_is) (cancel_goes _ c.args.range c.cancel.new.self now span c.cancel.ensures.list c.cancel.ensures.ranges)
