use Rattle.pp_seat.proofs.Hearing.{have_goes}
use Rattle.pp_seat.proofs.seat.Seat.heard_have.Goals as goal

pub returns-clause-goes : goal.returns-clause-goes
returns-clause-goes c now span = rw (← c.self.view_is) (have_goes _ c.args.range c.told.new.self now span c.told.ensures.chunks c.told.ensures.more)

pub returns-clause-told : goal.returns-clause-told
returns-clause-told c n = rw (← c.self.view_is) (c.told.ensures.more n)
