use Rattle.pp_seat.proofs.Hearing.{ack_goes}
use Rattle.pp_seat.proofs.seat.Seat.heard_ack.Goals as goal

pub returns-clause-goes : goal.returns-clause-goes
returns-clause-goes c span =
    rw (← c.self.view_is) (ack_goes _ c.args.range c.told.new.self c.acked.new.self c.args.delay c.args.now span c.told.ensures.chunks c.told.ensures.more c.acked.ensures.after)

pub returns-clause-told : goal.returns-clause-told
returns-clause-told c n = rw (← c.self.view_is) (c.told.ensures.more n)
