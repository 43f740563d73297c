use Rattle.pp_seat.proofs.Saying.{data_goes}
use Rattle.pp_seat.proofs.seat.Seat.said_data.Goals as goal

pub returns-clause-goes : goal.returns-clause-goes
returns-clause-goes c sent_at bytes =
    let next = rw (← c.self.view_is) at c.requires in
    rw (← c.self.view_is) (data_goes _ c.args.i c.args.now c.take.new.self c.sent.new.self sent_at bytes next (c.take.ensures.peeked c.args.i next.least).1 c.take.ensures.ranges c.sent.ensures)
