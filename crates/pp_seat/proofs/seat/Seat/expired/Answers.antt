use Rattle.pp_seat.proofs.Saying.{expired_stays}
use Rattle.pp_seat.proofs.Awaited.{expired_keeps_awaited}
use Rattle.pp_seat.proofs.seat.Seat.expired.Goals as goal

pub returns-clause-stays : goal.returns-clause-stays
returns-clause-stays c = rw (← c.self.view_is) (expired_stays _ c.in_ok-i.i c.args.now c.expired.new.self c.in_ok-i.ensures.least c.in_ok-i.ensures.taken)

pub returns-clause-awaits : goal.returns-clause-awaits
returns-clause-awaits c story come =
    rw (← c.self.view_is) (expired_keeps_awaited c.args.now c.in_ok-i.i story _ c.expired.new.self c.in_ok-i.ensures.least c.in_ok-i.ensures.entries come)
