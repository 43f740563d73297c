use Rattle.pp_seat.proofs.Saying.{cancel_goes}
use Rattle.pp_seat.proofs.Awaited.{one_cancel_keeps_awaited}
use Rattle.pp_seat.proofs.seat.Seat.said_cancel.Goals as goal

pub returns-clause-goes : goal.returns-clause-goes
returns-clause-goes c now span = rw (← c.self.view_is) (cancel_goes _ c.withdraw.new.self c.args.i now span (rw (c.from.ensures) at c.withdraw.ensures.taken))

pub returns-clause-awaits : goal.returns-clause-awaits
returns-clause-awaits c now span only = rw (← c.self.view_is) (one_cancel_keeps_awaited c.args.i now span _ c.withdraw.new.self only (rw (c.from.ensures) at c.withdraw.ensures.entries))
