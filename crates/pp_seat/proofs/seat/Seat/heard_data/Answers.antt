use Rattle.pp_seat.proofs.Hearing.{data_goes}
use Rattle.pp_seat.proofs.Awaited.{data_keeps_awaited}
use Rattle.pp_seat.proofs.seat.Seat.heard_data.Goals as goal

pub returns-clause-goes : goal.returns-clause-goes
returns-clause-goes c at sent_at bytes = rw (← c.self.view_is) (data_goes _ c.came.new.self c.args.i at sent_at bytes c.came.ensures.taken)

pub returns-clause-awaits : goal.returns-clause-awaits
returns-clause-awaits c sent_at bytes = rw (← c.self.view_is) (data_keeps_awaited c.args.i c.args.now sent_at bytes _ c.came.new.self c.came.ensures.answers)
