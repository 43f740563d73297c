use Rattle.std.proofs.Common.{arith}
use Rattle.pp_seat.proofs.Saying.{unproven_stays, back_follows}
use Rattle.pp_seat.proofs.seat.Seat.rewind.Goals as goal

pub returns-clause-stays : goal.returns-clause-stays
returns-clause-stays c = rw (← c.self.view_is) (unproven_stays _ c.min-self-inside.result (omega (arith, c.min-self-inside.ensures)))

pub returns-clause-back : goal.returns-clause-back
returns-clause-back c = rw (← c.self.view_is) (back_follows _ c.min-self-inside.result (omega (arith, c.min-self-inside.ensures)))
