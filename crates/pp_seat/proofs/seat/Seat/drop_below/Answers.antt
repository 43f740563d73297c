use Rattle.pp_seat.proofs.Saying.{below_stays}
use Rattle.pp_seat.proofs.seat.Seat.drop_below.Goals as goal

pub returns-clause-passed : goal.returns-clause-passed
returns-clause-passed c = rw (← c.self.view_is) (below_stays _ c.args.i c.drop_below.new.self c.drop_below.ensures.list c.drop_below.ensures.ranges)
