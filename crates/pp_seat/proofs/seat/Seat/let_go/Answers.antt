use Rattle.pp_seat.proofs.Saying.{given_stays, passed_stays}
use Rattle.pp_seat.proofs.seat.Seat.let_go.Goals as goal

pub returns-clause-given : goal.returns-clause-given
returns-clause-given c =
    let least = rw (← c.self.view_is) at c.requires in
    rw (← c.self.view_is) (given_stays _ c.args.i c.take-least.new.self (c.take-least.ensures.peeked c.args.i least).1 c.take-least.ensures.ranges)

pub returns-clause-passed : goal.returns-clause-passed
returns-clause-passed c =
    let least = rw (← c.self.view_is) at c.requires in
    rw (← c.self.view_is) (passed_stays _ c.args.i c.take-least.new.self (c.take-least.ensures.peeked c.args.i least).1 c.take-least.ensures.ranges)
