use Rattle.pp_seat.proofs.Saying.{requests_say}
use Rattle.pp_seat.proofs.Awaited.{requests_keep_awaited}
use Rattle.pp_seat.proofs.seat.Seat.said_request.Goals as goal

pub returns-clause-says : goal.returns-clause-says
returns-clause-says c spans split =
    rw (← c.self.view_is) (requests_say _ c.args.range c.args.now c.ask.new.own spans (rw (← c.self.view_is) at c.requires) split c.ask.ensures.named)

pub returns-clause-awaits : goal.returns-clause-awaits
returns-clause-awaits c spans split = rw (← c.self.view_is) (λ can. requests_keep_awaited c.args.now c.args.range spans _ c.ask.new.own split (c.ask.ensures.exact can))
