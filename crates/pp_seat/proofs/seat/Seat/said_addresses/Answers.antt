use Rattle.pp_seat.proofs.Saying.{addresses_say}
use Rattle.pp_seat.proofs.seat.Seat.said_addresses.Goals as goal

pub returns-clause-says : goal.returns-clause-says
returns-clause-says c ms all = rw (← c.self.view_is) (addresses_say _ c.args.now ms all)
