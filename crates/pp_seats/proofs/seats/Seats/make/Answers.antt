use Rattle.pp_seats.proofs.Comings.{begun_shown}
use Rattle.pp_seats.proofs.seats.Seats.make.Goals as goal

pub returns-in-Replied : goal.returns-in-Replied
returns-in-Replied c = rw c.in-Replied.is (begun_shown c.args.self.now c.open-in-Replied.new.self c.prove.new.self c.in-Replied.seat c.args.slot c.open-in-Replied.ensures c.prove.ensures)
