use Rattle.std.proofs.Common.{sym, subst}
use Rattle.pp_seats.specs.Standing.{SeatsState, StandsFor}
use Rattle.pp_seats.proofs.Comings.{arrived_at}
use Rattle.pp_seats.proofs.seats.Seats.arrive.Goals as goal

pub returns-clause-stands : goal.returns-clause-stands
returns-clause-stands c x most past h =
    rw (← c.self.view_is) (arrived_at x most (record { descriptor = c.self.inside.descriptor; table = c.self.inside.lives; seats = c.self.inside.seats.items; moment = c.self.inside.moment })
    c.make.new.self c.args.from.now c.args.at c.max-self-inside.result c.args.bytes.now past c.arrive-arrival.new.self c.args.slot c.arrive-arrival.result
    c.max-self-inside.ensures c.self.invariant.1 (subst (λ (p : SeatsState). StandsFor x most p past) (sym c.self.view_is) h)
    c.arrive-arrival.ensures.stands c.arrive-arrival.ensures.exact c.make.ensures)
