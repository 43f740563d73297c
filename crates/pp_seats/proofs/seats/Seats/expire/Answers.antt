use Rattle.std.proofs.Common.{sym, ap, ◌∙◌}
use Rattle.pp_channels.specs.Seats.{Seats}
use Rattle.pp_seats.proofs.Handshakes.{ends, ends_none}
use Rattle.pp_seats.proofs.seats.Seats.expire.Goals as goal

pub returns-in_err-seat : goal.returns-in_err-seat
returns-in_err-seat c = ends_none (record { descriptor = c.self.inside.descriptor; table = c.self.inside.lives; seats = c.self.inside.seats.items; moment = c.self.inside.moment }) c.args.self.now c.from_residual.result c.self.view_is c.from_residual.ensures (sym c.expired.ensures.seat ∙ c.in_err-seat.was)

pub returns : goal.returns
returns c = rw (← c.self.view_is) (ends (record { descriptor = c.self.inside.descriptor; table = c.self.inside.lives; seats = c.self.inside.seats.items; moment = c.self.inside.moment }) _ c.in_ok-seat.seat (sym c.expired.ensures.seat ∙ c.in_ok-seat.was)
    (ap (λ (t : Seats). record (record { descriptor = c.self.inside.descriptor; table = c.self.inside.lives; seats = c.self.inside.seats.items; moment = c.self.inside.moment }) { table = t }) c.close.ensures))
