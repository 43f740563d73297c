use Rattle.std.proofs.Common.{sym, ap, ◌∙◌}
use Rattle.pp_channels.specs.Seats.{Seats}
use Rattle.pp_seats.proofs.Handshakes.{greets_so}
use Rattle.pp_seats.proofs.seats.Seats.greet.Goals as goal

pub returns-then-sent : goal.returns-then-sent
returns-then-sent g c =
    rw (← c.self.view_is) (greets_so (record { descriptor = c.self.inside.descriptor; table = c.self.inside.lives; seats = c.self.inside.seats.items; moment = c.self.inside.moment }) _ c.args.seat _ c.in-Some.greeting c.greet-sent.ensures.bytes _ _ c.greet-sent.result c.if-sent.true
    (sym c.greeting.ensures.exact ∙ c.in-Some.is) c.greet-sent.ensures.written c.greet-sent.ensures.goes
    (ap (λ (t : Seats). record (record { descriptor = c.self.inside.descriptor; table = c.self.inside.lives; seats = c.self.inside.seats.items; moment = c.self.inside.moment }) { table = t }) c.sent.ensures))
