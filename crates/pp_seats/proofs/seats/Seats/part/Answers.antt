use Rattle.std.proofs.Common.{sym, ap, ◌∙◌}
use Rattle.pp_channels.specs.Seats.{Seats}
use Rattle.std.proofs.lemmas.Bool.{not-false}
use Rattle.pp_seats.proofs.Handshakes.{parts_so}
use Rattle.pp_seats.proofs.seats.Seats.part.Goals as goal

pub returns-then-sent : goal.returns-then-sent
returns-then-sent g c =
    rw (← c.self.view_is) (parts_so (record { descriptor = c.self.inside.descriptor; table = c.self.inside.lives; seats = c.self.inside.seats.items; moment = c.self.inside.moment }) _ c.args.seat _ c.in-Some.far c.close-sent.ensures.bytes _ _ c.close-sent.result c.if-sent.true
    (sym c.far.ensures.exact ∙ c.in-Some.is) (not-false c.in-Some.far.proven c.if-not-far.false) c.close-sent.ensures.written c.close-sent.ensures.goes
    (ap (λ (t : Seats). record (record { descriptor = c.self.inside.descriptor; table = c.self.inside.lives; seats = c.self.inside.seats.items; moment = c.self.inside.moment }) { table = t }) c.sent.ensures))
