use Rattle.std.proofs.Common.{◌∙◌, ap, refl}
use Rattle.std.specs.Prelude.{position}
use Rattle.pp_channels.specs.Seats.{is_found}
use Rattle.pp_channels.proofs.Seating.{found_alone, found_used}
use Rattle.pp_channels.proofs.channels.Channels.find.Goals as goal

pub returns-clause-used : goal.returns-clause-used
returns-clause-used c =
    found_used (is_found c.args.local c.args.from.now) c.args.self.now c.self.inside.seats.items c.seat_of.result refl c.self.invariant
    (ap (λ s. s.channels) c.self.view_is)
    (c.seat_of.ensures ∙ c.first_found.ensures.place ∙ ap (position (is_found c.args.local c.args.from.now)) c.deref.ensures.value)

pub returns-clause-alone : goal.returns-clause-alone
returns-clause-alone c =
    found_alone c.args.local c.args.from.now c.args.self.now c.self.inside.seats.items c.seat_of.result c.self.invariant
    (ap (λ s. s.channels) c.self.view_is)
    (c.seat_of.ensures ∙ c.first_found.ensures.place ∙ ap (position (is_found c.args.local c.args.from.now)) c.deref.ensures.value)
