use Rattle.std.proofs.Common.{◌∙◌, ap, refl}
use Rattle.std.specs.Prelude.{position}
use Rattle.pp_channels.specs.Seats.{is_source}
use Rattle.pp_channels.proofs.Seating.{found_used}
use Rattle.pp_channels.proofs.channels.Channels.by_remote.Goals as goal

pub returns-clause-used : goal.returns-clause-used
returns-clause-used c =
    found_used (is_source c.args.from.now c.args.source) c.args.self.now c.self.inside.seats.items c.seat_of.result refl c.self.invariant
    (ap (λ s. s.channels) c.self.view_is)
    (c.seat_of.ensures ∙ c.first_source.ensures.place ∙ ap (position (is_source c.args.from.now c.args.source)) c.deref.ensures.value)
