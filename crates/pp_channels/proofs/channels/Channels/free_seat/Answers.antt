use Rattle.std.proofs.Common.{◌∙◌, ap}
use Rattle.std.specs.Prelude.{is_none, position}
use Rattle.pp_channels.proofs.Seating.{none_free_full}
use Rattle.pp_channels.proofs.channels.Channels.free_seat.Goals as goal

pub returns-clause-full : goal.returns-clause-full
returns-clause-full c =
    none_free_full c.args.self.now c.self.inside.seats.items c.seat_of.result c.self.invariant (ap (λ s. s.channels) c.self.view_is)
    (c.seat_of.ensures ∙ c.first_free.ensures.place ∙ ap (position is_none) c.deref.ensures.value)
