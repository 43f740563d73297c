use Rattle.std.proofs.Common.{true, sym, ap, ◌∙◌}
use Rattle.std.specs.Prelude.{option_map}
use Rattle.pp_channels.specs.Seats.{Seats, channel_at, closed, dialled, with_channel}
use Rattle.pp_channels.specs.declared.channel.Channel.{Channel}
use Rattle.pp_lives.specs.Sending.{with_datagram}
use Rattle.pp_seats.proofs.Handshakes.{dials, dial_table, dial_dropped}
use Rattle.pp_seats.proofs.seats.Seats.dial.Goals as goal

pub returns-then-sent : goal.returns-then-sent
returns-then-sent g c =
    rw (← c.self.view_is) (dials (record { descriptor = c.self.inside.descriptor; table = c.self.inside.lives; seats = c.self.inside.seats.items; moment = c.self.inside.moment }) _ c.in_ok-seat.seat c.args.address.now c.local-source.result _ c.greet-sent.result c.greet-sent.ensures.bytes _ _
    (sym c.dial.ensures.seat ∙ c.in_ok-seat.was) (sym c.has_address.ensures ∙ c.if-has_address.false)
    (c.local-source.ensures ∙ ap (λ (t : Seats). option_map (λ (x : Channel). x.local) (channel_at t c.in_ok-seat.seat)) c.dial.ensures.exact)
    c.greet-sent.ensures.written c.greet-sent.ensures.goes
    (ap (λ (t : Seats). record (record { descriptor = c.self.inside.descriptor; table = c.self.inside.lives; seats = c.self.inside.seats.items; moment = c.self.inside.moment }) { table = t }) (c.sent.ensures ∙ ap (λ (t : Seats). with_datagram t c.in_ok-seat.seat true c.self.inside.moment) c.dial.ensures.exact ∙ dial_table (with_channel (dialled c.args.address.now c.self.inside.moment) c.self.inside.lives) c.in_ok-seat.seat c.self.inside.moment c.greet-sent.result c.if-sent.true)))

pub returns-else-sent : goal.returns-else-sent
returns-else-sent g c =
    rw (← c.self.view_is) (dials (record { descriptor = c.self.inside.descriptor; table = c.self.inside.lives; seats = c.self.inside.seats.items; moment = c.self.inside.moment }) _ c.in_ok-seat.seat c.args.address.now c.local-source.result _ c.greet-sent.result c.greet-sent.ensures.bytes _ _
    (sym c.dial.ensures.seat ∙ c.in_ok-seat.was) (sym c.has_address.ensures ∙ c.if-has_address.false)
    (c.local-source.ensures ∙ ap (λ (t : Seats). option_map (λ (x : Channel). x.local) (channel_at t c.in_ok-seat.seat)) c.dial.ensures.exact)
    c.greet-sent.ensures.written c.greet-sent.ensures.goes
    (ap (λ (t : Seats). record (record { descriptor = c.self.inside.descriptor; table = c.self.inside.lives; seats = c.self.inside.seats.items; moment = c.self.inside.moment }) { table = t }) (c.close.ensures ∙ ap (λ (t : Seats). closed t c.in_ok-seat.seat) c.dial.ensures.exact ∙ dial_dropped (with_channel (dialled c.args.address.now c.self.inside.moment) c.self.inside.lives) c.in_ok-seat.seat c.self.inside.moment c.greet-sent.result c.if-sent.false)))
