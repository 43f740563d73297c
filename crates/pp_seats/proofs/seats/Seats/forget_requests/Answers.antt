use Rattle.std.proofs.Common.{◌≡◌, None, refl, sym, ap, ◌∙◌, arith, subst, Some}
use Rattle.std.proofs.Math.ListN.{set}
use Rattle.pp_channels.specs.Seats.{channel_at}
use Rattle.pp_seat.specs.Seats.{SeatState}
use Rattle.pp_seats.specs.Standing.{SeatsState}
use Rattle.pp_seats.proofs.Lists.{got}
use Rattle.pp_seats.proofs.Turnings.{forgets_requests}
use Rattle.pp_seats.proofs.seats.Seats.forget_requests.Goals as goal

pub returns : goal.returns
returns c =
    let p : SeatsState = record { descriptor = c.self.inside.descriptor; table = c.self.inside.lives; seats = c.self.inside.seats.items; moment = c.self.inside.moment } in
    rw (← c.self.view_is) (forgets_requests p _ c.args.seat c.index_mut.result.now
    (got c.self.inside.seats.items c.args.seat c.index_mut.result.now (omega (arith, c.self.invariant.0, c.requires.seat)) ∙ ap (λ (s : SeatState). Some s) (sym c.index_mut.ensures.value))
    (subst (λ (q : SeatsState). channel_at q.table c.args.seat ≡ None) (sym c.self.view_is) c.requires.free)
    (ap (λ (s : SeatState). record p { seats = set c.self.inside.seats.items c.args.seat s }) c.forget_requests.ensures.exact))
