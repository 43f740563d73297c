use Rattle.std.proofs.Common.{refl, sym, ap, ◌∙◌, arith, Some}
use Rattle.pp_seat.specs.Seats.{SeatState}
use Rattle.pp_seats.proofs.Lists.{got}
use Rattle.pp_seats.proofs.Turnings.{turns}
use Rattle.pp_seats.proofs.seats.Seats.turn.Goals as goal

pub returns : goal.returns
returns c = rw (← c.self.view_is) (turns _ _ c.args.seat c.index_mut.result.now c.turn.new.self
    (got c.self.inside.seats.items c.args.seat c.index_mut.result.now (omega (arith, c.self.invariant, c.requires)) ∙ ap (λ (s : SeatState). Some s) (sym c.index_mut.ensures.value))
    c.turn.ensures.exact c.turn.ensures.stays refl)
