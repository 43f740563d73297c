use Rattle.std.proofs.Common.{◌∙◌, ap, List, length, arith, sym, subst}
use Rattle.pp_seat.specs.Seats.{SeatState}
use Rattle.pp_seats.specs.Standing.{AllHold, AllFresh}
use Rattle.pp_seats.proofs.Lists.{push_holds, push_fresh, push_length}
use Rattle.pp_seats.proofs.seats.new_seats.Goals as goal

pub loop-preserved : goal.loop-preserved
loop-preserved c =
    let is = c.in_ok-push.ensures.items in (
      ap (λ (xs : List SeatState). length xs) is ∙ omega (arith, push_length c.loop.seats.items c.in_ok-new.field-0, c.loop.invariant.0),
      subst (λ (xs : List SeatState). AllHold c.args.chunks xs) (sym is)
          (push_holds c.args.chunks c.loop.seats.items c.in_ok-new.field-0 c.loop.invariant.1 c.in_ok-new.ensures.chunks),
      subst (λ (xs : List SeatState). AllFresh xs) (sym is) (push_fresh c.loop.seats.items c.in_ok-new.field-0 c.loop.invariant.2 c.in_ok-new.ensures.fresh),
    )
