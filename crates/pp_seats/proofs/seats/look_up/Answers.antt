use Rattle.std.proofs.Common.{ap, ◌∙◌, get_or, arith}
use Rattle.std.proofs.lemmas.List.{get_or_default}
use Rattle.std.proofs.lemmas.List.Edits.{map_over_more}
use Rattle.std.proofs.Math.ListN.{set}
use Rattle.pp_seat.specs.Seats.{SeatState}
use Rattle.pp_seats.specs.Hearing.{looked_up}
use Rattle.pp_seats.proofs.seats.look_up.Goals as goal

pub loop-seat-preserved : goal.loop-seat-preserved
loop-seat-preserved c =
    let old = get_or c.loop-seat.seats c.loop-seat.seat-index c.seat-item.result in
    ap (λ (s : SeatState). set c.loop-seat.seats c.loop-seat.seat-index s) c.taken.ensures.exact
    ∙ map_over_more (looked_up c.args.now) c.args.seats.now c.loop-seat.seats c.loop-seat.seat-index old
    c.loop-seat-test.true c.loop-seat.invariant
    (get_or_default c.loop-seat.seats c.loop-seat.seat-index c.seat-item.result old (omega (arith, c.loop-seat-test.true, c.loop-seat.auto.seats)))
