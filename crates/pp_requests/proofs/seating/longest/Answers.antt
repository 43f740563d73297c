use Rattle.std.proofs.Common.{◌≡◌, ℕ, arith, subst}
use Rattle.pp_requests.proofs.SeatCounts.{IsLongestBelow, longest_of_all}
use Rattle.pp_requests.proofs.seating.longest.Goals as goal

pub returns : goal.returns
returns c =
    let all : c.loop-seat.seat ≡ 64 = omega arith in
    longest_of_all c.args.seats.now 64 c.loop-seat.best (c.in_ok-seat.seat, c.in_ok-seat.field-0-1) c.told-seats
    (subst (λ (n : ℕ). IsLongestBelow c.args.seats.now n c.loop-seat.best) all c.loop-seat.invariant) c.in_ok-seat.was
