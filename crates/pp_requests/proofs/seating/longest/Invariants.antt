use Rattle.pp_requests.proofs.SeatCounts.{IsLongestBelow}
use Rattle.pp_requests.proofs.seating.longest.Given as goal

abbrev pub invariant-loop-seat : goal.invariant-loop-seat
invariant-loop-seat l = IsLongestBelow l.seats l.seat l.best
