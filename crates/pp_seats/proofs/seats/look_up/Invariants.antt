use Rattle.std.proofs.Common.{◌≡◌, ◌++◌, take, drop}
use Rattle.std.specs.Prelude.{map}
use Rattle.pp_seats.specs.Hearing.{looked_up}
use Rattle.pp_seats.proofs.seats.look_up.Given as goal

abbrev pub invariant-loop-seat : goal.invariant-loop-seat
invariant-loop-seat l = l.seats ≡ map (looked_up l.now) (take l.seat-index l.initial.seats) ++ drop l.seat-index l.initial.seats
