use Rattle.std.proofs.Common.{◌≡◌, length}
use Rattle.pp_seats.specs.Standing.{AllHold, AllFresh}
use Rattle.pp_seats.proofs.seats.new_seats.Given as goal

abbrev pub invariant-loop : goal.invariant-loop
invariant-loop l = (length l.seats.items ≡ l.counter) × AllHold l.fn.chunks l.seats.items × AllFresh l.seats.items
