use Rattle.std.proofs.Common.{◌≡◌, None, replicate}
use Rattle.pp_channels.proofs.channels.free_seats.Given as goal

abbrev pub invariant-loop : goal.invariant-loop
invariant-loop l = l.seats.items ≡ replicate l.counter None
