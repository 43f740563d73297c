use Rattle.std.proofs.Common.{◌≡◌, min, take, map}
use Rattle.std.specs.List.{fold}
use Rattle.pp_ledbat.proofs.delays.least_of.Given as goal

abbrev pub invariant-loop-minute : goal.invariant-loop-minute
invariant-loop-minute l = l.least ≡ fold min l.initial.least (map (λ minute. minute.least) (take l.minute-index l.rest))
