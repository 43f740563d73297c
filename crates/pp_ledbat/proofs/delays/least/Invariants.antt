use Rattle.std.proofs.Common.{◌≡◌, min, take}
use Rattle.std.specs.List.{fold}
use Rattle.pp_ledbat.proofs.delays.least.Given as goal

abbrev pub invariant-loop-x : goal.invariant-loop-x
invariant-loop-x l = l.least ≡ fold min l.initial.least (take l.x-index l.rest)
