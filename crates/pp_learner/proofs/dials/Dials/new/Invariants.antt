use Rattle.std.proofs.Common.{◌≡◌, map, take}
use Rattle.pp_learner.specs.Dials.{undialled}
use Rattle.pp_learner.proofs.dials.Dials.new.Given as goal

abbrev pub invariant-loop-address : goal.invariant-loop-address
invariant-loop-address l = l.entries.items ≡ map undialled (take l.address-index l.addresses)
