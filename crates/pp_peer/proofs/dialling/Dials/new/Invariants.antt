use Rattle.std.proofs.Common.{◌≡◌, map, take}
use Rattle.pp_peer.specs.Dialling.{undialled}
use Rattle.pp_peer.proofs.dialling.Dials.new.Given as goal

abbrev pub invariant-loop-address : goal.invariant-loop-address
invariant-loop-address l = l.entries.items ≡ map undialled (take l.address-index l.address-items)
