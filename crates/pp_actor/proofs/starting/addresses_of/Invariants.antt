use Rattle.std.specs.Prelude.{◌≡◌, length, map, take}
use Rattle.pp_outside.specs.Outside as outside
use Rattle.pp_world.specs.World.{address_of}
use Rattle.pp_actor.proofs.starting.addresses_of.Given as goal

abbrev pub invariant-loop-peer : goal.invariant-loop-peer
invariant-loop-peer l =
    (map outside.address_of l.addresses.items ≡ map address_of (take l.peer-index l.peers)) × (length l.addresses.items ≡ l.peer-index)
