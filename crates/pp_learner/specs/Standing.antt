-- What stands for the descriptor of a swarm that is named without its content's size.
use Rattle.std.specs.Prelude.{◌*◌, ◌^◌}
use Rattle.pp_terms.specs.format.Descriptor.{Descriptor}
use Rattle.pp_targets.specs.Target.{SwarmName}

-- The descriptor of the name with the greatest size. The size is in no message: root, chunk size and method alone tell what a
-- datagram means, and what a handshake says.
abbrev pub stand_in : SwarmName → Descriptor
stand_in name = record { root = name.root; chunk = name.chunk; size = 2 ^ 20 * name.chunk; method = name.method }
