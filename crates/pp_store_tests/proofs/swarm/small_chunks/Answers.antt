use Rattle.std.proofs.Common.{arith, refl}
use Rattle.pp_store_tests.proofs.swarm.small_chunks.Goals as goal

pub make_swarm-requires : goal.make_swarm-requires
make_swarm-requires c = record { exponent = 8; least = omega arith; greatest = omega arith; power = refl }
