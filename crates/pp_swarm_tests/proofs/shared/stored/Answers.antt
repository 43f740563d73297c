use Rattle.std.proofs.Common.{arith, refl}
use Rattle.pp_swarm_tests.proofs.shared.stored.Goals as goal

pub import-requires : goal.import-requires
import-requires c = record {
  exponent = 10;
  least = omega arith;
  greatest = omega arith;
  power = refl;
}
