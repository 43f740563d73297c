use Rattle.std.proofs.Common.{arith, refl}
use Rattle.pp_hostile_tests.proofs.lists.seeder.Goals as goal

pub import-requires : goal.import-requires
import-requires c = record { exponent = 8; least = omega arith; greatest = omega arith; power = refl }
