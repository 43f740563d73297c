use Rattle.std.proofs.Common.{arith, refl}
use Rattle.pp_hostile_tests.proofs.side.full_disk.Goals as goal

pub import-requires : goal.import-requires
import-requires c = record { exponent = 10; least = omega arith; greatest = omega arith; power = refl }
