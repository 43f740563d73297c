use Rattle.std.proofs.Common.{refl}
use Rattle.pp_ledbat.proofs.laws.examples_of_windows.Goals as goal

pub returns : goal.returns
returns c = record {
  gains = (refl, refl, refl, refl, refl);
  falls = (refl, refl);
  timeouts = (refl, refl);
  halves = (refl, refl);
  read = refl;
}
