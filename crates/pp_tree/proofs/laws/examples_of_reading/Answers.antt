use Rattle.std.proofs.Common.{refl}
use Rattle.pp_tree.proofs.ReadExamples.{leading_zero}
use Rattle.pp_tree.proofs.laws.examples_of_reading.Goals as goal

pub returns : goal.returns
returns c = record {
  digits = (refl, refl, refl, refl);
  numbers = (refl, refl);
  leading_zero = leading_zero;
  text = refl;
  places = (refl, refl, refl);
}
