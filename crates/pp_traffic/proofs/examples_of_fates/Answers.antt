use Rattle.std.proofs.Common.{refl}
use Rattle.pp_traffic.proofs.examples_of_fates.Goals as goal

pub returns : goal.returns
returns c = record {
  two = refl;
  three = refl;
  one_span = refl;
  entries = refl;
  early = refl;
  due = refl;
  written_off = refl;
  eleven = (refl, refl);
  twelve = (refl, refl);
}
