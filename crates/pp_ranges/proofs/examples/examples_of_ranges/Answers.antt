use Rattle.std.proofs.Common.{refl, arith}
use Rattle.pp_ranges.proofs.examples.examples_of_ranges.Goals as goal

pub returns : goal.returns
returns c = record {
  ends = (refl, refl, refl, refl);
  numbers = (refl, refl, refl, refl);
  apart = (omega arith, omega arith, (omega arith, omega arith, tt));
  touching = λ h. (let gap = h.2.0 in omega arith);
  leaves = (refl, refl);
  tiles = (refl, (refl, (refl, (refl, refl))));
  covered = (refl, refl, refl, refl);
}
