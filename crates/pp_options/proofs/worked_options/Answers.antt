use Rattle.std.proofs.Common.{refl}
use Rattle.pp_terms.specs.format.Options.{fault_at, read_from, read_options, spelling_of}
use Rattle.pp_terms.specs.format.Mismatch.{mismatch_of}
use Rattle.pp_options.proofs.worked_options.Goals as goal

pub returns : goal.returns
unfolding fault_at read_from read_options spelling_of mismatch_of
returns c = record {
  in_order = refl;
  turned = refl;
  spelled = refl;
  nothing = (refl, refl);
  twice = refl;
  short = (refl, refl, refl, refl, refl);
  bad_length = (refl, refl);
  unknown = (refl, refl, refl, refl);
  in_that_order = refl;
  agrees = (refl, refl);
  differs = (refl, refl, refl, refl, refl, refl, refl);
  absent = (refl, refl, refl);
}
