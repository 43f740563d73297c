use Rattle.pp_ledbat.proofs.Samples.{samples_are_signed}
use Rattle.pp_ledbat.proofs.Bases.{base_is_least}
use Rattle.pp_ledbat.proofs.Bounds.{windows_are_bounded}
use Rattle.pp_ledbat.proofs.Timeouts.{timeouts_settle}
use Rattle.pp_ledbat.proofs.Fresh.{flights_are_fresh}
use Rattle.pp_ledbat.proofs.Calls.{calls_stand}
use Rattle.pp_ledbat.proofs.Cuts.{cuts_acknowledge_alike}
use Rattle.pp_ledbat.proofs.laws.laws_of_windows.Goals as goal

pub returns : goal.returns
returns c = record {
  samples = samples_are_signed;
  base = base_is_least;
  bounds = windows_are_bounded;
  flights = flights_are_fresh;
  timeouts = timeouts_settle;
  calls = calls_stand;
  cuts = cuts_acknowledge_alike;
}
