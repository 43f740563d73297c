use Rattle.pp_traffic.proofs.Finals.{fates_are_of_all, fates_are_final, acks_decide, timeouts_decide}
use Rattle.pp_traffic.proofs.Fates.{meters_fly}
use Rattle.pp_traffic.proofs.Timers.{meters_time_out}
use Rattle.pp_traffic.proofs.Moments.{stories_never_fall, clocks_are_now}
use Rattle.pp_traffic.proofs.Measures.{meters_measure}
use Rattle.pp_traffic.proofs.laws_of_fates.Goals as goal

pub returns : goal.returns
returns c = record {
  all = fates_are_of_all;
  stay = fates_are_final;
  acks = acks_decide;
  timeouts = timeouts_decide;
  flight = meters_fly;
  timer = meters_time_out;
  moments = stories_never_fall;
  clocks = clocks_are_now;
  delays = meters_measure;
}
