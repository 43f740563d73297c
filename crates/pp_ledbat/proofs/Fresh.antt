-- What flies was overtaken by fewer than three.
use Rattle.pp_traffic.specs.Meter.{meter}
use Rattle.pp_traffic.proofs.Fresh.{meter_fresh, all_stay}
use Rattle.pp_ledbat.specs.Laws.{FlightsAreFresh}

pub flights_are_fresh : FlightsAreFresh
flights_are_fresh = record {
  few = meter_fresh;
  same = λ first last chunk story none. all_stay first last (meter chunk story).entries (meter_fresh chunk story) none;
}
