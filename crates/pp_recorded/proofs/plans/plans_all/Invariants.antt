use Rattle.pp_traffic.specs.Meter.{lets_send}
use Rattle.pp_promises.specs.Datagrams.{Plans}
use Rattle.pp_recorded.proofs.Sendings.{AreOn}
use Rattle.pp_recorded.proofs.plans.plans_all.Given as goal

abbrev pub invariant-places : goal.invariant-places
invariant-places l = record {
  on : AreOn (Plans l.descriptor (lets_send l.descriptor.chunk)) l.entries l.place;
}

abbrev pub decreases-places : goal.decreases-places
decreases-places l = l.place
