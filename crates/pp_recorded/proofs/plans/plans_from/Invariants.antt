use Rattle.std.proofs.Common.{◌≤◌, ◌-◌, length}
use Rattle.pp_terms.specs.format.Messages.{datagram}
use Rattle.pp_traffic.specs.Meter.{lets_send}
use Rattle.pp_promises.specs.Datagrams.{PlansFrom}
use Rattle.pp_outside.specs.Outside.{address_of}
use Rattle.pp_recorded.specs.Entries.{past}
use Rattle.pp_recorded.specs.Parts.{all, rest}
use Rattle.pp_recorded.proofs.Sendings.{IsOn}
use Rattle.pp_recorded.proofs.plans.plans_from.Given as goal

abbrev pub invariant-messages : goal.invariant-messages
invariant-messages l = record {
  within : l.at ≤ length l.bytes;
  few : l.count ≤ l.at;
  on : IsOn (PlansFrom l.descriptor (lets_send l.descriptor.chunk) (past l.entries) (address_of l.to) (datagram l.descriptor.method l.descriptor.chunk l.bytes).channel)
      (all l.descriptor l.bytes) l.count (rest l.descriptor l.bytes l.at);
}

abbrev pub decreases-messages : goal.decreases-messages
decreases-messages l = length l.bytes - l.at
