use Rattle.std.proofs.Common.{◌≡◌, ◌≤◌, ◌-◌, length}
use Rattle.pp_terms.specs.format.Messages.{datagram}
use Rattle.pp_recorded.specs.Faults.{fault_from}
use Rattle.pp_audit.proofs.datagrams.is_read_to_end.Given as goal

abbrev pub invariant-messages : goal.invariant-messages
invariant-messages l = record {
  within : l.at ≤ length l.bytes;
  same : (datagram l.descriptor.method l.descriptor.chunk l.bytes).messages.fault ≡ fault_from l.descriptor l.bytes l.at;
}

abbrev pub decreases-messages : goal.decreases-messages
decreases-messages l = length l.bytes - l.at
