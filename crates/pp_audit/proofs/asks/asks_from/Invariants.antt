use Rattle.std.proofs.Common.{◌≡◌, ◌≤◌, ◌+◌, ◌-◌, length, count_by}
use Rattle.pp_traffic.specs.Asking as asking
use Rattle.pp_recorded.specs.Parts.{rest}
use Rattle.pp_audit.proofs.asks.asks_from.Given as goal

abbrev pub invariant-messages : goal.invariant-messages
invariant-messages l = record {
  within : l.at ≤ length l.bytes;
  few : l.count ≤ l.at;
  same : count_by asking.asks (rest l.descriptor l.bytes l.start) ≡ l.count + count_by asking.asks (rest l.descriptor l.bytes l.at);
}

abbrev pub decreases-messages : goal.decreases-messages
decreases-messages l = length l.bytes - l.at
