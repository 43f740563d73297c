use Rattle.std.proofs.Common.{◌≡◌, ◌≤◌, ◌-◌, length}
use Rattle.pp_traffic.specs.Life as lives
use Rattle.pp_recorded.specs.Parts.{all, rest}
use Rattle.pp_recorded.proofs.reading.closes.Given as goal

abbrev pub invariant-messages : goal.invariant-messages
invariant-messages l = record {
  within : l.at ≤ length l.bytes;
  same : lives.closes (all l.descriptor l.bytes) ≡ lives.closes (rest l.descriptor l.bytes l.at);
}

abbrev pub decreases-messages : goal.decreases-messages
decreases-messages l = length l.bytes - l.at
