use Rattle.std.proofs.Common.{◌≡◌, ◌≤◌, ◌-◌, length}
use Rattle.std.specs.List.{list_any}
use Rattle.pp_traffic.specs.Plain.{is_handshake}
use Rattle.pp_recorded.specs.Parts.{rest}
use Rattle.pp_recorded.proofs.reading.has_handshake.Given as goal

abbrev pub invariant-messages : goal.invariant-messages
invariant-messages l = record {
  within : l.at ≤ length l.bytes;
  same : list_any is_handshake (rest l.descriptor l.bytes l.start) ≡ list_any is_handshake (rest l.descriptor l.bytes l.at);
}

abbrev pub decreases-messages : goal.decreases-messages
decreases-messages l = length l.bytes - l.at
