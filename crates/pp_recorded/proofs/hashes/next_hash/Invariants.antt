use Rattle.std.proofs.Common.{◌≡◌, ◌≤◌, length}
use Rattle.pp_recorded.specs.Plans.{spans_at}
use Rattle.pp_recorded.proofs.hashes.next_hash.Given as goal

abbrev pub invariant-messages : goal.invariant-messages
invariant-messages l = record {
  within : l.at ≤ length l.bytes;
  same : spans_at l.descriptor l.bytes l.fn.front ≡ spans_at l.descriptor l.bytes (record { at = l.at; left = l.left });
}

abbrev pub decreases-messages : goal.decreases-messages
decreases-messages l = l.left
