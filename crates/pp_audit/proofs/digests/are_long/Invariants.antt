use Rattle.std.proofs.Common.{◌≡◌, ◌≤◌, ◌-◌, length}
use Rattle.std.specs.List.{list_all}
use Rattle.pp_audit.specs.Digests.{is_long}
use Rattle.pp_recorded.specs.Parts.{all, rest}
use Rattle.pp_audit.proofs.digests.are_long.Given as goal

abbrev pub invariant-messages : goal.invariant-messages
invariant-messages l = record {
  within : l.at ≤ length l.bytes;
  same : list_all is_long (all l.descriptor l.bytes) ≡ list_all is_long (rest l.descriptor l.bytes l.at);
}

abbrev pub decreases-messages : goal.decreases-messages
decreases-messages l = length l.bytes - l.at
